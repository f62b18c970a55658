-- The grammar reads sheets: good exactly when, bad exactly when. Assumes nothing.
use Prim.Native.Nat.{ℕ, suc, ◌-◌, ◌≤◌}
use mathlib.Core.Path.{◌≡◌, refl, sym, ap, ◌∙◌}
use mathlib.Core.List.{List}
use native.Mathlib.Omega.{arith}
use lib.Dec.{ltb}
use borrow.Author.Tests.{ltb-true, ltb-false}
use Rattle.vocabulary.proofs.Choice.{cases}
use Rattle.sheet.specs.Sheet.{Line}
use Rattle.sheet.specs.Sheet.{keys, Reading, good, bad, sheet_of, text_from}
use Rattle.sheet.specs.Grammar.{IsSheet, first_lines, Begins, BadAt, ReadsSheets}
use Rattle.sheet.proofs.Back.{lawful_good}
use Rattle.sheet.proofs.First.{first_fewer}
use Rattle.sheet.proofs.Good.{sound}
use Rattle.sheet.proofs.Begins.{past_from}
use Rattle.sheet.proofs.None.{none_from}

-- a text that begins as a sheet for some lines does so for fewer
begins_fewer : (m n : ℕ) (t : List ℕ) → m ≤ n → Begins n t → Begins m t
begins_fewer m n t h b = record {
  sheet = b.sheet;
  lines = b.lines;
  is = b.is;
  same =
      sym (first_fewer b.sheet m n h) ∙ ap (λ (l : List ℕ). first_lines l m) b.same ∙ first_fewer t m n h;
}

bad_at : (t : List ℕ) (n : ℕ) → sheet_of t ≡ bad n → BadAt n t
bad_at t n e =
    let p = past_from keys 0 _ n t e in
    let one_less : n - 1 ≡ p.past = omega (arith, p.number) in
    record {
      counted = omega (arith, p.number);
      before = record {
        sheet = text_from 0 p.lines;
        lines = p.lines;
        is = record { long = p.long; lawful = p.lawful; text = refl };
        same = rw one_less p.same;
      };
      none = λ b.
          let s = b.is in
          let suc-past : suc p.past ≡ n = omega (arith, p.number) in
          none_from keys 0 n _ p.past t b.lines (omega arith) p.number
          (record { long = s.long; lawful = s.lawful; same = rw (s.text, suc-past) b.same }) e;
    }

-- there is one such number
bad_once : (m n : ℕ) (t : List ℕ) → BadAt m t → BadAt n t → m ≤ n
bad_once m n t a b =
    cases (ltb n m)
    (λ e.
    let l = ltb-true n m e in
    absurd (b.none (begins_fewer n (m - 1) t (omega arith) a.before)))
    (λ e. ltb-false n m e)

pub bad_one : (m n : ℕ) (t : List ℕ) → BadAt m t → BadAt n t → m ≡ n
bad_one m n t a b = let g = bad_once m n t a b in let h = bad_once n m t b a in omega arith

good_where : (t : List ℕ) (l : List Line) → IsSheet t l → sheet_of t ≡ good l
good_where t l s = rw (sym s.text) (lawful_good l s.long s.lawful)

bad_by : (t : List ℕ) (n : ℕ) → BadAt n t → (r : Reading) → sheet_of t ≡ r → r ≡ bad n
bad_by t n a (good l) e =
    absurd (a.none (record { sheet = t; lines = l; is = sound t l e; same = refl }))
bad_by t n a (bad m) e = ap bad (bad_one m n t (bad_at t m e) a)

pub grammar : ReadsSheets sheet_of
grammar = record {
  good_only = sound;
  good_where = good_where;
  bad_only = bad_at;
  bad_where = λ t n a. bad_by t n a (sheet_of t) refl;
}

-- no other reading meets it
module _ (f g : List ℕ → Reading) (a : ReadsSheets f) (b : ReadsSheets g) (t : List ℕ) where
  one_by : (r : Reading) → f t ≡ r → g t ≡ r
  one_by (good l) e = b.good_where t l (a.good_only t l e)
  one_by (bad n) e = b.bad_where t n (a.bad_only t n e)

  pub one_reading : g t ≡ f t
  one_reading = one_by (f t) refl
