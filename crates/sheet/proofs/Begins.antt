-- A bad reading: its number is that of a line, and the lines before it are those of a sheet. Assumes nothing.
use Prim.Native.Nat.{ℕ, zero, suc, ◌+◌}
use mathlib.Core.Path.{◌≡◌, refl, sym, ap, ◌∙◌}
use mathlib.Core.Bool.{Bool, true, false}
use mathlib.Core.List.{List, [], ◌∷◌, ◌++◌}
use native.Mathlib.Nat.{one-le-pow}
use native.Mathlib.Omega.{arith}
use lib.Dec.{ltb}
use lib.ListN.{length, drop, replicate, length-replicate}
use borrow.Author.Tests.{ltb-true, ltb-false}
use Rattle.vocabulary.specs.Choice.{pick}
use Rattle.vocabulary.proofs.Choice.{cases}
use Rattle.sheet.specs.Sheet.{Line}
use Rattle.std.specs.Prelude.{Some, None}
use Rattle.sheet.specs.Sheet.{key_at, width, takes, line_text, line_of, Reading, good, bad, led}
use Rattle.sheet.specs.Sheet.{ended, read_from, text_from}
use Rattle.sheet.specs.Grammar.{Lawful, first_lines}
use Rattle.sheet.proofs.Texts.{firsts, takes_entry}
use Rattle.sheet.proofs.Lines.{line_is, line_taken, line_below}
use Rattle.sheet.proofs.First.{first_none, first_line}

-- ---- lines with the value 0 are lawful, whatever the keys

takes_zero : (k : ℕ) → takes (key_at k) 0 ≡ true
takes_zero k =
    cases (ltb k 5)
    (λ b. firsts (λ k key. takes key 0 ≡ true) refl refl refl refl refl k (ltb-true k 5 b))
    (λ b. takes_entry k 0 (ltb-false k 5 b))

zeros : (more k : ℕ) → Lawful k (replicate more (Some 0))
zeros zero k = tt
zeros (suc more) k = (omega (arith, one-le-pow (width (key_at k)) 16 (omega arith)), takes_zero k, zeros more (k + 1))

-- ---- the parts of a bad reading

pub led_bad : (x : Line) (r : Reading) (n : ℕ) → led x r ≡ bad n → r ≡ bad n
led_bad x (good l) n e = let z : ◌≡◌ {A = ℕ} 0 1 = cc in absurd (omega arith)
led_bad x (bad m) n e = e

-- behind a key that is missing: it is required, and the line is this one; or the rest is bad
pub missing_bad : (b : Bool) (n m : ℕ) (r : Reading) (A : Type 0) → pick b (bad n) r ≡ bad m
    → (b ≡ true → n ≡ m → A) → (b ≡ false → r ≡ bad m → A) → A
unfolding pick
missing_bad true n m r A e f g = f refl (cc)
missing_bad false n m r A e f g = g refl e

-- ---- the lines before it

-- `past` lines of a text, from key k on, are those of lawful lines
pub record Past (more k n m : ℕ) (t : List ℕ) : Type 0 where
  pub past : ℕ
  pub number : m ≡ n + past
  pub lines : List Line
  pub long : length lines ≡ more
  pub lawful : Lawful k lines
  pub same : first_lines (text_from k lines) past ≡ first_lines t past

here : (more k n m : ℕ) (t : List ℕ) → n ≡ m → Past more k n m t
here more k n m t e = record {
  past = 0;
  number = omega arith;
  lines = replicate more (Some 0);
  long = length-replicate more (Some 0);
  lawful = zeros more k;
  same = first_none (text_from k (replicate more (Some 0))) ∙ sym (first_none t);
}

ended_bad : (k n m : ℕ) (t : List ℕ) → ended t n ≡ bad m → Past 0 k n m t
ended_bad k n m [] e = let z : ◌≡◌ {A = ℕ} 0 1 = cc in absurd (omega arith)
ended_bad k n m (b ∷ t) e = here 0 k n m (b ∷ t) (cc)

module _ (more k n m : ℕ) (t : List ℕ)
    (on : (n : ℕ) (t : List ℕ) → read_from more (k + 1) n t ≡ bad m → Past more (k + 1) n m t) where
  step : (x : Line) → line_of (key_at k) t ≡ x → read_from (suc more) k n t ≡ bad m → Past (suc more) k n m t
  unfolding read_from text_from
  step (Some v) e w =
      let r = on _ _ (led_bad (Some v) _ m (rw e at w)) in
      let line = line_text (key_at k) v in
      record {
        past = suc r.past;
        number = omega (arith, r.number);
        lines = Some v ∷ r.lines;
        long = ap suc r.long;
        lawful = (line_below (key_at k) t v e, line_taken (key_at k) t v e, r.lawful);
        same =
            first_line (key_at k) v r.past _ ∙ ap (λ (l : List ℕ). line ++ l) r.same
            ∙ sym (first_line (key_at k) v r.past (drop (length line) t))
            ∙ ap (λ (l : List ℕ). first_lines l (suc r.past)) (line_is (key_at k) t v e);
      }
  step None e w =
      missing_bad _ n m _ _ (rw e at w)
      (λ b f. here (suc more) k n m t f)
      (λ b f.
      let r = on n t (led_bad None _ m f) in
      record {
        past = r.past;
        number = r.number;
        lines = None ∷ r.lines;
        long = ap suc r.long;
        lawful = (b, r.lawful);
        same = r.same;
      })

pub past_from : (more k n m : ℕ) (t : List ℕ) → read_from more k n t ≡ bad m → Past more k n m t
unfolding read_from
past_from zero k n m t e = ended_bad k n m t e
past_from (suc more) k n m t e =
    step more k n m t (λ n t. past_from more (k + 1) n m t) (line_of (key_at k) t) refl e
