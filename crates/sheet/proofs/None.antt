-- Up to the line of a bad reading no sheet has the same lines. Assumes nothing.
use Prim.Native.Nat.{ℕ, zero, suc, ◌+◌, ◌≤◌}
use mathlib.Core.Path.{◌≡◌, refl, sym, ap, ◌∙◌}
use mathlib.Core.List.{List, [], ◌∷◌, ◌++◌, append_assoc, append_cancel_left}
use native.Mathlib.Omega.{arith}
use lib.ListN.{length, drop}
use Rattle.vocabulary.proofs.Range.{clash}
use Rattle.sheet.specs.Sheet.{Line}
use Rattle.std.specs.Prelude.{Some, None}
use Rattle.sheet.specs.Sheet.{keys, key_at, line_text, line_of, bad, ended, read_from, text_from}
use Rattle.sheet.specs.Grammar.{Lawful, first_lines}
use Rattle.sheet.proofs.Lines.{line_is, line_below, line_taken, line_there}
use Rattle.sheet.proofs.Apart.{entry_by, behind}
use Rattle.sheet.proofs.First.{first_line, first_part}
use Rattle.sheet.proofs.Begins.{led_bad, missing_bad, past_from}

-- a key's line stands in a text where it stands in one with the same first lines
shared : (k v n : ℕ) (s t : List ℕ) → line_of (key_at k) s ≡ Some v → first_lines s (suc n) ≡ first_lines t (suc n)
    → line_of (key_at k) t ≡ Some v
shared k v n s t e f =
    let line = line_text (key_at k) v in
    let x = drop (length line) s in
    let y = drop (length (first_lines t (suc n))) t in
    let first : first_lines t (suc n) ≡ line ++ first_lines x n =
    sym f ∙ ap (λ (l : List ℕ). first_lines l (suc n)) (sym (line_is (key_at k) s v e)) ∙ first_line (key_at k) v n x in
    let whole : line ++ (first_lines x n ++ y) ≡ t =
    sym (append_assoc line (first_lines x n) y) ∙ ap (λ (l : List ℕ). l ++ y) (sym first) ∙ first_part t (suc n) in
    rw (sym whole)
    (line_there (key_at k) v (first_lines x n ++ y) (line_below (key_at k) s v e) (line_taken (key_at k) s v e))

-- and behind it the lines that follow are the same
shared_on : (k v n : ℕ) (s t : List ℕ) → line_of (key_at k) t ≡ Some v
    → first_lines (line_text (key_at k) v ++ s) (suc n) ≡ first_lines t (suc n)
    → first_lines s n ≡ first_lines (drop (length (line_text (key_at k) v)) t) n
shared_on k v n s t e f =
    let line = line_text (key_at k) v in
    append_cancel_left line (first_lines s n) (first_lines (drop (length line) t) n)
    (sym (first_line (key_at k) v n s) ∙ f
    ∙ ap (λ (l : List ℕ). first_lines l (suc n)) (sym (line_is (key_at k) t v e))
    ∙ first_line (key_at k) v n (drop (length line) t))

-- a line that is there is not missing, and has one value
has_missing : {A : Type 0} {v : ℕ} {x : Line} → x ≡ Some v → x ≡ None → A
has_missing e f = let z : ◌≡◌ {A = ℕ} 0 1 = cc in absurd (omega arith)

one_value : {v w : ℕ} {x : Line} → x ≡ Some v → x ≡ Some w → v ≡ w
one_value e f = cc

-- lawful lines whose text has the same lines up to line j, from 0, of a text
pub record Like (more k j : ℕ) (t : List ℕ) (l : List Line) : Type 0 where
  pub long : length l ≡ more
  pub lawful : Lawful k l
  pub same : first_lines (text_from k l) (suc j) ≡ first_lines t (suc j)

module _ (more k m : ℕ) (room : k + suc more ≤ keys)
    (on : (n j : ℕ) (t : List ℕ) (l : List Line) → m ≡ n + j → Like more (k + 1) j t l
    → read_from more (k + 1) n t ≡ bad m → ⊥) where
  none_has : (n j v : ℕ) (t : List ℕ) (l : List Line) → m ≡ n + j → Like (suc more) k j t l
      → line_of (key_at k) t ≡ Some v
      → read_from more (k + 1) (n + 1) (drop (length (line_text (key_at k) v)) t) ≡ bad m → ⊥
  unfolding text_from
  none_has n j v t [] is like e r = absurd (let z : ⊥ = omega (arith, like.long) in z)
  none_has n zero v t (x ∷ l) is like e r =
      let p = past_from more (k + 1) (n + 1) m _ r in omega (arith, p.number)
  none_has n (suc j) v t (Some w ∷ l) is like e r =
      let f = like.lawful in
      let there = line_there (key_at k) w (text_from (k + 1) l) f.0 f.1 in
      let same : w ≡ v = one_value (shared k w (suc j) _ t there like.same) e in
      let rest = shared_on k v (suc j) (text_from (k + 1) l) t e (rw same at like.same) in
      on (n + 1) j _ l (omega arith) (record { long = omega (arith, like.long); lawful = f.2; same = rest }) r
  none_has n (suc j) v t (None ∷ l) is like e r =
      let f = like.lawful in
      has_missing (shared k v (suc j) t _ e (sym like.same))
      (behind k (entry_by k f.0) l (k + 1) (omega arith) (omega (arith, like.long)) f.1)

  none_missing : (n j : ℕ) (t : List ℕ) (l : List Line) → m ≡ n + j → Like (suc more) k j t l
      → line_of (key_at k) t ≡ None → read_from (suc more) k n t ≡ bad m → ⊥
  unfolding text_from read_from
  none_missing n j t [] is like e r = absurd (let z : ⊥ = omega (arith, like.long) in z)
  none_missing n j t (Some w ∷ l) is like e r =
      let f = like.lawful in
      let there = line_there (key_at k) w (text_from (k + 1) l) f.0 f.1 in
      has_missing (shared k w j _ t there like.same) e
  none_missing n j t (None ∷ l) is like e r =
      missing_bad _ n m _ ⊥ (rw e at r)
      (λ b f. clash (sym b ∙ like.lawful.0))
      (λ b f.
      on n j t l is (record { long = omega (arith, like.long); lawful = like.lawful.1; same = like.same })
      (led_bad None _ m f))

  none_step : (n j : ℕ) (t : List ℕ) (l : List Line) → m ≡ n + j → Like (suc more) k j t l
      → (x : Line) → line_of (key_at k) t ≡ x → read_from (suc more) k n t ≡ bad m → ⊥
  unfolding read_from
  none_step n j t l is like (Some v) e r = none_has n j v t l is like e (led_bad (Some v) _ m (rw e at r))
  none_step n j t l is like None e r = none_missing n j t l is like e r

-- behind the last key
none_ended : (k n m j : ℕ) (t : List ℕ) (l : List Line) → Like 0 k j t l → ended t n ≡ bad m → ⊥
unfolding text_from first_lines
none_ended k n m j [] l like e = let z : ◌≡◌ {A = ℕ} 0 1 = cc in omega arith
none_ended k n m j (b ∷ t) [] like e = let z : ◌≡◌ {A = ℕ} 0 1 = cc in omega arith
none_ended k n m j (b ∷ t) (x ∷ l) like e = omega (arith, like.long)

pub none_from : (more k m n j : ℕ) (t : List ℕ) (l : List Line) → k + more ≤ keys → m ≡ n + j → Like more k j t l
    → read_from more k n t ≡ bad m → ⊥
unfolding read_from
none_from zero k m n j t l h is like e = none_ended k n m j t l like e
none_from (suc more) k m n j t l h is like e =
    none_step more k m h (λ n j t l. none_from more (k + 1) m n j t l (omega arith)) n j t l is like
    (line_of (key_at k) t) refl e
