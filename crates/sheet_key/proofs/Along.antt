-- What one line is to the sheet from the key that is due on. Assumes nothing.
use Prim.Native.Nat.{ℕ, suc, ◌+◌, ◌-◌, ◌≤◌, ◌<◌}
use mathlib.Core.Path.{◌≡◌, refl, sym, ap, ◌∙◌}
use mathlib.Core.List.{List, [], ◌∷◌}
use native.Mathlib.Omega.{arith}
use lib.Dec.{ltb, eqb}
use lib.ListN.{length, take, drop, replicate, length-drop}
use lib.Seq.{drop-drop, take_all}
use borrow.Author.Tests.{ltb-true, ltb-false, eqb-true, eqb-false}
use Rattle.vocabulary.proofs.Choice.{cases}
use Rattle.std.specs.Prelude.{Some, None}
use Rattle.sheet.specs.Sheet.{keys, key_at, front, width, line_text, line_of, Reading, bad, led, read_from}
use Rattle.sheet.proofs.Texts.{line_length}
use Rattle.sheet.proofs.Lines.{line_fits, line_below}
use Rattle.sheet.proofs.Kept.{low_value}
use Rattle.sheet_key.specs.Reader.{named, leads, after, on_from, Right}
use Rattle.sheet_key.proofs.Leads.{leads_append, leads_bad, has, stop, skip}
use Rattle.sheet_key.proofs.Naming.{named_first, other_missing}

-- a value is below 4,096
below : (k v : ℕ) (t : List ℕ) → line_of (key_at k) t ≡ Some v → v < 4096
below k v t e = low_value k v (line_below (key_at k) t v e)

-- a line that is read
module _ (t : List ℕ) (due k v n : ℕ) (from : due ≤ k) (to : k < keys) (is : k ≡ named t due)
    (e : line_of (key_at k) t ≡ Some v) where
  abbrev rest : Reading
  rest = read_from (keys - (k + 1)) (k + 1) (n + 1) (drop (length (line_text (key_at k) v)) t)

  here : read_from (keys - k) k n t ≡ led (Some v) rest
  here = let s : keys - k ≡ suc (keys - (k + 1)) = omega arith in rw s (has k n t (keys - (k + 1)) v e)

  gap : read_from (keys - due) due n t ≡ leads (replicate (k - due) None) (read_from (keys - k) k n t)
  unfolding leads
  gap =
      cases (ltb due 5)
      (λ b.
      let s : k ≡ due = is ∙ sym (named_first t due (ltb-true due 5 b)) in
      let z : k - due ≡ 0 = omega arith in
      rw (z, s))
      (λ b.
      let g = ltb-false due 5 b in
      let s : keys - due ≡ (k - due) + (keys - k) = omega arith in
      let u : due + (k - due) ≡ k = omega arith in
      rw s
      (skip (k - due) (keys - k) due n t g
      (λ j l m. other_missing j t due g (omega arith) (omega arith) (λ z. omega (arith, is)))
      ∙ rw u))

  pub along : read_from (keys - due) due n t ≡ leads (after (k - due) v) rest
  unfolding leads
  along =
      gap ∙ ap (leads (replicate (k - due) None)) here
      ∙ sym (leads_append (replicate (k - due) None) (Some v ∷ []) rest)

-- a line that is bad
ended_at : (t : List ℕ) (k n : ℕ) → 0 < length t → read_from 0 k n t ≡ bad n
unfolding read_from
ended_at [] k n h = absurd (let z : ⊥ = omega arith in z)
ended_at (b ∷ t) k n h = refl

module _ (t : List ℕ) (due n : ℕ) (some : 0 < length t) (most : due ≤ keys)
    (none : named t due < keys → due ≤ named t due → line_of (key_at (named t due)) t ≡ None) where
  missing : 5 ≤ due → (j : ℕ) → due ≤ j → j < keys → line_of (key_at j) t ≡ None
  missing d j g h =
      cases (eqb (named t due) j)
      (λ b. let s = eqb-true (named t due) j b in rw (sym s) (none (rw s h) (rw s g)))
      (λ b. other_missing j t due d (omega arith) h (eqb-false (named t due) j b))

  pub bad_line_lem : read_from (keys - due) due n t ≡ bad n
  bad_line_lem =
      cases (ltb due 5)
      (λ b.
      let g = ltb-true due 5 b in
      let s : keys - due ≡ suc (keys - (due + 1)) = omega arith in
      let f = sym (named_first t due g) in
      let m : line_of (key_at due) t ≡ None = rw f at (none (rw f (omega arith)) (rw f (omega arith))) in
      rw s (stop due n t (keys - (due + 1)) m g))
      (λ b.
      let g = ltb-false due 5 b in
      let s : keys - due ≡ (keys - due) + 0 = omega arith in
      rw s
      (skip (keys - due) 0 due n t g (λ j l m. missing g j l (omega arith))
      ∙ ap (leads (replicate (keys - due) None)) (ended_at t (due + (keys - due)) n some)
      ∙ leads_bad (replicate (keys - due) None) n))

-- the rest of a text, as it is lent
pub rest_of : (s : List ℕ) (at : ℕ) → take (length s - at) (drop at s) ≡ drop at s
rest_of s at = take_all (length s - at) (drop at s) (simp length-drop (omega arith))

-- the answers of a line
module _ (text : List ℕ) (at due : ℕ) {t : List ℕ} {k : ℕ} (rest : t ≡ drop at text) (is : k ≡ named t due)
    (inside : at < length text) (most : due ≤ keys) where
  some : 0 < length t
  some = rw rest (simp length-drop (omega arith))

  bad_by : (named t due < keys → due ≤ named t due → line_of (key_at (named t due)) t ≡ None) → Right text at due None
  unfolding on_from
  bad_by none = (tt, λ n. rw (sym rest) (bad_line_lem t due n some most none))

  pub low : k < due → Right text at due None
  low h = bad_by (λ p q. absurd (let z : ⊥ = omega arith in z))

  pub high : keys ≤ k → Right text at due None
  high h = bad_by (λ p q. absurd (let z : ⊥ = omega arith in z))

  pub wrong : None ≡ line_of (key_at k) t → Right text at due None
  wrong e = bad_by (λ p q. rw is at (sym e))

  pub found : {v size : ℕ} → due ≤ k → k < keys → Some v ≡ line_of (key_at k) t
      → size ≡ length (front (key_at k)) + width (key_at k) + 1
      → Right text at due (Some (record { key = k; value = v; next = at + size }))
  unfolding on_from
  found {v = v} {size} g h x s =
      let e : line_of (key_at k) t ≡ Some v = sym x in
      let long : size ≡ length (line_text (key_at k) v) = omega (arith, line_length (key_at k) v) in
      let fits = line_fits (key_at k) t v e in
      let all : length t ≡ length text - at = ap length rest ∙ length-drop at text in (
        (g, h, below k v t e, omega arith),
        λ n. rw (sym rest, long, sym (drop-drop (length (line_text (key_at k) v)) at text), sym rest)
            (along t due k v n g h is e),
      )
