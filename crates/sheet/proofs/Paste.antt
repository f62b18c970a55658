-- Words written over a buffer, one behind the other, and into the rest of it that is lent on. Assumes nothing.
use Prim.Native.Nat.{ℕ, ◌+◌, ◌-◌, ◌≤◌}
use mathlib.Core.Path.{◌≡◌, sym, ap, ◌∙◌}
use mathlib.Core.List.{List, [], ◌++◌, append_assoc, append-nil}
use native.Mathlib.Omega.{arith}
use lib.ListN.{length, take, drop, length-append, length-drop, drop_of_length-le}
use lib.Seq.{take_at, drop_at, drop-drop, length-take-le, take_all, paste-zero}
use borrow.Rule.Slice.PartMut.{put_mid, mid_of}
use Rattle.sheet.specs.Sheet.{pasted, Wrote}

module _ (d : List ℕ) (at : ℕ) where
  pub pasted_none : pasted d at [] ≡ d
  unfolding pasted
  pasted_none = sym (paste-zero d at [])

  module _ (w : List ℕ) (fits : at + length w ≤ length d) where
    head : length (take at d ++ w) ≡ at + length w
    head = let h : at ≤ length d = omega arith in simp (length-append, length-take-le at d h)

    pub length_pasted : length (pasted d at w) ≡ length d
    unfolding pasted
    length_pasted =
        let h : at ≤ length d = omega arith in
        simp (length-append, length-take-le at d h, length-drop) (omega arith)

    -- what is written next stands behind
    pub pasted_more : (x : List ℕ) → pasted d at (w ++ x) ≡ pasted (pasted d at w) (at + length w) x
    unfolding pasted
    pasted_more x =
        let sum : length (w ++ x) ≡ length w + length x = length-append w x in
        let sum' : at + (length w + length x) ≡ at + length w + length x = omega arith in
        let front = take_at (take at d ++ w) (drop (at + length w) d) (at + length w) head in
        let back = drop_at (take at d ++ w) (drop (at + length w) d) (at + length w) head in
        let past : drop (at + length w + length x) ((take at d ++ w) ++ drop (at + length w) d)
        ≡ drop (at + length w + length x) d =
        sym (drop-drop (length x) (at + length w) ((take at d ++ w) ++ drop (at + length w) d))
        ∙ ap (drop (length x)) back ∙ drop-drop (length x) (at + length w) d in
        rw (sum, sum', front, past) (rw (append_assoc (take at d) w x))

-- two words, one behind the other, are one
pub wrote_more : (d : List ℕ) (at : ℕ) (w x : List ℕ) {r s : ℕ} {e f : List ℕ} → at + length w ≤ length d
    → Wrote d at w r e → Wrote e r x s f → Wrote d at (w ++ x) s f
wrote_more d at w x fits p q =
    (omega (arith, length-append w x, p.0, q.0), q.1 ∙ rw (p.0, p.1) (sym (pasted_more d at w fits x)))

-- A word written from its start over the rest of a buffer, from a place on, is written over the buffer there.
module _ (d : List ℕ) (at : ℕ) (inside : at ≤ length d) where
  rest : mid_of at (length d - at) d ≡ drop at d
  rest = take_all (length d - at) (drop at d) (simp length-drop (omega arith))

  pub length_lent : length (mid_of at (length d - at) d) ≡ length d - at
  length_lent = ap length rest ∙ length-drop at d

  pub lent_on : (w last : List ℕ) → last ≡ pasted (mid_of at (length d - at) d) 0 w
      → put_mid at (length d - at) d last ≡ pasted d at w
  unfolding pasted
  lent_on w last e =
      let far : length (drop at d) ≤ length d - at = simp length-drop (omega arith) in
      let none : drop (length d - at) (drop at d) ≡ [] = drop_of_length-le (drop at d) far in
      let zero-on : 0 + length w ≡ length w = omega arith in
      let is : last ≡ w ++ drop (at + length w) d = e ∙ rw (rest, zero-on, drop-drop) in
      rw (none, is, append-nil, append_assoc)
