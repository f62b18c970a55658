-- A table with a sheet's lines stored, entry by entry: each entry afterwards. Assumes nothing.
use Prim.Native.Nat.{ℕ, zero, suc, ◌+◌, ◌*◌, ◌<◌, ◌≤◌}
use mathlib.Core.Path.{◌≡◌, refl, sym, ap, ◌∙◌}
use mathlib.Core.List.{List, [], ◌∷◌}
use native.Mathlib.Omega.{arith}
use lib.ListN.{length, get_or, drop, length-take, length-drop}
use lib.Seq.{ext_get_or}
use Rattle.vocabulary.specs.Component.{Component, red, green, blue, part, one_of, put}
use Rattle.vocabulary.proofs.Component.{part_below, put_length, put_elsewhere, put_own}
use Rattle.hd153108.specs.Hd153108.{colour_at}
use Rattle.hd153108.proofs.Data.{byte_at_lem}
use Rattle.sheet.specs.Sheet.{Line}
use Rattle.std.specs.Prelude.{Some, None}
use Rattle.sheet.specs.Sheet.{red_of, green_of, blue_of}
use Rattle.theorem_load.specs.Load.{filled}

-- ---- a colour stored at entry n

module _ (n r g b : ℕ) (t : List ℕ) where
  long : (m : ℕ) → length (colour_at m (put n r g b t)) ≡ length (colour_at m t)
  long m = simp (length-take, length-drop, put_length)

  below : (m i : ℕ) → i < length (colour_at m (put n r g b t)) → i < 3
  below m i h = omega (arith, length-take 3 (drop (3 * m) (put n r g b t)))

  -- another entry is kept
  pub put_other : (m : ℕ) → (n ≡ m → ⊥) → colour_at m (put n r g b t) ≡ colour_at m t
  put_other m h =
      ext_get_or 0 (colour_at m (put n r g b t)) (colour_at m t) (long m)
      (λ i l.
      let f = below m i l in
      byte_at_lem (put n r g b t) m i f ∙ (put_elsewhere n r g b t m i f h ∙ sym (byte_at_lem t m i f)))

  -- the entry itself is the colour
  module _ (h : 3 * n + 3 ≤ length t) where
    own : (k : Component) → get_or (colour_at n (put n r g b t)) (part k) 0 ≡ one_of k r g b
    own k = byte_at_lem (put n r g b t) n (part k) (part_below k) ∙ put_own n r g b t (omega arith) k

    here : (i : ℕ) → i < 3 → get_or (colour_at n (put n r g b t)) i 0 ≡ get_or (r ∷ g ∷ b ∷ []) i 0
    here zero l = own red
    here (suc zero) l = own green
    here (suc (suc zero)) l = own blue
    here (suc (suc (suc i))) l = absurd (let z : ⊥ = omega arith in z)

    pub put_same : colour_at n (put n r g b t) ≡ r ∷ g ∷ b ∷ []
    put_same =
        ext_get_or 0 (colour_at n (put n r g b t)) (r ∷ g ∷ b ∷ [])
        (long n ∙ omega (arith, length-take 3 (drop (3 * n) t), length-drop (3 * n) t))
        (λ i l. here i (below n i l))

-- ---- lines stored from entry e on

unfoldable pub put_line : ℕ → Line → List ℕ → List ℕ
put_line e (Some v) t = put e (red_of v) (green_of v) (blue_of v) t
put_line e None t = t

unfoldable pub put_lines : ℕ → List Line → List ℕ → List ℕ
put_lines e [] t = t
put_lines e (x ∷ l) t = put_lines (e + 1) l (put_line e x t)

line_length : (e : ℕ) (x : Line) (t : List ℕ) → length (put_line e x t) ≡ length t
unfolding put_line
line_length e (Some v) t = put_length _ _ _ _ t
line_length e None t = refl

line_other : (e : ℕ) (x : Line) (t : List ℕ) (m : ℕ) → (e ≡ m → ⊥) → colour_at m (put_line e x t) ≡ colour_at m t
unfolding put_line
line_other e (Some v) t m h = put_other _ _ _ _ t m h
line_other e None t m h = refl

line_here : (e : ℕ) (x : Line) (t : List ℕ) → 3 * e + 3 ≤ length t
    → colour_at e (put_line e x t) ≡ filled x (colour_at e t)
unfolding put_line
line_here e (Some v) t h = put_same _ _ _ _ t h
line_here e None t h = refl

-- an entry before them is kept
lines_before : (e : ℕ) (l : List Line) (t : List ℕ) (m : ℕ) → m < e → colour_at m (put_lines e l t) ≡ colour_at m t
unfolding put_lines
lines_before e [] t m h = refl
lines_before e (x ∷ l) t m h =
    lines_before (e + 1) l (put_line e x t) m (omega arith) ∙ line_other e x t m (λ z. omega arith)

-- and each of them is as its line says
lines_here : (e : ℕ) (l : List Line) (t : List ℕ) (i : ℕ) → 3 * (e + length l) ≤ length t
    → colour_at (e + i) (put_lines e l t) ≡ filled (get_or l i None) (colour_at (e + i) t)
unfolding put_lines
lines_here e [] t i h = refl
lines_here e (x ∷ l) t zero h =
    let z : e + 0 ≡ e = omega arith in
    rw z (lines_before (e + 1) l (put_line e x t) e (omega arith) ∙ line_here e x t (omega arith))
lines_here e (x ∷ l) t (suc i) h =
    let z : e + suc i ≡ e + 1 + i = omega arith in
    let n = line_length e x t in
    rw z
    (lines_here (e + 1) l (put_line e x t) i (omega arith)
    ∙ ap (filled (get_or l i None)) (line_other e x t (e + 1 + i) (λ z. omega arith)))

pub filled_at : (l : List Line) (t : List ℕ) (i : ℕ) → 3 * length l ≤ length t
    → colour_at i (put_lines 0 l t) ≡ filled (get_or l i None) (colour_at i t)
filled_at l t i h = let z : 0 + i ≡ i = omega arith in rw z at (lines_here 0 l t i (omega arith))
