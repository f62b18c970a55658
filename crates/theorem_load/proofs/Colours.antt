-- A table's colours, as the writer lists them: three bytes below 16 and one value. Assumes nothing.
use Prim.Native.Nat.{ℕ, zero, suc, ◌+◌, ◌*◌, ◌<◌, ◌≤◌}
use mathlib.Core.Path.{◌≡◌}
use mathlib.Core.List.{List, [], ◌∷◌, map}
use mathlib.Core.Bool.{false}
use native.Mathlib.Omega.{arith}
use lib.ListN.{length, get_or}
use Rattle.hd153108.specs.Hd153108.{colour_at}
use Rattle.std.specs.Prelude.{Some, None}
use Rattle.sheet.specs.Sheet.{colours_in, over_fifteen_in, red_of, green_of, blue_of}
use Rattle.sheet_written.proofs.Values.{low_first}
use Rattle.theorem_load.specs.Load.{filled}

-- an entry's bytes are below 16, and so are those behind it
low_entry : (r g b : ℕ) (t : List ℕ) → over_fifteen_in (r ∷ g ∷ b ∷ t) ≡ false
    → (r < 16) × (g < 16) × (b < 16) × (over_fifteen_in t ≡ false)
low_entry r g b t o =
    let (hr, ro) = low_first r _ o in
    let (hg, go) = low_first g _ ro in
    let (hb, bo) = low_first b t go in
    (hr, hg, hb, bo)

-- a colour's components are the entry's bytes
components : (r g b : ℕ) → r < 16 → g < 16 → b < 16
    → filled (Some ((r * 16 + g) * 16 + b)) [] ≡ r ∷ g ∷ b ∷ []
components r g b hr hg hb =
    let v = (r * 16 + g) * 16 + b in
    let er : red_of v ≡ r = omega arith in
    let eg : green_of v ≡ g = omega arith in
    let eb : blue_of v ≡ b = omega arith in
    rw (er, eg, eb)

-- so a listed entry is the table's
pub listed : (t : List ℕ) (e : ℕ) (old : List ℕ) → over_fifteen_in t ≡ false → 3 * e + 3 ≤ length t
    → filled (get_or (map Some (colours_in t)) e None) old ≡ colour_at e t
unfolding colours_in
listed [] e old o h = absurd (let z : ⊥ = omega arith in z)
listed (r ∷ []) e old o h = absurd (let z : ⊥ = omega arith in z)
listed (r ∷ g ∷ []) e old o h = absurd (let z : ⊥ = omega arith in z)
listed (r ∷ g ∷ b ∷ t) zero old o h =
    let (hr, hg, hb, _) = low_entry r g b t o in components r g b hr hg hb
listed (r ∷ g ∷ b ∷ t) (suc e) old o h =
    let z : 3 * suc e ≡ suc (suc (suc (3 * e))) = omega arith in
    let (_, _, _, low) = low_entry r g b t o in
    rw z (listed t e old low (omega arith))
