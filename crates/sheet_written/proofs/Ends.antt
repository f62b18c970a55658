-- The writer's call, by how it ends. Assumes nothing.
use Prim.Native.Nat.{ℕ, ◌≤◌, ◌<◌}
use mathlib.Core.Path.{◌≡◌, refl, sym, ◌∙◌}
use mathlib.Core.Bool.{Bool, true, false, ◌||◌}
use mathlib.Core.List.{List, [], ◌∷◌}
use native.Mathlib.Omega.{arith}
use lib.ListN.{length}
use borrow.Author.Tests.{lt-ltb, le-ltb}
use Rattle.vocabulary.specs.declared.Refusal.TheVariants.{LentLength, OutOfRange, NoAccess, NoIndex, ReadMode, StillWaiting}
use Rattle.vocabulary.specs.Refusal.{number, refusal_of, standing}
use Rattle.vocabulary.specs.declared.Refusal.{Refusal}
use Rattle.vocabulary.specs.declared.Refusal.TheVariants.{OverFifteen, Malformed, ShortBuffer}
use Rattle.vocabulary.proofs.Refusals.{number_positive, standing_clear}
use Rattle.vocabulary.proofs.Call.{tried_first, stops, goes_on}
use Rattle.hd153108.specs.Hd153108.{Chip, short, outside}
use Rattle.std.specs.Prelude.{Ok, Err}
use Rattle.sheet.specs.Sheet.{text_of, pasted, over_fifteen_in, write_refusals, write, refused_for, outcome}
use Rattle.sheet_written.specs.Writer.{Writable}
use Rattle.sheet_written.proofs.Values.{length_text, writable}

abbrev tried : Chip → ℕ
tried a = refusal_of (standing (short a) (outside a))

-- state and tables that pass all tests but the last
pub takes_it : (a : Chip) {p q : Bool} → 0 ≡ tried a → p ≡ over_fifteen_in a.colours → p ≡ false
    → q ≡ over_fifteen_in a.overlays → q ≡ false → Writable a
takes_it a clear f low g low' =
    let s = standing_clear _ _ (sym clear) in writable a s.0 s.1 (sym f ∙ low) (sym g ∙ low')

module _ (a : Chip) (out : List ℕ) where
  -- 1 and 9, as the chip finds them
  pub refused_standing : (q : Refusal) → number q ≡ tried a → outcome (Err (refused_for q)) out ≡ write a out
  unfolding write
  refused_standing q e = tried_first (write_refusals a out) 0 out _ _ _ (number q) refl (λ z. z) e (number_positive q)

  module _ (clear : 0 ≡ tried a) where
    stands : (short a ≡ false) × (outside a ≡ false)
    stands = standing_clear _ _ (sym clear)

    over : (over_fifteen_in a.colours || over_fifteen_in a.overlays) ≡ true → outcome (Err (refused_for OverFifteen)) out ≡ write a out
    unfolding write
    over h =
        stops (write_refusals a out) 0 out _
        (LentLength ∷ OutOfRange ∷ NoAccess ∷ NoIndex ∷ ReadMode ∷ StillWaiting ∷ []) OverFifteen 1 _ refl refl
        (stands.0, (stands.1, (refl, (refl, (refl, (refl, tt)))))) h

    module _ {p : Bool} (f : p ≡ over_fifteen_in a.colours) where
      pub refused_colours : p ≡ true → outcome (Err (refused_for OverFifteen)) out ≡ write a out
      refused_colours h = over (rw (sym f, h) refl)

      module _ (low : p ≡ false) {q : Bool} (g : q ≡ over_fifteen_in a.overlays) where
        pub refused_overlays : q ≡ true → outcome (Err (refused_for OverFifteen)) out ≡ write a out
        refused_overlays h = over (rw (sym f, low, sym g, h) refl)

        module _ (low' : q ≡ false) where
          neither : (over_fifteen_in a.colours || over_fifteen_in a.overlays) ≡ false
          neither = rw (sym f, low, sym g, low') refl

          long : length (text_of a) ≡ 2134
          long = let t = takes_it a clear f low g low' in length_text a t.overlays t.colours

          pub refused_short : length out < 2134 → outcome (Err (refused_for ShortBuffer)) out ≡ write a out
          unfolding write
          refused_short h =
              let less : length out < length (text_of a) = omega (arith, long) in
              stops (write_refusals a out) 0 out _
              (LentLength ∷ OutOfRange ∷ NoAccess ∷ NoIndex ∷ ReadMode ∷ StillWaiting ∷ OverFifteen
              ∷ Malformed ∷ [])
              ShortBuffer 6 _ refl refl
              (stands.0, (stands.1, (refl, (refl, (refl, (refl, (neither, (refl, tt))))))))
              (lt-ltb (length out) _ less)

          pub done : {left : List ℕ} → 2134 ≤ length out → left ≡ pasted out 0 (text_of a)
              → outcome (Ok 2134) left ≡ write a out
          unfolding write
          done h is =
              let room : length (text_of a) ≤ length out = omega (arith, long) in
              rw (is, sym long)
              (goes_on (write_refusals a out) 0 out _
              (stands.0, (stands.1, (neither, (le-ltb (length out) _ room, tt)))))

pub ruleset ends = (refused_standing, refused_colours, refused_overlays, refused_short, done)
