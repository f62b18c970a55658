-- The same from buffer to buffer: what the writer and the call list's step leave there. Assumes nothing.
use Prim.Native.Nat.{ℕ, ◌≤◌}
use mathlib.Core.Path.{◌≡◌, refl, sym, ap, ◌∙◌}
use mathlib.Core.List.{List, [], ◌∷◌}
use mathlib.Core.Bool.{false, ◌||◌}
use borrow.Author.Tests.{le-ltb}
use lib.ListN.{length}
use Rattle.vocabulary.specs.Outcome.{accepting}
use Rattle.vocabulary.proofs.Outcome.{accepted_does}
use Rattle.vocabulary.proofs.Refusals.{refusal_none}
use Rattle.hd153108.specs.Hd153108.{Chip}
use Rattle.hd153108.proofs.InRange.{not_short, not_outside}
use Rattle.sheet.specs.Sheet.{Line}
use Rattle.sheet.specs.Sheet.{sheet_of, good, text_of, over_fifteen_in, pasted, write_refusals, write}
use Rattle.calls.specs.Calls.{Call, calls_of, call_bytes, call_refusals, sheet_to_calls}
use Rattle.sheet_written.specs.Writer.{Writable}
use Rattle.theorem_load.specs.CallToCall.{calls_in}
use Rattle.theorem_load.proofs.Back.{writable_in_range}

-- a chip becomes its sheet, in a buffer that has the room
pub chip_becomes_sheet : (a : Chip) (out : List ℕ) → Writable a → length (text_of a) ≤ length out
    → write a out ≡ accepting 0 (length (text_of a)) (pasted out 0 (text_of a))
unfolding write
chip_becomes_sheet a out w h =
    let low : (over_fifteen_in a.colours || over_fifteen_in a.overlays) ≡ false =
    rw w.low_colours w.low_overlays in
    let g = writable_in_range a w in
    accepted_does 0 out _
    (refusal_none (write_refusals a out) (not_short a g, (not_outside a g, (low, (le-ltb _ _ h, tt)))))

-- a sheet becomes its calls, in a buffer that has the room
pub sheet_becomes_calls : (text out : List ℕ) (lines : List Line) → sheet_of text ≡ good lines
    → length (call_bytes (calls_of lines)) ≤ length out
    → sheet_to_calls text out ≡ accepting 0 (length (calls_of lines)) (pasted out 0 (call_bytes (calls_of lines)))
unfolding sheet_to_calls
sheet_becomes_calls text out lines e h =
    rw e (accepted_does 0 out _ (refusal_none (call_refusals (good lines) out) (refl, (le-ltb _ _ h, tt))))

-- and the bytes, taken as calls, are the calls: no two lists have the same bytes
pub calls_in_lem : (ks : List Call) → calls_in (call_bytes ks) ≡ ks
unfolding calls_in call_bytes
calls_in_lem [] = refl
calls_in_lem (k ∷ ks) = ap (λ (l : List Call). k ∷ l) (calls_in_lem ks)

pub calls_by_bytes : (ks ls : List Call) → call_bytes ks ≡ call_bytes ls → ks ≡ ls
calls_by_bytes ks ls e = sym (calls_in_lem ks) ∙ ap calls_in e ∙ calls_in_lem ls
