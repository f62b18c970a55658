-- A word that is written over a buffer piece by piece. Assumes nothing.
use Prim.Native.Nat.{ℕ, ◌+◌, ◌≤◌}
use mathlib.Core.Path.{◌≡◌, refl, sym, ap, ◌∙◌}
use mathlib.Core.List.{List, [], ◌++◌}
use native.Mathlib.Omega.{arith}
use lib.ListN.{length, length-append}
use Rattle.sheet.specs.Sheet.{pasted, Wrote}
use Rattle.sheet.proofs.Paste.{pasted_none, pasted_more, length_pasted}

-- Of a word that goes over `start`, the part `left` is still to be written, from the place `at` on, and `out` is the
-- buffer so far: what is left fits, and with it the buffer is as it is to be.
pub record Going (word start out : List ℕ) (at : ℕ) (left : List ℕ) : Type 0 where
  pub same : length out ≡ length start
  pub room : at + length left ≤ length out
  pub sum : at + length left ≡ length word
  pub whole : pasted out at left ≡ pasted start 0 word

module _ (word start : List ℕ) where
  pub begins : length word ≤ length start → Going word start start 0 word
  begins h = record { same = refl; room = omega arith; sum = omega arith; whole = refl }

  module _ (out : List ℕ) (at : ℕ) (left : List ℕ) (is : Going word start out at left) where
    pub ends : left ≡ [] → Wrote start 0 word at out
    ends e =
        let long : length left ≡ 0 = ap length e in
        (omega (arith, is.sum), sym (pasted_none out at) ∙ (rw e at is.whole))

    module _ (piece rest : List ℕ) (split : left ≡ piece ++ rest) where
      sizes : length left ≡ length piece + length rest
      sizes = ap length split ∙ length-append piece rest

      pub fits : at + length piece ≤ length out
      fits = omega (arith, sizes, is.room)

      pub goes_on : {next : List ℕ} {r : ℕ} → Wrote out at piece r next → Going word start next r rest
      goes_on {next} w =
          let long : length next ≡ length out = ap length w.1 ∙ length_pasted out at piece fits in
          record {
            same = long ∙ is.same;
            room = omega (arith, sizes, is.room, long, w.0);
            sum = omega (arith, sizes, is.sum, w.0);
            whole = rw (w.0, w.1) (sym (pasted_more out at piece fits rest) ∙ (rw split at is.whole));
          }
