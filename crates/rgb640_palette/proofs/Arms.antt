-- What follows the last transfer, as the code knows it. Assumes nothing.
use Prim.Native.Nat.{ℕ}
use mathlib.Core.Path.{◌≡◌, sym, ap, ◌∙◌}
use lib.Bits.{bit_and}
use Rattle.rgb640.specs.declared.State.{State}
use Rattle.rgb640.specs.Rgb640.{at, writing, next, restarted}
use Rattle.rgb640.proofs.Order.{steps, stays, write_steps, write_stays}
use Rattle.rgb640.proofs.Order.{last_place, red_latched, green_latched, blue_stored}

pub index_steps : (s : State) {i : ℕ} → bit_and s.update 2 ≡ 0 → i ≡ next s.index
    → at s i 0 ≡ restarted writing (λ n. n) s
index_steps s e f = ap (λ (i : ℕ). at s i 0) f ∙ sym (steps writing _ s (write_steps s.update e))

pub index_stays : (s : State) → (bit_and s.update 2 ≡ 0 → ⊥) → at s s.index 0 ≡ restarted writing (λ n. n) s
index_stays s e = sym (stays writing _ s (write_stays s.update e))

-- how the order restarts, and each transfer of it
pub ruleset restarts = (index_steps, index_stays)

pub ruleset transfers = (last_place, red_latched, green_latched, blue_stored)
