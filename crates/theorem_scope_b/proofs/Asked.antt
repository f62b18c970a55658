-- Refusals 1 and 9: given exactly where a lent table hasn't its length, and where the state or an argument is outside
-- its range. Assumes nothing.
use Prim.Native.Nat.{ℕ, ◌^◌, ◌≤◌}
use mathlib.Core.Path.{◌≡◌}
use mathlib.Core.Bool.{true, false}
use mathlib.Core.List.{[], ◌∷◌}
use native.Mathlib.Omega.{arith}
use Rattle.vocabulary.specs.Outcome.{refusing}
use Rattle.vocabulary.specs.Range.{below}
use Rattle.vocabulary.proofs.Face.{called_one, called_nine}
use Rattle.vocabulary.proofs.Range.{not_fails, holds_passes, fails_right}
use Rattle.ms622424.specs.Ms622424.{Chip, short, short_queue, outside, ranges, Call, writes, reads, blanks, pixels}
use Rattle.ms622424.specs.Ms622424.{signals, resets, looks, refusals, does, called}
use Rattle.theorem_scope_b.specs.Scope.{Sizes, Ranges, Lends, Asks}
use Rattle.theorem_scope_b.proofs.Good.{sizes_hold, hold_sizes, holds_ident, hold_ranges}

-- ---- 1

is_short : (c : Chip) → ¬ Sizes c → short c ≡ true
is_short c h = not_fails _ (λ l. h (hold_sizes c l))

is_short_queue : (c : Chip) → ¬ (c.lent.places ≡ 64) → short_queue c ≡ true
is_short_queue c h = not_fails _ (λ l. h l.0)

pub one : (k : Call) (c : Chip) → ¬ Lends k c → called k c ≡ refusing 1 0 c
one (writes select byte) c h = called_one refusals does _ c (is_short c h)
one (reads select) c h = called_one refusals does _ c (is_short c h)
one (blanks slots) c h = called_one refusals does _ c (is_short c h)
one (pixels mode word) c h = called_one refusals does _ c (is_short c h)
one (signals s) c h = called_one refusals does _ c (is_short_queue c h)
one resets c h = called_one refusals does _ c (is_short_queue c h)
one (looks place) c h = called_one refusals does _ c (is_short c h)

-- ---- 9

pub is_long : (c : Chip) → Sizes c → short c ≡ false
is_long c h = holds_passes _ (sizes_hold c h)

pub is_long_queue : (c : Chip) → c.lent.places ≡ 64 → short_queue c ≡ false
is_long_queue c h = holds_passes _ (h, tt)

is_outside : (c : Chip) → ¬ Ranges c → outside c ≡ true
is_outside c h = not_fails _ (λ l. h (hold_ranges c l))

pub nine : (k : Call) (c : Chip) → Lends k c → ¬ Asks k c → called k c ≡ refusing 9 0 c
nine (writes select byte) c l h =
    called_nine refusals does _ c (is_long c l) (fails_right (below byte 256 ∷ []) (ranges c) (is_outside c h))
nine (reads select) c l h = called_nine refusals does _ c (is_long c l) (is_outside c h)
nine (blanks slots) c l h =
    called_nine refusals does _ c (is_long c l) (fails_right (below slots 65536 ∷ []) (ranges c) (is_outside c h))
nine (pixels mode word) c l h =
    called_nine refusals does _ c (is_long c l)
    (fails_right (below mode 4 ∷ below word (2 ^ 24) ∷ []) (ranges c) (is_outside c h))
nine (signals s) c l h =
    called_nine refusals does _ c (is_long_queue c l) (fails_right (below s 16 ∷ []) (ranges c) (is_outside c h))
nine resets c l h =
    called_nine refusals does _ c (is_long_queue c l) (not_fails _ (λ i. h (holds_ident c.ident i)))
nine (looks place) c l h = called_nine refusals does _ c (is_long c l) (is_outside c h)

-- an argument outside its range
pub no_byte : (c : Chip) → Sizes c → (select b : ℕ) → 256 ≤ b → called (writes select b) c ≡ refusing 9 0 c
no_byte c l select b h = called_nine refusals does _ c (is_long c l) (not_fails _ (λ f. omega arith))

pub no_signal : (s : ℕ) (c : Chip) → c.lent.places ≡ 64 → 16 ≤ s → called (signals s) c ≡ refusing 9 0 c
no_signal s c l h = called_nine refusals does _ c (is_long_queue c l) (not_fails _ (λ f. omega arith))
