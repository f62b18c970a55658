-- The rows' own ranges are those that refusals 1 and 9 ask. Assumes nothing.
use Prim.Native.Nat.{ℕ, ◌+◌, ◌*◌, ◌<◌}
use mathlib.Core.Path.{◌≡◌, refl, sym, ap, ◌∙◌}
use mathlib.Core.List.{List}
use native.Mathlib.Omega.{arith}
use lib.Bits.{bit_and}
use lib.ListN.{get_or}
use Rattle.vocabulary.specs.Line.{line}
use Rattle.vocabulary.specs.Range.{Holds}
use Rattle.vocabulary.proofs.Table.{values, table_rule}
use Rattle.hd153108.specs.declared.Clock.{Clock}
use Rattle.hd153108.specs.declared.State.{State}
use Rattle.hd153108.specs.Hd153108.{Chip, InRange, lengths, state_ranges, clock_ranges, reserved_bits, unreserved}
use Rattle.hd153108.proofs.InRange.{in_range_lem}
use Rattle.theorem_scope_a.specs.Scope.{Sizes, ClockRanges, Ranges, Good, control_of}

-- a rule that computes as another for the first n numbers is the other there
pub by_values : (n : ℕ) (f g : ℕ → ℕ) → values f 0 n ≡ values g 0 n → (b : ℕ) → b < n → f b ≡ g b
by_values n f g e b h = sym (table_rule f n b h) ∙ (ap (λ (l : List ℕ). get_or l b 0) e ∙ table_rule g n b h)

-- the reserved bits are 7, 5 and 4, and a control without them has the others
reserved_lines : (b : ℕ) → b < 256 → bit_and b reserved_bits ≡ 128 * line b 7 + 32 * line b 5 + 16 * line b 4
reserved_lines b h =
    by_values 256 (λ n. bit_and n reserved_bits) (λ n. 128 * line n 7 + 32 * line n 5 + 16 * line n 4) refl b h

pub control_lines : (b : ℕ) → b < 256 → unreserved b ≡ control_of b
control_lines b h = by_values 256 unreserved control_of refl b h

pub sizes_hold : (c : Chip) → Sizes c → Holds (lengths c)
sizes_hold c h = search

pub hold_sizes : (c : Chip) → Holds (lengths c) → Sizes c
hold_sizes c h = search

pub clock_holds : (k : Clock) → ClockRanges k → Holds (clock_ranges k)
clock_holds k h = search

pub holds_clock : (k : Clock) → Holds (clock_ranges k) → ClockRanges k
holds_clock k h = search

nothing_reserved : (b : ℕ) → b < 256 → line b 7 ≡ 0 → line b 5 ≡ 0 → line b 4 ≡ 0 → bit_and b reserved_bits ≡ 0
nothing_reserved b h x y z = reserved_lines b h ∙ omega (arith, x, y, z)

pub ranges_hold : (s : State) → Ranges s → Holds (state_ranges s)
ranges_hold s h =
    let k = clock_holds s.clock h.clock in
    let r = nothing_reserved s.control h.control h.bit_7 h.bit_5 h.bit_4 in
    search

pub hold_ranges : (s : State) → Holds (state_ranges s) → Ranges s
hold_ranges s h =
    let (_, (_, (_, (_, (_, (_, (control, (clear, clock)))))))) = h in
    let k = holds_clock s.clock clock in
    let none = sym (reserved_lines s.control control) ∙ clear in
    let x : line s.control 7 ≡ 0 = omega (arith, none) in
    let y : line s.control 5 ≡ 0 = omega (arith, none) in
    let z : line s.control 4 ≡ 0 = omega (arith, none) in
    search

pub good_in_range : (c : Chip) → Good c → InRange c
good_in_range c g = in_range_lem c (sizes_hold c g.sizes) (ranges_hold c.state g.ranges)
