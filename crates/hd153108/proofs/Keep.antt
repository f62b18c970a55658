-- What the calls keep: a chip in range stays in range, whatever is called; pixels leave their chip; a read keeps both
-- tables, and one of a register the chip. Register by register, and a data access by its component. Assumes nothing.
use Prim.Native.Nat.{ℕ, ◌+◌, ◌-◌, ◌<◌}
use mathlib.Core.Path.{◌≡◌, refl, sym, ap, subst, ◌∙◌}
use mathlib.Core.Bool.{true}
use mathlib.Core.List.{List, [], ◌∷◌}
use native.Mathlib.Nat.{mod-lt}
use native.Mathlib.Omega.{arith}
use lib.Bits.{bit_and, and_le_l}
use lib.ListN.{replicate, get_or, get_or-replicate}
use Rattle.vocabulary.specs.Range.{Bound, below, Holds}
use Rattle.vocabulary.specs.Refusal.{order, due}
use Rattle.vocabulary.specs.Component.{Component, component_at, red, green, blue}
use Rattle.vocabulary.specs.Run.{Keeps, Unnoticed}
use Rattle.vocabulary.proofs.Component.{put_length}
use Rattle.vocabulary.proofs.Face.{called_holds}
use Rattle.vocabulary.proofs.Range.{clash, passes_holds, holds_parts}
use Rattle.vocabulary.specs.Judged.{None}
use Rattle.vocabulary.proofs.Run.{unnoticed}
use Rattle.vocabulary.proofs.Table.{values, table_rule}
use Rattle.hd153108.specs.declared.Clock.{Clock}
use Rattle.hd153108.specs.Hd153108.{Chip, Table, colour, overlay, Register, address_register, data_of, reserved}
use Rattle.hd153108.specs.Hd153108.{read_mask, blink_mask, overlay_control, blink_timing, register_at, table_of}
use Rattle.hd153108.specs.Hd153108.{with_table, with_state, next, latched, stepped, stored, data_write}
use Rattle.hd153108.specs.Hd153108.{unreserved, reserved_bits, period, ticked, written, answers, InRange, ranges}
use Rattle.hd153108.specs.Hd153108.{lengths, access_refusals, Call, writes, reads, resets, ticks, pixels}
use Rattle.hd153108.specs.Hd153108.{looks, is_pixel, is_look, refusals, does, called, SameTables}
use Rattle.hd153108.proofs.InRange.{lengths_hold}

-- ---- What is written to the overlay control

-- a bit is either dropped from the overlay control or reserved no more: two tests over the 256 bytes
drops : ℕ → ℕ
drops b = bit_and (unreserved b) reserved_bits

parts : ℕ → ℕ
parts b = unreserved b + bit_and b reserved_bits

no_reserved : (b : ℕ) → b < 256 → bit_and (unreserved b) reserved_bits ≡ 0
unfolding drops
no_reserved b h =
    let all : values drops 0 256 ≡ replicate 256 0 = refl in
    sym (table_rule drops 256 b h) ∙ (ap (λ (l : List ℕ). get_or l b 0) all ∙ get_or-replicate 256 b 0 0 h)

-- a control without reserved bits is stored as it is
pub control_kept : (b : ℕ) → b < 256 → bit_and b reserved_bits ≡ 0 → unreserved b ≡ b
unfolding parts
control_kept b h e =
    let all : values parts 0 256 ≡ values (λ n. n) 0 256 = refl in
    let sum : parts b ≡ b =
    sym (table_rule parts 256 b h) ∙ (ap (λ (l : List ℕ). get_or l b 0) all ∙ table_rule (λ n. n) 256 b h) in
    omega arith

-- ---- A chip in range stays in range

next_below : (t : Table) (a : ℕ) → a < 256 → next t a < 256
next_below colour a h = omega arith
next_below overlay a h = omega arith

-- a data access, by its component: n is the address after blue
module _ (byte n : ℕ) (h : n < 256) (c : Chip) (g : InRange c) where
  stepped_in_range : (k : Component) → InRange (with_state (stepped k n c.state) c)
  unfolding stepped
  stepped_in_range red = search arith
  stepped_in_range green = search arith
  stepped_in_range blue = search arith

  stored_in_range : (t : Table) (k : Component) (e : ℕ)
      → InRange (with_table t (stored k e byte c.state (table_of t c))
      (with_state (stepped k n (latched k byte c.state)) c))
  unfolding stepped latched stored
  stored_in_range colour red e = search arith
  stored_in_range colour green e = search arith
  stored_in_range colour blue e = search (arith, put_length)
  stored_in_range overlay red e = search arith
  stored_in_range overlay green e = search arith
  stored_in_range overlay blue e = search (arith, put_length)

written_in_range : (r : Register) (byte : ℕ) (c : Chip) → byte < 256 → InRange c → InRange (written r byte c).left
unfolding written data_write
written_in_range address_register byte c h g = search arith
written_in_range (data_of t) byte c h g =
    let s = c.state in
    stored_in_range byte (next t s.address) (next_below t s.address g.address) c g t (component_at s.pointer)
    _
written_in_range reserved byte c h g = g
written_in_range read_mask byte c h g = search arith
written_in_range blink_mask byte c h g = search arith
written_in_range overlay_control byte c h g =
    let low = and_le_l byte (255 - reserved_bits) in
    let clear = no_reserved byte h in
    search arith
written_in_range blink_timing byte c h g = search arith

answers_in_range : (r : Register) (c : Chip) → InRange c → InRange (answers r c).left
unfolding answers
answers_in_range address_register c g = search arith
answers_in_range (data_of t) c g =
    let s = c.state in
    stepped_in_range 0 (next t s.address) (next_below t s.address g.address) c g (component_at s.pointer)
answers_in_range reserved c g = g
answers_in_range read_mask c g = g
answers_in_range blink_mask c g = g
answers_in_range overlay_control c g = g
answers_in_range blink_timing c g = g

-- from any state at all
pub reset_in_range : (c : Chip) → Holds (lengths c) → InRange (does resets c).left
reset_in_range c l = search arith

ticked_below : (k : Clock) → (ticked k).position < period k.timing
ticked_below k = mod-lt (k.position + 1) (omega arith)

-- an accepted access was given what its row asks
given_holds : (given : List Bound) (select : ℕ) (c : Chip) → None (due (access_refusals given select c)) order
    → Holds given
given_holds given select c (short, (outside, rest)) = (holds_parts given (ranges c) (passes_holds _ outside)).0

-- an accepted look leaves its chip
look_leaves : (place : ℕ) (c : Chip) → (does (looks place) c).left ≡ c
look_leaves place c = refl

does_keeps_range : (k : Call) (c : Chip) → InRange c → None (due (refusals k c)) order → InRange (does k c).left
does_keeps_range (writes select byte) c g h =
    let (b, _) = given_holds (below byte 256 ∷ []) select c h in written_in_range (register_at select) byte c b g
does_keeps_range (reads select) c g h = answers_in_range (register_at select) c g
does_keeps_range resets c g h = reset_in_range c (lengths_hold c g)
does_keeps_range ticks c g h = let below = ticked_below c.state.clock in search
does_keeps_range (pixels enable number byte) c g h = g
does_keeps_range (looks place) c g h = subst InRange (sym (look_leaves place c)) g

pub called_keeps_range : Keeps called InRange
called_keeps_range k c g = called_holds refusals does k c InRange g (does_keeps_range k c g)

-- ---- An accepted call answers no refusal, and a read changes no table

written_accepts : (r : Register) (byte : ℕ) (c : Chip) → (written r byte c).refusal ≡ 0
unfolding written
written_accepts address_register byte c = refl
written_accepts (data_of t) byte c = refl
written_accepts reserved byte c = refl
written_accepts read_mask byte c = refl
written_accepts blink_mask byte c = refl
written_accepts overlay_control byte c = refl
written_accepts blink_timing byte c = refl

answers_only : (r : Register) (c : Chip) → ((answers r c).refusal ≡ 0) × SameTables c (answers r c).left
unfolding answers
answers_only address_register c = search
answers_only (data_of t) c = search
answers_only reserved c = search
answers_only read_mask c = search
answers_only blink_mask c = search
answers_only overlay_control c = search
answers_only blink_timing c = search

pub does_accepts : (k : Call) (c : Chip) → (does k c).refusal ≡ 0
does_accepts (writes select byte) c = written_accepts (register_at select) byte c
does_accepts (reads select) c = (answers_only (register_at select) c).0
does_accepts resets c = refl
does_accepts ticks c = refl
does_accepts (pixels enable number byte) c = refl
does_accepts (looks place) c = refl

pub read_keeps_tables : (select : ℕ) (c : Chip) → SameTables c (called (reads select) c).left
read_keeps_tables select c =
    called_holds refusals does (reads select) c (SameTables c) (search) (λ h. (answers_only (register_at select) c).1)

pub reset_keeps_tables : (c : Chip) → SameTables c (called resets c).left
reset_keeps_tables c = called_holds refusals does resets c (SameTables c) (search) (λ h. search)

-- a read of an internal register moves nothing
pub register_reads_stay : (c : Chip)
    → ((answers read_mask c).left ≡ c) × ((answers blink_mask c).left ≡ c) × ((answers overlay_control c).left ≡ c)
    × ((answers blink_timing c).left ≡ c)
unfolding answers
register_reads_stay c = (refl, refl, refl, refl)

-- ---- A pixel leaves its chip, and so does a look: no other call can tell whether one was asked for

pixel_stays : (k : Call) (c : Chip) → is_pixel k ≡ true → (called k c).left ≡ c
pixel_stays (pixels enable number byte) c e = called_holds refusals does _ c (λ (d : Chip). d ≡ c) refl (λ h. refl)
pixel_stays (writes select byte) c e = clash (sym e)
pixel_stays (reads select) c e = clash (sym e)
pixel_stays resets c e = clash (sym e)
pixel_stays ticks c e = clash (sym e)
pixel_stays (looks place) c e = clash (sym e)

-- a pixel is what the chip calls so
pub pixels_named : (enable number byte : ℕ) → is_pixel (pixels enable number byte) ≡ true
pixels_named enable number byte = refl

pub pixels_unnoticed : Unnoticed called is_pixel
pixels_unnoticed = unnoticed called is_pixel pixel_stays

look_stays : (k : Call) (c : Chip) → is_look k ≡ true → (called k c).left ≡ c
look_stays (writes select byte) c e = clash (sym e)
look_stays (reads select) c e = clash (sym e)
look_stays resets c e = clash (sym e)
look_stays ticks c e = clash (sym e)
look_stays (pixels enable number byte) c e = clash (sym e)
look_stays (looks place) c e = called_holds refusals does _ c (λ (d : Chip). d ≡ c) refl (λ h. look_leaves place c)

pub looks_unnoticed : Unnoticed called is_look
looks_unnoticed = unnoticed called is_look look_stays
