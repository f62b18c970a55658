-- Chip A: an access to a register leaves the others, and which reads move. Assumes nothing.
use Prim.Native.Nat.{ℕ}
use mathlib.Core.Path.{◌≡◌, refl, ap}
use mathlib.Core.List.{List}
use Rattle.vocabulary.specs.Component.{Component, red, green, blue, component_at}
use Rattle.vocabulary.specs.Outcome.{Outcome}
use Rattle.vocabulary.proofs.Face.{called_holds, called_does}
use Rattle.hd153108.specs.declared.State.{State}
use Rattle.hd153108.specs.Hd153108.{Chip, Register, address_register, data_of, reserved, read_mask, blink_mask, register_at}
use Rattle.hd153108.specs.Hd153108.{overlay_control, blink_timing, Table, colour, overlay}
use Rattle.hd153108.specs.Hd153108.{stepped, latched, stored, data_write, written, answers, with_state, with_table}
use Rattle.hd153108.specs.Hd153108.{writes, reads, refusals, does, called, SameTables}
use Rattle.theorem_moves.specs.MovesA.{WriteLeaves, ReadLeaves}

-- ---- as it was
kept_by_write : (r : Register) (c : Chip) → WriteLeaves r c c
kept_by_write address_register c = refl
kept_by_write (data_of colour) c = refl
kept_by_write (data_of overlay) c = refl
kept_by_write reserved c = refl
kept_by_write read_mask c = refl
kept_by_write blink_mask c = refl
kept_by_write overlay_control c = refl
kept_by_write blink_timing c = refl

kept_by_read : (r : Register) (c : Chip) → ReadLeaves r c c
kept_by_read address_register c = refl
kept_by_read (data_of t) c = refl
kept_by_read reserved c = refl
kept_by_read read_mask c = refl
kept_by_read blink_mask c = refl
kept_by_read overlay_control c = refl
kept_by_read blink_timing c = refl

-- ---- a write
stepped_leaves : (t : Table) (k : Component) (byte n : ℕ) (l : List ℕ) (c : Chip)
    → WriteLeaves (data_of t) c (with_table t l (with_state (stepped k n (latched k byte c.state)) c))
unfolding stepped latched
stepped_leaves colour red byte n l c = refl
stepped_leaves colour green byte n l c = refl
stepped_leaves colour blue byte n l c = refl
stepped_leaves overlay red byte n l c = refl
stepped_leaves overlay green byte n l c = refl
stepped_leaves overlay blue byte n l c = refl

written_leaves : (r : Register) (byte : ℕ) (c : Chip) → WriteLeaves r c (written r byte c).left
unfolding written data_write
written_leaves address_register byte c = refl
written_leaves (data_of t) byte c = stepped_leaves t (component_at c.state.pointer) byte _ _ c
written_leaves reserved byte c = refl
written_leaves read_mask byte c = refl
written_leaves blink_mask byte c = refl
written_leaves overlay_control byte c = refl
written_leaves blink_timing byte c = refl

pub write_leaves : (select byte : ℕ) (c : Chip)
    → WriteLeaves (register_at select) c (called (writes select byte) c).left
write_leaves select byte c =
    let r = register_at select in
    called_holds refusals does (writes select byte) c (WriteLeaves r c) (kept_by_write r c)
    (λ none. written_leaves r byte c)

-- ---- a read
data_read_leaves : (t : Table) (k : Component) (n : ℕ) (c : Chip)
    → ReadLeaves (data_of t) c (with_state (stepped k n c.state) c)
unfolding stepped
data_read_leaves t red n c = refl
data_read_leaves t green n c = refl
data_read_leaves t blue n c = refl

answers_leave : (r : Register) (c : Chip) → ReadLeaves r c (answers r c).left
unfolding answers
answers_leave address_register c = refl
answers_leave (data_of t) c = data_read_leaves t (component_at c.state.pointer) _ c
answers_leave reserved c = refl
answers_leave read_mask c = refl
answers_leave blink_mask c = refl
answers_leave overlay_control c = refl
answers_leave blink_timing c = refl

pub read_leaves : (select : ℕ) (c : Chip) → ReadLeaves (register_at select) c (called (reads select) c).left
read_leaves select c =
    let r = register_at select in
    called_holds refusals does (reads select) c (ReadLeaves r c) (kept_by_read r c) (λ none. answers_leave r c)

-- an address read is not harmless: where it is accepted the pointer is red
pub address_read_to_red : (c : Chip) → (called (reads 0) c).refusal ≡ 0
    → (called (reads 0) c).left.state.pointer ≡ 0
unfolding register_at answers
address_read_to_red c e =
    ap (λ (o : Outcome Chip). o.left.state.pointer) (called_does refusals does (reads 0) c e)

-- ---- the tables: only a blue data write changes one (and no read: `read_keeps_tables` of hd153108)
not_blue : (k : Component) (e byte : ℕ) (s : State) (t : List ℕ) → (k ≡ blue → ⊥) → stored k e byte s t ≡ t
unfolding stored
not_blue red e byte s t h = refl
not_blue green e byte s t h = refl
not_blue blue e byte s t h = absurd (h refl)

early_keeps : (r : Register) (byte : ℕ) (c : Chip) → (component_at c.state.pointer ≡ blue → ⊥)
    → SameTables c (written r byte c).left
unfolding written data_write
early_keeps address_register byte c h = search
early_keeps (data_of colour) byte c h =
    record { colours = not_blue (component_at c.state.pointer) _ byte _ _ h; overlays = refl }
early_keeps (data_of overlay) byte c h =
    record { colours = refl; overlays = not_blue (component_at c.state.pointer) _ byte _ _ h }
early_keeps reserved byte c h = search
early_keeps read_mask byte c h = search
early_keeps blink_mask byte c h = search
early_keeps overlay_control byte c h = search
early_keeps blink_timing byte c h = search

pub early_write_keeps_tables : (select byte : ℕ) (c : Chip) → (component_at c.state.pointer ≡ blue → ⊥)
    → SameTables c (called (writes select byte) c).left
early_write_keeps_tables select byte c h =
    called_holds refusals does (writes select byte) c (SameTables c)
    (record { colours = refl; overlays = refl }) (λ none. early_keeps (register_at select) byte c h)
