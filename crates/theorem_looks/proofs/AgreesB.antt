-- Chip B's looks agree with its reads. Assumes nothing.
use Prim.Native.Nat.{ℕ, ◌+◌, ◌*◌, ◌%◌, ◌<◌}
use mathlib.Core.Path.{◌≡◌, refl, sym, ap, ◌∙◌}
use mathlib.Core.Bool.{Bool, true, false}
use native.Mathlib.Omega.{arith}
use lib.Dec.{eqb, leb}
use lib.ListN.{length, get_or}
use Rattle.vocabulary.specs.Choice.{pick}
use Rattle.vocabulary.specs.Component.{red, green}
use Rattle.vocabulary.specs.Outcome.{Outcome}
use Rattle.vocabulary.specs.Run.{Accepted}
use Rattle.vocabulary.proofs.Face.{called_does}
use Rattle.vocabulary.proofs.Outcome.{accepts_as}
use Rattle.ms622424.specs.Ms622424.{Chip, InRange, register_at, readable, selected, status_of, status_byte, mark}
use Rattle.ms622424.specs.Ms622424.{buffer_byte, answers, reads, refusals, does, called}
use Rattle.ms622424.proofs.Access.{is_red, is_green}
use Rattle.ms622424.proofs.Look.{look_state, look_map}
use Rattle.ms622424.proofs.Read.{read_does}
use Rattle.theorem_looks.specs.Agrees.{read_b, AgreesB}

-- the status has the counter in its two low bits
three_flags : (a b e : Bool) (n : ℕ) → n < 3 → (n + pick a 0 4 + pick b 0 8 + pick e 0 16) % 4 ≡ n
unfolding pick
three_flags true true true n h = omega arith
three_flags true true false n h = omega arith
three_flags true false true n h = omega arith
three_flags true false false n h = omega arith
three_flags false true true n h = omega arith
three_flags false true false n h = omega arith
three_flags false false true n h = omega arith
three_flags false false false n h = omega arith

status_counter : (c : Chip) → InRange c → status_byte c % 4 ≡ c.port.counter
unfolding status_byte status_of
status_counter c g =
    three_flags (eqb (length c.waiting) 0) (leb (mark c.control) (length c.waiting))
    (eqb (length c.waiting) 64) c.port.counter g.counter

module _ (c : Chip) (g : InRange c) where
  -- a read of another select than the palette's
  read_value : (select : ℕ) → readable (register_at select) (selected c.port) ≡ true → eqb select 2 ≡ false
      → read_b c select ≡ (answers (register_at select) c).value
  read_value select r s =
      ap (λ (o : Outcome Chip). o.value)
      (sym (read_does select c g select refl r (rw s refl) (rw s refl) refl))

  red_value : c.port.counter ≡ 0 → read_b c 5 ≡ c.port.red
  unfolding register_at readable answers buffer_byte
  red_value e = let k : selected c.port ≡ red = is_red e in read_value 5 (rw k refl) refl ∙ rw k refl

  green_value : c.port.counter ≡ 1 → read_b c 5 ≡ c.port.green
  unfolding register_at readable answers buffer_byte
  green_value e = let k : selected c.port ≡ green = is_green e in read_value 5 (rw k refl) refl ∙ rw k refl

  map_value : Accepted called (reads 2) c → read_b c 2 ≡ get_or c.map (3 * c.port.address + c.port.counter) 0
  unfolding register_at answers
  map_value a = ap (λ (o : Outcome Chip). o.value) (called_does refusals does (reads 2) c a)

  pub agrees_b : AgreesB c
  unfolding register_at readable answers
  agrees_b =
      let (address, counter, r, n, command, _, revision, board, _, _) = look_state c g in
      let low = read_value 0 refl refl in
      let high = read_value 1 refl refl in
      let ident = read_value 6 refl refl in
      record {
        address = accepts_as address (omega (arith, low, high));
        counter = accepts_as counter (ap (λ (s : ℕ). s % 4) (read_value 4 refl refl) ∙ status_counter c g);
        red = λ e. accepts_as r (red_value e);
        green = λ e. accepts_as n (green_value e);
        command = accepts_as command (read_value 3 refl refl);
        revision = accepts_as revision (omega (arith, ident, g.revision));
        board = accepts_as board (omega (arith, ident, g.revision));
        map = λ a. accepts_as
            (look_map c g _ (3 * c.port.address + c.port.counter) refl (omega (arith, g.address, g.counter)))
            (map_value a);
      }
