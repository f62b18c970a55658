-- The four register calls leave the sheet's registers. Assumes nothing.
use Prim.Native.Nat.{ℕ}
use mathlib.Core.Path.{◌≡◌, refl, sym}
use mathlib.Core.List.{List}
use Rattle.hd153108.specs.declared.Clock.{Clock}
use Rattle.hd153108.specs.Hd153108.{Chip, register_at, with_state, registers, unreserved, restarted, written, InRange}
use Rattle.hd153108.proofs.Keep.{control_kept}
use Rattle.sheet.specs.Sheet.{Line}
use Rattle.calls.specs.Calls.{register_calls}
use Rattle.theorem_load.specs.Load.{register_lines}
use Rattle.theorem_load.proofs.Grammar.{Registers}
use Rattle.theorem_load.proofs.Runs.{Runs, one, next}

-- the chip with other registers
abbrev set : Chip → ℕ → ℕ → ℕ → Clock → Chip
set c read blink control k = with_state (registers c.state read blink control k) c

module _ {l : List Line} (r : Registers l) (c : Chip) (g : InRange c) where
  abbrev pub registers_done : Chip
  registers_done = set c r.readmask r.blinkmask r.control (restarted r.timing)

  pub register_calls_lem : Runs (register_calls 4 l) c registers_done
  unfolding register_at written register_calls
  register_calls_lem =
      let s = c.state in
      let c1 = set c r.readmask s.blinkmask s.control s.clock in
      let c2 = set c r.readmask r.blinkmask s.control s.clock in
      let c3 = set c r.readmask r.blinkmask r.control s.clock in
      let o = r.control in
      let same : unreserved o ≡ o = control_kept o r.control_byte r.control_clear in
      rw r.lines
      (next g (one 4 r.readmask c g refl r.readmask_byte refl)
      (λ g1. next g1 (one 5 r.blinkmask c1 g1 refl r.blinkmask_byte refl)
      (λ g2. next g2 (one 6 r.control c2 g2 refl r.control_byte (rw same))
      (λ g3. one 7 r.timing c3 g3 refl r.timing_byte refl))))

  pub registers_set : register_lines registers_done.state ≡ l
  registers_set = sym r.lines
