-- Chip A's looks agree with its reads. Assumes nothing.
use Prim.Native.Nat.{ℕ, ◌+◌, ◌*◌, ◌%◌}
use mathlib.Core.Path.{refl, subst}
use native.Mathlib.Omega.{arith}
use Rattle.vocabulary.specs.Outcome.{Outcome}
use Rattle.hd153108.specs.Hd153108.{Chip, register_at, answers, InRange}
use Rattle.hd153108.proofs.Access.{Served, reading, access_goes}
use Rattle.hd153108.proofs.Look.{look_state, look_overlay, look_colour}
use Rattle.theorem_looks.specs.Agrees.{read_a, TellsA, AgreesA}

module _ (c : Chip) (g : InRange c) where
  -- what a place tells is what a read answers
  agrees : (place select : ℕ) → Served select → TellsA c place (answers (register_at select) c).value
      → TellsA c place (read_a c select)
  agrees place select h t =
      subst (λ (o : Outcome Chip). TellsA c place o.value) (access_goes c g (reading {select = select}) h) t

  pub agrees_a : AgreesA c
  unfolding register_at answers
  agrees_a =
      let (address, _, _, _, readmask, blinkmask, control, timing, _) = look_state c g in
      record {
        address = agrees 0x0 0 refl address;
        readmask = agrees 0x4 4 refl readmask;
        blinkmask = agrees 0x5 5 refl blinkmask;
        control = agrees 0x6 6 refl control;
        timing = agrees 0x7 7 refl timing;
        overlay = agrees _ 3 refl (look_overlay c g _ (3 * (c.state.address % 4) + c.state.pointer) refl
            (omega (arith, g.pointer)));
        colour = agrees _ 1 refl (look_colour c g _ (3 * c.state.address + c.state.pointer) refl
            (omega (arith, g.pointer, g.address)));
      }
