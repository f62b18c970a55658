-- The load: a good sheet's calls, made on any chip in range, leave the sheet there. Assumes nothing.
use Prim.Native.Nat.{ℕ, ◌+◌, ◌≤◌}
use mathlib.Core.Path.{◌≡◌, refl, sym, ap, ◌∙◌}
use mathlib.Core.List.{List}
use mathlib.Core.Bool.{false}
use native.Mathlib.Omega.{arith}
use lib.ListN.{length}
use Rattle.vocabulary.proofs.Range.{clash}
use Rattle.hd153108.specs.declared.State.{State}
use Rattle.hd153108.specs.Hd153108.{Chip, Table, colour, overlay, size, port, table_of, colour_at, InRange}
use Rattle.hd153108.proofs.InRange.{table_length}
use Rattle.sheet.specs.Sheet.{Line}
use Rattle.sheet.specs.Sheet.{overlays_of, colours_of}
use Rattle.calls.specs.Calls.{calls_of}
use Rattle.theorem_load.specs.Load.{writing, register_lines, entries_of, Leaves, LoadsSheets}
use Rattle.theorem_load.proofs.Grammar.{GoodLines, good_lines}
use Rattle.theorem_load.proofs.Runs.{Runs, next, runs_in_range}
use Rattle.theorem_load.proofs.Tables.{put_lines, filled_at}
use Rattle.theorem_load.proofs.Entries.{table_done, table_calls_lem, table_lines, table_keeps}
use Rattle.theorem_load.proofs.Registers.{registers_done, register_calls_lem, registers_set}

module _ (lines : List Line) (l : GoodLines lines) (c : Chip) (g : InRange c) where
  -- the chip after the registers, the overlays, the colours
  c1 : Chip
  c1 = registers_done l.registers c g

  c2 : Chip
  c2 = table_done overlay 0 (overlays_of lines) c1

  c3 : Chip
  c3 = table_done colour 0 (colours_of lines) c2

  sheet_calls : Runs (calls_of lines) c c3
  unfolding calls_of c1 c2 c3
  sheet_calls =
      let fits : (t : Table) → 0 + length (entries_of t lines) ≤ size t = λ t. omega (arith, l.entries t) in
      next g (register_calls_lem l.registers c g)
      (λ g1. next g1
      (table_calls_lem overlay 0 false (overlays_of lines) c1 g1 (l.colours overlay) (fits overlay)
      (λ e. clash (sym e)))
      (λ g2.
      table_calls_lem colour 0 false (colours_of lines) c2 g2 (l.colours colour) (fits colour) (λ e. clash (sym e))))

  -- both tables have the sheet's lines
  tables : (t : Table) → table_of t c3 ≡ put_lines 0 (entries_of t lines) (table_of t c)
  unfolding c1 c2 c3
  tables colour =
      table_lines colour 0 (colours_of lines) c2
      ∙ ap (put_lines 0 (colours_of lines))
      (table_keeps (λ d. d.colours) overlay (λ s d a p r k. refl) 0 (overlays_of lines) c1)
  tables overlay =
      table_keeps (λ d. d.overlays) colour (λ s d a p r k. refl) 0 (colours_of lines) c2
      ∙ table_lines overlay 0 (overlays_of lines) c1

  -- and the tables' calls keep what the register calls left
  kept : {A : Type 0} (f : State → A) → ((s : State) (a p r k : ℕ) → f (port s a p r k) ≡ f s)
      → f c3.state ≡ f c1.state
  unfolding c2 c3
  kept f h =
      table_keeps (λ d. f d.state) colour (λ s d. h d.state) 0 (colours_of lines) c2
      ∙ table_keeps (λ d. f d.state) overlay (λ s d. h d.state) 0 (overlays_of lines) c1

  sheet_left : Leaves lines c c3
  unfolding c1
  sheet_left = record {
    registers = kept register_lines (λ s a p r k. refl) ∙ registers_set l.registers c g;
    position = kept (λ s. s.clock.position) (λ s a p r k. refl);
    entries = λ t e.
        ap (colour_at e) (tables t)
        ∙ filled_at (entries_of t lines) (table_of t c) e (omega (arith, l.entries t, table_length t c g));
    in_range = runs_in_range g sheet_calls;
  }

-- Document 01, demand 2: "those calls, made on any state and tables within A's ranges and lengths, leave the sheet's
-- colours and registers there".
pub load : LoadsSheets writing
load text lines c e g =
    let l = good_lines text lines e in
    let r = sheet_calls lines l c g in
    record { accepted = r.accepted; leaves = rw r.leads (sheet_left lines l c g) }
