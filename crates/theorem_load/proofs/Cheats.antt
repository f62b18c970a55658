-- What the statements rule out, for any chip that one would put in place of A. Assumes nothing.
use Prim.Native.Nat.{ℕ}
use mathlib.Core.Path.{◌≡◌, refl, ap, ◌∙◌}
use mathlib.Core.List.{List, [], ◌∷◌, ◌++◌}
use native.Mathlib.Omega.{arith}
use lib.ListN.{get_or, replicate}
use Rattle.vocabulary.specs.Run.{Along}
use Rattle.vocabulary.proofs.Run.{run_keeps}
use Rattle.hd153108.specs.Hd153108.{Chip, chip, clock, Table, colour, overlay, table_of, colour_at, InRange}
use Rattle.hd153108.proofs.InRange.{in_range_lem}
use Rattle.sheet.specs.Sheet.{Line}
use Rattle.std.specs.Prelude.{Some, None}
use Rattle.sheet.specs.Sheet.{sheet_of, lines_of, over_fifteen_in, red_of, green_of, blue_of, text_of}
use Rattle.sheet_written.specs.Writer.{Writable}
use Rattle.sheet_written.proofs.Round.{round}
use Rattle.calls.specs.Calls.{Call, register_calls, calls_of}
use Rattle.theorem_load.specs.Load.{Writing, making, made, AllAccepted, register_lines, entries_of, filled}
use Rattle.theorem_load.specs.Load.{Loads, LoadsSheets, Same}
use Rattle.theorem_load.proofs.Grammar.{Registers, good_lines}
use Rattle.theorem_load.proofs.Back.{load_returns}

module _ (w : Writing) where
  -- an entry that the sheet lists has its colour; a missing entry is not touched
  module _ {lines : List Line} {c : Chip} (m : Loads w lines c) (t : Table) (e : ℕ) where
    entry_left : (x : Line) → get_or (entries_of t lines) e None ≡ x
        → colour_at e (table_of t (made w (calls_of lines) c)) ≡ filled x (colour_at e (table_of t c))
    entry_left x h = m.leaves.entries t e ∙ ap (λ (y : Line). filled y (colour_at e (table_of t c))) h

    pub load_sets_listed : (v : ℕ) → get_or (entries_of t lines) e None ≡ Some v
        → colour_at e (table_of t (made w (calls_of lines) c)) ≡ red_of v ∷ green_of v ∷ blue_of v ∷ []
    load_sets_listed v h = entry_left (Some v) h

    pub load_keeps_missing : get_or (entries_of t lines) e None ≡ None
        → colour_at e (table_of t (made w (calls_of lines) c)) ≡ colour_at e (table_of t c)
    load_keeps_missing h = entry_left None h

  -- what no call changes, no list of calls changes
  made_keeps : {A : Type 0} (f : Chip → A) → ((select b : ℕ) (c : Chip) → f (w select b c).left ≡ f c)
      → (ks : List Call) (c : Chip) → f (made w ks c) ≡ f c
  made_keeps f h ks c =
      run_keeps (making w) (λ (d : Chip). f d ≡ f c) (λ k d e. h k.select k.byte d ∙ e) ks c refl

-- two chips, with n in every byte and register
bytes : ℕ → Chip
bytes n =
    chip
    (record {
      address = 0;
      pointer = 0;
      red = 0;
      green = 0;
      readmask = n;
      blinkmask = n;
      control = n;
      clock = clock n 0;
    })
    (replicate 768 n) (replicate 12 n)

dark : InRange (bytes 0)
unfolding bytes
dark = in_range_lem (bytes 0) (refl, (refl, tt)) (omega arith)

bright : Writable (bytes 1)
unfolding bytes over_fifteen_in
bright = record { colours = refl; overlays = refl; low_colours = refl; low_overlays = refl; state = omega arith }

-- the calls of the one's sheet
bright_calls : List Call
bright_calls = calls_of (lines_of (sheet_of (text_of (bytes 1))))

-- A chip that stores nothing in one of its tables does not load; nor does one that keeps its registers or refuses all.
module _ (w : Writing) (loads : LoadsSheets w) where
  loaded : Same (bytes 1) (made w bright_calls (bytes 0))
  unfolding bright_calls
  loaded = (load_returns w loads (bytes 1) (bytes 0) bright dark).same

  loaded_table : (t : Table) → table_of t (bytes 1) ≡ table_of t (made w bright_calls (bytes 0))
  loaded_table colour = loaded.colours
  loaded_table overlay = loaded.overlays

  first : (t : Table) (n : ℕ) → get_or (table_of t (bytes n)) 0 0 ≡ n
  unfolding bytes
  first colour n = refl
  first overlay n = refl

  pub must_store : (t : Table) → ((select b : ℕ) (c : Chip) → table_of t (w select b c).left ≡ table_of t c) → ⊥
  must_store t h =
      let kept =
      ap (λ (l : List ℕ). get_or l 0 0) (loaded_table t ∙ made_keeps w (table_of t) h bright_calls (bytes 0)) in
      omega (arith, first t 1, first t 0)

  pub must_set_registers :
      ((select b : ℕ) (c : Chip) → register_lines (w select b c).left.state ≡ register_lines c.state) → ⊥
  unfolding bytes
  must_set_registers h =
      let kept = loaded.registers ∙ made_keeps w (λ c. register_lines c.state) h bright_calls (bytes 0) in
      let z : ◌≡◌ {A = ℕ} 0 1 = cc in
      omega arith

  -- every good sheet has calls, for its registers
  accepted_first : {l : List Line} (r : Registers l) (ks : List Call) (c : Chip)
      → AllAccepted w (register_calls 4 l ++ ks) c → (w 4 r.readmask c).refusal ≡ 0
  unfolding register_calls Along
  accepted_first r ks c e = (rw r.lines at e).0

  pub must_accept : ((select b : ℕ) (c : Chip) → (w select b c).refusal ≡ 0 → ⊥) → ⊥
  unfolding calls_of
  must_accept h =
      let e = round (bytes 1) bright in
      let m = loads _ _ (bytes 0) e dark in
      h 4 _ (bytes 0) (accepted_first (good_lines _ _ e).registers _ (bytes 0) m.accepted)
