-- What each call leaves as it was, refused or not. Assumes nothing.
use Prim.Native.Nat.{ℕ, ◌+◌, ◌*◌}
use mathlib.Core.Path.{◌≡◌, refl, sym}
use mathlib.Core.Bool.{true}
use lib.ListN.{get_or}
use Rattle.vocabulary.specs.Run.{Unnoticed}
use Rattle.vocabulary.proofs.Choice.{picks_first, picks_second, cases}
use Rattle.vocabulary.proofs.Component.{put_others}
use Rattle.vocabulary.proofs.Face.{called_holds}
use Rattle.vocabulary.proofs.Range.{clash}
use Rattle.vocabulary.proofs.Run.{unnoticed}
use Rattle.rgb640.specs.Rgb640.{Chip, offset, three_bytes, follows, taken, palette_taken, Space, update_control}
use Rattle.rgb640.specs.Rgb640.{palette_write, palette_read, nowhere, space_of, Register, index_low, index_high}
use Rattle.rgb640.specs.Rgb640.{index_data, not_served, register_at, served, data_written, wrote, told, answers}
use Rattle.rgb640.specs.Rgb640.{Call}
use Rattle.rgb640.specs.Rgb640.{writes, reads, resets, looks, is_index, is_index_read, is_look, refusals, does}
use Rattle.rgb640.specs.Rgb640.{called}
use Rattle.rgb640.proofs.Index.{space_holds}
use Rattle.rgb640.proofs.InRange.{look_leaves, reset_leaves}

-- ---- What is done where nothing is refused gives no refusal itself
pub does_accepts : (k : Call) (c : Chip) → (does k c).refusal ≡ 0
does_accepts (writes port b) c = refl
does_accepts (reads port) c = refl
does_accepts resets c = refl
does_accepts (looks place) c = refl

-- ---- Reads of ports 4 and 5 leave their chip, and so do looks: no other call can tell whether they were made
index_read_stays : (r : Register) (c : Chip) → is_index r ≡ true → (answers r c).left ≡ c
unfolding told
index_read_stays index_low c e = refl
index_read_stays index_high c e = refl
index_read_stays index_data c e = clash (sym e)
index_read_stays not_served c e = clash (sym e)

stays : (k : Call) (c : Chip) → is_index_read k ≡ true → (called k c).left ≡ c
stays (writes port b) c e = clash (sym e)
stays (reads port) c e =
    called_holds refusals does (reads port) c (λ (d : Chip). d ≡ c) refl
    (λ none. index_read_stays (register_at port) c e)
stays resets c e = clash (sym e)
stays (looks place) c e = clash (sym e)

-- reads of ports 4 and 5 are what is called so
pub index_reads_named : (is_index_read (reads 4) ≡ true) × (is_index_read (reads 5) ≡ true)
unfolding register_at
index_reads_named = (refl, refl)

pub index_reads_unnoticed : Unnoticed called is_index_read
index_reads_unnoticed = unnoticed called is_index_read stays

look_stays : (k : Call) (c : Chip) → is_look k ≡ true → (called k c).left ≡ c
look_stays (writes port b) c e = clash (sym e)
look_stays (reads port) c e = clash (sym e)
look_stays resets c e = clash (sym e)
look_stays (looks place) c e =
    called_holds refusals does _ c (λ (d : Chip). d ≡ c) refl (λ none. look_leaves place c)

pub looks_unnoticed : Unnoticed called is_look
looks_unnoticed = unnoticed called is_look look_stays

-- ---- The table
-- a read changes no number of it, nor does a reset
module _ (c : Chip) where
  pub read_keeps_table : (port : ℕ) → (called (reads port) c).left.table ≡ c.table
  read_keeps_table port =
      called_holds refusals does (reads port) c (λ (d : Chip). d.table ≡ c.table) refl (λ none. refl)

  pub reset_keeps_table : (called resets c).left.table ≡ c.table
  reset_keeps_table =
      called_holds refusals does resets c (λ (d : Chip). d.table ≡ c.table) refl (λ none. reset_leaves c)

-- a write changes no number outside the index's entry
module _ (c : Chip) (n : ℕ) (f : n ≡ 3 * offset c.state.index → ⊥) (g : n ≡ 3 * offset c.state.index + 1 → ⊥)
    (h : n ≡ 3 * offset c.state.index + 2 → ⊥) where
  abbrev Same : Chip → Type 0
  Same d = get_or d.table n 0 ≡ get_or c.table n 0

  taken_keeps : (b : ℕ) → Same (taken three_bytes b c)
  unfolding taken
  taken_keeps b =
      cases (follows three_bytes c.state.place)
      (λ e. rw (picks_first _ _ e))
      (λ e. rw (picks_second _ _ e) (put_others _ _ _ _ _ n f g h))

  data_written_keeps : (i b : ℕ) → Same (data_written (space_of i) b c)
  unfolding update_control palette_write palette_read nowhere served palette_taken
  data_written_keeps i b =
      space_holds i (λ (row : Space). Same (data_written row b c))
      (λ l. refl, (λ l. taken_keeps b, (λ l. refl, tt))) (λ out. refl)

  wrote_keeps : (r : Register) (b : ℕ) → Same (wrote r b c)
  unfolding wrote
  wrote_keeps index_low b = refl
  wrote_keeps index_high b = refl
  wrote_keeps index_data b = data_written_keeps _ b
  wrote_keeps not_served b = refl

  pub write_keeps_others : (port b : ℕ) → Same (called (writes port b) c).left
  write_keeps_others port b =
      called_holds refusals does (writes port b) c Same refl (λ none. wrote_keeps (register_at port) b)
