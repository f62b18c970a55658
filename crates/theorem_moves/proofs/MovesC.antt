-- Chip C: an access of a port leaves the rest, and which reads move. Assumes nothing.
use Prim.Native.Nat.{ℕ}
use mathlib.Core.Path.{◌≡◌, refl, sym, ap, subst, ◌∙◌}
use mathlib.Core.List.{List}
use native.Mathlib.Omega.{arith}
use Rattle.vocabulary.proofs.Choice.{cases, picks_first, picks_second}
use Rattle.vocabulary.proofs.Face.{called_holds}
use Rattle.rgb640.specs.declared.State.{State}
use Rattle.rgb640.specs.Rgb640.{Chip, chip, at, next, increments, Direction, writing, reading, Transfer}
use Rattle.rgb640.specs.Rgb640.{three_bytes, follows, restarted, stepped, taken, palette_taken, palette_told}
use Rattle.rgb640.specs.Rgb640.{fetches_nothing, fetches_entry, Space, update_control, palette_write, palette_read, nowhere}
use Rattle.rgb640.specs.Rgb640.{space_of, Register, index_low, index_high, index_data, not_served, register_at, served}
use Rattle.rgb640.specs.Rgb640.{data_written, wrote, data_read, told, answers, writes, reads, refusals, does, called}
use Rattle.rgb640.proofs.Index.{space_holds}
use Rattle.theorem_moves.specs.MovesC.{PlaceAlone, PaletteAlone, DataWriteLeaves}
use Rattle.theorem_moves.specs.MovesC.{DataReadLeaves, WriteLeaves, ReadLeaves}

-- ---- as it was
kept_by_write : (r : Register) (c : Chip) → WriteLeaves r c c
kept_by_write index_low c = refl
kept_by_write index_high c = refl
kept_by_write index_data c = record { register = λ e. refl; elsewhere = λ e. refl }
kept_by_write not_served c = refl

kept_by_read : (r : Register) (c : Chip) → ReadLeaves r c c
kept_by_read index_low c = refl
kept_by_read index_high c = refl
kept_by_read index_data c = record { register = λ e. refl; elsewhere = refl }
kept_by_read not_served c = refl

-- ---- the order, and the fetch: index, place and fetched entry
-- what holds at every index and place, and of what is fetched there, holds after a transfer
stepped_holds : (P : State → Type 0) (order : List Transfer) (d : Direction) (fetch : State → State) (s : State)
    → ((i p : ℕ) → P (at s i p)) → ((i p : ℕ) → P (fetch (at s i p))) → P (stepped order d fetch s)
unfolding stepped restarted
stepped_holds P order d fetch s g h =
    cases (follows order s.place)
    (λ e. subst P (sym (picks_first _ _ e)) (g _ _))
    (λ e.
    subst P (sym (picks_second _ _ e))
    (cases (increments d s.update)
    (λ f. subst P (sym (picks_first _ _ f)) (h (next s.index) 0))
    (λ f. subst P (sym (picks_second _ _ f)) (g _ _))))

module _ (s : State) (t : List ℕ) where
  abbrev Moves : State → Type 0
  Moves n = PlaceAlone (chip s t) (chip n t)

  fetch_leaves : (i p j : ℕ) → Moves ((space_of j).on_index t (at s i p))
  unfolding update_control palette_write palette_read nowhere
  fetch_leaves i p j =
      space_holds j (λ (row : Space). Moves (row.on_index t (at s i p))) (λ l. refl, (λ l. refl, (λ l. refl, tt)))
      (λ out. refl)

-- ---- a write
taken_leaves : (order : List Transfer) (b : ℕ) (c : Chip) → PaletteAlone c (taken order b c)
unfolding taken
taken_leaves order b c =
    cases (follows order c.state.place)
    (λ e. subst (PaletteAlone c) (sym (picks_first _ _ e)) refl)
    (λ e. subst (PaletteAlone c) (sym (picks_second _ _ e)) refl)

-- what moves index and place after the palette's part moved
palette_after : (c d : Chip) (n : State) → PaletteAlone c d → n ≡ at d.state n.index n.place
    → PaletteAlone c (chip n d.table)
palette_after c d n e h =
    let same : n.update ≡ c.state.update =
    ap (λ (m : State). m.update) h ∙ ap (λ (x : Chip). x.state.update) e in
    let copy : n.fetched ≡ c.state.fetched =
    ap (λ (m : State). m.fetched) h ∙ ap (λ (x : Chip). x.state.fetched) e in
    rw (sym same, sym copy)

palette_leaves : (order : List Transfer) (b : ℕ) (c : Chip) → PaletteAlone c (palette_taken order b c)
unfolding palette_taken
palette_leaves order b c =
    let n = taken order b c in
    palette_after c n _ (taken_leaves order b c)
    (stepped_holds (λ (m : State). m ≡ at n.state m.index m.place) order writing (fetches_nothing n.table)
    n.state (λ i p. refl) (λ i p. refl))

data_write_leaves : (b : ℕ) (c : Chip) → DataWriteLeaves c (data_written (space_of c.state.index) b c)
unfolding update_control palette_write palette_read nowhere served
data_write_leaves b c =
    space_holds c.state.index (λ (row : Space). DataWriteLeaves c (data_written row b c)) (
      λ l. record { register = λ e. refl; elsewhere = λ e. absurd (e (omega arith)) },
      (
        λ l. record { register = λ e. absurd (omega arith); elsewhere = λ e. palette_leaves three_bytes b c },
        (λ l. record { register = λ e. refl; elsewhere = λ e. refl }, tt),
      ),
    )
    (λ out. record { register = λ e. refl; elsewhere = λ e. refl })

written_leaves : (r : Register) (b : ℕ) (c : Chip) → WriteLeaves r c (wrote r b c)
unfolding wrote
written_leaves index_low b c = refl
written_leaves index_high b c = fetch_leaves c.state c.table _ 0 _
written_leaves index_data b c = data_write_leaves b c
written_leaves not_served b c = refl

pub write_leaves : (port b : ℕ) (c : Chip) → WriteLeaves (register_at port) c (called (writes port b) c).left
write_leaves port b c =
    let r = register_at port in
    called_holds refusals does (writes port b) c (WriteLeaves r c) (kept_by_write r c) (λ none. written_leaves r b c)

-- ---- a read
data_read_leaves : (c : Chip) → DataReadLeaves c (chip (data_read (space_of c.state.index) c).1 c.table)
unfolding update_control palette_write palette_read nowhere served palette_told
data_read_leaves c =
    let s = c.state in
    let t = c.table in
    let steps = stepped_holds (Moves s t) three_bytes reading (fetches_entry t) s (λ i p. refl) (λ i p. refl) in
    space_holds s.index (λ (row : Space). DataReadLeaves c (chip (data_read row c).1 t)) (
      λ l. record { register = λ e. refl; elsewhere = refl },
      (
        λ l. record { register = λ e. refl; elsewhere = refl },
        (λ l. record { register = λ e. absurd (omega arith); elsewhere = steps }, tt),
      ),
    )
    (λ out. record { register = λ e. refl; elsewhere = refl })

answers_leave : (r : Register) (c : Chip) → ReadLeaves r c (answers r c).left
unfolding told
answers_leave index_low c = refl
answers_leave index_high c = refl
answers_leave index_data c = data_read_leaves c
answers_leave not_served c = refl

pub read_leaves : (port : ℕ) (c : Chip) → ReadLeaves (register_at port) c (called (reads port) c).left
read_leaves port c =
    let r = register_at port in
    called_holds refusals does (reads port) c (ReadLeaves r c) (kept_by_read r c) (λ none. answers_leave r c)
