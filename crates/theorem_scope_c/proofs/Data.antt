-- Port 6 of the RGB640 in the table's two spaces, as document 01 has it. Assumes nothing.
use Prim.Native.Nat.{ℕ, ◌+◌, ◌/◌, ◌<◌}
use mathlib.Core.Path.{◌≡◌, refl, sym, ap, ◌∙◌}
use mathlib.Core.List.{List}
use native.Mathlib.Omega.{arith}
use Rattle.vocabulary.specs.Component.{put}
use Rattle.vocabulary.specs.Line.{line}
use Rattle.vocabulary.specs.Outcome.{accepting}
use Rattle.expand.proofs.Rules.{ten_eight}
use Rattle.rgb640.specs.declared.State.{State}
use Rattle.rgb640.specs.declared.Answer.{Answer}
use Rattle.rgb640.specs.Rgb640.{Chip, chip, InRange, entry, next, offset, three_bytes, palette_taken, palette_told}
use Rattle.rgb640.specs.Rgb640.{Space, palette_write, palette_read, accept, accept_told, outcome, writes, reads, called}
use Rattle.rgb640.specs.Rgb640.{restarted, writing, reading, fetches_nothing, fetches_entry}
use Rattle.rgb640.proofs.Index.{space_write, space_read}
use Rattle.rgb640.proofs.Order.{red_latched, green_latched, blue_stored, red_told, green_told, blue_told, steps}
use Rattle.rgb640.proofs.Order.{stays}
use Rattle.rgb640.proofs.Order.{write_enabled, write_disabled, read_enabled, read_disabled}
use Rattle.rgb640.proofs.Access.{write_data, read_data}
use Rattle.theorem_scope_c.specs.Scope.{Write, Read, at, fetching, with_table, storing, entry_of, expanded}

-- at entry e's index
module _ (c : Chip) (r : InRange c) (e : ℕ) (l : e < 1024) where
  abbrev s : State
  s = c.state

  -- ---- written
  module _ (i : s.index ≡ 0x4000 + e) where
    taken : (b : ℕ) → b < 256 → (d : Chip) → d ≡ palette_taken three_bytes b c → called (writes 6 b) c ≡ accepting 0 0 d
    unfolding palette_write
    taken b h d f =
        sym (write_data c r b h (ap (λ (row : Space). row.on_write) (space_write _ (omega arith) (omega arith))))
        ∙ ap (λ (n : Chip). accepting 0 0 n) (sym f)

    full : ℕ → List ℕ
    full b = storing e s.red s.green (expanded b) c.table

    -- the third, which leaves a state; and where the index steps, which index
    stored : (b : ℕ) → b < 256 → s.place ≡ 2 → (n : State) → n ≡ restarted writing (fetches_nothing (full b)) s
        → called (writes 6 b) c ≡ accepting 0 0 (chip n (full b))
    unfolding full put
    stored b h p n f =
        let same : offset s.index ≡ e = omega arith in
        taken b h _ (blue_stored s c.table b (sym (ten_eight b h)) p (rw same refl) f)

    stored_steps : (b : ℕ) → b < 256 → s.place ≡ 2 → line s.update 1 ≡ 0 → (j : ℕ) → j ≡ next s.index
        → called (writes 6 b) c ≡ accepting 0 0 (with_table (full b) (at j 0 s.red s.green c))
    stored_steps b h p u j f =
        stored b h p _
        (ap (λ (m : ℕ). (at m 0 s.red s.green c).state) f ∙ sym (steps writing _ s (write_enabled _ u)))

    pub write_rows : Write called e c
    unfolding full
    write_rows = record {
      red_write = λ b h p. taken b h _ (rw (sym i) (red_latched s c.table b (sym (ten_eight b h)) p));
      green_write = λ b h p. taken b h _ (rw (sym i) (green_latched s c.table b (sym (ten_eight b h)) p));
      blue_write_steps = λ b h p u. stored_steps b h p u _ (omega arith);
      blue_write_stays = λ b h p u. stored b h p _ (rw (sym i) (sym (stays writing _ s (write_disabled _ u))));
    }

  -- ---- read
  module _ (i : s.index ≡ 0x8000 + e) where
    told : (a : Answer) → a ≡ accept_told (palette_told three_bytes c) → called (reads 6) c ≡ outcome a c.table
    unfolding palette_read
    told a f =
        sym (read_data c r (ap (λ (row : Space). row.on_read) (space_read _ (omega arith) (omega arith))))
        ∙ ap (λ (n : Answer). outcome n c.table) (sym f)

    -- the third, likewise
    third : s.place ≡ 2 → (n : State) → n ≡ restarted reading (fetches_entry c.table) s
        → called (reads 6) c ≡ outcome (accept (s.fetched.blue / 4) n) c.table
    third p n f = told _ (blue_told s c.table p refl f)

    third_steps : s.place ≡ 2 → line s.update 2 ≡ 0 → (m : ℕ) → m < 1024 → 0x8000 + m ≡ next s.index
        → called (reads 6) c
        ≡ accepting (s.fetched.blue / 4) 0
        (fetching (entry_of m c.table) (at (0x8000 + m) 0 s.red s.green c))
    unfolding entry
    third_steps p u m h j =
        let o : offset (next s.index) ≡ m = omega (arith, j) in
        third p _ (rw (j, o) refl ∙ sym (steps reading _ s (read_enabled _ u)))

    pub read_rows : Read called e c
    read_rows = record {
      red_read = λ p. told _ (red_told s c.table p (rw (sym i) refl));
      green_read = λ p. told _ (green_told s c.table p (rw (sym i) refl));
      blue_read_steps = λ p u. third_steps p u _ (omega arith) (omega arith);
      blue_read_stays = λ p u. third p _ (rw (sym i) (sym (stays reading _ s (read_disabled _ u))));
    }
