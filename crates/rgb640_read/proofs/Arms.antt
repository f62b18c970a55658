-- How the read's arms end, as the code knows it: what a leaf promised, what a test said. Assumes nothing.
use Prim.Native.Nat.{ℕ, ◌/◌, ◌%◌, ◌≤◌, ◌<◌}
use mathlib.Core.Path.{◌≡◌, refl, sym, ap, ◌∙◌}
use mathlib.Core.List.{List, []}
use lib.Bits.{bit_and}
use lib.ListN.{length}
use Rattle.vocabulary.specs.Face.{called_by}
use Rattle.vocabulary.specs.Refusal.{number}
use Rattle.vocabulary.specs.declared.Refusal.{Refusal}
use Rattle.vocabulary.proofs.Refusals.{number_positive}
use Rattle.rgb640.specs.declared.State.{State}
use Rattle.rgb640.specs.declared.Answer.{Answer}
use Rattle.rgb640.specs.Rgb640.{chip, at, index_data, register_at, reading, next, fetches_entry, three_bytes, restarted}
use Rattle.rgb640.specs.Rgb640.{palette_told, Space, update_control, palette_read, told, no_port, standing_of}
use Rattle.rgb640.specs.Rgb640.{accept, accept_told, refuse, outcome, reads, called, InRange}
use Rattle.rgb640.proofs.Index.{space_update, space_read, unread, no_register_lem}
use Rattle.rgb640.proofs.Order.{steps, stays, read_steps, read_stays, last_place, red_told, green_told, blue_told}
use Rattle.rgb640.proofs.InRange.{stands_range}
use Rattle.rgb640.proofs.Access as Access
use Rattle.rgb640.proofs.Access.{state_passes, read_index, read_data}

module _ (s : State) (t : List ℕ) where
  -- ---- After the last transfer
  pub index_steps : {i : ℕ} {n : State} → bit_and s.update 4 ≡ 0 → i ≡ next s.index
      → n ≡ fetches_entry t (at s i 0) → n ≡ restarted reading (fetches_entry t) s
  index_steps e f g =
      g ∙ ap (λ (i : ℕ). fetches_entry t (at s i 0)) f ∙ sym (steps reading _ s (read_steps s.update e))

  pub index_stays : (bit_and s.update 4 ≡ 0 → ⊥) → at s s.index 0 ≡ restarted reading (fetches_entry t) s
  index_stays e = sym (stays reading _ s (read_stays s.update e))

  module _ (a : Answer) where
    -- ---- Port 6
    module _ (r : InRange (chip s t)) where
      pub update_read : s.index ≡ 0x000E → a ≡ accept s.update s → outcome a t ≡ called (reads 6) (chip s t)
      unfolding update_control
      update_read i e =
          rw e (read_data _ r (ap (λ (row : Space). row.on_read) (space_update _ i)))

      pub palette_read_lem : 0x8000 ≤ s.index → s.index < 0x8400 → a ≡ accept_told (palette_told three_bytes (chip s t))
          → outcome a t ≡ called (reads 6) (chip s t)
      unfolding palette_read
      palette_read_lem i j e =
          rw e (read_data _ r (ap (λ (row : Space). row.on_read) (space_read _ i j)))

      pub not_read : a ≡ refuse 4 s → (s.index ≡ 0x000E → ⊥) → (0x8000 ≤ s.index → s.index < 0x8400 → ⊥)
          → outcome a t ≡ called (reads 6) (chip s t)
      unfolding called_by register_at
      not_read e i j =
          rw e (Access.no_index_lem [] index_data _ _ _ r (state_passes _ r) refl (unread _ i j))

    -- ---- Any port, by what is tried first
    module _ (port : ℕ) where
      pub stopped : (r : Refusal) → number r ≡ standing_of (length t) s → a ≡ refuse (number r) s
          → outcome a t ≡ called (reads port) (chip s t)
      unfolding called_by
      stopped r f e = rw e (Access.stopped [] (register_at port) _ (chip s t) _ f (number_positive r))

      module _ (f : 0 ≡ standing_of (length t) s) where
        pub low_read : port ≡ 4 → a ≡ accept (s.index % 256) s → outcome a t ≡ called (reads port) (chip s t)
        unfolding register_at told
        low_read p e = rw (p, e) (read_index (chip s t) (stands_range s t (sym f)) 4 refl refl)

        pub high_read : port ≡ 5 → a ≡ accept (s.index / 256) s → outcome a t ≡ called (reads port) (chip s t)
        unfolding register_at told
        high_read p e = rw (p, e) (read_index (chip s t) (stands_range s t (sym f)) 5 refl refl)

        pub no_port_lem : (port ≡ 4 → ⊥) → (port ≡ 5 → ⊥) → (port ≡ 6 → ⊥) → a ≡ refuse 3 s
            → outcome a t ≡ called (reads port) (chip s t)
        unfolding called_by
        no_port_lem x y z e =
            let r = stands_range s t (sym f) in
            rw e (Access.no_port_lem [] (register_at port) _ _ _ r (state_passes _ r)
            (ap no_port (no_register_lem port x y z)))

      pub data_read_lem : port ≡ 6 → outcome a t ≡ called (reads 6) (chip s t)
          → outcome a t ≡ called (reads port) (chip s t)
      data_read_lem p e = rw p e

  -- past what is tried first
  pub stands : 0 ≡ standing_of (length t) s → InRange (chip s t)
  stands f = stands_range s t (sym f)

  pub table_whole : 0 ≡ standing_of (length t) s → length t ≡ 3072
  table_whole f = (stands f).table_whole

-- how the order restarts, each transfer of it, what a read of port 6 ends by, and one of any port
pub ruleset restarts = (index_steps, index_stays)

pub ruleset transfers = (last_place, red_told, green_told, blue_told)

pub ruleset data_ends = (update_read, palette_read_lem, not_read)

pub ruleset ends = (stopped, low_read, high_read, data_read_lem, no_port_lem, stands, table_whole)
