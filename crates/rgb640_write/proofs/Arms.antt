-- How the write's arms end, as the code knows it: what a leaf promised, what a test said. Assumes nothing.
use Prim.Native.Nat.{ℕ, ◌+◌, ◌*◌, ◌/◌, ◌%◌, ◌≤◌, ◌<◌}
use mathlib.Core.Path.{◌≡◌, refl, sym, ap, ◌∙◌}
use mathlib.Core.List.{List, [], ◌∷◌}
use lib.ListN.{length}
use Rattle.vocabulary.specs.Face.{called_by}
use Rattle.vocabulary.specs.Outcome.{accepting}
use Rattle.vocabulary.specs.Range.{below}
use Rattle.vocabulary.specs.Refusal.{number}
use Rattle.vocabulary.specs.declared.Refusal.{Refusal}
use Rattle.vocabulary.proofs.Refusals.{number_positive}
use Rattle.rgb640.specs.declared.State.{State}
use Rattle.rgb640.specs.declared.Answer.{Answer}
use Rattle.rgb640.specs.Rgb640.{chip, at, updating, index_data, register_at, three_bytes}
use Rattle.rgb640.specs.Rgb640.{palette_taken, Space, update_control, palette_write, prefetched, wrote, no_port}
use Rattle.rgb640.specs.Rgb640.{standing_of, accept, refuse, outcome, writes, called, InRange}
use Rattle.rgb640.proofs.Index.{space_update, space_write, unwritten, no_register_lem}
use Rattle.rgb640.proofs.InRange.{stands_range}
use Rattle.rgb640.proofs.Access as Access
use Rattle.rgb640.proofs.Access.{byte_passes, write_index, write_data}

module _ (s : State) (t : List ℕ) (b : ℕ) (h : b < 256) (a : Answer) where
  -- ---- Port 6
  module _ (r : InRange (chip s t)) where
    pub update_written : s.index ≡ 0x000E → a ≡ accept 0 (updating s b)
        → outcome a t ≡ called (writes 6 b) (chip s t)
    unfolding update_control
    update_written i e =
        rw e (write_data _ r b h (ap (λ (row : Space). row.on_write) (space_update _ i)))

    pub palette_written : {m : State} (u : List ℕ) → 0x4000 ≤ s.index → s.index < 0x4400 → a ≡ accept 0 m
        → chip m u ≡ palette_taken three_bytes b (chip s t) → outcome a u ≡ called (writes 6 b) (chip s t)
    unfolding palette_write
    palette_written u i j e f =
        rw e (ap (accepting 0 0) f
        ∙ write_data _ r b h (ap (λ (row : Space). row.on_write) (space_write _ i j)))

    pub not_written : a ≡ refuse 4 s → (s.index ≡ 0x000E → ⊥) → (0x4000 ≤ s.index → s.index < 0x4400 → ⊥)
        → outcome a t ≡ called (writes 6 b) (chip s t)
    unfolding called_by register_at
    not_written e i j =
        rw e (Access.no_index_lem (below b 256 ∷ []) index_data _ _ _ r (byte_passes _ r b h) refl (unwritten _ i j))

  -- ---- Any port, by what is tried first
  module _ (port : ℕ) where
    pub stopped : (r : Refusal) → number r ≡ standing_of (length t) s → a ≡ refuse (number r) s
        → outcome a t ≡ called (writes port b) (chip s t)
    unfolding called_by
    stopped r f e =
        rw e (Access.stopped (below b 256 ∷ []) (register_at port) _ (chip s t) _ f (number_positive r))

    module _ (f : 0 ≡ standing_of (length t) s) where
      pub low_written : port ≡ 4 → a ≡ accept 0 (at s (s.index / 256 * 256 + b) s.place)
          → outcome a t ≡ called (writes port b) (chip s t)
      unfolding register_at wrote
      low_written p e = rw (p, e) (write_index (chip s t) (stands_range s t (sym f)) b h 4 refl refl)

      pub high_written : {m : State} → port ≡ 5 → a ≡ accept 0 m
          → m ≡ prefetched t (at s (b * 256 + s.index % 256) 0) → outcome a t ≡ called (writes port b) (chip s t)
      unfolding register_at wrote
      high_written p e k =
          rw (p, e) (ap (λ (m : State). accepting 0 0 (chip m t)) k
          ∙ write_index (chip s t) (stands_range s t (sym f)) b h 5 refl refl)

      pub no_port_lem : (port ≡ 4 → ⊥) → (port ≡ 5 → ⊥) → (port ≡ 6 → ⊥) → a ≡ refuse 3 s
          → outcome a t ≡ called (writes port b) (chip s t)
      unfolding called_by
      no_port_lem x y z e =
          let r = stands_range s t (sym f) in
          rw e (Access.no_port_lem (below b 256 ∷ []) (register_at port) _ _ _ r (byte_passes _ r b h)
          (ap no_port (no_register_lem port x y z)))

pub data_written_lem : (s : State) (t u : List ℕ) (port b : ℕ) (a : Answer) → port ≡ 6
    → outcome a u ≡ called (writes 6 b) (chip s t) → outcome a u ≡ called (writes port b) (chip s t)
data_written_lem s t u port b a p e = rw p e

-- ---- Past what is tried first
pub table_whole : (s : State) (t : List ℕ) → 0 ≡ standing_of (length t) s → length t ≡ 3072
table_whole s t f = (stands_range s t (sym f)).table_whole

pub stands : (s : State) (t : List ℕ) → 0 ≡ standing_of (length t) s → InRange (chip s t)
stands s t f = stands_range s t (sym f)

-- what a write of port 6 ends by, and one of any port
pub ruleset data_ends = (update_written, palette_written, not_written)

pub ruleset ends = (stopped, low_written, high_written, data_written_lem, no_port_lem, table_whole, stands)
