-- A look at a place, as the code knows it. Assumes nothing.
use Rattle.std.proofs.Common.{ℕ, ◌≡◌, ◌-◌, ◌<◌, ◌≤◌, List, [], ◌∷◌, length, get_or, refl, sym, ◌∙◌, arith}
use Rattle.vocabulary.specs.Face.{called_by}
use Rattle.vocabulary.specs.Look.{looking, seen, unseen, found}
use Rattle.vocabulary.specs.Range.{equal, fails}
use Rattle.vocabulary.specs.Refusal.{number, refusal_of, standing}
use Rattle.vocabulary.specs.declared.Refusal.{Refusal}
use Rattle.vocabulary.proofs.Look.{look_stops}
use Rattle.vocabulary.proofs.Refusals.{number_positive}
use Rattle.ms622424.specs.Ms622424.{Chip, InRange, outside, look_places, looks, called}
use Rattle.ms622424.proofs.InRange.{past}
use Rattle.ms622424.proofs.Look.{Tells, look_state, look_map, look_nowhere}
use Rattle.ms622424_places.specs.declared.State.{State}
use Rattle.ms622424_places.specs.Places.{handed, view}
use Rattle.ms622424_places.proofs.Places.{how_many}

-- the refusal of what every call that is lent the map tries first
abbrev pub tried_first : State → List ℕ → List ℕ → ℕ
tried_first s q m =
    refusal_of (standing (fails (equal (length q) 64 ∷ equal (length m) 24576 ∷ [])) (outside (view (handed s q []))))

-- past it the chip is in range, and its map whole
stands : (s : State) (q m : List ℕ) → 0 ≡ tried_first s q m → InRange (view (handed s q m))
stands s q m f = past (view (handed s q m)) f refl

pub map_whole : (s : State) (q m : List ℕ) → 0 ≡ tried_first s q m → length m ≡ 24576
map_whole s q m f = (stands s q m f).size

module _ (s : State) (q m : List ℕ) (place : ℕ) where
  abbrev given : Chip
  given = view (handed s q m)

  abbrev Tells_of : ℕ → Type 0
  Tells_of v = looking (seen v) given ≡ called (looks place) given

  -- refused by what every call tries first
  pub stopped : (r : Refusal) → number r ≡ tried_first s q m
      → looking (unseen (number r)) given ≡ called (looks place) given
  unfolding called_by
  stopped r f = look_stops _ _ (found (look_places given) place) given _ f (number_positive r) refl

  module _ (f : 0 ≡ tried_first s q m) where
    -- a byte of the map, and a place that is not there
    pub told_byte : 0x10000 ≤ place → place < 0x16000 → (v : ℕ) → v ≡ get_or m (place - 0x10000) 0 → Tells_of v
    told_byte l u v e =
        rw e (sym (look_map _ (stands s q m f) place (place - 0x10000) (omega arith) (omega arith)))

    pub told_nowhere : 9 ≤ place → (place ≡ 0xC → ⊥) → (0x10000 ≤ place → place < 0x16000 → ⊥)
        → looking (unseen 3) given ≡ called (looks place) given
    told_nowhere h i o = sym (look_nowhere _ (stands s q m f) place h i o)

    -- a place of the state
    module _ (v : ℕ) where
      told_at : (k n : ℕ) → Tells given (stands s q m f) k n → place ≡ k → v ≡ n → Tells_of v
      told_at k n w e d = rw (e, d) (sym w)

      pub told_address : place ≡ 0x0 → v ≡ s.port.address → Tells_of v
      told_address e d = told_at _ _ (look_state _ (stands s q m f)).0 e d

      pub told_counter : place ≡ 0x1 → v ≡ s.port.counter → Tells_of v
      told_counter e d = told_at _ _ (look_state _ (stands s q m f)).1 e d

      pub told_red : place ≡ 0x2 → v ≡ s.port.red → Tells_of v
      told_red e d = told_at _ _ (look_state _ (stands s q m f)).2 e d

      pub told_green : place ≡ 0x3 → v ≡ s.port.green → Tells_of v
      told_green e d = told_at _ _ (look_state _ (stands s q m f)).3 e d

      pub told_command : place ≡ 0x4 → v ≡ s.control.command → Tells_of v
      told_command e d = told_at _ _ (look_state _ (stands s q m f)).4 e d

      pub told_readmode : place ≡ 0x5 → v ≡ s.control.readmode → Tells_of v
      told_readmode e d = told_at _ _ (look_state _ (stands s q m f)).5 e d

      pub told_revision : place ≡ 0x6 → v ≡ s.ident.revision → Tells_of v
      told_revision e d = told_at _ _ (look_state _ (stands s q m f)).6 e d

      pub told_board : place ≡ 0x7 → v ≡ s.ident.board → Tells_of v
      told_board e d = told_at _ _ (look_state _ (stands s q m f)).7 e d

      -- how many wait
      pub told_waiting : place ≡ 0x8 → v ≡ s.fifo.waiting → Tells_of v
      told_waiting e d = told_at _ _ (look_state _ (stands s q m f)).8 e (d ∙ sym (how_many s.fifo q))

      pub told_first : place ≡ 0xC → v ≡ s.fifo.first → Tells_of v
      told_first e d = told_at _ _ (look_state _ (stands s q m f)).9 e d

-- what a look tells
pub ruleset told = (
  stopped,
  map_whole,
  told_byte,
  told_nowhere,
  told_address,
  told_counter,
  told_red,
  told_green,
  told_command,
  told_readmode,
  told_revision,
  told_board,
  told_waiting,
  told_first,
)
