-- A look at a place, as the code knows it. Assumes nothing.
use Rattle.std.proofs.Common.{ℕ, ◌≡◌, ◌-◌, ◌<◌, ◌≤◌, List, length, get_or, refl, sym, arith}
use Rattle.vocabulary.specs.Face.{called_by}
use Rattle.vocabulary.specs.Look.{looking, seen, unseen, found}
use Rattle.vocabulary.specs.Refusal.{number}
use Rattle.vocabulary.specs.declared.Refusal.{Refusal}
use Rattle.vocabulary.proofs.Look.{look_stops}
use Rattle.vocabulary.proofs.Refusals.{number_positive}
use Rattle.rgb640.specs.declared.State.{State}
use Rattle.rgb640.specs.Rgb640.{chip, InRange, standing_of, look_places, looks, called}
use Rattle.rgb640.proofs.InRange.{stands_range}
use Rattle.rgb640.proofs.Look.{Tells, look_state, look_table, look_nowhere}

-- past what every call tries first the chip is in range, and its table whole
stands : (s : State) (t : List ℕ) → 0 ≡ standing_of (length t) s → InRange (chip s t)
stands s t f = stands_range s t (sym f)

pub table_whole : (s : State) (t : List ℕ) → 0 ≡ standing_of (length t) s → length t ≡ 3072
table_whole s t f = (stands s t f).table_whole

module _ (s : State) (t : List ℕ) (place : ℕ) where
  abbrev Tells_of : ℕ → Type 0
  Tells_of v = looking (seen v) (chip s t) ≡ called (looks place) (chip s t)

  -- refused by what every call tries first
  pub stopped : (r : Refusal) → number r ≡ standing_of (length t) s
      → looking (unseen (number r)) (chip s t) ≡ called (looks place) (chip s t)
  unfolding called_by
  stopped r f = look_stops _ _ (found (look_places (chip s t)) place) (chip s t) _ f (number_positive r) refl

  module _ (f : 0 ≡ standing_of (length t) s) where
    -- a place of the table, and one that is not there
    pub told_number : 0x10000 ≤ place → place < 0x10C00 → Tells_of (get_or t (place - 0x10000) 0)
    told_number l u = sym (look_table _ (stands s t f) place (place - 0x10000) (omega arith) (omega arith))

    pub told_nowhere : 8 ≤ place → (0x10000 ≤ place → place < 0x10C00 → ⊥)
        → looking (unseen 3) (chip s t) ≡ called (looks place) (chip s t)
    told_nowhere h o = sym (look_nowhere _ (stands s t f) place h o)

    -- a place of the state
    module _ (v : ℕ) where
      told_at : (k n : ℕ) → Tells (chip s t) (stands s t f) k n → place ≡ k → v ≡ n → Tells_of v
      told_at k n w e d = rw (e, d) (sym w)

      pub told_index : place ≡ 0x0 → v ≡ s.index → Tells_of v
      told_index e d = told_at _ _ (look_state _ (stands s t f)).0 e d

      pub told_place : place ≡ 0x1 → v ≡ s.place → Tells_of v
      told_place e d = told_at _ _ (look_state _ (stands s t f)).1 e d

      pub told_red : place ≡ 0x2 → v ≡ s.red → Tells_of v
      told_red e d = told_at _ _ (look_state _ (stands s t f)).2 e d

      pub told_green : place ≡ 0x3 → v ≡ s.green → Tells_of v
      told_green e d = told_at _ _ (look_state _ (stands s t f)).3 e d

      pub told_fetched_red : place ≡ 0x4 → v ≡ s.fetched.red → Tells_of v
      told_fetched_red e d = told_at _ _ (look_state _ (stands s t f)).4 e d

      pub told_fetched_green : place ≡ 0x5 → v ≡ s.fetched.green → Tells_of v
      told_fetched_green e d = told_at _ _ (look_state _ (stands s t f)).5 e d

      pub told_fetched_blue : place ≡ 0x6 → v ≡ s.fetched.blue → Tells_of v
      told_fetched_blue e d = told_at _ _ (look_state _ (stands s t f)).6 e d

      pub told_update : place ≡ 0x7 → v ≡ s.update → Tells_of v
      told_update e d = told_at _ _ (look_state _ (stands s t f)).7 e d

-- what a look tells
pub ruleset told = (
  stopped,
  table_whole,
  told_number,
  told_nowhere,
  told_index,
  told_place,
  told_red,
  told_green,
  told_fetched_red,
  told_fetched_green,
  told_fetched_blue,
  told_update,
)
