-- What is written to chip B reads back, whatever waited before and whatever is done in between. It is said of any chip
-- that takes B's calls, by what a call leaves and tells (`step`; B's own is `called`), so that it can be put to wrong
-- ones. It refuses a chip whose transfer stores nothing, and one that exchanges the guns in buffer, place and map
-- alike (proofs/Impostors.antt).
use Rattle.std.specs.Prelude.{ℕ, ◌/◌, ◌%◌, ◌<◌, ◌≤◌, ◌≡◌, true, not, List, [], ◌∷◌, ◌++◌, eqb, length, replicate}
use Rattle.vocabulary.specs.Choice.{pick}
use Rattle.vocabulary.specs.Every.{every}
use Rattle.vocabulary.specs.Outcome.{Outcome}
use Rattle.vocabulary.specs.Run.{after, Along, Accepted, where_accepted, replies}
use Rattle.ms622424.specs.Ms622424.{Chip, Entry, InRange, entries, Call, writes, reads, blanks}
use Rattle.theorem_queue_unseen.specs.Unseen.{is_reset, completes}
use Rattle.theorem_read_back.specs.Told.{tells, counts}

-- the address, low byte and high byte
abbrev pub pointing : ℕ → List Call
pointing a = writes 0 (a % 256) ∷ writes 1 (a / 256) ∷ []

-- a colour is written outside read mode; and read in it, once blanking has moved what waits
abbrev pub storing : ℕ → ℕ → ℕ → ℕ → List Call
storing a r g b = reads 7 ∷ (pointing a ++ (writes 2 r ∷ writes 2 g ∷ writes 2 b ∷ []))

abbrev pub recalling : ℕ → ℕ → List Call
recalling slots a = blanks slots ∷ writes 7 0 ∷ (pointing a ++ (reads 2 ∷ reads 2 ∷ reads 2 ∷ []))

module _ (step : Call → Chip → Outcome Chip) where
  -- a call in between: any but an accepted reset and one that completes a colour for the address
  abbrev pub Apart : ℕ → Call → Chip → Type 0
  Apart a k c =
      ¬ ((is_reset k ≡ true) × Accepted step k c)
      × (every (λ (e : Entry). not (eqb e.address a)) (where_accepted step completes k c) ≡ true)

  -- For every address and three bytes: the six calls that write them are accepted, the red byte counting four moves
  -- where 64 waited; then come any such calls; then blanking with a slot for each that waits (64 always do), which
  -- counts them all, read mode, the address again, and three reads: all are accepted, and the reads answer the three
  -- bytes.
  abbrev pub ReadsBack : Type 0
  ReadsBack =
      (c : Chip) → InRange c → (a r g b : ℕ) → a < entries → r < 256 → g < 256 → b < 256
      → (between : List Call) (slots : ℕ)
      → let written = after step (storing a r g b) c in
      let now = after step between written in
      Along step (Apart a) between written → length now.waiting ≤ slots → slots < 65536
      → (replies step (storing a r g b) c
      ≡ tells 0 ∷ tells 0 ∷ tells 0 ∷ counts (pick (eqb (length c.waiting) 64) 4 0) ∷ tells 0 ∷ tells 0 ∷ [])
      × (replies step (recalling slots a) now
      ≡ counts (length now.waiting) ∷ (replicate 3 (tells 0) ++ (tells r ∷ tells g ∷ tells b ∷ [])))
