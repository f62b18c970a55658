-- What is written to chip C through port 6 reads back, on any chip in range and with auto-increment on or off.
use Rattle.std.specs.Prelude.{ℕ, ◌+◌, ◌/◌, ◌%◌, ◌<◌, ◌≡◌, List, [], ◌∷◌, ◌++◌, replicate}
use Rattle.vocabulary.specs.Run.{replies}
use Rattle.rgb640.specs.Rgb640.{Chip, InRange, Call, writes, reads, called}
use Rattle.theorem_read_back.specs.Told.{tells}

-- section 9.4.1.2: the low byte of the index is loaded before the high byte
abbrev pub pointing : ℕ → List Call
pointing index = writes 4 (index % 256) ∷ writes 5 (index / 256) ∷ []

-- an entry is written at 0x4000 plus its offset, and read at 0x8000 plus it
abbrev pub storing : ℕ → ℕ → ℕ → ℕ → List Call
storing e r g b = pointing (0x4000 + e) ++ (writes 6 r ∷ writes 6 g ∷ writes 6 b ∷ [])

abbrev pub recalling : ℕ → List Call
recalling e = pointing (0x8000 + e) ++ (reads 6 ∷ reads 6 ∷ reads 6 ∷ [])

-- For every entry and three bytes: the five writes, the two writes and the three reads are accepted, and the reads
-- answer the three bytes.
abbrev pub ReadsBack : Type 0
ReadsBack =
    (c : Chip) → InRange c → (e r g b : ℕ) → e < 1024 → r < 256 → g < 256 → b < 256
    → replies called (storing e r g b ++ recalling e) c
    ≡ replicate 7 (tells 0) ++ (tells r ∷ tells g ∷ tells b ∷ [])
