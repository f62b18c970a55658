-- THE PREMISES OF DEMAND 3 CAN BE MET: what a run has to show for that, and a chip to start from.
use Rattle.std.specs.Prelude.{ℕ, suc, ◌^◌, ◌<◌, ◌≡◌, List, [], ◌∷◌, ◌++◌, map, length, replicate}
use Rattle.vocabulary.specs.Run.{after, Accepted}
use Rattle.ms622424.specs.Ms622424.{Chip, Call, writes, reads, blanks, pixels, called}
use Rattle.theorem_queue_unseen.specs.Unseen.{NoReset, ReadsNoWaiting}

-- bytes for the palette, one after another
abbrev pub for_palette : List ℕ → List Call
for_palette bytes = map (writes 2) bytes

-- the queue emptied, then read mode
abbrev pub emptied : List Call
emptied = blanks 64 ∷ writes 7 0 ∷ []

-- a run without a reset that leaves 64 waiting: one byte more forces a transfer of four, pixels of modes 1 to 3 read no
-- waiting address, and after blanking the table is read
pub record Met (start : Chip) (calls : List Call) : Type 0 where
  pub run : NoReset calls start
  pub full : length (after called calls start).waiting ≡ 64
  pub transfer : (byte : ℕ) → byte < 256
      → let now = after called calls start in
      Accepted called (writes 2 byte) now × ((called (writes 2 byte) now).count ≡ 4)
  pub pixel : (mode word : ℕ) → mode < 3 → word < 2 ^ 24
      → let now = after called calls start in
      Accepted called (pixels (suc mode) word) now × ReadsNoWaiting (suc mode) word now
  pub longer : NoReset (calls ++ emptied) start
  pub read : Accepted called (reads 2) (after called (calls ++ emptied) start)

-- every number 0
abbrev pub zeros : Chip
zeros = record {
  port = record { address = 0; counter = 0; red = 0; green = 0 };
  control = record { command = 0; readmode = 0 };
  ident = record { revision = 0; board = 0 };
  waiting = [];
  map = replicate 24576 0;
  lent = record { places = 64; first = 0 };
}
