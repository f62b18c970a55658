-- Document 01, "Both sides of each edge": p1 to p12, as one list. The expansions are the outcomes that the expander
-- promises; a status is what a read of select 4 answers, on every chip in range with so many waiting.
use Rattle.std.specs.Prelude.{ℕ, ◌*◌, ◌≡◌, length, replicate}
use Rattle.vocabulary.specs.Line.{line}
use Rattle.vocabulary.specs.Outcome.{accepting}
use Rattle.expand.specs.Expand.{expansion}
use Rattle.vocabulary.specs.Run.{Accepted}
use Rattle.ms622424.specs.Ms622424.{Chip, Entry, InRange, entries, reads, resets, called}

-- w bits expand to so many
abbrev pub Expands : ℕ → ℕ → ℕ → Type 0
Expands w v t = expansion w v ≡ accepting t 0 tt

-- the status read answers a byte, and moves nothing
abbrev pub Answers : Chip → ℕ → Type 0
Answers c byte = called (reads 4) c ≡ accepting byte 0 c

-- just after an accepted reset
abbrev pub Fresh : ℕ → Type 0
Fresh byte =
    (c : Chip) → length c.map ≡ 3 * entries → Accepted called resets c → Answers (called resets c).left byte

-- with command bit 4 and the counter 0, so many waiting
abbrev pub Status : ℕ → ℕ → ℕ → Type 0
Status bit waiting byte =
    (c : Chip) → InRange c → line c.control.command 4 ≡ bit → c.port.counter ≡ 0
    → length c.waiting ≡ waiting → Answers c byte

pub record Edges : Type 0 where
  pub p1 : Expands 8 63 252
  pub p2 : Expands 8 64 257
  pub p3 : Expands 8 128 514
  pub p4 : Expands 8 255 1023
  pub p5 : Expands 6 4 65
  pub p6 : Expands 6 63 1023
  pub p7 : Fresh 0x18
  pub p8 : Status 0 31 0x1C
  pub p9 : Status 0 32 0x14
  pub p10 : Status 0 64 0x04
  pub p11 : Status 1 55 0x1C
  pub p12 : Status 1 56 0x14

-- a chip of zeros with such a command and so many waiting, all of them black: one is in range for every command and up
-- to 64 (`edge_met`), so that the edges speak of chips that are there
abbrev pub black : Entry
black = record { address = 0; red = 0; green = 0; blue = 0 }

abbrev pub waiting_chip : ℕ → ℕ → Chip
waiting_chip command waiting = record {
  port = record { address = 0; counter = 0; red = 0; green = 0 };
  control = record { command = command; readmode = 0 };
  ident = record { revision = 0; board = 0 };
  waiting = replicate waiting black;
  map = replicate 24576 0;
  lent = record { places = 64; first = 0 };
}
