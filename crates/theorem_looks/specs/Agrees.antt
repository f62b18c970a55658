-- A LOOK AGREES WITH THE READS of a chip in range: it is accepted, answers what the read of the same register or table
-- would answer now, and leaves its chip. What no read tells alone (pointer, latches, the place in the order, how many
-- wait, the queue's first position, read mode) is in the table of places, and nowhere else.
use Rattle.std.specs.Prelude.{ℕ, ◌+◌, ◌*◌, ◌/◌, ◌%◌, ◌≤◌, ◌<◌, ◌≡◌}
use Rattle.vocabulary.specs.Outcome.{accepting}
use Rattle.vocabulary.specs.Run.{Accepted}
use Rattle.hd153108.specs.Hd153108 as A
use Rattle.ms622424.specs.Ms622424 as B
use Rattle.rgb640.specs.Rgb640 as C

-- ---- Chip A
module _ (c : A.Chip) where
  -- what a read of a select answers
  abbrev pub read_a : ℕ → ℕ
  read_a select = (A.called (A.reads select) c).value

  abbrev pub TellsA : ℕ → ℕ → Type 0
  TellsA place n = A.called (A.looks place) c ≡ accepting n 0 c

  pub record AgreesA : Type 0 where
    pub address : TellsA 0x0 (read_a 0)
    pub readmask : TellsA 0x4 (read_a 4)
    pub blinkmask : TellsA 0x5 (read_a 5)
    pub control : TellsA 0x6 (read_a 6)
    pub timing : TellsA 0x7 (read_a 7)
    -- the byte under address and pointer
    pub overlay : TellsA (0x100 + (3 * (c.state.address % 4) + c.state.pointer)) (read_a 3)
    pub colour : TellsA (0x1000 + (3 * c.state.address + c.state.pointer)) (read_a 1)

-- ---- Chip B
module _ (c : B.Chip) where
  abbrev pub read_b : ℕ → ℕ
  read_b select = (B.called (B.reads select) c).value

  abbrev pub TellsB : ℕ → ℕ → Type 0
  TellsB place n = B.called (B.looks place) c ≡ accepting n 0 c

  pub record AgreesB : Type 0 where
    pub address : TellsB 0x0 (256 * read_b 1 + read_b 0)
    -- the status has the counter in its two low bits
    pub counter : TellsB 0x1 (read_b 4 % 4)
    pub red : c.port.counter ≡ 0 → TellsB 0x2 (read_b 5)
    pub green : c.port.counter ≡ 1 → TellsB 0x3 (read_b 5)
    pub command : TellsB 0x4 (read_b 3)
    pub revision : TellsB 0x6 (read_b 6 % 16)
    pub board : TellsB 0x7 (read_b 6 / 16)
    -- a table read that is accepted, so in read mode with nothing waiting; the look answers outside it too
    pub map : Accepted B.called (B.reads 2) c → TellsB (0x10000 + (3 * c.port.address + c.port.counter)) (read_b 2)

-- ---- Chip C
module _ (c : C.Chip) where
  abbrev pub read_c : ℕ → ℕ
  read_c port = (C.called (C.reads port) c).value

  abbrev pub TellsC : ℕ → ℕ → Type 0
  TellsC place n = C.called (C.looks place) c ≡ accepting n 0 c

  pub record AgreesC : Type 0 where
    pub index : TellsC 0x0 (256 * read_c 5 + read_c 4)
    pub update : c.state.index ≡ 0x000E → TellsC 0x7 (read_c 6)
    -- a data read tells eight of the ten bits of the fetched entry's next number
    pub fetched : 0x8000 ≤ c.state.index → c.state.index < 0x8400
        → (C.called (C.looks (0x4 + c.state.place)) c).value / 4 ≡ read_c 6

pub record LooksAgree : Type 0 where
  pub a : (c : A.Chip) → A.InRange c → AgreesA c
  pub b : (c : B.Chip) → B.InRange c → AgreesB c
  pub c : (c : C.Chip) → C.InRange c → AgreesC c
