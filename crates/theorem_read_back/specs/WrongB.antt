-- Wrong chips in place of B, for the reading back to refuse.
use Rattle.std.specs.Prelude.{ℕ, Bool, true, false, List, map, eqb, take}
use Rattle.vocabulary.specs.Choice.{pick}
use Rattle.vocabulary.specs.Outcome.{Outcome}
use Rattle.ms622424.specs.Ms622424.{Chip, Entry, with_queue, all_stored, called}
use Rattle.ms622424.specs.Ms622424.{Call, writes, reads, blanks, pixels, signals, resets, looks}

-- the calls that take a colour or move one
abbrev pub moves_colours : Call → Bool
moves_colours (writes select byte) = eqb select 2
moves_colours (reads select) = false
moves_colours (blanks slots) = true
moves_colours (pixels mode word) = false
moves_colours (signals s) = false
moves_colours resets = false
moves_colours (looks place) = false

-- B's own calls, but for what an accepted blanking of so many slots leaves in the map
unfoldable pub spoilt : (ℕ → Chip → List ℕ) → Call → Chip → Outcome Chip
spoilt leaves (writes select byte) c = called (writes select byte) c
spoilt leaves (reads select) c = called (reads select) c
spoilt leaves (blanks slots) c =
    let o = called (blanks slots) c in
    record {
      refusal = o.refusal;
      value = o.value;
      count = o.count;
      line = o.line;
      left = with_queue o.left.waiting (pick (eqb o.refusal 0) (leaves slots c) c.map) o.left;
    }
spoilt leaves (pixels mode word) c = called (pixels mode word) c
spoilt leaves (signals s) c = called (signals s) c
spoilt leaves resets c = called resets c
spoilt leaves (looks place) c = called (looks place) c

-- one that stores what it moves with red and blue exchanged; one that stores nothing leaves the map
abbrev pub exchanged : Entry → Entry
exchanged e = record { address = e.address; red = e.blue; green = e.green; blue = e.red }

abbrev pub storing_exchanged : ℕ → Chip → List ℕ
storing_exchanged slots c = all_stored (map exchanged (take slots c.waiting)) c.map
