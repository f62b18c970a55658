-- THE RING IS EQUAL TO THE OLD QUEUE (request P7): "the same entries, oldest first, after each call, and the same
-- answers". A ring and an old queue that hold the same go on holding the same, whatever the calls. A look at the first
-- position is apart: there was none.
use Rattle.std.specs.Prelude.{◌<◌, ◌≤◌, ◌≡◌, Bool, true, false, List, eqb, length}
use Rattle.vocabulary.specs.Outcome.{Outcome}
use Rattle.vocabulary.specs.Reply.{telling}
use Rattle.vocabulary.specs.Run.{after, Alike, RunsAlike}
use Rattle.ms622424.specs.Ms622424.{Chip, with_first, Call, writes, reads, blanks, pixels, signals, resets, looks}
use Rattle.ms622424.specs.Ms622424.{called}
use Rattle.ms622424_places.specs.Places.{Handed, view, Does}
use Rattle.theorem_queue_unseen.specs.Made.{Made}
use Rattle.theorem_ring.specs.OldQueue.{Queue, colours_of, unused_zero, Old, old_called}

-- a look at the first position
abbrev pub is_first_look : Call → Bool
is_first_look (writes select byte) = false
is_first_look (reads select) = false
is_first_look (blanks slots) = false
is_first_look (pixels mode word) = false
is_first_look (signals s) = false
is_first_look resets = false
is_first_look (looks place) = eqb place 0xC

-- ---- Two rings

-- the same registers, waiting colours oldest first and map, wherever the first of them is
pub record Turned (c d : Chip) : Type 0 where
  pub but_first : c ≡ with_first c.lent.first d
  pub first : c.lent.first < 64
  pub other : d.lent.first < 64

-- ---- A ring and an old queue

-- an old queue as it always was: 64 places, no more waiting, the unused ones zero
pub record Orderly (q : Queue) : Type 0 where
  pub long : length q.places ≡ 64
  pub few : q.waiting ≤ 64
  pub zeros : unused_zero q ≡ true

-- the same registers, the same waiting colours oldest first, the same map
pub record SameAs (c : Chip) (o : Old) : Type 0 where
  pub port : c.port ≡ o.port
  pub control : c.control ≡ o.control
  pub ident : c.ident ≡ o.ident
  pub waiting : c.waiting ≡ colours_of o.queue
  pub map : c.map ≡ o.map
  pub places : c.lent.places ≡ 64
  pub first : c.lent.first < 64
  pub orderly : Orderly o.queue

-- chips that are so give every call the same reply, and leave chips that are so again; hence over any run of calls
abbrev pub AsOld : (Call → Chip → Outcome Chip) → Type 0
AsOld step = Alike step old_called is_first_look SameAs × RunsAlike step old_called is_first_look SameAs

abbrev pub AsTurned : (Call → Chip → Outcome Chip) → Type 0
AsTurned step = Alike step step is_first_look Turned × RunsAlike step step is_first_look Turned

-- they are so after a reset that was accepted, whatever stood in the places
abbrev pub SameFromReset : (Call → Chip → Outcome Chip) → Type 0
SameFromReset step =
    (c : Chip) (o : Old) → c.ident ≡ o.ident → c.map ≡ o.map → c.lent.places ≡ length o.queue.places
    → (step resets c).refusal ≡ 0 → SameAs (step resets c).left (old_called resets o).left

-- and of calls as a caller makes them, on the state and the tables that they hand on: after any of them so again, and
-- the next is told the same
abbrev pub CallerAsOld : Type 0
CallerAsOld =
    (h last : Handed) (o : Old) (calls : List Call) → SameAs (view h) o → Made h calls last
    → SameAs (view last) (after old_called calls o)
    × ((k : Call) (next : Outcome Handed) → is_first_look k ≡ false → Does last next (called k)
    → telling next ≡ telling (old_called k (after old_called calls o)))
