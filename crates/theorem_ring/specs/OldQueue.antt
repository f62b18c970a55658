-- THE QUEUE BEFORE REQUEST P7, a definition without code: 64 places, the oldest entry at place 0 and the others behind
-- it in their order, every unused place zero; when the oldest has gone, the rest moves down. What a call answers, and
-- does to registers and map, is the MS622424's own definition, of the colours that these places hold.
use Rattle.std.specs.Prelude.{ℕ, zero, suc, ◌+◌, ◌-◌, min, Bool, List, [], ◌∷◌, ◌++◌, eqb, length, take, drop, set, replicate}
use Rattle.vocabulary.specs.Choice.{pick}
use Rattle.vocabulary.specs.Component.{Component, red, green, blue}
use Rattle.vocabulary.specs.Every.{every}
use Rattle.vocabulary.specs.Face.{called_by}
use Rattle.vocabulary.specs.Outcome.{Outcome}
use Rattle.vocabulary.specs.Refusal.{Row}
use Rattle.ms622424.specs.declared.Port.{Port}
use Rattle.ms622424.specs.declared.Control.{Control}
use Rattle.ms622424.specs.declared.Ident.{Ident}
use Rattle.ms622424.specs.Ms622424.{Chip, Entry, chip, completed, selected, refusals, does}
use Rattle.ms622424.specs.Ms622424.{Call, writes, reads, blanks, pixels, signals, resets, looks}
use Rattle.ms622424_places.specs.Places.{packed, entries_in}

-- ---- The places

pub record Queue : Type 0 where
  pub waiting : ℕ
  pub places : List ℕ

abbrev pub queue : ℕ → List ℕ → Queue
queue waiting places = record { waiting = waiting; places = places }

-- the waiting colours, the oldest first; and the places behind them
abbrev pub colours_of : Queue → List Entry
colours_of q = entries_in (take q.waiting q.places)

abbrev pub is_zero : ℕ → Bool
is_zero n = eqb n 0

abbrev pub unused_zero : Queue → Bool
unused_zero q = every is_zero (drop q.waiting q.places)

-- empty; an entry put behind the others; the oldest gone and the rest moved down, a zero at the end; so many gone
abbrev pub emptied : Queue
emptied = queue 0 (replicate 64 0)

abbrev pub put_behind : Entry → Queue → Queue
put_behind e q = queue (q.waiting + 1) (set q.places q.waiting (packed e))

abbrev pub moved_down : Queue → Queue
moved_down q = queue (q.waiting - 1) (drop 1 q.places ++ (0 ∷ []))

unfoldable pub gone : ℕ → Queue → Queue
gone zero q = q
gone (suc n) q = gone n (moved_down q)

-- ---- The chip with it

pub record Old : Type 0 where
  pub port : Port
  pub control : Control
  pub ident : Ident
  pub queue : Queue
  pub map : List ℕ

-- one of a chip's registers and map and of places; and the chip that it is: its oldest entry is at place 0
abbrev pub old : Chip → Queue → Old
old c q = record { port = c.port; control = c.control; ident = c.ident; queue = q; map = c.map }

abbrev pub seen : Old → Chip
seen o =
    chip o.port o.control o.ident (colours_of o.queue) o.map
    (record { places = length o.queue.places; first = 0 })

-- a full queue makes room for four; a blue byte puts its entry behind the others
unfoldable pub roomed : Queue → Queue
roomed q = pick (eqb q.waiting 64) (gone 4 q) q

unfoldable pub received : Component → Entry → Queue → Queue
received red e q = q
received green e q = q
received blue e q = put_behind e q

-- the places after an accepted call
unfoldable pub queue_after : Call → Old → Queue
queue_after (writes select byte) o =
    pick (eqb select 2) (received (selected o.port) (completed o.port byte) (roomed o.queue)) o.queue
queue_after (reads select) o = o.queue
queue_after (blanks slots) o = gone (min slots o.queue.waiting) o.queue
queue_after (pixels mode word) o = o.queue
queue_after (signals s) o = o.queue
queue_after resets o = emptied
queue_after (looks place) o = o.queue

abbrev pub old_refusals : Call → Old → List Row
old_refusals k o = refusals k (seen o)

-- the answer, the registers and the map are the chip's
abbrev pub old_does : Call → Old → Outcome Old
old_does k o =
    let r = does k (seen o) in
    record {
      refusal = r.refusal;
      value = r.value;
      count = r.count;
      line = r.line;
      left = old r.left (queue_after k o);
    }

abbrev pub old_called : Call → Old → Outcome Old
old_called k o = called_by old_refusals old_does k o
