-- HOW 64 PLACES KEEP THE WAITING COLOURS, which chip a state and its lent tables are, and what a call promises. No
-- other file of definitions knows a place of the queue.
use Rattle.std.specs.Prelude.{ℕ, zero, suc, ◌+◌, ◌*◌, ◌/◌, ◌%◌, ◌≡◌, List, [], ◌∷◌, map, length, get_or}
use Rattle.vocabulary.specs.Outcome.{Outcome}
use Rattle.ms622424.specs.Ms622424.{Chip, Entry, InRange}
use Rattle.ms622424_places.specs.declared.Fifo.{Fifo}
use Rattle.ms622424_places.specs.declared.State.{State}
use Rattle.ms622424_places.specs.declared.Answer.{Answer}

-- ---- The queue's places, a ring (request P7): the oldest entry at the first position, each younger one a place
-- further, place 0 behind place 63; the places that no entry waits in are not read

-- a place holds an entry as one number: red in the low byte, then green, blue and the address
abbrev pub packed : Entry → ℕ
packed e = e.red + 256 * e.green + 65536 * e.blue + 16777216 * e.address

abbrev pub unpacked : ℕ → Entry
unpacked n = record { address = n / 16777216; red = n % 256; green = n / 256 % 256; blue = n / 65536 % 256 }

-- the entries that places hold
abbrev pub entries_in : List ℕ → List Entry
entries_in places = map unpacked places

-- n places from a position on
unfoldable pub ringed : ℕ → ℕ → List ℕ → List ℕ
ringed first zero places = []
ringed first (suc n) places = get_or places (first % 64) 0 ∷ ringed (first + 1) n places

unfoldable pub colours : Fifo → List ℕ → List Entry
colours f places = entries_in (ringed f.first f.waiting places)

-- ---- All that a call is handed, and the chip that it is

pub record Handed : Type 0 where
  pub state : State
  pub queue : List ℕ
  pub map : List ℕ

abbrev pub handed : State → List ℕ → List ℕ → Handed
handed s queue map = record { state = s; queue = queue; map = map }

abbrev pub with_fifo : Fifo → State → State
with_fifo f s = record { port = s.port; control = s.control; ident = s.ident; fifo = f }

abbrev pub view : Handed → Chip
view h = record {
  port = h.state.port;
  control = h.state.control;
  ident = h.state.ident;
  waiting = colours h.state.fifo h.queue;
  map = h.map;
  lent = record { places = length h.queue; first = h.state.fifo.first };
}

-- ---- What a call promises

-- an answer and what is handed back with it, as an outcome; an answer that refuses, and one that accepts
abbrev pub outcome : Answer → List ℕ → List ℕ → Outcome Handed
outcome a queue map = record {
  refusal = a.refusal;
  value = a.value;
  count = a.count;
  line = 0;
  left = handed a.state queue map;
}

abbrev pub refuse : ℕ → State → Answer
refuse n s = record { refusal = n; value = 0; count = 0; state = s }

abbrev pub accept : ℕ → ℕ → State → Answer
accept value count s = record { refusal = 0; value = value; count = count; state = s }

-- the outcome for the chip
abbrev pub seen : Outcome Handed → Outcome Chip
seen o = record { refusal = o.refusal; value = o.value; count = o.count; line = o.line; left = view o.left }

-- THE PROMISE: the chip does what its definition says, and a refusal hands back every byte as given
pub record Does (given : Handed) (o : Outcome Handed) (call : Chip → Outcome Chip) : Type 0 where
  pub chip : seen o ≡ call (view given)
  pub keeps : ¬ (o.refusal ≡ 0) → o.left ≡ given

-- the promise of a call that needs no table: of every chip in range with this state, whatever tables keep it
abbrev pub DoesWhateverLent : State → Answer → (Chip → Outcome Chip) → Type 0
DoesWhateverLent s a call =
    (q m : List ℕ) → InRange (view (handed s q m)) → Does (handed s q m) (outcome a q m) call

-- ---- How far it fixes the bytes: all but what the places hold that no entry waits in

pub record SameInUse (h g : Handed) : Type 0 where
  pub state : h.state ≡ g.state
  pub map : h.map ≡ g.map
  pub places : length h.queue ≡ length g.queue
  pub waiting : ringed h.state.fifo.first h.state.fifo.waiting h.queue
      ≡ ringed h.state.fifo.first h.state.fifo.waiting g.queue
