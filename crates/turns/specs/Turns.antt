-- A turn: what a log line's call answers, and what it leaves. How a call's outcome is told, of any chip.
use Rattle.std.specs.Prelude.{ℕ, ◌/◌, ◌%◌, ◌≡◌, List}
use Rattle.vocabulary.specs.Outcome.{Outcome}
use Rattle.expand.specs.Expand.{expansion}
use Rattle.answers.specs.Answers.{told, ok_text, bad_text, value_text, look_text, moved_text, sync_text, colour_text}
use Rattle.answers.specs.Answers.{ten_text}

-- the answer's bytes, and what is left: the chip, or the whole board, afterwards
pub record Turn (C : Type 0) : Type 0 where
  pub text : List ℕ
  pub left : C

abbrev pub turn : {C : Type 0} → List ℕ → C → Turn C
turn text left = record { text = text; left = left }

-- a call that a chip has not is bad and changes nothing
abbrev pub bad : {C : Type 0} → C → Turn C
bad c = turn bad_text c

-- an accepted call tells nothing; the value; the number at a place; the count of moved entries; the timing signals
abbrev pub done : {C : Type 0} → Outcome C → Turn C
done o = turn (told o.refusal ok_text) o.left

abbrev pub valued : {C : Type 0} → Outcome C → Turn C
valued o = turn (told o.refusal (value_text o.value)) o.left

abbrev pub sighted : {C : Type 0} → Outcome C → Turn C
sighted o = turn (told o.refusal (look_text o.value)) o.left

abbrev pub moved : {C : Type 0} → Outcome C → Turn C
moved o = turn (told o.refusal (moved_text o.count)) o.left

abbrev pub signalled : {C : Type 0} → Outcome C → Turn C
signalled o = turn (told o.refusal (sync_text o.value)) o.left

-- a colour of three bytes in one number, red lowest
abbrev pub poured : {C : Type 0} → Outcome C → Turn C
poured o =
    turn (told o.refusal (colour_text (o.value % 256) (o.value / 256 % 256) (o.value / 65536))) o.left

-- a turn that was taken: what was said is its text, and what is left is what it leaves
pub record Took {C : Type 0} (Said : List ℕ → Type 0) (left : C) (t : Turn C) : Type 0 where
  pub says : Said t.text
  pub leaves : left ≡ t.left

-- ---- The expander
abbrev pub expand_text : ℕ → ℕ → List ℕ
expand_text width v =
    let o = expansion width v in
    told o.refusal (ten_text o.value)
