-- THE QUEUE CAN'T BE SEEN BY A CALLER: demand 3 of calls as they are made, on the state and the tables that a caller
-- keeps (ms622424_places says which chip those are, and what a call promises of them).
use Rattle.std.specs.Prelude.{◌≡◌, true, List, [], ◌∷◌}
use Rattle.vocabulary.specs.Outcome.{Outcome}
use Rattle.ms622424.specs.Ms622424.{Call, called}
use Rattle.ms622424_places.specs.Places.{Handed, view, Does}
use Rattle.theorem_queue_unseen.specs.Unseen.{is_reset, NoReset, Unseen}

-- calls made one after another, each handed what the call before handed back, each as it promises; and what the last
-- one hands back
pub data Made : Handed → List Call → Handed → Type 0 where
  none : {h : Handed} → Made h [] h
  next : {h last : Handed} {o : Outcome Handed} {k : Call} {calls : List Call} → Does h o (called k)
      → Made o.left calls last → Made h (k ∷ calls) last

-- after a reset that was accepted, and any calls without another accepted one
abbrev pub CallerUnseen : Type 0
CallerUnseen =
    (before now : Handed) (o : Outcome Handed) (reset : Call) (calls : List Call) → is_reset reset ≡ true
    → Does before o (called reset) → o.refusal ≡ 0 → Made o.left calls now → NoReset calls (view o.left)
    → Unseen (view o.left) calls (view now)
