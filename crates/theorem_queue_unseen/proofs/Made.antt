-- Calls as they are made are the chip's run, so the theorem is of them too. Assumes nothing.
use mathlib.Core.Path.{◌≡◌, refl, sym, ap, subst, ◌∙◌}
use mathlib.Core.List.{List}
use Rattle.vocabulary.specs.Outcome.{Outcome}
use Rattle.vocabulary.specs.Run.{after}
use Rattle.ms622424.specs.Ms622424.{Chip, Call, called}
use Rattle.ms622424_places.specs.Places.{Handed, view}
use Rattle.theorem_queue_unseen.specs.Unseen.{NoReset, Unseen}
use Rattle.theorem_queue_unseen.specs.Made.{Made, none, next, CallerUnseen}
use Rattle.theorem_queue_unseen.proofs.Unseen.{unseen}

pub made_run : {h last : Handed} {calls : List Call} → Made h calls last → view last ≡ after called calls (view h)
unfolding after
made_run none = refl
made_run (next {calls = calls} d rest) =
    made_run rest ∙ ap (λ (o : Outcome Chip). after called calls o.left) d.chip

pub caller_unseen : CallerUnseen
caller_unseen before now o reset calls r d a made h =
    let e = ap (λ (p : Outcome Chip). p.left) d.chip in
    let start = (called reset (view before)).left in
    let no : NoReset calls start = subst (NoReset calls) e h in
    let accepted = sym (ap (λ (p : Outcome Chip). p.refusal) d.chip) ∙ a in
    subst (λ (c : Chip). Unseen (view o.left) calls c) (sym (made_run made))
    (subst (λ (c : Chip). Unseen c calls (after called calls c)) (sym e)
    (unseen (view before) reset calls r accepted no))
