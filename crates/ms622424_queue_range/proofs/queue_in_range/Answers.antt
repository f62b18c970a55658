use Rattle.std.proofs.Common.{sym, ◌∙◌, [], arith}
use Rattle.vocabulary.proofs.Range.{not_meets}
use Rattle.ms622424_places.proofs.Places.{how_many, places_decide}
use Rattle.ms622424_queue_range.proofs.queue_in_range.Goals as goal

pub returns-then-s-ge64 : goal.returns-then-s-ge64
returns-then-s-ge64 c =
    let many = how_many c.args.s.fifo c.args.queue.now in
    sym (not_meets _ (λ g. let e = c.then-s-ge64.either in omega arith))

pub returns : goal.returns
returns c = c.places_in_range.ensures ∙ places_decide c.args.s _ [] (omega arith) (omega arith)
