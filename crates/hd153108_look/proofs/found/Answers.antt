use mathlib.Core.Path.{refl}
use Rattle.std.proofs.lemmas.Result.{err_from_is_err_and}
use Rattle.vocabulary.specs.Face.{called_by}
use Rattle.vocabulary.specs.Look.{found}
use Rattle.vocabulary.proofs.Look.{look_stops}
use Rattle.vocabulary.proofs.Refusals.{number_positive}
use Rattle.hd153108.specs.Hd153108.{chip, look_places}
use Rattle.hd153108.proofs.Access.{known}
use Rattle.hd153108_look.proofs.found.Goals as goal

pub returns-in_err-standing : goal.returns-in_err-standing
unfolding called_by
returns-in_err-standing c =
    let given = chip c.args.s c.args.colours.now c.args.overlays.now in
    let p = err_from_is_err_and c.from_residual.result c.from_residual.ensures.1 in
    rw (p.1, p.2)
    (look_stops _ _ (found (look_places given) c.args.place) given _ c.in_err-standing.ensures
    (number_positive _) refl)

pub number-requires : goal.number-requires
number-requires c = known (chip c.args.s c.args.colours.now c.args.overlays.now) c.in_ok-standing.ensures
