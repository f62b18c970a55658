-- All the bytes before the first LF were passed.
use Rattle.std.proofs.Common.{◌≡◌, ap, ◌∙◌, length, take}
use Rattle.std.specs.Option.{unwrap_or}
use lib.Seq.{take_all}
use Rattle.hold.specs.Hold.{before, hold, holding_all}
use Rattle.hold.proofs.Texts.{before_is}
use Rattle.hold.proofs.scan.Goals as goal

pub returns : goal.returns
returns c =
    let t = c.args.text.now in
    let n = c.unwrap_or-before.result in
    let at : n ≡ before t =
    c.unwrap_or-before.ensures ∙ ap (λ o. unwrap_or o (length t)) c.first_lf.ensures ∙ before_is t in
    let all : take c.loop-b.b-index (take n t) ≡ take (before t) t =
    take_all c.loop-b.b-index (take n t) c.loop-b-test.false ∙ ap (λ k. take k t) at in
    (at, c.loop-b.invariant ∙ ap (λ l. holding_all l (hold c.args.hold.now c.args.len)) all)
