-- A turn takes what it was given up to a line's end, and answers it; at the end what waits is printed.
use Rattle.std.proofs.Common.{◌≡◌, ◌-◌, ◌^◌, true, false, rules, arith}
use Rattle.std.proofs.KnownBytes.{Appends-nil}
use Rattle.printer.specs.Held.{held}
use Rattle.replay.specs.Replay.{desk_of, last_end}
use Rattle.replay.proofs.Stages.{starts, goes_on_at, ends, none_left, ended, last_line, flushed, too_many}
use Rattle.replay.proofs.replay.Goals as goal
use Rattle.replay.proofs.replay.Goals.{then-more, else-more}

pub loop-turn-init : goal.loop-turn-init
loop-turn-init g c = λ log comes. starts log _ _ _ _ comes (Appends-nil _)

pub loop-turn-preserved : goal.loop-turn-preserved
loop-turn-preserved g c = λ log comes.
    let more : c.in_ok-more.more ≡ true = search rules in
    let next = c.in_ok-more.ensures in
    let turn = c.in_ok-taken.ensures in
    let text : c.if-more.text.now ≡ c.next.new.self.unread = elim c.if-more.branch [
      | then-more w ↦ rw w.text-is w.rest-text.ensures
      | else-more w ↦ absurd (let z : ⊥ = search rules in z)
    ] in
    goes_on_at log (desk_of c.args.s.now c.args.lent.now) (held (g.W.Write.contents c.args.to.now) c.args.out.now)
    (g.R.Read.remaining c.loop-turn.from) (g.R.Read.remaining c.next.new.from)
    (held (g.W.Write.contents c.loop-turn.to) c.loop-turn.out)
    (held (g.W.Write.contents c.next.new.to) c.next.new.out)
    (held (g.W.Write.contents c.turn.new.to) c.turn.new.out) c.loop-turn.input.unread c.next.new.self.unread
    (desk_of c.loop-turn.s c.loop-turn.lent) c.loop-turn._turn next.kept next.keeps c.if-more.text.now
    c.take.new.self.unread c.in_ok-taken.taken (desk_of c.turn.new.s c.turn.new.lent) text turn.taken c.take.ensures
    (next.ok.more.0 more) turn.says turn.leaves (c.loop-turn.invariant log comes)

pub returns-then-not-more : goal.returns-then-not-more
returns-then-not-more g c = λ log comes few.
    let more : c.in_ok-more.more ≡ false = search rules in
    let next = c.in_ok-more.ensures in
    let text : c.if-more.text.now ≡ last_end c.loop-turn.s.len = elim c.if-more.branch [
      | then-more w ↦ absurd (let z : ⊥ = search rules in z)
      | else-more w ↦ rw w.text-is w.last-text.ensures
    ] in
    flushed c.flush.result (held (g.W.Write.contents c.args.to.now) c.args.out.now)
    (g.W.Write.contents c.turn.new.to) (g.W.Write.contents c.flush.new.to) _ c.turn.new.out
    (ends log (desk_of c.args.s.now c.args.lent.now) (held (g.W.Write.contents c.args.to.now) c.args.out.now)
    (g.R.Read.remaining c.loop-turn.from) (g.R.Read.remaining c.next.new.from)
    (held (g.W.Write.contents c.loop-turn.to) c.loop-turn.out)
    (held (g.W.Write.contents c.next.new.to) c.next.new.out)
    (held (g.W.Write.contents c.turn.new.to) c.turn.new.out) c.loop-turn.input.unread c.next.new.self.unread
    (desk_of c.loop-turn.s c.loop-turn.lent) c.loop-turn._turn next.kept next.keeps
    (none_left c.next.new.self.unread c.in_ok-more.more more next.ok.more.1)
    (ended c.in_ok-more.more (g.R.Read.remaining c.next.new.from) more (next.ends (omega arith)))
    (c.loop-turn.invariant log comes)
    (last_line _ _ c.loop-turn.s.len c.if-more.text.now (desk_of c.loop-turn.s c.loop-turn.lent) text
    c.in_ok-taken.ensures.says)) c.flush.ensures.printed

pub returns : goal.returns
returns g c = λ log comes few.
    absurd (too_many (2 ^ 64 - 1) (c.loop-turn.invariant log comes) few (omega (arith, c.loop-turn-test.false)))
