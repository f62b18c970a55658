-- At the start nothing is kept. A line is kept (`reads_on`), or it is bad (`reads_bad`).
use Rattle.std.proofs.Common.{◌≡◌, rules, refl, arith, None}
use Rattle.sheet_key.specs.Reader.{leads}
use Rattle.sheet_reader.proofs.Kept.{reads_on, reads_bad}
use Rattle.sheet_reader.proofs.read.Goals as goal

pub loop-at-init : goal.loop-at-init
unfolding leads
loop-at-init c = record {
  keyed = search rules;
  inside = search rules;
  counted = search rules;
  long = refl;
  rest = refl;
  whole = search rules;
}

pub returns-in_default : goal.returns-in_default
returns-in_default c =
    let none : c.line_at.result ≡ None = grind arith in
    reads_bad c.args.text.now c.loop-at.kept c.loop-at.due c.loop-at.n c.loop-at.at c.loop-at.invariant c.line_at.ensures
    none

pub loop-at-preserved : goal.loop-at-preserved
loop-at-preserved c =
    search (
      reads_on c.args.text.now c.loop-at.kept c.loop-at.due c.loop-at.n c.loop-at.at c.loop-at.invariant
          c.line_at.ensures c.in-Some.is,
      rules,
    )
