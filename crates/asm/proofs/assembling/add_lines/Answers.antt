use Rattle.std.proofs.Common.{arith, ap, ◌∙◌}
use Rattle.std.specs.Str.Iter.{lines_rest}
use Rattle.asm.proofs.TextsLeft.{all-to-read, last-read, one-read}
use Rattle.asm.proofs.assembling.add_lines.Goals as goal

pub lines-init : goal.lines-init
lines-init c = (
  all-to-read c.args.labels.now c.args.assembly.now c.args.text.now _
      (ap lines_rest c.into_iter-line-iterator.ensures.into_iter_gives ∙ c.lines-line-items.ensures.rest),
  tt,
)

pub lines-preserved : goal.lines-preserved
lines-preserved c = (
  one-read c.args.labels.now c.args.assembly.now _ c.next.new.self c.in-Some.line c.lines.number c.saturating_add-number.result c.lines.waiting c.lines.assembly
      c.add_waiting.new.assembly _
      c.lines.invariant.0 c.in-Some.ensures.steps c.saturating_add-number.ensures c.in_ok-add_waiting.ensures.meant,
  omega (arith, c.saturating_add-number.ensures),
)

pub returns-clause-meant : goal.returns-clause-meant
returns-clause-meant c =
    last-read c.args.labels.now c.args.assembly.now _ c.next.new.self c.lines.number c.lines.waiting c.lines.assembly c.add_waiting-2.new.assembly _
    c.lines.invariant.0 c.in-None.ensures.steps
    c.in_ok-add_waiting-2.ensures.meant
