-- Line by line.
use Rattle.std.proofs.Common.{ℕ, ◌∙◌, ◌/◌, ◌&&◌, Bool, length, not, sym, ap, arith}
use Rattle.slots.specs.Listed.{is_handled}
use Rattle.cnode_ops.specs.Lines.{has_line}
use Rattle.cnode_ops.proofs.LineSets.{line-after, line-before}
use Rattle.cnode_ops.proofs.lines.lines_lost.Goals as goal

pub returns-then-is_none : goal.returns-then-is_none
returns-then-is_none g c = λ line few.
    let none = c.is_none.ensures c.if-is_none.true line in
    none ∙ sym (ap (λ b. b && not (is_handled (g.S.SlotMap.slots c.args.store.now) (length (g.S.SlotStore.memory c.args.store.now) / 16) line)) none)

pub lines-preserved : goal.lines-preserved
lines-preserved g c =
    let lost : ℕ → Bool = λ line. has_line c.args.gone line
    && not (is_handled (g.S.SlotMap.slots c.args.store.now) (length (g.S.SlotStore.memory c.args.store.now) / 16) line) in
    let next = c.with_if-lost.ensures (omega (arith, c.lines-test.true)) in
    record {
      told = λ line before. line-before c.lines.lost c.with_if-lost.result c.lines.line c.is_lost.result lost (omega (arith, c.lines-test.true)) next
          c.is_lost.ensures c.lines.invariant.told c.lines.invariant.rest line before;
      rest = λ line behind few. line-after c.lines.lost c.with_if-lost.result c.lines.line c.is_lost.result next c.lines.invariant.rest line behind few;
    }

pub returns : goal.returns
returns g c = λ line few. c.lines.invariant.told line (omega (arith, few, c.lines-test.false))
