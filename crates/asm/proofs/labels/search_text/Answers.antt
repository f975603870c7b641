use Rattle.std.proofs.Common.{rules, ap, ◌∙◌}
use Rattle.asm.specs.Labels.{closed}
use Rattle.asm.proofs.TextsLeft.{all-searched, all-to-search, one-searched}
use Rattle.asm.proofs.labels.search_text.Goals as goal

pub lines-init : goal.lines-init
lines-init c = all-to-search c.args.text.now c.args.search.now _ (search rules)

pub lines-preserved : goal.lines-preserved
lines-preserved c =
    one-searched _ _ c.next.new.self c.in-Some.line _ c.saturating_add-number.result _ c.search_line.new.search _ c.lines.invariant c.in-Some.ensures.steps
    c.saturating_add-number.ensures c.in_default.ensures

pub returns-in-Ok-clause-meant : goal.returns-in-Ok-clause-meant
returns-in-Ok-clause-meant c = c.in-Ok.ensures ∙ ap closed (all-searched _ _ c.next.new.self _ _ _ c.lines.invariant c.in-None.ensures.steps)
