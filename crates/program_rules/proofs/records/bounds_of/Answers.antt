use Rattle.std.proofs.Common.{rules, arith, ◌≤◌, All, List, subst}
use Rattle.std.proofs.lemmas.Grind.{common_steps}
use Rattle.std.proofs.lemmas.List.Elements.{All-tail}
use Rattle.model.specs.declared.entries.RangeEntry.{RangeEntry}
use Rattle.program_rules.proofs.records.bounds_of.Goals as goal

abbrev AreOrdered : List RangeEntry → Type 0
AreOrdered entries = All (λ e. e.low ≤ e.high) entries

pub loop-entry-preserved-then-entry-lt32 : goal.loop-entry-preserved-then-entry-lt32
loop-entry-preserved-then-entry-lt32 c =
    (search rules, search rules, All-tail (λ e. e.low ≤ e.high) _ _ (subst AreOrdered c.in-Some.ensures.steps c.loop-entry.invariant.2))

pub loop-entry-preserved : goal.loop-entry-preserved
loop-entry-preserved c =
    (grind (arith, common_steps), search rules, All-tail (λ e. e.low ≤ e.high) _ _ (subst AreOrdered c.in-Some.ensures.steps c.loop-entry.invariant.2))
