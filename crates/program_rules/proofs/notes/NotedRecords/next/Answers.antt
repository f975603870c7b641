-- The next one is one of those that are left.
use Rattle.std.proofs.Common.{◌∙◌, ap}
use Rattle.std.specs.Prelude.{slice_get}
use Rattle.program_rules.proofs.NextRecords.{first-limited, rest-limited}
use Rattle.program_rules.proofs.notes.NotedRecords.next.Goals as goal

pub invariant_of-result : goal.invariant_of-result
invariant_of-result c =
    let one = first-limited c.self.inside.records c.next.new.self c.next.result c.in-Some.record c.next.ensures.steps c.in-Some.is c.self.invariant in
    (ap (λ rs. slice_get rs 0) c.again-from.ensures ∙ one.0, one.1)

pub invariant_of-self : goal.invariant_of-self
invariant_of-self c = rest-limited c.self.inside.records c.next.new.self c.next.result c.next.ensures.steps c.self.invariant
