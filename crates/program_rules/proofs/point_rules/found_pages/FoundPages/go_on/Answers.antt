-- What was found is forgotten.
use Rattle.model.specs.Acceptance.PointRules.{is_mapped_for}
use Rattle.model.specs.declared.instructions.Access.TheVariants as accesses
use Rattle.program_rules.proofs.point_rules.found_pages.FoundPages.go_on.Goals as goal
use Rattle.typestate.specs.Replays.{replayed}
use Rattle.typestate.specs.Logs.{part_of}

pub returns-then-not-is_same-clause-found : goal.returns-then-not-is_same-clause-found
returns-then-not-is_same-clause-found c = λ image t slots log held _.
    let all = replayed slots (part_of log c.args.part) in
    (held, (c.clear.ensures (is_mapped_for image t all accesses.Load), c.clear-then-not-is_same.ensures (is_mapped_for image t all accesses.Store)))
