-- There are none.
use Rattle.std.proofs.Common.{arith}
use Rattle.model.specs.Acceptance.PointRules.{is_mapped_for}
use Rattle.model.specs.declared.instructions.Access.TheVariants as accesses
use Rattle.program_rules.proofs.point_rules.found_pages.FoundPages.new.Goals as goal
use Rattle.typestate.specs.Replays.{replayed}
use Rattle.typestate.specs.Logs.{part_of}

pub returns : goal.returns
returns c = λ image t slots log.
    let all = replayed slots (part_of log (record { first = 0; end = 0 })) in
    ((omega arith, omega arith), (c.new.ensures (is_mapped_for image t all accesses.Load), c.new-2.ensures (is_mapped_for image t all accesses.Store)))
