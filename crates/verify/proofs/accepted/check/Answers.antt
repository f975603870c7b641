-- By the phases in their order.
use Rattle.verify.proofs.Verdicts.{programs-kept, programs-told}
use Rattle.verify.proofs.accepted.check.Goals as goal

pub returns-clause-programs : goal.returns-clause-programs
returns-clause-programs c = programs-kept c.args.image.now c.check_programs.result c.check_programs.ensures

pub returns-clause-refused : goal.returns-clause-refused
returns-clause-refused c = programs-told c.args.image.now c.check_programs.result c.in_ok-well_formed.ensures.formed c.check_programs.ensures
