-- By what the phases answer.
use Rattle.model.specs.Acceptance.Accepted.{first_in}
use Rattle.wellformed.specs.Answering.{form_rules}
use Rattle.wellformed.proofs.Phases.{told_first}
use Rattle.wellformed.proofs.RulesLeft.{memory_alone, none-from, told_breach, told_formed}
use Rattle.wellformed.proofs.whole.well_formed.Goals as goal

pub returns-clause-formed : goal.returns-clause-formed
returns-clause-formed c = told_formed c.args.image.now c.check_phases.result c.check_phases.ensures

pub returns-clause-refused : goal.returns-clause-refused
returns-clause-refused c = told_breach (first_in (form_rules c.args.image.now)) c.check_phases.result c.check_phases.ensures

pub returns-clause-complete : goal.returns-clause-complete
returns-clause-complete c = λ formed. memory_alone (first_in (form_rules c.args.image.now)) c.check_phases.result (none-from c.args.image.now formed)
    c.check_phases.ensures

pub returns-clause-first : goal.returns-clause-first
returns-clause-first c =
    told_first c.args.image.now c.check_phases.result (told_breach (first_in (form_rules c.args.image.now)) c.check_phases.result c.check_phases.ensures)
