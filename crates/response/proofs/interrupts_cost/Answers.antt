-- By what becomes of the line.
use Rattle.response.proofs.Further.{beyond, raise-costs}
use Rattle.response.proofs.interrupts_cost.Goals as goal

pub returns-clause-cost : goal.returns-clause-cost
returns-clause-cost c = λ bytes image priority w events number accepted devices pays.
    raise-costs c.laws_below.ensures bytes image accepted priority w pays events number (c.events_go_well.ensures bytes image events accepted devices).stand
    (λ t queue n others listed is first. c.waiters_take.ensures bytes image events t queue n others accepted devices listed is first)

pub returns-clause-beyond : goal.returns-clause-beyond
returns-clause-beyond c = λ bytes image priority w events number accepted devices pays is.
    beyond c.laws_below.ensures bytes image accepted priority w pays events number (c.events_go_well.ensures bytes image events accepted devices).stand
    (λ t queue n others listed here first. c.waiters_take.ensures bytes image events t queue n others accepted devices listed here first) is
