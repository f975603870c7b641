-- Page by page.
use Rattle.headline.proofs.steps.Accesses.{reaches-mapped}
use Rattle.headline.proofs.steps.access_laws.mapped_accesses_do_not_fault.Goals as goal

pub returns : goal.returns
returns c = λ image t s state r instr kept sound maps vspace words lie fits mapped.
    reaches-mapped image t s state kept sound maps vspace r instr words lie fits mapped
