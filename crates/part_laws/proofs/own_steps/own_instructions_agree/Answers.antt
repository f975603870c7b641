-- Call by call.
use Rattle.part_laws.proofs.own_steps.Dispatched.{runs-agree}
use Rattle.part_laws.proofs.own_steps.own_instructions_agree.Goals as goal

pub returns : goal.returns
returns c = λ image part s t x both quiet right. runs-agree image part s t x both quiet right
