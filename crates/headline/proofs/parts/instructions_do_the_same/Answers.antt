-- Instruction by instruction.
use Rattle.std.specs.Prelude.{Contains}
use Rattle.headline.proofs.parts.Views.{does-same}
use Rattle.headline.proofs.parts.instructions_do_the_same.Goals as goal

pub returns : goal.returns
returns c = λ inside r c d instr view. does-same (λ place. Contains inside place) r c d view instr
