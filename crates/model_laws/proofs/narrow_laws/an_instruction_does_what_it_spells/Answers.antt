-- The instruction at the pc is one, and the step is what it computes.
use Rattle.std.proofs.Common.{sym, ap, ◌∙◌}
use Rattle.model.specs.declared.instructions.ImmediateOp.TheVariants.{Addi}
use Rattle.model.specs.declared.instructions.Instr.TheVariants.{Immediate, Store}
use Rattle.model.specs.declared.instructions.StoreOp.TheVariants.{Sb}
use Rattle.model.specs.Kernel.State.{State}
use Rattle.model.specs.Kernel.Steps.{registers_of}
use Rattle.model_laws.proofs.Narrow.{byte-put, bytes-beside, bytes-kept, done-so, sum-left}
use Rattle.model_laws.proofs.narrow_laws.an_instruction_does_what_it_spells.Goals as goal

pub returns-clause-whole : goal.returns-clause-whole
returns-clause-whole c = λ image s after self word instruction now fetched spelled plain wrong within.
    wrong (done-so image s after self word instruction now fetched spelled plain within)

pub returns-clause-sum : goal.returns-clause-sum
returns-clause-sum c = λ image s after self word rd rs1 immediate now fetched spelled wrong within.
    wrong (ap (λ (x : State). registers_of x self)
    (done-so image s after self word (Immediate Addi rd rs1 immediate) now fetched spelled (λ e. cc) within) ∙ sum-left s self rd rs1 immediate)

pub returns-clause-byte : goal.returns-clause-byte
returns-clause-byte c = λ image s after self word place old rs1 rs2 offset now fetched spelled at there wrong within.
    wrong (ap (λ (x : State). x.bytes place)
    (done-so image s after self word (Store Sb rs1 rs2 offset) now fetched spelled (λ e. cc) within) ∙ byte-put s self rs1 rs2 offset place at old there)

pub returns-clause-beside : goal.returns-clause-beside
returns-clause-beside c = λ image s after self word place other rs1 rs2 offset now fetched spelled at apart differ within.
    differ (sym (ap (λ (x : State). x.bytes other)
    (done-so image s after self word (Store Sb rs1 rs2 offset) now fetched spelled (λ e. cc) within) ∙ bytes-beside s self rs1 rs2 offset place at other apart))

pub returns-clause-bytes : goal.returns-clause-bytes
returns-clause-bytes c = λ image s after self word place instruction now fetched spelled plain other differ within.
    differ (sym (ap (λ (x : State). x.bytes place) (done-so image s after self word instruction now fetched spelled plain within)
    ∙ bytes-kept s self instruction other place))
