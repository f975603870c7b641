-- What is fetched is decoded, and that instruction is run.
use Rattle.model.specs.Kernel.AddressSpaces.{content_of}
use Rattle.model.specs.Kernel.State.{State}
use Rattle.model.specs.Kernel.Steps.{Done, registers_of, runs, runs_decoded, runs_fetched, runs_instruction}
use Rattle.model.specs.Machine.Decoding.{decoded}
use Rattle.model.specs.Machine.ProgramMemory.{loaded}
use Rattle.model.specs.declared.instructions.Access.TheVariants.{Fetch}
use Rattle.model.specs.declared.instructions.AccessSize.TheVariants.{Word}
use Rattle.model.specs.declared.instructions.Instr.{Instr}
use Rattle.objects.specs.Lives.{state_in}
use Rattle.std.proofs.Common.{ℕ, ◌≡◌, ◌∙◌, Ok, Some, ap, subst, sym}
use Rattle.kernel.proofs.instructions.run.Goals as goal

through : (s : State) (thread word : ℕ) (i : Instr) → Ok word ≡ loaded (content_of s thread) Fetch Word (registers_of s thread).pc → Some i ≡ decoded word
    → runs_instruction s thread i ≡ runs s thread
unfolding runs
through s thread word i fetched decodes = ap (runs_decoded s thread) decodes ∙ ap (runs_fetched s thread) fetched

pub returns-in-Some-clause-state : goal.returns-in-Some-clause-state
returns-in-Some-clause-state g c =
    let s = state_in g.S.SlotMap.slots g.S.SlotStore.memory c.args.kernel.now in
    let does = through s c.args.thread c.in-Ok.word c.in-Some.instruction (sym c.in-Ok.is ∙ c.fetch.ensures.value)
    (sym c.in-Some.is ∙ c.decode.ensures.value) in
    subst (λ k. state_in g.S.SlotMap.slots g.S.SlotStore.memory c.execute.new.kernel
    ≡ (runs_instruction (state_in g.S.SlotMap.slots g.S.SlotStore.memory k) c.args.thread c.in-Some.instruction).0) c.fetch.ensures.unchanged
    c.execute.ensures.state
    ∙ ap (λ (d : Done). d.0) does

pub returns-in-Some-clause-outcome : goal.returns-in-Some-clause-outcome
returns-in-Some-clause-outcome g c =
    let s = state_in g.S.SlotMap.slots g.S.SlotStore.memory c.args.kernel.now in
    let does = through s c.args.thread c.in-Ok.word c.in-Some.instruction (sym c.in-Ok.is ∙ c.fetch.ensures.value)
    (sym c.in-Some.is ∙ c.decode.ensures.value) in
    subst (λ k. c.execute.result ≡ (runs_instruction (state_in g.S.SlotMap.slots g.S.SlotStore.memory k) c.args.thread c.in-Some.instruction).1)
    c.fetch.ensures.unchanged c.execute.ensures.outcome
    ∙ ap (λ (d : Done). d.1) does
