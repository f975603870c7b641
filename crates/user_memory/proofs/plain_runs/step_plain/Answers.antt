-- What is fetched is decoded and run, and a plain instruction is a step.
use Rattle.std.proofs.Common.{ℕ, ◌≡◌, ◌∙◌, Option, option_map, ap, subst, sym}
use Rattle.model.specs.Kernel.AddressSpaces.{content_of, with_content}
use Rattle.model.specs.Kernel.Messages.{with_registers}
use Rattle.model.specs.Kernel.Steps.{runs}
use Rattle.model.specs.Machine.Effects.{effect}
use Rattle.model.specs.Machine.ProgramMemory.{loaded}
use Rattle.model.specs.declared.instructions.Access.TheVariants.{Fetch}
use Rattle.model.specs.declared.instructions.AccessSize.TheVariants.{Word}
use Rattle.model.specs.declared.instructions.Exec.{Exec}
use Rattle.model.specs.declared.instructions.Instr.{Instr}
use Rattle.objects.specs.Lives.{state_in}
use Rattle.user_memory.proofs.KeptSteps.{comes-by, comes-illegal, comes-missed, step-label, step-state, still}
use Rattle.user_memory.proofs.PagePlaces.{stays-ready}
use Rattle.user_memory.specs.Runs.{comes_of}
use Rattle.user_memory.specs.declared.known_words.ValidInstr.{ValidInstr}
use Rattle.user_memory.proofs.plain_runs.step_plain.Goals as goal

abbrev spelled : Option ValidInstr → Option Instr
spelled = option_map (λ (known : ValidInstr). known.instruction)

pub returns-in-Some : goal.returns-in-Some
returns-in-Some g c =
    let s = state_in g.S.SlotMap.slots g.S.SlotStore.memory c.args.kernel.now in
    let t = c.args.thread in
    let r = c.args.registers.now in
    let i = c.in-Some.known.instruction in
    let now = state_in g.S.SlotMap.slots g.S.SlotStore.memory c.run.new.kernel in
    let same = c.fetch_paged.ensures.unchanged in
    let goes = subst (λ k. let u = state_in g.S.SlotMap.slots g.S.SlotStore.memory k in now ≡ with_content u (effect r (content_of u t) i).content)
    same c.run.ensures.state in
    let sets = subst (λ k. let u = state_in g.S.SlotMap.slots g.S.SlotStore.memory k in c.run.new.registers ≡ (effect r (content_of u t) i).registers)
    same c.run.ensures.registers in
    let told = subst (λ k. let u = state_in g.S.SlotMap.slots g.S.SlotStore.memory k in c.run.result ≡ (effect r (content_of u t) i).exec)
    same c.run.ensures.outcome in
    let fetched = sym c.in-Ok.is ∙ c.fetch_paged.ensures.value ∙ ap (λ (address : ℕ). loaded (content_of s t) Fetch Word address) c.pc-pc.ensures in
    let decodes = sym (ap spelled c.in-Some.is) ∙ c.decode.ensures in
    record {
      ready = stays-ready s now t c.args.code.now.pages c.run.new.pages (effect r (content_of s t) i).content goes c.requires c.run.ensures.pages;
      state = λ yes. step-state s t r i now c.run.new.registers goes sets c.requires.is_current c.in-Ok.word fetched decodes (sym told ∙ yes);
      label = λ yes. step-label s t r i now c.run.new.registers goes sets c.requires.is_current c.in-Ok.word fetched decodes (sym told ∙ yes);
      unchanged = λ no. still s t r i now c.run.new.registers goes sets (λ is. no (told ∙ is));
      effect = λ no. subst (λ (x : Exec). runs (with_registers s t r) t ≡ comes_of (with_registers s t r) t x) (sym told)
          (comes-by s t r i now c.run.new.registers goes sets c.in-Ok.word fetched decodes (λ is. no (told ∙ is)));
    }

pub returns-in-None-clause-effect : goal.returns-in-None-clause-effect
returns-in-None-clause-effect g c = λ no.
    let s = state_in g.S.SlotMap.slots g.S.SlotStore.memory c.args.kernel.now in
    let t = c.args.thread in
    let fetched = sym c.in-Ok.is ∙ c.fetch_paged.ensures.value ∙ ap (λ (address : ℕ). loaded (content_of s t) Fetch Word address) c.pc-pc.ensures in
    comes-illegal s t c.args.registers.now c.in-Ok.word fetched (sym (ap spelled c.in-None.is) ∙ c.decode.ensures)

pub returns-in-Err-clause-effect : goal.returns-in-Err-clause-effect
returns-in-Err-clause-effect g c = λ no.
    let s = state_in g.S.SlotMap.slots g.S.SlotStore.memory c.args.kernel.now in
    let t = c.args.thread in
    let fetched = sym c.in-Err.is ∙ c.fetch_paged.ensures.value ∙ ap (λ (address : ℕ). loaded (content_of s t) Fetch Word address) c.pc-pc.ensures in
    comes-missed s t c.args.registers.now c.in-Err.fault fetched
