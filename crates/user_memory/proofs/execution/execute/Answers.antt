-- An instruction leaves what its definition says, whose registers are written where they are.
use Rattle.std.proofs.Common.{rules, ◌≡◌, ◌∙◌, ap, sym}
use Rattle.model.specs.Kernel.AddressSpaces.{content_of, with_content}
use Rattle.model.specs.Kernel.Messages.{with_registers}
use Rattle.model.specs.Kernel.Steps.{registers_of}
use Rattle.model.specs.Machine.Effects.{advanced, plus}
use Rattle.model.specs.Machine.ProgramMemory.{read, write}
use Rattle.objects.specs.Lives.{state_in}
use Rattle.user_memory.proofs.Executed.{effect-on, goes-to}
use Rattle.user_memory.proofs.InPlace.{load-faults, load-goes, loaded-same, not-reaching, plain-goes, still, store-faults, store-goes, stored-same}
use Rattle.user_memory.proofs.OwnRegisters.{state-set}
use Rattle.user_memory.proofs.Running.{in-the-end}
use Rattle.user_memory.proofs.Unchanged.{same-content}
use Rattle.user_memory.specs.BesideRegisters.{BesideRegisters}
use Rattle.user_memory.specs.Reaching.{one_byte}
use Rattle.user_memory.specs.Views.{content_under}
use Rattle.user_memory.proofs.execution.execute.Goals as goal

pub returns-in-Ok-clause-outcome : goal.returns-in-Ok-clause-outcome
returns-in-Ok-clause-outcome g c =
    let slots = g.S.SlotMap.slots in
    let memory = g.S.SlotStore.memory in
    let s = state_in slots memory c.args.kernel.now in
    let thread = c.args.thread in
    let address : c.plus-address.result ≡ plus (read (registers_of s thread) c.in-Load.rs1) c.in-Load.offset = search rules in
    let seen = c.load.ensures.value ∙ loaded-same (content_of s thread) c.load_size.ensures address in
    let sees = sym c.in-Ok.is ∙ seen in
    let view = c.write_register.new.registers in
    let set = state-set (state_in slots memory c.load.new.kernel) (state_in slots memory view.kernel.now) thread view.thread _ _ _ view.there
    c.write_register.ensures.beside c.write_register.ensures.registers
    ∙ ap (λ k. let t = state_in slots memory k in with_registers t thread (advanced (write (registers_of t thread) c.in-Load.rd c.load_result.result)))
    c.load.ensures.unchanged
    ∙ ap (λ n. with_registers s thread (advanced (write (registers_of s thread) c.in-Load.rd n))) c.load_result.ensures in
    let done = load-goes s thread c.in-Load.op c.in-Load.rd c.in-Load.rs1 c.in-Load.offset c.in-Ok.number _ sees set in
    c.write_register.ensures.outcome ∙ done.outcome_is ∙ ap (λ i. (effect-on s thread i).exec) (sym c.in-Load.is)

pub returns-in-Ok-clause-state : goal.returns-in-Ok-clause-state
returns-in-Ok-clause-state g c =
    let slots = g.S.SlotMap.slots in
    let memory = g.S.SlotStore.memory in
    let s = state_in slots memory c.args.kernel.now in
    let thread = c.args.thread in
    let address : c.plus-address.result ≡ plus (read (registers_of s thread) c.in-Load.rs1) c.in-Load.offset = search rules in
    let seen = c.load.ensures.value ∙ loaded-same (content_of s thread) c.load_size.ensures address in
    let sees = sym c.in-Ok.is ∙ seen in
    let view = c.write_register.new.registers in
    let set = state-set (state_in slots memory c.load.new.kernel) (state_in slots memory view.kernel.now) thread view.thread _ _ _ view.there
    c.write_register.ensures.beside c.write_register.ensures.registers
    ∙ ap (λ k. let t = state_in slots memory k in with_registers t thread (advanced (write (registers_of t thread) c.in-Load.rd c.load_result.result)))
    c.load.ensures.unchanged
    ∙ ap (λ n. with_registers s thread (advanced (write (registers_of s thread) c.in-Load.rd n))) c.load_result.ensures in
    let done = load-goes s thread c.in-Load.op c.in-Load.rd c.in-Load.rs1 c.in-Load.offset c.in-Ok.number _ sees set in
    in-the-end (λ k. state_in slots memory k ≡ goes-to s thread c.args.instruction) _ view.kernel.now _ view.kernel.ghost_name (search rules)
    (sym (ap (λ (b : BesideRegisters). b.kernel) c.write_register.ensures.beside)) (done.state ∙ ap (goes-to s thread) (sym c.in-Load.is))

pub returns-in-Err-clause-outcome : goal.returns-in-Err-clause-outcome
returns-in-Err-clause-outcome g c =
    let slots = g.S.SlotMap.slots in
    let memory = g.S.SlotStore.memory in
    let s = state_in slots memory c.args.kernel.now in
    let thread = c.args.thread in
    let address : c.plus-address.result ≡ plus (read (registers_of s thread) c.in-Load.rs1) c.in-Load.offset = search rules in
    let seen = c.load.ensures.value ∙ loaded-same (content_of s thread) c.load_size.ensures address in
    let sees = sym c.in-Err.is ∙ seen in
    let done = load-faults s thread c.requires.there c.in-Load.op c.in-Load.rd c.in-Load.rs1 c.in-Load.offset c.in-Err.fault sees in
    done.outcome_is ∙ ap (λ i. (effect-on s thread i).exec) (sym c.in-Load.is)

pub returns-in-Err-clause-state : goal.returns-in-Err-clause-state
returns-in-Err-clause-state g c =
    let slots = g.S.SlotMap.slots in
    let memory = g.S.SlotStore.memory in
    let s = state_in slots memory c.args.kernel.now in
    let thread = c.args.thread in
    let address : c.plus-address.result ≡ plus (read (registers_of s thread) c.in-Load.rs1) c.in-Load.offset = search rules in
    let seen = c.load.ensures.value ∙ loaded-same (content_of s thread) c.load_size.ensures address in
    let sees = sym c.in-Err.is ∙ seen in
    let done = load-faults s thread c.requires.there c.in-Load.op c.in-Load.rd c.in-Load.rs1 c.in-Load.offset c.in-Err.fault sees in
    ap (state_in slots memory) c.load.ensures.unchanged ∙ done.state ∙ ap (goes-to s thread) (sym c.in-Load.is)

pub returns-in-Ok-store-clause-outcome : goal.returns-in-Ok-store-clause-outcome
returns-in-Ok-store-clause-outcome g c =
    let slots = g.S.SlotMap.slots in
    let memory = g.S.SlotStore.memory in
    let s = state_in slots memory c.args.kernel.now in
    let thread = c.args.thread in
    let mid = state_in slots memory c.store.new.kernel in
    let address : c.plus-address-in-Store.result ≡ plus (read (registers_of s thread) c.in-Store.rs1) c.in-Store.offset = search rules in
    let value : c.register-value.result ≡ read (registers_of s thread) c.in-Store.rs2 = search rules in
    let same = stored-same (ap (content_under s) (sym c.requires.root)) (sym c.store_size.ensures) (sym address) (sym value) in
    let view = c.advance.new.registers in
    let set = state-set mid (state_in slots memory view.kernel.now) thread view.thread _ _ _ view.there c.advance.ensures.beside c.advance.ensures.registers in
    let done = store-goes s thread c.in-Store.op c.in-Store.rs1 c.in-Store.rs2 c.in-Store.offset _ mid _ (same ∙ c.in-Ok-store.ensures.content)
    c.store.ensures.state set in
    c.advance.ensures.outcome ∙ done.outcome_is ∙ ap (λ i. (effect-on s thread i).exec) (sym c.in-Store.is)

pub returns-in-Ok-store-clause-state : goal.returns-in-Ok-store-clause-state
returns-in-Ok-store-clause-state g c =
    let slots = g.S.SlotMap.slots in
    let memory = g.S.SlotStore.memory in
    let s = state_in slots memory c.args.kernel.now in
    let thread = c.args.thread in
    let mid = state_in slots memory c.store.new.kernel in
    let address : c.plus-address-in-Store.result ≡ plus (read (registers_of s thread) c.in-Store.rs1) c.in-Store.offset = search rules in
    let value : c.register-value.result ≡ read (registers_of s thread) c.in-Store.rs2 = search rules in
    let same = stored-same (ap (content_under s) (sym c.requires.root)) (sym c.store_size.ensures) (sym address) (sym value) in
    let view = c.advance.new.registers in
    let set = state-set mid (state_in slots memory view.kernel.now) thread view.thread _ _ _ view.there c.advance.ensures.beside c.advance.ensures.registers in
    let done = store-goes s thread c.in-Store.op c.in-Store.rs1 c.in-Store.rs2 c.in-Store.offset _ mid _ (same ∙ c.in-Ok-store.ensures.content)
    c.store.ensures.state set in
    in-the-end (λ k. state_in slots memory k ≡ goes-to s thread c.args.instruction) _ view.kernel.now _ view.kernel.ghost_name (search rules)
    (sym (ap (λ (b : BesideRegisters). b.kernel) c.advance.ensures.beside)) (done.state ∙ ap (goes-to s thread) (sym c.in-Store.is))

pub returns-in-Err-store-clause-outcome : goal.returns-in-Err-store-clause-outcome
returns-in-Err-store-clause-outcome g c =
    let slots = g.S.SlotMap.slots in
    let memory = g.S.SlotStore.memory in
    let s = state_in slots memory c.args.kernel.now in
    let thread = c.args.thread in
    let mid = state_in slots memory c.store.new.kernel in
    let address : c.plus-address-in-Store.result ≡ plus (read (registers_of s thread) c.in-Store.rs1) c.in-Store.offset = search rules in
    let value : c.register-value.result ≡ read (registers_of s thread) c.in-Store.rs2 = search rules in
    let same = stored-same (ap (content_under s) (sym c.requires.root)) (sym c.store_size.ensures) (sym address) (sym value) in
    let left : mid ≡ s = c.store.ensures.state ∙ ap (with_content s) c.in-Err-store.ensures.content.1 ∙ same-content s thread in
    let done = store-faults s thread c.requires.there c.in-Store.op c.in-Store.rs1 c.in-Store.rs2 c.in-Store.offset c.in-Err-store.fault mid
    (same ∙ c.in-Err-store.ensures.content.0) left in
    done.outcome_is ∙ ap (λ i. (effect-on s thread i).exec) (sym c.in-Store.is)

pub returns-in-Err-store-clause-state : goal.returns-in-Err-store-clause-state
returns-in-Err-store-clause-state g c =
    let slots = g.S.SlotMap.slots in
    let memory = g.S.SlotStore.memory in
    let s = state_in slots memory c.args.kernel.now in
    let thread = c.args.thread in
    let mid = state_in slots memory c.store.new.kernel in
    let address : c.plus-address-in-Store.result ≡ plus (read (registers_of s thread) c.in-Store.rs1) c.in-Store.offset = search rules in
    let value : c.register-value.result ≡ read (registers_of s thread) c.in-Store.rs2 = search rules in
    let same = stored-same (ap (content_under s) (sym c.requires.root)) (sym c.store_size.ensures) (sym address) (sym value) in
    let left : mid ≡ s = c.store.ensures.state ∙ ap (with_content s) c.in-Err-store.ensures.content.1 ∙ same-content s thread in
    let done = store-faults s thread c.requires.there c.in-Store.op c.in-Store.rs1 c.in-Store.rs2 c.in-Store.offset c.in-Err-store.fault mid
    (same ∙ c.in-Err-store.ensures.content.0) left in
    done.state ∙ ap (goes-to s thread) (sym c.in-Store.is)

pub returns-in-Err-store-clause-unchanged : goal.returns-in-Err-store-clause-unchanged
returns-in-Err-store-clause-unchanged g c =
    let slots = g.S.SlotMap.slots in
    let memory = g.S.SlotStore.memory in
    let s = state_in slots memory c.args.kernel.now in
    let thread = c.args.thread in
    λ differs. c.store.ensures.state ∙ ap (with_content s) c.in-Err-store.ensures.content.1 ∙ same-content s thread

pub returns-in_default : goal.returns-in_default
returns-in_default g c =
    let slots = g.S.SlotMap.slots in
    let memory = g.S.SlotStore.memory in
    let s = state_in slots memory c.args.kernel.now in
    let thread = c.args.thread in
    let view = c.exec.new.registers in
    let is = not-reaching c.args.instruction c.in_default.not-Load c.in_default.not-Store in
    let set = state-set s (state_in slots memory view.kernel.now) thread view.thread _ _ _ view.there c.exec.ensures.beside c.exec.ensures.registers in
    let done = plain-goes s thread c.args.instruction (one_byte c.new.result.bytes) _ _ is c.exec.ensures.outcome set in
    let end = sym (ap (λ (b : BesideRegisters). b.kernel) c.exec.ensures.beside) in
    record {
      outcome = done.outcome_is;
      state = in-the-end (λ k. state_in slots memory k ≡ goes-to s thread c.args.instruction) _ view.kernel.now _ view.kernel.ghost_name (search rules) end
          done.state;
      unchanged = λ differs. in-the-end (λ k. state_in slots memory k ≡ s) _ view.kernel.now _ view.kernel.ghost_name (search rules) end
          (still s thread c.requires.there c.args.instruction _ _ done differs);
    }
