-- A load and a store do what is loaded and stored; what reaches no memory does the same over other bytes, and leaves memory as it was.
use Rattle.std.proofs.Common.{rules, ◌≡◌, ◌∙◌, Ok, Err, ap, sym}
use Rattle.model.specs.Kernel.AddressSpaces.{content_of, vspace_of, with_content}
use Rattle.model.specs.Machine.Effects.{Effect, advanced, effect, loads, plus, stores}
use Rattle.model.specs.Machine.ProgramMemory.{read, write}
use Rattle.objects.specs.Lives.{state_in}
use Rattle.user_memory.proofs.Apart.{apart}
use Rattle.user_memory.proofs.InPlace.{not-reaching}
use Rattle.user_memory.proofs.Reached.{load-effect, store-effect}
use Rattle.user_memory.proofs.Unchanged.{same-content}
use Rattle.user_memory.specs.Reaching.{one_byte}
use Rattle.user_memory.specs.Views.{content_under}
use Rattle.user_memory.proofs.execution.run.Goals as goal

pub returns-in-Ok-clause-outcome : goal.returns-in-Ok-clause-outcome
returns-in-Ok-clause-outcome g c =
    let slots = g.S.SlotMap.slots in
    let memory = g.S.SlotStore.memory in
    let s = state_in slots memory c.args.kernel.now in
    let content = content_of s c.args.thread in
    let r = c.args.registers.now in
    let i = c.args.known.instruction in
    let address : c.plus-address.result ≡ plus (read r c.in-Load.rs1) c.in-Load.offset = search rules in
    let sees = sym c.in-Ok.is ∙ c.load_paged.ensures.value in
    let does : effect r content i ≡ loads r content c.in-Load.op c.in-Load.rd (Ok c.in-Ok.number) =
    load-effect r content i c.in-Load.op c.in-Load.rd c.in-Load.rs1 c.in-Load.offset c.load_size.result c.plus-address.result (Ok c.in-Ok.number) c.in-Load.is
    c.load_size.ensures address sees in
    c.write_register.ensures.outcome ∙ sym (ap (λ (e : Effect). e.exec) does)

pub returns-in-Ok-clause-registers : goal.returns-in-Ok-clause-registers
returns-in-Ok-clause-registers g c =
    let slots = g.S.SlotMap.slots in
    let memory = g.S.SlotStore.memory in
    let s = state_in slots memory c.args.kernel.now in
    let content = content_of s c.args.thread in
    let r = c.args.registers.now in
    let i = c.args.known.instruction in
    let address : c.plus-address.result ≡ plus (read r c.in-Load.rs1) c.in-Load.offset = search rules in
    let sees = sym c.in-Ok.is ∙ c.load_paged.ensures.value in
    let does : effect r content i ≡ loads r content c.in-Load.op c.in-Load.rd (Ok c.in-Ok.number) =
    load-effect r content i c.in-Load.op c.in-Load.rd c.in-Load.rs1 c.in-Load.offset c.load_size.result c.plus-address.result (Ok c.in-Ok.number) c.in-Load.is
    c.load_size.ensures address sees in
    c.write_register.ensures.registers ∙ ap (λ n. advanced (write r c.in-Load.rd n)) c.load_result.ensures ∙ sym (ap (λ (e : Effect). e.registers) does)

pub returns-in-Ok-clause-state : goal.returns-in-Ok-clause-state
returns-in-Ok-clause-state g c =
    let slots = g.S.SlotMap.slots in
    let memory = g.S.SlotStore.memory in
    let s = state_in slots memory c.args.kernel.now in
    let content = content_of s c.args.thread in
    let r = c.args.registers.now in
    let i = c.args.known.instruction in
    let address : c.plus-address.result ≡ plus (read r c.in-Load.rs1) c.in-Load.offset = search rules in
    let sees = sym c.in-Ok.is ∙ c.load_paged.ensures.value in
    let does : effect r content i ≡ loads r content c.in-Load.op c.in-Load.rd (Ok c.in-Ok.number) =
    load-effect r content i c.in-Load.op c.in-Load.rd c.in-Load.rs1 c.in-Load.offset c.load_size.result c.plus-address.result (Ok c.in-Ok.number) c.in-Load.is
    c.load_size.ensures address sees in
    ap (state_in slots memory) c.load_paged.ensures.unchanged ∙ sym (same-content s c.args.thread) ∙ sym (ap (λ (e : Effect). with_content s e.content) does)

pub returns-in-Err-clause-outcome : goal.returns-in-Err-clause-outcome
returns-in-Err-clause-outcome g c =
    let slots = g.S.SlotMap.slots in
    let memory = g.S.SlotStore.memory in
    let s = state_in slots memory c.args.kernel.now in
    let content = content_of s c.args.thread in
    let r = c.args.registers.now in
    let i = c.args.known.instruction in
    let address : c.plus-address.result ≡ plus (read r c.in-Load.rs1) c.in-Load.offset = search rules in
    let sees = sym c.in-Err.is ∙ c.load_paged.ensures.value in
    let does : effect r content i ≡ loads r content c.in-Load.op c.in-Load.rd (Err c.in-Err.fault) =
    load-effect r content i c.in-Load.op c.in-Load.rd c.in-Load.rs1 c.in-Load.offset c.load_size.result c.plus-address.result (Err c.in-Err.fault) c.in-Load.is
    c.load_size.ensures address sees in
    sym (ap (λ (e : Effect). e.exec) does)

pub returns-in-Err-clause-registers : goal.returns-in-Err-clause-registers
returns-in-Err-clause-registers g c =
    let slots = g.S.SlotMap.slots in
    let memory = g.S.SlotStore.memory in
    let s = state_in slots memory c.args.kernel.now in
    let content = content_of s c.args.thread in
    let r = c.args.registers.now in
    let i = c.args.known.instruction in
    let address : c.plus-address.result ≡ plus (read r c.in-Load.rs1) c.in-Load.offset = search rules in
    let sees = sym c.in-Err.is ∙ c.load_paged.ensures.value in
    let does : effect r content i ≡ loads r content c.in-Load.op c.in-Load.rd (Err c.in-Err.fault) =
    load-effect r content i c.in-Load.op c.in-Load.rd c.in-Load.rs1 c.in-Load.offset c.load_size.result c.plus-address.result (Err c.in-Err.fault) c.in-Load.is
    c.load_size.ensures address sees in
    sym (ap (λ (e : Effect). e.registers) does)

pub returns-in-Err-clause-state : goal.returns-in-Err-clause-state
returns-in-Err-clause-state g c =
    let slots = g.S.SlotMap.slots in
    let memory = g.S.SlotStore.memory in
    let s = state_in slots memory c.args.kernel.now in
    let content = content_of s c.args.thread in
    let r = c.args.registers.now in
    let i = c.args.known.instruction in
    let address : c.plus-address.result ≡ plus (read r c.in-Load.rs1) c.in-Load.offset = search rules in
    let sees = sym c.in-Err.is ∙ c.load_paged.ensures.value in
    let does : effect r content i ≡ loads r content c.in-Load.op c.in-Load.rd (Err c.in-Err.fault) =
    load-effect r content i c.in-Load.op c.in-Load.rd c.in-Load.rs1 c.in-Load.offset c.load_size.result c.plus-address.result (Err c.in-Err.fault) c.in-Load.is
    c.load_size.ensures address sees in
    ap (state_in slots memory) c.load_paged.ensures.unchanged ∙ sym (same-content s c.args.thread) ∙ sym (ap (λ (e : Effect). with_content s e.content) does)

pub returns-in-Ok-store_paged-clause-outcome : goal.returns-in-Ok-store_paged-clause-outcome
returns-in-Ok-store_paged-clause-outcome g c =
    let slots = g.S.SlotMap.slots in
    let memory = g.S.SlotStore.memory in
    let s = state_in slots memory c.args.kernel.now in
    let content = content_of s c.args.thread in
    let r = c.args.registers.now in
    let i = c.args.known.instruction in
    let after = content_under (state_in slots memory c.store_paged.new.kernel) (vspace_of s c.args.thread) in
    let address : c.plus-address-in-Store.result ≡ plus (read r c.in-Store.rs1) c.in-Store.offset = search rules in
    let does : effect r content i ≡ stores r content (Ok after) =
    store-effect r content i c.in-Store.op c.in-Store.rs1 c.in-Store.rs2 c.in-Store.offset c.store_size.result c.plus-address-in-Store.result
    c.read-value.result (Ok after) c.in-Store.is c.store_size.ensures address c.read-value.ensures c.in-Ok-store_paged.ensures.content in
    c.advance.ensures.outcome ∙ sym (ap (λ (e : Effect). e.exec) does)

pub returns-in-Ok-store_paged-clause-registers : goal.returns-in-Ok-store_paged-clause-registers
returns-in-Ok-store_paged-clause-registers g c =
    let slots = g.S.SlotMap.slots in
    let memory = g.S.SlotStore.memory in
    let s = state_in slots memory c.args.kernel.now in
    let content = content_of s c.args.thread in
    let r = c.args.registers.now in
    let i = c.args.known.instruction in
    let after = content_under (state_in slots memory c.store_paged.new.kernel) (vspace_of s c.args.thread) in
    let address : c.plus-address-in-Store.result ≡ plus (read r c.in-Store.rs1) c.in-Store.offset = search rules in
    let does : effect r content i ≡ stores r content (Ok after) =
    store-effect r content i c.in-Store.op c.in-Store.rs1 c.in-Store.rs2 c.in-Store.offset c.store_size.result c.plus-address-in-Store.result
    c.read-value.result (Ok after) c.in-Store.is c.store_size.ensures address c.read-value.ensures c.in-Ok-store_paged.ensures.content in
    c.advance.ensures.registers ∙ sym (ap (λ (e : Effect). e.registers) does)

pub returns-in-Ok-store_paged-clause-state : goal.returns-in-Ok-store_paged-clause-state
returns-in-Ok-store_paged-clause-state g c =
    let slots = g.S.SlotMap.slots in
    let memory = g.S.SlotStore.memory in
    let s = state_in slots memory c.args.kernel.now in
    let content = content_of s c.args.thread in
    let r = c.args.registers.now in
    let i = c.args.known.instruction in
    let after = content_under (state_in slots memory c.store_paged.new.kernel) (vspace_of s c.args.thread) in
    let address : c.plus-address-in-Store.result ≡ plus (read r c.in-Store.rs1) c.in-Store.offset = search rules in
    let does : effect r content i ≡ stores r content (Ok after) =
    store-effect r content i c.in-Store.op c.in-Store.rs1 c.in-Store.rs2 c.in-Store.offset c.store_size.result c.plus-address-in-Store.result
    c.read-value.result (Ok after) c.in-Store.is c.store_size.ensures address c.read-value.ensures c.in-Ok-store_paged.ensures.content in
    c.store_paged.ensures.state ∙ sym (ap (λ (e : Effect). with_content s e.content) does)

pub returns-in-Err-store_paged-clause-outcome : goal.returns-in-Err-store_paged-clause-outcome
returns-in-Err-store_paged-clause-outcome g c =
    let slots = g.S.SlotMap.slots in
    let memory = g.S.SlotStore.memory in
    let s = state_in slots memory c.args.kernel.now in
    let content = content_of s c.args.thread in
    let r = c.args.registers.now in
    let i = c.args.known.instruction in
    let address : c.plus-address-in-Store.result ≡ plus (read r c.in-Store.rs1) c.in-Store.offset = search rules in
    let does : effect r content i ≡ stores r content (Err c.in-Err-store_paged.fault) =
    store-effect r content i c.in-Store.op c.in-Store.rs1 c.in-Store.rs2 c.in-Store.offset c.store_size.result c.plus-address-in-Store.result
    c.read-value.result (Err c.in-Err-store_paged.fault) c.in-Store.is c.store_size.ensures address c.read-value.ensures
    c.in-Err-store_paged.ensures.content.0 in
    sym (ap (λ (e : Effect). e.exec) does)

pub returns-in-Err-store_paged-clause-registers : goal.returns-in-Err-store_paged-clause-registers
returns-in-Err-store_paged-clause-registers g c =
    let slots = g.S.SlotMap.slots in
    let memory = g.S.SlotStore.memory in
    let s = state_in slots memory c.args.kernel.now in
    let content = content_of s c.args.thread in
    let r = c.args.registers.now in
    let i = c.args.known.instruction in
    let address : c.plus-address-in-Store.result ≡ plus (read r c.in-Store.rs1) c.in-Store.offset = search rules in
    let does : effect r content i ≡ stores r content (Err c.in-Err-store_paged.fault) =
    store-effect r content i c.in-Store.op c.in-Store.rs1 c.in-Store.rs2 c.in-Store.offset c.store_size.result c.plus-address-in-Store.result
    c.read-value.result (Err c.in-Err-store_paged.fault) c.in-Store.is c.store_size.ensures address c.read-value.ensures
    c.in-Err-store_paged.ensures.content.0 in
    sym (ap (λ (e : Effect). e.registers) does)

pub returns-in-Err-store_paged-clause-state : goal.returns-in-Err-store_paged-clause-state
returns-in-Err-store_paged-clause-state g c =
    let slots = g.S.SlotMap.slots in
    let memory = g.S.SlotStore.memory in
    let s = state_in slots memory c.args.kernel.now in
    let content = content_of s c.args.thread in
    let r = c.args.registers.now in
    let i = c.args.known.instruction in
    let address : c.plus-address-in-Store.result ≡ plus (read r c.in-Store.rs1) c.in-Store.offset = search rules in
    let does : effect r content i ≡ stores r content (Err c.in-Err-store_paged.fault) =
    store-effect r content i c.in-Store.op c.in-Store.rs1 c.in-Store.rs2 c.in-Store.offset c.store_size.result c.plus-address-in-Store.result
    c.read-value.result (Err c.in-Err-store_paged.fault) c.in-Store.is c.store_size.ensures address c.read-value.ensures
    c.in-Err-store_paged.ensures.content.0 in
    c.store_paged.ensures.state ∙ ap (with_content s) c.in-Err-store_paged.ensures.content.1 ∙ sym (ap (λ (e : Effect). with_content s e.content) does)

pub returns-in_default : goal.returns-in_default
returns-in_default g c =
    let slots = g.S.SlotMap.slots in
    let memory = g.S.SlotStore.memory in
    let s = state_in slots memory c.args.kernel.now in
    let content = content_of s c.args.thread in
    let r = c.args.registers.now in
    let i = c.args.known.instruction in
    let is = not-reaching i c.in_default.not-Load c.in_default.not-Store in
    let same = sym (apart r content (one_byte c.new.result.bytes) i is) in
    record {
      outcome = c.exec.ensures.outcome ∙ ap (λ (e : Effect). e.exec) same;
      registers = c.exec.ensures.registers ∙ ap (λ (e : Effect). e.registers) same;
      state = sym (same-content s c.args.thread) ∙ ap (λ (e : Effect). with_content s e.content) same;
      pages = c.requires;
    }
