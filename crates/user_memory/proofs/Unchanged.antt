-- An instruction that does not go on changes nothing.
use Rattle.std.proofs.Common.{ℕ, inl, inr, ◌≡◌, ◌≢◌, ◌∙◌, ◌==◌, ◌%◌, ◌-◌, Bool, true, false, if◌then◌else◌, Option, Some, None, option_map, Result, Ok, Err}
use Rattle.std.proofs.Common.{refl, sym, ap}
use Rattle.std.specs.Option.{option_map_or}
use Rattle.std.proofs.lemmas.Bool.Decides.{eqb_tells}
use Rattle.model.specs.Kernel.AddressSpaces.{content_of, with_content}
use Rattle.model.specs.Kernel.Kinds.{kind_at, kind_of}
use Rattle.model.specs.Kernel.Messages.{with_registers}
use Rattle.model.specs.Kernel.Retype.{NewThread, NewEndpoint, NewNotification, NewCNode, NewFrame, NewPageTable, NewRootTable}
use Rattle.model.specs.Kernel.State.{State, Object, ThreadObject, EndpointObject, NotificationObject, CNodeObject, FrameObject, PageTableObject}
use Rattle.model.specs.Kernel.State.{RootTableObject, as_thread, new_thread, put, thread_at}
use Rattle.model.specs.Machine.Effects.{Effect, advanced, effect, goes_on, is_taken, jumps, load_size, loads, next_pc, plus, store_size, stores}
use Rattle.model.specs.Machine.ProgramMemory.{Content, RegisterFile, loaded, read, stored, write}
use Rattle.model.specs.declared.instructions.Access.TheVariants as accesses
use Rattle.model.specs.declared.instructions.Exec.TheVariants.{Next}
use Rattle.model.specs.declared.instructions.Instr.{Instr}
use Rattle.model.specs.declared.instructions.Instr.TheVariants.{Upper, Jal, Jalr, Branch, Load, Store, Immediate, Shift, Registers, Fence, Ecall, Ebreak}
use Rattle.model.specs.declared.instructions.LoadOp.{LoadOp}
use Rattle.model.specs.declared.instructions.MemoryFault.{MemoryFault}
use Rattle.model.specs.declared.instructions.Register.{Register}

-- ---- the effect

abbrev IsStill : RegisterFile → Content → Effect → Type 0
IsStill r content e = e.exec ≢ Next → (e.registers ≡ r) × (e.content ≡ content)

module _ (r : RegisterFile) (content : Content) where
  goes : (written : RegisterFile) (after : Content) → IsStill r content (goes_on written after)
  goes written after differs = absurd (differs refl)

  either : (b : Bool) (e f : Effect) → IsStill r content e → IsStill r content f → IsStill r content (if b then e else f)
  either true e f first second = first
  either false e f first second = second

  jump-still : (written : RegisterFile) (target : ℕ) → IsStill r content (jumps r content written target)
  jump-still written target = either (target % 4 == 0) (goes_on (record written { pc = target }) content) _ (goes _ _) (λ differs. (refl, refl))

  load-still : (op : LoadOp) (rd : Register) (result : Result ℕ MemoryFault) → IsStill r content (loads r content op rd result)
  load-still op rd (Ok n) = goes _ _
  load-still op rd (Err fault) = λ differs. (refl, refl)

  store-still : (result : Result Content MemoryFault) → IsStill r content (stores r content result)
  store-still (Ok after) = goes _ _
  store-still (Err fault) = λ differs. (refl, refl)

  pub effect-still : (i : Instr) → IsStill r content (effect r content i)
  unfolding effect
  effect-still (Upper op rd immediate) = goes _ _
  effect-still (Jal rd offset) = jump-still (write r rd (next_pc r)) (plus r.pc offset)
  effect-still (Jalr rd rs1 offset) = jump-still (write r rd (next_pc r)) (plus (read r rs1) offset - plus (read r rs1) offset % 2)
  effect-still (Branch op rs1 rs2 offset) =
      either (is_taken op (read r rs1) (read r rs2)) (jumps r content r (plus r.pc offset)) (goes_on (advanced r) content)
      (jump-still r (plus r.pc offset)) (goes _ _)
  effect-still (Load op rd rs1 offset) = load-still op rd (loaded content accesses.Load (load_size op) (plus (read r rs1) offset))
  effect-still (Store op rs1 rs2 offset) = store-still (stored content (store_size op) (plus (read r rs1) offset) (read r rs2))
  effect-still (Immediate op rd rs1 immediate) = goes _ _
  effect-still (Shift op rd rs1 amount) = goes _ _
  effect-still (Registers op rd rs1 rs2) = goes _ _
  effect-still Fence = goes _ _
  effect-still Ecall = λ differs. (refl, refl)
  effect-still Ebreak = λ differs. (refl, refl)

-- ---- the state

same-byte : (b : Option ℕ) → option_map_or (λ _. Some (option_map_or (λ byte. byte) b 0)) b None ≡ b
same-byte None = refl
same-byte (Some byte) = refl

pub same-content : (s : State) (thread : ℕ) → with_content s (content_of s thread) ≡ s
same-content s thread = λ i. record s { bytes = λ place. same-byte (s.bytes place) i }

thread-there : (o : Option Object) → option_map kind_of o ≡ Some NewThread → Some (ThreadObject (option_map_or (λ t. t) (as_thread o) new_thread)) ≡ o
thread-there (Some (ThreadObject t)) is = refl
thread-there None is = absurd (let clash : None ≡ Some NewThread = is in cc)
thread-there (Some (EndpointObject e)) is = absurd (let clash : Some NewEndpoint ≡ Some NewThread = is in cc)
thread-there (Some (NotificationObject n)) is = absurd (let clash : Some NewNotification ≡ Some NewThread = is in cc)
thread-there (Some (CNodeObject radix)) is = absurd (let clash : Some (NewCNode radix) ≡ Some NewThread = is in cc)
thread-there (Some FrameObject) is = absurd (let clash : Some NewFrame ≡ Some NewThread = is in cc)
thread-there (Some PageTableObject) is = absurd (let clash : Some NewPageTable ≡ Some NewThread = is in cc)
thread-there (Some RootTableObject) is = absurd (let clash : Some NewRootTable ≡ Some NewThread = is in cc)

put-same : (objects : ℕ → Option Object) (place : ℕ) (value : Option Object) (other : ℕ) → value ≡ objects place → put objects place value other ≡ objects other
put-same objects place value other is = elim (eqb_tells other place) [
  | inl here ↦ ap (λ b. if b then value else objects other) here.0 ∙ is ∙ sym (ap objects here.1)
  | inr apart ↦ ap (λ b. if b then value else objects other) apart.0
]

pub same-registers : (s : State) (thread : ℕ) → kind_at s thread ≡ Some NewThread → with_registers s thread (thread_at s thread).registers ≡ s
same-registers s thread there = λ i. record s {
  objects = λ other. put-same s.objects thread (Some (ThreadObject (thread_at s thread))) other (thread-there (s.objects thread) there) i;
}

pub unchanged : (s now after : State) (thread : ℕ) (first left : RegisterFile) (i : Instr) → kind_at s thread ≡ Some NewThread →
    first ≡ (thread_at s thread).registers
    → now ≡ with_content s (effect first (content_of s thread) i).content → left ≡ (effect first (content_of s thread) i).registers
    → after ≡ with_registers now thread left → (effect first (content_of s thread) i).exec ≢ Next → after ≡ s
unchanged s now after thread first left i there own ran leaves set differs =
    let still = effect-still first (content_of s thread) i differs in
    let back : now ≡ s = ran ∙ ap (with_content s) still.1 ∙ same-content s thread in
    set ∙ ap (λ (x : State). with_registers x thread left) back ∙ ap (with_registers s thread) (leaves ∙ still.0 ∙ own) ∙ same-registers s thread there
