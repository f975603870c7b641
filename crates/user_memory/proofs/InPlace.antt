-- What an instruction leaves whose registers are written where they are.
use Rattle.std.proofs.Common.{ℕ, ℤ, ◌≡◌, ◌≢◌, ◌∙◌, false, Some, Ok, Err, refl, sym, ap}
use Rattle.model.specs.declared.instructions.Access.TheVariants as accesses
use Rattle.model.specs.declared.instructions.AccessSize.{AccessSize}
use Rattle.model.specs.declared.instructions.Exec.{Exec}
use Rattle.model.specs.declared.instructions.Exec.TheVariants.{Memory, Next}
use Rattle.model.specs.declared.instructions.Instr.{Instr}
use Rattle.model.specs.declared.instructions.Instr.TheVariants as instructions
use Rattle.model.specs.declared.instructions.LoadOp.{LoadOp}
use Rattle.model.specs.declared.instructions.MemoryFault.{MemoryFault}
use Rattle.model.specs.declared.instructions.Register.{Register}
use Rattle.model.specs.declared.instructions.StoreOp.{StoreOp}
use Rattle.model.specs.Kernel.AddressSpaces.{content_of, with_content}
use Rattle.model.specs.Kernel.Kinds.{kind_at}
use Rattle.model.specs.Kernel.Messages.{with_registers}
use Rattle.model.specs.Kernel.Retype.{NewThread}
use Rattle.model.specs.Kernel.State.{State}
use Rattle.model.specs.Kernel.Steps.{registers_of}
use Rattle.model.specs.Machine.Effects.{Effect, advanced, effect, goes_on, load_result, load_size, loads, plus, stays, store_size, stores}
use Rattle.model.specs.Machine.ProgramMemory.{Content, RegisterFile, loaded, read, stored, write}
use Rattle.user_memory.proofs.Apart.{apart}
use Rattle.user_memory.proofs.Executed.{effect-on, goes-to}
use Rattle.user_memory.proofs.Unchanged.{effect-still, same-content, same-registers}
use Rattle.user_memory.specs.Reaching.{reaches}

pub loaded-same : (c : Content) {a b : AccessSize} {m n : ℕ} → a ≡ b → m ≡ n → loaded c accesses.Load a m ≡ loaded c accesses.Load b n
loaded-same c size address = rw (size, address) refl

pub stored-same : {c d : Content} {a b : AccessSize} {m n v w : ℕ} → c ≡ d → a ≡ b → m ≡ n → v ≡ w → stored c a m v ≡ stored d b n w
stored-same content size address value = rw (content, size, address, value) refl

-- what is neither a load nor a store
pub not-reaching : (i : Instr) → ((op : LoadOp) (rd rs1 : Register) (offset : ℤ) → i ≢ instructions.Load op rd rs1 offset)
    → ((op : StoreOp) (rs1 rs2 : Register) (offset : ℤ) → i ≢ instructions.Store op rs1 rs2 offset) → reaches i ≡ false
not-reaching (instructions.Load op rd rs1 offset) no_load no_store = absurd (no_load op rd rs1 offset refl)
not-reaching (instructions.Store op rs1 rs2 offset) no_load no_store = absurd (no_store op rs1 rs2 offset refl)
not-reaching (instructions.Upper op rd immediate) no_load no_store = refl
not-reaching (instructions.Jal rd offset) no_load no_store = refl
not-reaching (instructions.Jalr rd rs1 offset) no_load no_store = refl
not-reaching (instructions.Branch op rs1 rs2 offset) no_load no_store = refl
not-reaching (instructions.Immediate op rd rs1 immediate) no_load no_store = refl
not-reaching (instructions.Shift op rd rs1 amount) no_load no_store = refl
not-reaching (instructions.Registers op rd rs1 rs2) no_load no_store = refl
not-reaching instructions.Fence no_load no_store = refl
not-reaching instructions.Ecall no_load no_store = refl
not-reaching instructions.Ebreak no_load no_store = refl

pub record Executes (s : State) (thread : ℕ) (i : Instr) (outcome : Exec) (t : State) : Type 0 where
  pub outcome_is : outcome ≡ (effect-on s thread i).exec
  pub state : t ≡ goes-to s thread i

module _ (s : State) (thread : ℕ) where
  abbrev own : RegisterFile
  own = registers_of s thread

  abbrev seen : Content
  seen = content_of s thread

  abbrev left : Effect → State
  left e = with_content (with_registers s thread e.registers) e.content

  executes : (i : Instr) (t : State) (e : Effect) → e ≡ effect-on s thread i → t ≡ left e → Executes s thread i e.exec t
  executes i t e same is = record { outcome_is = ap (λ (x : Effect). x.exec) same; state = is ∙ ap left same }

  -- registers alone are others
  set-alone : (r : RegisterFile) → with_registers s thread r ≡ left (goes_on r seen)
  set-alone r = sym (same-content (with_registers s thread r) thread)

  module _ (there : kind_at s thread ≡ Some NewThread) where
    stays-left : (exec : Exec) → s ≡ left (stays own seen exec)
    stays-left exec = sym (same-registers s thread there) ∙ set-alone own

    -- and nothing is, where it does not go on
    pub still : (i : Instr) (outcome : Exec) (t : State) → Executes s thread i outcome t → outcome ≢ Next → t ≡ s
    still i outcome t done differs =
        let kept = effect-still own seen i (λ next. differs (done.outcome_is ∙ next)) in
        done.state ∙ ap (λ (r : RegisterFile). with_content (with_registers s thread r) (effect-on s thread i).content) kept.0
        ∙ ap (λ (c : Content). with_content (with_registers s thread own) c) kept.1
        ∙ sym (stays-left Next)

    pub load-faults : (op : LoadOp) (rd rs1 : Register) (offset : ℤ) (fault : MemoryFault)
        → Err fault ≡ loaded seen accesses.Load (load_size op) (plus (read own rs1) offset)
        → Executes s thread (instructions.Load op rd rs1 offset) (Memory fault.address fault.access) s
    unfolding effect
    load-faults op rd rs1 offset fault sees =
        executes (instructions.Load op rd rs1 offset) s (loads own seen op rd (Err fault)) (ap (loads own seen op rd) sees)
        (stays-left (Memory fault.address fault.access))

    pub store-faults : (op : StoreOp) (rs1 rs2 : Register) (offset : ℤ) (fault : MemoryFault) (t : State)
        → stored seen (store_size op) (plus (read own rs1) offset) (read own rs2) ≡ Err fault → t ≡ s
        → Executes s thread (instructions.Store op rs1 rs2 offset) (Memory fault.address fault.access) t
    unfolding effect
    store-faults op rs1 rs2 offset fault t sees same =
        executes (instructions.Store op rs1 rs2 offset) t (stores own seen (Err fault)) (ap (stores own seen) (sym sees))
        (same ∙ stays-left (Memory fault.address fault.access))

  pub load-goes : (op : LoadOp) (rd rs1 : Register) (offset : ℤ) (n : ℕ) (t : State)
      → Ok n ≡ loaded seen accesses.Load (load_size op) (plus (read own rs1) offset)
      → t ≡ with_registers s thread (advanced (write own rd (load_result op n)))
      → Executes s thread (instructions.Load op rd rs1 offset) Next t
  unfolding effect
  load-goes op rd rs1 offset n t sees set =
      executes (instructions.Load op rd rs1 offset) t (loads own seen op rd (Ok n)) (ap (loads own seen op rd) sees) (set ∙ set-alone _)

  pub store-goes : (op : StoreOp) (rs1 rs2 : Register) (offset : ℤ) (after : Content) (mid t : State)
      → stored seen (store_size op) (plus (read own rs1) offset) (read own rs2) ≡ Ok after
      → mid ≡ with_content s after → t ≡ with_registers mid thread (advanced (registers_of mid thread))
      → Executes s thread (instructions.Store op rs1 rs2 offset) Next t
  unfolding effect
  store-goes op rs1 rs2 offset after mid t sees stores_it set =
      executes (instructions.Store op rs1 rs2 offset) t (stores own seen (Ok after)) (ap (stores own seen) (sym sees))
      (set ∙ ap (λ (x : State). with_registers x thread (advanced (registers_of x thread))) stores_it)

  -- over any memory, where it reaches none
  pub plain-goes : (i : Instr) (other : Content) (outcome : Exec) (t : State) → reaches i ≡ false → outcome ≡ (effect own other i).exec
      → t ≡ with_registers s thread (effect own other i).registers → Executes s thread i outcome t
  plain-goes i other outcome t is went set =
      let same = sym (apart own seen other i is) in
      record {
        outcome_is = went ∙ ap (λ (e : Effect). e.exec) same;
        state = set ∙ set-alone _ ∙ ap left same;
      }
