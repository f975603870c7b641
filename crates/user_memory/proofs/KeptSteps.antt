-- A plain instruction as a step of a thread whose registers are kept elsewhere.
use Rattle.std.proofs.Common.{ℕ, ◌≡◌, ◌∙◌, ◌+◌, ◌==◌, ◌<◌, ◌^◌, Bool, true, false, if◌then◌else◌, Option, Some, None, Result, Ok, Err, refl, sym, ap, subst}
use Rattle.std.specs.Option.{option_map_or}
use Rattle.std.proofs.lemmas.Bool.{eq-eqb}
use Rattle.model.specs.declared.events.Event.TheVariants.{Step}
use Rattle.model.specs.declared.instructions.Access.TheVariants.{Fetch}
use Rattle.model.specs.declared.instructions.AccessSize.TheVariants.{Word}
use Rattle.model.specs.declared.instructions.Exec.{Exec}
use Rattle.model.specs.declared.instructions.Cause.TheVariants.{Illegal}
use Rattle.model.specs.declared.instructions.Exec.TheVariants.{Next, Ecall, Trap, Memory}
use Rattle.model.specs.declared.instructions.Instr.{Instr}
use Rattle.model.specs.declared.instructions.MemoryFault.{MemoryFault}
use Rattle.model.specs.declared.labels.Label.{Label}
use Rattle.model.specs.declared.labels.Label.TheVariants.{Idle, Ran}
use Rattle.model.specs.declared.labels.Outcome.TheVariants.{Plain}
use Rattle.model.specs.Kernel.AddressSpaces.{content_of, with_content}
use Rattle.model.specs.Kernel.Messages.{with_registers}
use Rattle.model.specs.Kernel.Scheduling.{current}
use Rattle.model.specs.Kernel.Soundness.{IsSound}
use Rattle.model.specs.Kernel.State.{State, Object, ThreadObject, ThreadState, as_thread, new_thread, put, thread_at}
use Rattle.model.specs.Kernel.Steps.{Done, after_effect, memory_base, ran, registers_of, runs, runs_decoded, runs_fetched, step}
use Rattle.model.specs.Machine.Decoding.{decoded}
use Rattle.model.specs.Machine.Effects.{Effect, effect}
use Rattle.model.specs.Machine.ProgramMemory.{Content, RegisterFile, loaded}
use Rattle.soundness.proofs.Laws.{current-runs}
use Rattle.user_memory.proofs.Unchanged.{effect-still, same-content}
use Rattle.user_memory.specs.Runs.{IsNext, comes_of, plain_label}

-- ---- registers that are set twice

put-twice : (objects : ℕ → Option Object) (place : ℕ) (a b c : Option Object) (other : ℕ) → b ≡ c →
    put (put objects place a) place b other ≡ put objects place c other
put-twice objects place a b c other same =
    elim (other == place) as (λ t. (if t then b else (if t then a else objects other)) ≡ (if t then c else objects other)) [
      | true ↦ same
      | false ↦ refl
    ]

-- ---- what comes of an instruction that does not go on

after-same : (s : State) (thread pc : ℕ) (r f : RegisterFile) (x : Exec) (a b : Done) → (x ≡ Next → ⊥) →
    after_effect s thread pc r x a ≡ after_effect s thread pc f x b
after-same s thread pc r f Next a b differs = absurd (differs refl)
after-same s thread pc r f Ecall a b differs = refl
after-same s thread pc r f (Trap cause) a b differs = refl
after-same s thread pc r f (Memory address access) a b differs = refl

module _ (k : State) (thread : ℕ) (r : RegisterFile) where
  -- the state that is meant: the thread has these registers
  abbrev pub meant : State
  meant = with_registers k thread r

  abbrev own : ThreadState
  own = record (thread_at k thread) { registers = r }

  there : thread_at meant thread ≡ own
  there =
      ap (λ (b : Bool). option_map_or (λ (t : ThreadState). t) (as_thread (if b then Some (ThreadObject own) else k.objects thread)) new_thread)
      (eq-eqb thread thread refl)

  pub meant-registers : registers_of meant thread ≡ r
  meant-registers = ap (λ (t : ThreadState). t.registers) there

  -- what is no instruction, and what may not be fetched
  pub comes-illegal : (word : ℕ) → Ok word ≡ loaded (content_of k thread) Fetch Word r.pc → None ≡ decoded word →
      runs meant thread ≡ comes_of meant thread (Trap Illegal)
  unfolding runs
  comes-illegal word fetched decodes =
      ap (λ (f : RegisterFile). runs_fetched meant thread (loaded (content_of k thread) Fetch Word f.pc)) meant-registers
      ∙ ap (λ (f : Result ℕ MemoryFault). runs_fetched meant thread f) (sym fetched) ∙ ap (λ (i : Option Instr). runs_decoded meant thread i) (sym decodes)

  pub comes-missed : (failed : MemoryFault) → Err failed ≡ loaded (content_of k thread) Fetch Word r.pc →
      runs meant thread ≡ comes_of meant thread (Memory failed.address failed.access)
  unfolding runs
  comes-missed failed fetched =
      ap (λ (f : RegisterFile). runs_fetched meant thread (loaded (content_of k thread) Fetch Word f.pc)) meant-registers
      ∙ ap (λ (f : Result ℕ MemoryFault). runs_fetched meant thread f) (sym fetched)

  -- once its registers are written back, it is this one that runs next
  pub is-next : (s : State) (x : Exec) → s ≡ meant → IsSound meant → thread < 2 ^ 24 → current k ≡ Some thread → runs meant thread ≡ comes_of meant thread x
      → IsNext s thread r.pc x
  is-next s x same sound near is_current comes = subst (λ (t : State). IsNext t thread r.pc x) (sym same) (record {
    near = near;
    running = current-runs meant sound.threads thread is_current;
    is_current = is_current;
    place = ap (λ (f : RegisterFile). f.pc) (sym meant-registers);
    comes = comes;
  })

  pub set-twice : (after : RegisterFile) (content : Content) →
      with_content (with_registers meant thread after) content ≡ with_registers (with_content k content) thread after
  set-twice after content = λ i. record (with_content k content) {
    objects = λ other. put-twice k.objects thread (Some (ThreadObject own)) (Some (ThreadObject (record (thread_at meant thread) { registers = after })))
        (Some (ThreadObject (record (thread_at k thread) { registers = after }))) other
        (ap (λ (t : ThreadState). Some (ThreadObject (record t { registers = after }))) there) i;
  }

  module _ (instruction : Instr) (now : State) (next : RegisterFile)
      (goes : now ≡ with_content k (effect r (content_of k thread) instruction).content)
      (sets : next ≡ (effect r (content_of k thread) instruction).registers) where
    abbrev e : Effect
    e = effect r (content_of k thread) instruction

    -- where an instruction does not go on, nothing has changed
    pub still : (e.exec ≡ Next → ⊥) → with_registers now thread next ≡ meant
    still differs =
        let same = effect-still r (content_of k thread) instruction differs in
        ap (λ (s : State). with_registers s thread next) (goes ∙ ap (with_content k) same.1 ∙ same-content k thread)
        ∙ ap (with_registers k thread) (sets ∙ same.0)

    abbrev left : State
    left = with_content (with_registers meant thread e.registers) e.content

    runs-by : (word : ℕ) → Ok word ≡ loaded (content_of k thread) Fetch Word r.pc → Some instruction ≡ decoded word →
        runs meant thread ≡ after_effect meant thread r.pc e.registers e.exec (left, Plain)
    unfolding runs
    runs-by word fetched decodes =
        ap (λ (f : RegisterFile). runs_fetched meant thread (loaded (content_of k thread) Fetch Word f.pc)) meant-registers
        ∙ ap (λ (f : Result ℕ MemoryFault). runs_fetched meant thread f) (sym fetched)
        ∙ ap (λ (i : Option Instr). runs_decoded meant thread i) (sym decodes)
        ∙ ap (λ (f : RegisterFile). after_effect meant thread f.pc (effect f (content_of k thread) instruction).registers
        (effect f (content_of k thread) instruction).exec (
          with_content (with_registers meant thread (effect f (content_of k thread) instruction).registers)
              (effect f (content_of k thread) instruction).content,
          Plain,
        )) meant-registers

    -- and what comes of it is known
    pub comes-by : (word : ℕ) → Ok word ≡ loaded (content_of k thread) Fetch Word r.pc → Some instruction ≡ decoded word → (e.exec ≡ Next → ⊥) →
        runs meant thread ≡ comes_of meant thread e.exec
    comes-by word fetched decodes differs =
        runs-by word fetched decodes ∙ after-same meant thread r.pc e.registers (registers_of meant thread) e.exec (left, Plain) (meant, Plain) differs
        ∙ ap (λ (f : RegisterFile). after_effect meant thread f.pc (registers_of meant thread) e.exec (meant, Plain)) (sym meant-registers)

    module _ (is : current k ≡ Some thread) (word : ℕ) (fetched : Ok word ≡ loaded (content_of k thread) Fetch Word r.pc)
        (decodes : Some instruction ≡ decoded word) (is_next : e.exec ≡ Next) where
      runs-plain : runs meant thread ≡ (left, Plain)
      runs-plain = runs-by word fetched decodes ∙ ap (λ (x : Exec). after_effect meant thread r.pc e.registers x (left, Plain)) is_next

      steps-by : step meant Step ≡ ran meant thread
      unfolding step
      steps-by = ap (λ (o : Option ℕ). option_map_or (ran meant) o (meant, Idle)) is

      pub step-state : with_registers now thread next ≡ (step meant Step).0
      step-state =
          ap (λ (s : State). with_registers s thread next) goes ∙ ap (with_registers (with_content k e.content) thread) sets
          ∙ sym (set-twice e.registers e.content)
          ∙ sym (ap (λ (d : Done). d.0) runs-plain) ∙ sym (ap (λ (x : State × Label). x.0) steps-by)

      pub step-label : (step meant Step).1 ≡ plain_label thread r.pc
      step-label =
          ap (λ (x : State × Label). x.1) steps-by ∙ ap (λ (f : RegisterFile). Ran (memory_base + thread) f.pc (runs meant thread).1) meant-registers
          ∙ ap (λ (d : Done). Ran (memory_base + thread) r.pc d.1) runs-plain
