-- Calls on threads, ticks and steps of a thread alone.
use Rattle.std.proofs.Common.{ℕ, ◌≡◌, ◌∙◌, ◌==◌, ◌&&◌, ◌||◌, ◌-◌, ◌%◌, ◌^◌, ◌<◌, ◌≤◌, Bool, true, false, not, nat_le, if◌then◌else◌, Option, Some, None, Ok}
use Rattle.std.proofs.Common.{refl, sym, ap, subst, arith}
use Rattle.std.specs.Option.{option_map_or}
use Rattle.std.proofs.lemmas.Bool.{leb-false, leb-true}
use Rattle.model.specs.declared.errors.KError.TheVariants.{AlignmentError, IllegalOperation, RangeError}
use Rattle.model.specs.Kernel.Arguments.{check}
use Rattle.model.specs.Kernel.Kinds.{kind_at}
use Rattle.model.specs.Kernel.Messages.{passes, register, with_registers}
use Rattle.model.specs.Kernel.Retype.{NewThread}
use Rattle.model.specs.Kernel.Scheduling.{at_tail, current, full_slice, is_runnable, leaves, tick, ticked, unready, wake, yielded}
use Rattle.model.specs.Kernel.Soundness.{ThreadIsSound, awaits_answer, IsSound}
use Rattle.model.specs.Kernel.State.{State, Inactive, Object, ThreadObject, ThreadState, thread_at, with_thread}
use Rattle.model.specs.Kernel.ThreadCalls.{is_caller, resume, set_priority, set_register, suspend, with_priority, with_register}
use Rattle.model.specs.Machine.Effects.{advanced}
use Rattle.model.specs.Machine.ProgramMemory.{RegisterFile, write}
use Rattle.soundness.specs.Running.{RegistersAreSound}
use Rattle.soundness.proofs.Lookups.{check-passes, passes-both}
use Rattle.soundness.proofs.Moving.{Moving, begins, own_of, runs_of, stands-thread, waits_of}
use Rattle.soundness.proofs.Registers.{advanced-sound, registers-of, with-pc, with-registers, written-sound}
use Rattle.soundness.proofs.Rest.{thread-kind}
use Rattle.soundness.proofs.Running.{current-runs}
use Rattle.soundness.proofs.Steps.{left-moving, own-fine, rewritten-whole, stopped-whole, tail-whole, woken-whole}

module _ (s : State) (whole : IsSound s) (x : ℕ) (is_thread : kind_at s x ≡ Some NewThread) where
  left : Moving (kind_at s) (leaves s x) x (λ _. 0) (λ _. 0) false
  left = left-moving (kind_at s) s x (runs_of (s.objects x)) (waits_of (s.objects x)) (awaits_answer (thread_at s x).status) (begins s x whole)

  pub suspend-whole : IsSound (suspend s x)
  suspend-whole = stopped-whole (kind_at s) (leaves s x) x (λ _. 0) (λ _. 0) false left is_thread Inactive refl (λ _. refl) (λ e. e)

  pub resume-whole : IsSound (resume s x)
  resume-whole = elim (is_runnable (thread_at s x).status) as (λ b. IsSound (if b then s else wake (leaves s x) x)) [
    | true ↦ whole
    | false ↦ woken-whole (kind_at s) (leaves s x) x (λ _. 0) left is_thread
  ]

  own : (t : ThreadState) × (s.objects x ≡ Some (ThreadObject t))
  own = thread-kind (s.objects x) is_thread

  pub fine-of : ThreadIsSound (thread_at s x)
  fine-of = own-fine (kind_at s) s x (runs_of (s.objects x)) (waits_of (s.objects x)) x (begins s x whole).listed is_thread

  -- the object is the thread
  own-object : s.objects x ≡ Some (ThreadObject (thread_at s x))
  own-object = own.1 ∙ ap (λ (t : ThreadState). Some (ThreadObject t)) (sym (ap own_of own.1))

  -- the same status and the same priority
  pub same-whole : (t : ThreadState) → ThreadIsSound t → ((caller : ℕ) → t.caller ≡ Some caller → (thread_at s x).caller ≡ Some caller)
      → t.status ≡ (thread_at s x).status → t.priority ≡ (thread_at s x).priority → IsSound (with_thread s x t)
  same-whole t fine had status priority =
      let stands = stands-thread t (thread_at s x) status priority in
      rewritten-whole (kind_at s) s x (runs_of (s.objects x)) (waits_of (s.objects x)) (awaits_answer (thread_at s x).status) (begins s x whole) is_thread t
      fine had
      (λ p. ap (λ (o : Option Object). runs_of o p) own-object ∙ sym (stands.runs p))
      (λ q. ap (λ (o : Option Object). waits_of o q) own-object ∙ sym (stands.waits q))
      (λ a. stands.awaits ∙ a)

  pub registers-whole : (r : RegisterFile) → RegistersAreSound r → IsSound (with_registers s x r)
  registers-whole r sound = same-whole (record (thread_at s x) { registers = r }) (with-registers (thread_at s x) r fine-of sound) (λ _ e. e) refl refl

  pub passes-whole : IsSound (passes s x)
  passes-whole = registers-whole (advanced (thread_at s x).registers) (advanced-sound (thread_at s x).registers (registers-of (thread_at s x) fine-of))

  priority-fine : (priority : ℕ) → priority ≤ 255 → ThreadIsSound (record (thread_at s x) { priority = priority })
  priority-fine priority less = record {
    registers = fine-of.registers;
    words = fine-of.words;
    pc = fine-of.pc;
    priority = less;
    fault_address = fine-of.fault_address;
    slice = fine-of.slice;
  }

  priority-whole : (priority : ℕ) → priority ≤ 255 → IsSound (with_priority s x priority)
  priority-whole priority less =
      let t : ThreadState = record (thread_at s x) { priority = priority } in
      let waits = λ (q : ℕ). ap (λ (o : Option Object). waits_of o q) own-object in
      elim (is_runnable (thread_at s x).status) as (λ b. is_runnable (thread_at s x).status ≡ b
      → IsSound (if b then at_tail (with_thread (unready s x) x t) x else with_thread s x t)) [
        | true ↦ λ runs.
            tail-whole (kind_at s) s x (runs_of (s.objects x)) (waits_of (s.objects x)) (awaits_answer (thread_at s x).status) (begins s x whole) is_thread t
            (priority-fine priority less) refl runs waits (λ a. a)
        | false ↦ λ rests.
            rewritten-whole (kind_at s) s x (runs_of (s.objects x)) (waits_of (s.objects x)) (awaits_answer (thread_at s x).status) (begins s x whole) is_thread
            t
            (priority-fine priority less) (λ _ e. e)
            (λ p. ap (λ (o : Option Object). runs_of o p) own-object ∙ ap (λ (b : Bool). if b && (thread_at s x).priority == p then 1 else 0) rests
            ∙ sym (ap (λ (b : Bool). if b && priority == p then 1 else 0) rests))
            waits (λ a. a)
      ] refl

  pub set_priority-whole : (t : State) (priority : ℕ) → set_priority s x priority ≡ Ok t → IsSound t
  set_priority-whole t priority is =
      let one = passes-both (check (nat_le priority 255) RangeError) _ t is in
      let e : with_priority s x priority ≡ t = cc one.rest in
      subst IsSound e (priority-whole priority (leb-true priority 255 (check-passes (nat_le priority 255) RangeError one.value one.first)))

  register-whole : (index value : ℕ) → value < 2 ^ 32 → IsSound (with_register s x index value)
  register-whole index value less =
      let r = (thread_at s x).registers in
      let sound = registers-of (thread_at s x) fine-of in
      elim (index == 0) as (λ b. IsSound (with_registers s x (if b then record r { pc = value } else write r (register index) value))) [
        | true ↦ registers-whole (record r { pc = value }) (with-pc r value sound less)
        | false ↦ registers-whole (write r (register index) value) (written-sound r (register index) value sound less)
      ]

  pub set_register-whole : (t : State) (caller : Option ℕ) (index value : ℕ) → value < 2 ^ 32 → set_register s caller x index value ≡ Ok t → IsSound t
  set_register-whole t caller index value less is =
      let one = passes-both (check (not (is_caller caller x)) IllegalOperation) _ t is in
      let two = passes-both (check (nat_le index 31) RangeError) _ t one.rest in
      let three = passes-both (check (not (index == 0) || value % 4 == 0) AlignmentError) _ t two.rest in
      let e : with_register s x index value ≡ t = cc three.rest in
      subst IsSound e (register-whole index value less)

  -- ---- slices

  slice-fine : (slice : ℕ) → 1 ≤ slice → slice ≤ 5 → ThreadIsSound (record (thread_at s x) { slice = slice })
  slice-fine slice least most = record {
    registers = fine-of.registers;
    words = fine-of.words;
    pc = fine-of.pc;
    priority = fine-of.priority;
    fault_address = fine-of.fault_address;
    slice = λ _. (least, most);
  }

  pub yielded-whole : is_runnable (thread_at s x).status ≡ true → IsSound (yielded s x)
  yielded-whole runs =
      tail-whole (kind_at s) s x (runs_of (s.objects x)) (waits_of (s.objects x)) (awaits_answer (thread_at s x).status) (begins s x whole) is_thread
      (record (thread_at s x) { slice = full_slice }) (slice-fine full_slice (omega arith) (omega arith)) refl runs
      (λ q. ap (λ (o : Option Object). waits_of o q) own-object) (λ a. a)

  ticked-whole : is_runnable (thread_at s x).status ≡ true → IsSound (ticked s x)
  ticked-whole runs =
      let slice = (thread_at s x).slice in
      let bounds = fine-of.slice runs in
      elim (nat_le slice 1) as (λ b. nat_le slice 1 ≡ b → IsSound (if b then yielded s x else with_thread s x (record (thread_at s x) { slice = slice - 1 }))) [
        | true ↦ λ _. yielded-whole runs
        | false ↦ λ more.
            let large = leb-false slice 1 more in
            same-whole (record (thread_at s x) { slice = slice - 1 }) (slice-fine (slice - 1) (omega (arith, large)) (omega (arith, bounds.1))) (λ _ e. e) refl
            refl
      ] refl

tick-by : (s : State) → IsSound s → (o : Option ℕ) → current s ≡ o → IsSound (option_map_or (ticked s) o s)
tick-by s whole None is = whole
tick-by s whole (Some x) is = let runs = current-runs s whole.threads x is in ticked-whole s whole x runs.kind runs.runs

pub tick-whole : (s : State) → IsSound s → IsSound (tick s)
tick-whole s whole = tick-by s whole (current s) refl
