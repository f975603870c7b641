-- A step that makes a system call goes well if the call does; one that invokes nothing does.
use Rattle.std.proofs.Common.{ℕ, ◌≡◌, ◌∙◌, ◌+◌, ◌++◌, Option, Some, Result, Ok, List, [], ◌∷◌, sym, ap, subst}
use Rattle.std.specs.Prelude.{Contains, slice_index}
use Rattle.std.specs.Option.{option_map_or}
use Rattle.soundness.proofs.Laws.{current-runs}
use Rattle.headline.specs.calls.Known.{CallsSo, IsAllowed}
use Rattle.headline.specs.facts.Standing.{AllStand}
use Rattle.headline.proofs.facts.Laws.{at-place}
use Rattle.model.specs.declared.events.Event.TheVariants.{Step}
use Rattle.model.specs.declared.instructions.Access.TheVariants.{Fetch}
use Rattle.model.specs.declared.instructions.AccessSize.TheVariants.{Word}
use Rattle.model.specs.declared.instructions.Instr.TheVariants.{Ecall}
use Rattle.model.specs.declared.instructions.MemoryFault.{MemoryFault}
use Rattle.model.specs.declared.labels.Label.{Label}
use Rattle.model.specs.declared.labels.Label.TheVariants.{Idle, Ran}
use Rattle.model.specs.Acceptance.Accepted.{IsAccepted}
use Rattle.model.specs.Acceptance.CallRules.{AfterCall, by_call}
use Rattle.model.specs.Acceptance.NotedStates.{PointState}
use Rattle.model.specs.Acceptance.PointStates.{instruction_at, point_of}
use Rattle.model.specs.Acceptance.ThreadInvariants.{IsWithinBudget, StandsAt, ThreadInvariant, runs as runs_so, waits as waits_so, tcb_of}
use Rattle.model.specs.Images.Described.{Numbered, numbered_threads}
use Rattle.model.specs.Images.Image.{Image}
use Rattle.model.specs.Kernel.AddressSpaces.{content_of}
use Rattle.model.specs.Kernel.Messages.{a7}
use Rattle.model.specs.Kernel.Scheduling.{current}
use Rattle.model.specs.Kernel.Soundness.{IsSound}
use Rattle.model.specs.Kernel.State.{State, Runnable, ThreadObject, ThreadState, thread_at}
use Rattle.model.specs.Kernel.Steps.{Done, call_of, calls, calls_known, memory_base, ran, registers_of, runs, runs_decoded, runs_fetched, step, system_call}
use Rattle.model.specs.declared.system_calls.SystemCall.{SystemCall}
use Rattle.model.specs.Kernel.Waits.{is_error, is_fault}
use Rattle.model.specs.Machine.Decoding.{decoded}
use Rattle.model.specs.Machine.Effects.{effect}
use Rattle.model.specs.Machine.ProgramMemory.{RegisterFile, loaded, read}
use Rattle.headline.specs.moves.Moving.{CallsAt}
use Rattle.headline.specs.moves.Laws.{Laws}
use Rattle.headline.specs.moves.Steps.{GoesWell, InvokesNothing, MakesCall}
use Rattle.headline.proofs.moves.ReceiveCalls.{IsFine}
use Rattle.headline.proofs.moves.Ticks.{one-event}
use Rattle.headline.proofs.moves.Woken.{no-runner, runs-status}
use Rattle.headline.proofs.moves.MessageCalls.{calls-fine}

-- whatever system call the rules allow where the thread is, what it leaves is fine
abbrev pub CallsAreFine : Image → Numbered → State → List Label → Type 0
CallsAreFine image t s labels =
    (own : ThreadState) (point : ℕ) (state : PointState) (left : AfterCall) (call : SystemCall) → CallsAt image t s labels own point state left
    → call_of (read (registers_of s (tcb_of image t)) a7) ≡ Some call → by_call image t.thread (point_of t point) state call ≡ Ok left
    → IsSound (calls s (tcb_of image t) call).0 → IsFine image t labels (registers_of s (tcb_of image t)).pc (calls s (tcb_of image t) call)

module _ (laws : Laws) (bytes : List ℕ) (image : Image) (t : Numbered) (s : State) (labels : List Label) (accepted : IsAccepted bytes image)
    (all : AllStand image s labels)
    (listed : Contains (numbered_threads image) t) (now : current s ≡ Some (tcb_of image t)) (makes : MakesCall s (tcb_of image t)) where
  abbrev tcb : ℕ
  tcb = tcb_of image t

  abbrev r : RegisterFile
  r = registers_of s tcb

  module _ (own : ThreadState) (point : ℕ) (state : PointState) (there : s.objects tcb ≡ Some (ThreadObject own)) (status : own.status ≡ Runnable)
      (stands : StandsAt image t s own point state) (budget : IsWithinBudget image t labels own state) where
    same : thread_at s tcb ≡ own
    same = at-place s tcb own there

    fetch : loaded (content_of s tcb) Fetch Word r.pc ≡ Ok (slice_index t.thread.words point)
    fetch = ap (loaded (content_of s tcb) Fetch Word) (ap (λ (u : ThreadState). u.registers.pc) same ∙ stands.pc) ∙ stands.program point stands.inside

    word-is : slice_index t.thread.words point ≡ makes.word
    word-is = let both : ◌≡◌ {A = Result ℕ MemoryFault} (Ok (slice_index t.thread.words point)) (Ok makes.word) = sym fetch ∙ makes.fetched in cc

    ecall : instruction_at t.thread point ≡ Some Ecall
    ecall = ap decoded word-is ∙ makes.call

    here : IsAllowed image t point state
    here = laws.allowed bytes image t point state accepted listed stands.inside stands.known ecall

    abbrev left : AfterCall
    left = here.left

    at : CallsAt image t s labels own point state left
    at = record { there = there; status = status; stands = stands; budget = budget; ecall = ecall; call = here.at }

    so : CallsSo image t.thread (point_of t point) state left own.registers
    so = laws.number image t.thread (point_of t point) state left own.registers here.is stands.registers

    number-is : call_of (read r a7) ≡ Some so.call
    number-is = ap (λ (u : ThreadState). call_of (read u.registers a7)) same ∙ so.number

    called-is : system_call s tcb ≡ calls s tcb so.call
    unfolding system_call
    called-is = ap (calls_known s tcb (read r a7)) number-is

    runs-so : runs s tcb ≡ system_call s tcb
    unfolding runs effect
    runs-so = ap (runs_fetched s tcb) makes.fetched ∙ ap (runs_decoded s tcb) makes.call

    stepped : step s Step ≡ ((system_call s tcb).0, Ran (memory_base + tcb) r.pc (system_call s tcb).1)
    unfolding step
    stepped = ap (λ (o : Option ℕ). option_map_or (ran s) o (s, Idle)) now
        ∙ ap (λ (d : Done). let x : State × Label = (d.0, Ran (memory_base + tcb) r.pc d.1) in x) runs-so

    sound-called : IsSound (calls s tcb so.call).0
    sound-called = subst (λ (d : Done). IsSound d.0) called-is (subst (λ (x : State × Label). IsSound x.0) stepped (one-event laws.keeps s Step all.sound))

    well : CallsAreFine image t s labels → IsFine image t labels r.pc (calls s tcb so.call)
    well fine = fine own point state left so.call at number-is so.rule sound-called

    goes : CallsAreFine image t s labels → GoesWell image s labels Step
    goes fine =
        let well-called : IsFine image t labels r.pc (system_call s tcb) = subst (IsFine image t labels r.pc) (sym called-is) (well fine) in
        record {
          faults = ap (λ (x : State × Label). is_fault x.1) stepped ∙ well-called.faults;
          errors = ap (λ (x : State × Label). is_error x.1) stepped ∙ well-called.errors;
          stands = subst (λ (x : State × Label). AllStand image x.0 (labels ++ x.1 ∷ [])) (sym stepped) well-called.stands;
        }

  -- the thread runs, so its invariant says where it is
  from-invariant : (Goal : Type 0) → ((own : ThreadState) (point : ℕ) (state : PointState) → s.objects tcb ≡ Some (ThreadObject own) → own.status ≡ Runnable
      → StandsAt image t s own point state → IsWithinBudget image t labels own state → Goal) → ThreadInvariant image t s labels → Goal
  from-invariant Goal reaches (runs_so own point state there status stands budget) = reaches own point state there status stands budget
  from-invariant Goal reaches (waits_so own point state there status stands asks none) =
      let running = current-runs s all.sound.threads tcb now in
      absurd (no-runner own.status (ap (λ (u : ThreadState). u.status) (sym (at-place s tcb own there)) ∙ runs-status (thread_at s tcb).status running.runs)
      status)

  pub call-goes-well : CallsAreFine image t s labels → GoesWell image s labels Step
  call-goes-well fine =
      from-invariant (GoesWell image s labels Step) (λ own point state there status stands budget. goes own point state there status stands budget fine)
      (all.stand t listed)

  -- what is so of each state that a call leaves which the rules allow is so of what the step leaves
  pub call-leaves : (P : State → Type 0) → ((own : ThreadState) (point : ℕ) (state : PointState) (left : AfterCall) (call : SystemCall)
      → CallsAt image t s labels own point state left → call_of (read own.registers a7) ≡ Some call
      → call_of (read (registers_of s (tcb_of image t)) a7) ≡ Some call → by_call image t.thread (point_of t point) state call ≡ Ok left
      → P (system_call s (tcb_of image t)).0) → P (step s Step).0
  call-leaves P each =
      from-invariant (P (step s Step).0) (λ own point state there status stands budget.
      let called = so own point state there status stands budget in
      subst (λ (x : State × Label). P x.0) (sym (stepped own point state there status stands budget))
      (each own point state (left own point state there status stands budget) called.call (at own point state there status stands budget) called.number
      (number-is own point state there status stands budget) called.rule)) (all.stand t listed)

  pub message-goes-well : InvokesNothing s (tcb_of image t) → GoesWell image s labels Step
  message-goes-well quiet =
      call-goes-well
      (λ own point state left call at number rule sound.
      calls-fine laws bytes image s labels accepted all t listed own point state left at (registers_of s tcb).pc call rule
      (λ kind slot is named. quiet kind slot (number ∙ ap Some is) named) sound)
