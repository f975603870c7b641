-- A thread at its system call, and threads that rest: who runs, who waits, and whom a thread may answer are not the same.
use Rattle.std.proofs.Common.{ℕ, ◌≡◌, ◌≢◌, ◌++◌, Bool, true, false, if◌then◌else◌, inl, inr, map, Some, Result, List, [], ◌∷◌, refl, sym, ◌∙◌}
use Rattle.std.proofs.Common.{ap, arith}
use Rattle.model.specs.declared.capabilities.Cap.{Cap}
use Rattle.model.specs.declared.lookup_failures.LookupFailure.{LookupFailure}
use Rattle.model.specs.Acceptance.Authority.{self_of}
use Rattle.model.specs.Images.Image.{Image, Thread}
use Rattle.model.specs.Kernel.Messages.{a7}
use Rattle.model.specs.Kernel.Scheduling.{is_runnable}
use Rattle.model.specs.Kernel.Soundness.{IsSound, awaits_answer, waiting_at}
use Rattle.model.specs.Kernel.State.{State, Runnable, Blocked, Sender, EndpointObject, EndpointState, ThreadObject}
use Rattle.model.specs.Kernel.State.{ThreadState, as_thread}
use Rattle.model.specs.Kernel.State.{thread_at}
use Rattle.model.specs.Kernel.Steps.{call_of, calls_known, registers_of, send_by, send_named, system_call}
use Rattle.model.specs.declared.system_calls.SendCall.TheVariants.{Sending}
use Rattle.model.specs.declared.system_calls.SystemCall.{SystemCall}
use Rattle.model.specs.Machine.ProgramMemory.{read}
use Rattle.model.specs.Shared.Lists.{times_in}
use Rattle.headline.proofs.authority.Interrupted.{Waits, one-more, rests-nowhere, waits-own}
use Rattle.headline.specs.authority.Scenarios.{CallsOn}
use Rattle.headline.proofs.facts.Laws.{at-place}

-- ---- the calls

-- the thread's number of the call
pub number-is : (s : State) (thread : ℕ) (own : ThreadState) (number : ℕ) → s.objects thread ≡ Some (ThreadObject own) → read own.registers a7 ≡ number
    → read (thread_at s thread).registers a7 ≡ number
number-is s thread own number is calls = ap (λ (u : ThreadState). read u.registers a7) (at-place s thread own is) ∙ calls

-- the call of that number is what it asks for
pub asks-so : (image : Image) (t : Thread) (s : State) (number : ℕ) (capability : Cap) (call : CallsOn image t s number capability) (what : SystemCall)
    → call_of number ≡ Some what → call_of (read (registers_of s (self_of image t)) a7) ≡ Some what
asks-so image t s number capability call what is = ap call_of (number-is s (self_of image t) call.own number call.is call.calls) ∙ is

pub sends-by : (image : Image) (t : Thread) (s : State) (capability : Cap) (call : CallsOn image t s 3 capability)
    → (system_call s (self_of image t)).0 ≡ (send_by s (self_of image t) Sending call.slot capability).0
unfolding system_call
sends-by image t s capability call =
    ap (λ (n : ℕ). (calls_known s (self_of image t) n (call_of n)).0) (number-is s (self_of image t) call.own 3 call.is call.calls)
    ∙ ap (λ (r : Result ℕ LookupFailure). (send_named s (self_of image t) Sending r).0) call.named
    ∙ ap (λ (c : Cap). (send_by s (self_of image t) Sending call.slot c).0) call.holds

-- who rests is another thread than who runs
pub resting-apart : (s : State) (a b : ℕ) (one two : ThreadState) → s.objects a ≡ Some (ThreadObject one) → s.objects b ≡ Some (ThreadObject two)
    → is_runnable one.status ≡ false → two.status ≡ Runnable → a ≢ b
resting-apart s a b one two is other rests runs same =
    let e : Some (ThreadObject one) ≡ Some (ThreadObject two) = sym is ∙ ap s.objects same ∙ other in
    let f : ThreadObject one ≡ ThreadObject two = cc in
    let g : one ≡ two = cc in
    let clash : false ≡ true = sym rests ∙ ap (λ (u : ThreadState). is_runnable u.status) g ∙ ap is_runnable runs in cc

pub resting-absent : (s : State) → IsSound s → (thread : ℕ) (own : ThreadState) → s.objects thread ≡ Some (ThreadObject own) → is_runnable own.status ≡ false
    → (priority : ℕ) → times_in (s.ready priority) thread ≡ 0
resting-absent s sound thread own is rests priority =
    sound.threads.ready thread priority ∙ ap (λ (b : Bool). if b then 1 else 0) (rests-nowhere s thread own is rests priority)

-- who runs, or waits at a queue, awaits no answer
pub runs-awaits : (s : State) (thread : ℕ) (own : ThreadState) → s.objects thread ≡ Some (ThreadObject own) → own.status ≡ Runnable
    → awaits_answer (thread_at s thread).status ≡ false
runs-awaits s thread own is runs = ap (λ (u : ThreadState). awaits_answer u.status) (at-place s thread own is) ∙ ap awaits_answer runs

pub blocked-awaits : (s : State) (thread : ℕ) (own : ThreadState) (queue : ℕ) → s.objects thread ≡ Some (ThreadObject own) → own.status ≡ Blocked queue
    → awaits_answer (thread_at s thread).status ≡ false
blocked-awaits s thread own queue is waits = ap (λ (u : ThreadState). awaits_answer u.status) (at-place s thread own is) ∙ ap awaits_answer waits

-- who awaits a reply is none of those that await nothing
pub awaited-apart : (s : State) → IsSound s → (thread caller : ℕ) (own : ThreadState) → s.objects thread ≡ Some (ThreadObject own)
    → own.caller ≡ Some caller → (other : ℕ) → awaits_answer (thread_at s other).status ≡ false → caller ≢ other
awaited-apart s sound thread caller own is right other rests same =
    let awaits = sound.threads.callers thread caller (ap (λ (u : ThreadState). u.caller) (at-place s thread own is) ∙ right) in
    let clash : true ≡ false = sym awaits ∙ ap (λ (n : ℕ). awaits_answer (thread_at s n).status) same ∙ rests in cc

-- the first of those that wait at an object
pub first-waits : (s : State) → IsSound s → (queue thread : ℕ) (others : List ℕ) → waiting_at (s.objects queue) ≡ thread ∷ others → Waits s thread queue
first-waits s sound queue thread others standing =
    let law = sound.threads.queued thread queue in
    let count : times_in (waiting_at (s.objects queue)) thread ≡ times_in (thread ∷ others) thread = ap (λ (l : List ℕ). times_in l thread) standing in
    let more = one-more thread others in
    waits-own s thread queue (as_thread (s.objects thread)) refl (omega (arith, law, count, more))

-- the first sender, or the first receiver, of an endpoint
pub sender-waits : (s : State) → IsSound s → (e : ℕ) (queue : EndpointState) → s.objects e ≡ Some (EndpointObject queue) → (first : Sender)
    (others : List Sender) → queue.senders ≡ first ∷ others → Waits s first.thread e
sender-waits s sound e queue was first others list =
    first-waits s sound e first.thread (map (λ (x : Sender). x.thread) others ++ queue.receivers)
    (ap waiting_at was ∙ ap (λ (l : List Sender). map (λ (x : Sender). x.thread) l ++ queue.receivers) list)

pub receiver-waits : (s : State) → IsSound s → (e : ℕ) (queue : EndpointState) → s.objects e ≡ Some (EndpointObject queue) → (r : ℕ) (others : List ℕ)
    → queue.receivers ≡ r ∷ others → Waits s r e
receiver-waits s sound e queue was r others list =
    let nobody : queue.senders ≡ [] = elim (sound.threads.one_sided e queue was) [
      | inl none ↦ none
      | inr none ↦ absurd (let clash : r ∷ others ≡ [] = sym list ∙ none in cc)
    ] in
    first-waits s sound e r others (ap waiting_at was ∙ ap (λ (l : List Sender). map (λ (x : Sender). x.thread) l ++ queue.receivers) nobody ∙ list)
