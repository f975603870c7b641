-- A thread at a system call: what the call is, and that it has no right to reply to itself.
use Rattle.std.proofs.Common.{ℕ, ◌≡◌, Bool, true, false, is_some, if◌then◌else◌, Option, Some, refl, sym, ◌∙◌, ap, subst}
use Rattle.model.specs.declared.capabilities.Cap.{Cap}
use Rattle.model.specs.declared.system_calls.SendCall.{SendCall}
use Rattle.model.specs.declared.system_calls.SendCall.TheVariants.{Calling, Sending, Trying}
use Rattle.model.specs.declared.system_calls.SystemCall.{SystemCall}
use Rattle.model.specs.Acceptance.Authority.{WithinAuthority, self_of}
use Rattle.model.specs.Images.Image.{Image, Thread}
use Rattle.model.specs.Kernel.Messages.{a0, a1, info_word, passes}
use Rattle.model.specs.Kernel.Scheduling.{is_runnable}
use Rattle.model.specs.Kernel.Soundness.{IsSound}
use Rattle.model.specs.Kernel.State.{State, Runnable, Object, ThreadObject, ThreadState, as_thread, thread_at}
use Rattle.model.specs.Kernel.Steps.{answered, call_of, calls, calls_known, completed, registers_of, system_call}
use Rattle.model.specs.Machine.Effects.{advanced}
use Rattle.model.specs.Machine.ProgramMemory.{RegisterFile, write}
use Rattle.headline.proofs.authority.Awaited.{awaited-apart, number-is, runs-awaits}
use Rattle.headline.proofs.authority.OwnRegisters.{RunsApart, goes-on-within, passes-within}
use Rattle.headline.specs.authority.Scenarios.{CallsOn}

pub runs-apart : (image : Image) (t : Thread) (s : State) → IsSound s → (own : ThreadState) → s.objects (self_of image t) ≡ Some (ThreadObject own)
    → own.status ≡ Runnable → RunsApart image t s
runs-apart image t s sound own is runs = record {
  own = own;
  is = is;
  runs = runs;
  another = λ right. awaited-apart s sound (self_of image t) (self_of image t) own is right (self_of image t) (runs-awaits s (self_of image t) own is runs)
      refl;
}

pub called-as : (image : Image) (t : Thread) (s : State) (number : ℕ) (capability : Cap) (call : CallsOn image t s number capability) (c : SystemCall)
    → call_of number ≡ Some c → system_call s (self_of image t) ≡ calls s (self_of image t) c
unfolding system_call
called-as image t s number capability call c is =
    ap (λ (n : ℕ). calls_known s (self_of image t) n (call_of n)) (number-is s (self_of image t) call.own number call.is call.calls)
    ∙ ap (calls_known s (self_of image t) number) is

-- ---- the thread goes on after its call

pub answered-within : (image : Image) (t : Thread) (s m : State) → RunsApart image t s → (now : ThreadState)
    → m.objects (self_of image t) ≡ Some (ThreadObject now) → WithinAuthority image t s m → (kind : SendCall) (number : ℕ)
    → WithinAuthority image t s (answered m (self_of image t) kind number)
answered-within image t s m apart now there within Calling number =
    let r : RegisterFile = write (write (registers_of m (self_of image t)) a0 0) a1 (info_word number 0) in
    passes-within image t s m apart now there (advanced r) within r refl
answered-within image t s m apart now there within Sending number = goes-on-within image t s m apart now there within
answered-within image t s m apart now there within Trying number = goes-on-within image t s m apart now there within

pub completed-within : (image : Image) (t : Thread) (s m : State) → RunsApart image t s → (now : ThreadState)
    → m.objects (self_of image t) ≡ Some (ThreadObject now) → WithinAuthority image t s m → (kind : SendCall)
    → WithinAuthority image t s (completed m (self_of image t) kind)
completed-within image t s m apart now there within kind =
    subst (λ (b : Bool). WithinAuthority image t s
    (if b then (if is_runnable (thread_at m (self_of image t)).status then answered m (self_of image t) kind 0 else
    passes m (self_of image t)) else m)) (sym (ap (λ (o : Option Object). is_some (as_thread o)) there))
    (elim (is_runnable (thread_at m (self_of image t)).status)
    as (λ (b : Bool). WithinAuthority image t s (if b then answered m (self_of image t) kind 0 else passes m (self_of image t))) [
      | true ↦ answered-within image t s m apart now there within kind 0
      | false ↦ goes-on-within image t s m apart now there within
    ])
