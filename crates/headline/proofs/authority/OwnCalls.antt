-- Yield, PutChar and the acknowledgement of a line stay within authority.
use Rattle.std.proofs.Common.{ℕ, ◌≡◌, Option, Some, Ok, refl, sym, subst}
use Rattle.model.specs.declared.capabilities.Cap.TheVariants.{InterruptHandler}
use Rattle.model.specs.declared.invocations.HandlerCall.TheVariants.{Acknowledge}
use Rattle.model.specs.declared.invocations.Invocation.TheVariants.{OnHandler}
use Rattle.model.specs.declared.system_calls.SendCall.{SendCall}
use Rattle.model.specs.declared.system_calls.SystemCall.{SystemCall}
use Rattle.model.specs.declared.system_calls.SystemCall.TheVariants.{PutsCharacter, Sends, Yields}
use Rattle.model.specs.Acceptance.Authority.{WithinAuthority, self_of}
use Rattle.model.specs.Images.Image.{Image, Thread}
use Rattle.model.specs.Kernel.Interrupts.{acknowledge}
use Rattle.model.specs.Kernel.Messages.{passes}
use Rattle.model.specs.Kernel.Scheduling.{yielded}
use Rattle.model.specs.Kernel.Soundness.{IsSound}
use Rattle.model.specs.Kernel.State.{State}
use Rattle.model.specs.Kernel.Steps.{call_of, calls, calls_known, system_call}
use Rattle.headline.specs.authority.Laws.{CallStaysWithin}
use Rattle.headline.specs.authority.Scenarios.{CallsOn, RunsAt, asked}
use Rattle.headline.proofs.authority.Acknowledging.{acknowledge-changes}
use Rattle.headline.proofs.authority.CallsMade.{runs-apart}
use Rattle.headline.proofs.authority.Changes.{changes-within}
use Rattle.headline.proofs.authority.Awaited.{asks-so, number-is}
use Rattle.headline.proofs.authority.Invoked.{invocation-within, invoked-as}
use Rattle.headline.proofs.authority.OwnRegisters.{goes-on-within}
use Rattle.headline.proofs.authority.Yielding.{nothing-changes, yields-on}

-- what a call of this number leaves
by-number : (image : Image) (t : Thread) (s : State) (number : ℕ) (call : SystemCall) → call_of number ≡ Some call → RunsAt image t s number
    → WithinAuthority image t s (calls s (self_of image t) call).0 → CallStaysWithin image t s
unfolding system_call
by-number image t s number call is at within =
    subst (λ (n : ℕ). WithinAuthority image t s (calls_known s (self_of image t) n (call_of n)).0)
    (sym (number-is s (self_of image t) at.own number at.is at.calls))
    (subst (λ (c : Option SystemCall). WithinAuthority image t s (calls_known s (self_of image t) number c).0) (sym is) within)

pub character-within : (image : Image) (t : Thread) (s : State) (number : ℕ) → IsSound s → call_of number ≡ Some PutsCharacter → RunsAt image t s number
    → CallStaysWithin image t s
character-within image t s number sound is at =
    let change = nothing-changes image t s sound at.own at.is at.runs in
    by-number image t s number PutsCharacter is at
    (goes-on-within image t s s (runs-apart image t s sound at.own at.is at.runs) change.now change.is (changes-within image t s s change))

pub yield-within : (image : Image) (t : Thread) (s : State) (number : ℕ) → IsSound s → call_of number ≡ Some Yields → RunsAt image t s number
    → CallStaysWithin image t s
yield-within image t s number sound is at =
    by-number image t s number Yields is at
    (changes-within image t s (yielded (passes s (self_of image t)) (self_of image t)) (yields-on image t s sound at.own at.is at.runs))

pub acknowledgement-within : (image : Image) (t : Thread) (s : State) (kind : SendCall) (number line : ℕ) → IsSound s → call_of number ≡ Some (Sends kind)
    → (call : CallsOn image t s number (InterruptHandler line)) → asked s (self_of image t) call.slot ≡ Ok (OnHandler line Acknowledge)
    → CallStaysWithin image t s
acknowledgement-within image t s kind number line sound is call asks =
    let change =
    acknowledge-changes image t s sound call.own call.is call.runs line
    (record {
      call = Sends kind;
      slot = call.slot;
      asks = asks-so image t s number (InterruptHandler line) call (Sends kind) is;
      own = call.among;
      named = call.named;
      such = (refl, call.holds);
    }) in
    invocation-within image t s number (InterruptHandler line) call sound kind is refl (acknowledge s line)
    (invoked-as image t s number (InterruptHandler line) call (OnHandler line Acknowledge) asks)
    (changes-within image t s (acknowledge s line) change) change.now change.is
