-- An invocation stays within authority where the state that it leaves does: the thread then goes on, with an answer where it called.
use Rattle.std.proofs.Common.{ℕ, ◌≡◌, Some, Result, Ok, sym, ◌∙◌, ap, subst}
use Rattle.model.specs.declared.capabilities.Cap.{Cap}
use Rattle.model.specs.declared.errors.KError.{KError}
use Rattle.model.specs.declared.invocations.Invocation.{Invocation}
use Rattle.model.specs.declared.system_calls.SendCall.{SendCall}
use Rattle.model.specs.declared.system_calls.SystemCall.TheVariants.{Sends}
use Rattle.model.specs.Acceptance.Authority.{WithinAuthority, self_of}
use Rattle.model.specs.Capabilities.Slots.{capability_at}
use Rattle.model.specs.Images.Image.{Image, Thread}
use Rattle.model.specs.Kernel.Arguments.{◌>>=◌, Call}
use Rattle.model.specs.Kernel.Invocations.{invoke, perform}
use Rattle.model.specs.Kernel.Soundness.{IsSound}
use Rattle.model.specs.Kernel.State.{State, ThreadObject, ThreadState}
use Rattle.model.specs.Kernel.Steps.{Done, after_invocation, call_of, cspace_of, invokes, send_by, send_named, system_call}
use Rattle.headline.proofs.authority.CallsMade.{called-as, completed-within, runs-apart}
use Rattle.headline.specs.authority.Scenarios.{CallsOn, asked, invoked}

module _ (image : Image) (t : Thread) (s : State) (number : ℕ) (capability : Cap) (call : CallsOn image t s number capability) where
  abbrev self : ℕ
  self = self_of image t

  -- what the call asks for is performed
  pub invoked-as : (c : Invocation) → asked s (self_of image t) call.slot ≡ Ok c → invoked s (self_of image t) call.slot
      ≡ perform s
      (record { root = cspace_of s (self_of image t); caller = Some (self_of image t); slot = call.slot; capability = capability_at s.slots call.slot })
      c
  unfolding invoke
  invoked-as c asks =
      let made : Call = record { root = cspace_of s self; caller = Some self; slot = call.slot; capability = capability_at s.slots call.slot } in
      ap (λ (r : Result Invocation KError). r >>= perform s made) asks

  pub invocation-within : IsSound s → (kind : SendCall) → call_of number ≡ Some (Sends kind)
      → send_by s (self_of image t) kind call.slot capability ≡ invokes s (self_of image t) kind call.slot capability → (m : State)
      → invoked s (self_of image t) call.slot ≡ Ok m → WithinAuthority image t s m → (now : ThreadState)
      → m.objects (self_of image t) ≡ Some (ThreadObject now) → WithinAuthority image t s (system_call s (self_of image t)).0
  invocation-within sound kind is by m made within now there =
      subst (λ (d : Done). WithinAuthority image t s d.0)
      (sym (called-as image t s number capability call (Sends kind) is
      ∙ ap (send_named s self kind) call.named
      ∙ ap (send_by s self kind call.slot) call.holds ∙ by
      ∙ ap (λ (c : Cap). invokes s self kind call.slot c) (sym call.holds)
      ∙ ap (after_invocation s self kind) made))
      (completed-within image t s m (runs-apart image t s sound call.own call.is call.runs) now there within kind)
