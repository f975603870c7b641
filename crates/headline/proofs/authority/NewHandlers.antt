-- A Get of a line's handler, by interrupt control of the thread's own, stays within authority.
use Rattle.std.proofs.Common.{ℕ, ◌≡◌, ◌<◌, Bool, true, false, not, nat_le, nat_lt, Some, Ok, refl, sym, ◌∙◌, ap, arith}
use Rattle.model.specs.declared.capabilities.Cap.TheVariants.{Empty, InterruptControl, InterruptHandler}
use Rattle.model.specs.declared.errors.KError.TheVariants.{DeleteFirst, IllegalOperation, RangeError, RevokeFirst}
use Rattle.model.specs.declared.invocations.Invocation.TheVariants.{OnControl}
use Rattle.model.specs.Acceptance.Authority.{made_handler, WithinAuthority, self_of}
use Rattle.model.specs.Capabilities.CapabilityKinds.{is_handler_of}
use Rattle.model.specs.Capabilities.Slots.{Slots, capability_at, depth_of, is_empty, is_full, inserted}
use Rattle.model.specs.Images.Image.{Image, Thread}
use Rattle.model.specs.Kernel.Arguments.{Call, argument_slot, destination_slot}
use Rattle.model.specs.Kernel.Invocations.{invoke, perform}
use Rattle.model.specs.Kernel.State.{State, holds_some, with_slots}
use Rattle.model.specs.Kernel.Soundness.{IsSound}
use Rattle.model.specs.Kernel.Steps.{call_of, cspace_of, system_call}
use Rattle.model.specs.declared.system_calls.SendCall.{SendCall}
use Rattle.model.specs.declared.system_calls.SystemCall.TheVariants.{Sends}
use Rattle.soundness.proofs.Laws.{empty-capability}
use Rattle.headline.proofs.authority.Invoked.{invocation-within}
use Rattle.headline.proofs.authority.SlotChanges.{inserted-within}
use Rattle.headline.proofs.authority.Stored.{got, known}
use Rattle.headline.proofs.authority.Stored.{passed}
use Rattle.headline.specs.authority.Scenarios.{CallsOn, GetsHandler, asked, invoked}

doubly : (b : Bool) → not (not b) ≡ true → b ≡ true
doubly true is = refl
doubly false is = is

module _ (image : Image) (t : Thread) (s : State) (kind : SendCall) (number : ℕ) (is : call_of number ≡ Some (Sends kind)) (sound : IsSound s)
    (call : CallsOn image t s number InterruptControl) (gets : GetsHandler image t s call.slot) where
  abbrev self : ℕ
  self = self_of image t

  invocation : Call
  invocation = record { root = cspace_of s self; caller = Some self; slot = call.slot; capability = capability_at s.slots call.slot }

  slots : Slots
  slots = inserted s.slots gets.window (InterruptHandler gets.number) (Some call.slot)

  performed : perform s invocation (OnControl gets.number gets.name) ≡ Ok gets.after
  unfolding invoke invocation
  performed = known (asked s self call.slot) (perform s invocation) _ (Ok gets.after) gets.asks gets.passes

  near : gets.number < 64
  unfolding invocation
  near = let one = passed (nat_le gets.number 63) RangeError _ gets.after performed in let is : nat_le gets.number 63 ≡ true = one.0 in grind (arith, is)

  handled-as : invoked s self call.slot ≡ Ok (with_slots s slots)
  unfolding invocation slots
  handled-as =
      let one = passed (nat_le gets.number 63) RangeError _ gets.after performed in
      let two = passed (not (holds_some s (is_handler_of gets.number))) RevokeFirst _ gets.after one.1 in
      let three = known (destination_slot s.slots (cspace_of s self) gets.name) _ gets.window (Ok gets.after) gets.named two.1 in
      let four = passed (nat_lt (depth_of s.slots call.slot) 255) IllegalOperation _ gets.after three in
      gets.passes ∙ sym four.1

  was-empty : capability_at s.slots gets.window ≡ Empty
  was-empty =
      let found = got (argument_slot s.slots (cspace_of s self) gets.name) _ gets.window gets.named in
      let free = passed (not (is_full s.slots found.0)) DeleteFirst _ gets.window found.2 in
      let same : found.0 ≡ gets.window = let e : Ok found.0 ≡ Ok gets.window = free.1 in cc in
      ap (capability_at s.slots) (sym same) ∙ empty-capability (capability_at s.slots found.0) (doubly (is_empty (capability_at s.slots found.0)) free.0)

  slots-within : WithinAuthority image t s (with_slots s slots)
  unfolding slots
  slots-within =
      inserted-within image t s call.own call.is gets.window call.slot (InterruptHandler gets.number) gets.own call.among was-empty refl refl
      (made_handler gets.number near (record { slot = call.slot; own = call.among; such = call.holds }))

  pub get-within : WithinAuthority image t s (system_call s (self_of image t)).0
  get-within =
      invocation-within image t s number InterruptControl call sound kind is refl (with_slots s slots) handled-as slots-within call.own call.is
