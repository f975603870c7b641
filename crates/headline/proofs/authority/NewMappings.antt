-- A Map of a frame of the thread's own, under its own root table, stays within authority.
use Rattle.std.proofs.Common.{ℕ, ◌≡◌, ◌==◌, not, nat_lt, ◌||◌, ◌/◌, ◌%◌, Some, None, Ok, refl, sym, ◌∙◌, ap}
use Rattle.model.specs.declared.capabilities.Cap.{Cap}
use Rattle.model.specs.declared.capabilities.Cap.TheVariants.{Frame, Untyped}
use Rattle.model.specs.declared.capabilities.FrameMapping.{FrameMapping}
use Rattle.model.specs.declared.errors.KError.TheVariants.{AlignmentError, DeleteFirst, FailedLookup, InvalidArgument, InvalidCapability}
use Rattle.model.specs.declared.invocations.FrameCall.TheVariants.{MapFrame}
use Rattle.model.specs.declared.invocations.Invocation.TheVariants.{OnFrame}
use Rattle.model.specs.declared.rights.Rights.{Rights}
use Rattle.model.specs.Acceptance.Authority.{given, WithinAuthority, self_of, without_use}
use Rattle.model.specs.Capabilities.CapabilityKinds.{frame_mapping, table_mapping, with_frame_mapping}
use Rattle.model.specs.Capabilities.Rights.{mapping_rights, may_execute, may_read}
use Rattle.model.specs.Capabilities.Slots.{Slots, capability_at, recapped}
use Rattle.model.specs.Images.Image.{Image, Thread}
use Rattle.model.specs.Images.Places.{offset_of}
use Rattle.model.specs.Kernel.AddressSpaces.{address_limit, is_page_taken, is_region_taken, page_size, region_pages}
use Rattle.model.specs.Kernel.Arguments.{Call}
use Rattle.model.specs.Kernel.Invocations.{invoke, perform}
use Rattle.model.specs.Kernel.MappingCalls.{is_mapped, root_named}
use Rattle.model.specs.Kernel.State.{State, with_slots}
use Rattle.model.specs.Kernel.Soundness.{IsSound}
use Rattle.model.specs.Kernel.Steps.{call_of, cspace_of, system_call}
use Rattle.model.specs.declared.system_calls.SendCall.{SendCall}
use Rattle.model.specs.declared.system_calls.SystemCall.TheVariants.{Sends}
use Rattle.headline.proofs.authority.Invoked.{invocation-within}
use Rattle.headline.proofs.authority.SlotChanges.{recapped-within}
use Rattle.headline.proofs.authority.Stored.{known}
use Rattle.headline.proofs.authority.Stored.{passed}
use Rattle.headline.specs.authority.Scenarios.{CallsOn, MapsFrame, asked, invoked}

module _ (image : Image) (t : Thread) (s : State) (offset : ℕ) (allowed : Rights) (kind : SendCall) (number : ℕ)
    (is : call_of number ≡ Some (Sends kind)) (sound : IsSound s) (call : CallsOn image t s number (Frame offset allowed None))
    (maps : MapsFrame image t s call.slot allowed) where
  abbrev self : ℕ
  self = self_of image t

  invocation : Call
  invocation = record { root = cspace_of s self; caller = Some self; slot = call.slot; capability = capability_at s.slots call.slot }

  rights_now : Rights
  rights_now = mapping_rights allowed maps.word

  mapping : FrameMapping
  mapping = record { root = offset_of image t.header.root; page = maps.address / page_size; rights = rights_now }

  slots : Slots
  slots = recapped s.slots call.slot (Frame offset allowed (Some mapping))

  mapped-as : invoked s self call.slot ≡ Ok (with_slots s slots)
  unfolding invoke invocation rights_now mapping slots
  mapped-as =
      let performed : perform s invocation (OnFrame allowed (MapFrame maps.name maps.address maps.word)) ≡ Ok maps.after =
      known (asked s self call.slot) (perform s invocation) _ (Ok maps.after) maps.asks maps.passes in
      let one = passed (not (is_mapped (frame_mapping (capability_at s.slots call.slot)))) InvalidCapability _ maps.after performed in
      let two = known (root_named s.slots (cspace_of s self) maps.name) _ (offset_of image t.header.root) (Ok maps.after) maps.root one.1 in
      let three = passed (nat_lt maps.address address_limit) InvalidArgument _ maps.after two in
      let four = passed (maps.address % page_size == 0) AlignmentError _ maps.after three.1 in
      let five = passed (is_region_taken s (offset_of image t.header.root) (maps.address / page_size / region_pages)) FailedLookup _ maps.after four.1 in
      let six = passed (not (is_page_taken s (offset_of image t.header.root) (maps.address / page_size))) DeleteFirst _ maps.after five.1 in
      let seven = passed (may_read rights_now || may_execute rights_now) InvalidArgument _ maps.after six.1 in
      maps.passes ∙ sym seven.1 ∙ ap (λ (c : Cap). Ok (with_slots s (recapped s.slots call.slot (with_frame_mapping c (Some mapping))))) call.holds

  root-is : (m : FrameMapping) → mapping ≡ m → m.root ≡ offset_of image t.header.root
  unfolding mapping
  root-is m same = sym (ap (λ (n : FrameMapping). n.root) same)

  rights-are : (m : FrameMapping) → mapping ≡ m → m.rights ≡ mapping_rights allowed maps.word
  unfolding mapping rights_now
  rights-are m same = sym (ap (λ (n : FrameMapping). n.rights) same)

  slots-within : WithinAuthority image t s (with_slots s slots)
  unfolding slots
  slots-within =
      recapped-within image t s call.own call.is call.slot (Frame offset allowed (Some mapping)) call.among (
        (λ m old. let e : None ≡ Some m = sym (ap frame_mapping call.holds) ∙ old in absurd cc),
        (λ m old. let e : None ≡ Some m = sym (ap table_mapping call.holds) ∙ old in absurd cc),
      )
      ((λ m new. root-is m (let e : Some mapping ≡ Some m = new in cc)), (λ m new. let e : None ≡ Some m = new in absurd cc))
      (ap without_use call.holds)
      (λ m fresh new. given maps.word (rights-are m (let e : Some mapping ≡ Some m = new in cc)))
      (λ o b before behind was now differs. let e : Frame offset allowed None ≡ Untyped o b before = sym call.holds ∙ was in absurd cc)

  pub map-within : WithinAuthority image t s (system_call s (self_of image t)).0
  map-within =
      invocation-within image t s number (Frame offset allowed None) call sound kind is refl (with_slots s slots) mapped-as slots-within call.own call.is
