-- What a removal of own slots changes: those slots, and what ends with them, at which nobody waits.
use Rattle.std.proofs.Common.{ℕ, ◌≡◌, ◌∙◌, ◌+◌, ◌-◌, ◌%◌, ◌<◌, ◌≤◌, Bool, true, false, not, if◌then◌else◌, Option, Some, None, Ok, List, refl, sym, ap, subst}
use Rattle.std.proofs.Common.{arith}
use Rattle.std.specs.Prelude.{Contains}
use Rattle.std.proofs.lemmas.Option.{none-some}
use Rattle.model.specs.Acceptance.NotedKernel.{noted_after, noted_kernel, slot_of_key}
use Rattle.model.specs.Acceptance.NotedStates.{NotedSlot}
use Rattle.model.specs.Acceptance.ThreadInvariants.{IsCode, NamesNoCode}
use Rattle.model.specs.Capabilities.CapabilityKinds.{frame_mapping, is_untyped, names_object}
use Rattle.model.specs.Capabilities.Slots.{IsFull, capability_at, is_empty}
use Rattle.model.specs.Images.Described.{Numbered}
use Rattle.model.specs.Images.Image.{Image}
use Rattle.model.specs.Kernel.AddressSpaces.{page_size}
use Rattle.model.specs.Kernel.Removal.{SlotSet, emptied, ends, loses_last_child, remove, slots_emptied, with_bindings}
use Rattle.model.specs.Kernel.State.{State, Object, ThreadObject, EndpointObject, NotificationObject}
use Rattle.model.specs.declared.capabilities.Cap.TheVariants.{Empty, Frame}
use Rattle.model.specs.declared.capabilities.FrameMapping.{FrameMapping}
use Rattle.model.specs.declared.rights.Rights.{Rights}
use Rattle.typestate.proofs.Laws.{reset}
use Rattle.headline.specs.invocations.Changes.{ChangesOwn, MapsNothingElse}
use Rattle.headline.specs.invocations.Mirrors.{Mirrors}
use Rattle.headline.proofs.invocations.BootNames.{code-aligned, code-held}
use Rattle.headline.proofs.invocations.EmptiedSlots.{capability-left, reset-frame, reset-mapping}
use Rattle.headline.proofs.invocations.HangsLeft.{hang-left, near-left}
use Rattle.headline.proofs.invocations.NotedHere.{IsNoted, NotesSlot, full-noted, is-noted}
use Rattle.headline.proofs.invocations.NotedRemoval.{noted-left}
use Rattle.headline.proofs.invocations.OtherSlotsLeft.{other-kept}
use Rattle.headline.proofs.invocations.RealRemoval.{kept-reset, side, stays-else}
use Rattle.headline.proofs.invocations.ThreadsRemain.{objects-left, thread-stays}
use Rattle.headline.proofs.invocations.RemovalSides.{else-of, other-out, own_set}

page-first : (frame place : ℕ) → frame % 4096 ≡ 0 → frame ≤ place → place < frame + 4096 → place - place % 4096 ≡ frame
page-first frame place whole low high = omega (arith, whole, low, high)

module _ (image : Image) (t : Numbered) (s : State) (slots : List NotedSlot) (m : Mirrors image t s slots) (set noted_set : SlotSet)
    (inside : (slot : ℕ) → set slot ≡ true → own_set image t slot ≡ true) (noted_inside : (slot : ℕ) → noted_set slot ≡ true → own_set image t slot ≡ true)
    (same : (slot : ℕ) → own_set image t slot ≡ true → set slot ≡ noted_set slot)
    (pools : (slot : ℕ) → set slot ≡ true → is_untyped (capability_at s.slots slot) ≡ false) where
  abbrev all : SlotSet
  all = with_bindings s set

  abbrev after : State
  after = emptied s all

  -- ---- frames

  pub cap-left : (slot : ℕ)
      → capability_at (slots_emptied s all) slot ≡ (if all slot then Empty else reset (loses_last_child s all slot) (capability_at s.slots slot))
  cap-left slot =
      capability-left s all slot ∙ ap (λ c. if all slot then Empty else c) (kept-reset image t s slots m set inside slot (capability_at s.slots slot))

  frame-there : (slot frame : ℕ) (held : Rights) (mapping : Option FrameMapping) → capability_at (slots_emptied s all) slot ≡ Frame frame held mapping
      → capability_at s.slots slot ≡ Frame frame held mapping
  frame-there slot frame held mapping is = by-set (all slot) (sym (cap-left slot) ∙ is)
    where
      by-set : (b : Bool) → (if b then Empty else reset (loses_last_child s all slot) (capability_at s.slots slot)) ≡ Frame frame held mapping
          → capability_at s.slots slot ≡ Frame frame held mapping
      by-set true clash = absurd cc
      by-set false there = reset-frame (loses_last_child s all slot) (capability_at s.slots slot) frame held mapping there

  pub mapping-there : (slot : ℕ) (mapping : FrameMapping) → frame_mapping (capability_at (slots_emptied s all) slot) ≡ Some mapping
      → frame_mapping (capability_at s.slots slot) ≡ Some mapping
  mapping-there slot mapping is = by-set (all slot) (sym (ap frame_mapping (cap-left slot)) ∙ is)
    where
      by-set : (b : Bool) → frame_mapping (if b then Empty else reset (loses_last_child s all slot) (capability_at s.slots slot)) ≡ Some mapping
          → frame_mapping (capability_at s.slots slot) ≡ Some mapping
      by-set true clash = absurd (none-some mapping clash)
      by-set false there = sym (reset-mapping (loses_last_child s all slot) (capability_at s.slots slot)) ∙ there

  maps-left : MapsNothingElse image t after
  maps-left u slot mapping listed apart own is = m.maps u slot mapping listed apart own (mapping-there slot mapping is)

  names-left : NamesNoCode image (noted_after image t.thread (slots_emptied s all))
  names-left n frame held mapping there is code =
      let of = is-noted image t.thread (slots_emptied s all) n there in
      let slot = slot_of_key image n.key in
      let own = IsNoted.own of in
      let cap = frame-there slot frame held mapping (sym (IsNoted.capability of) ∙ is) in
      let full : IsFull s.slots slot = ap (λ c. not (is_empty c)) cap in
      let noted = full-noted image t m.stand s.slots slot own full in
      m.code (NotesSlot.n noted) frame held mapping (subst (λ (l : List NotedSlot). Contains l (NotesSlot.n noted)) m.same (NotesSlot.there noted))
      (NotesSlot.capability noted ∙ cap) code

  -- ---- objects and bytes

  pub was-there : (offset : ℕ) (o : Object) → after.objects offset ≡ Some o → s.objects offset ≡ Some o
  was-there offset o is = by-end (ends s all offset) (sym (objects-left image t s slots m set inside offset) ∙ is)
    where
      by-end : (b : Bool) → (if b then None else s.objects offset) ≡ Some o → s.objects offset ≡ Some o
      by-end true clash = absurd (none-some o clash)
      by-end false there = there

  bytes-left : (frame place : ℕ) → IsCode image frame → frame ≤ place → place < frame + page_size → after.bytes place ≡ s.bytes place
  bytes-left frame place code low high =
      let fits = m.accepted.spelled.fits in
      let well = m.accepted.formed in
      let first : place - place % page_size ≡ frame = page-first frame place (code-aligned image fits well frame code) low high in
      let stays = stays-else image t s slots m set inside frame
      (else-of image t m.stand s (side image t s slots m) (names_object frame) (code-held image fits well frame code)) in
      ap (λ b. if b then None else s.bytes place) (ap (ends s all) first ∙ stays)

  pub changes : (noted : State) → remove (noted_kernel image t.thread slots) noted_set ≡ Ok noted
      → ChangesOwn image t s (emptied s (with_bindings s set)) (noted_after image t.thread noted.slots)
  changes noted is =
      let left = noted-left image t s slots m set noted_set inside noted_inside same noted is in
      record {
        memory_bits = refl;
        boot_radix = refl;
        slots = left;
        others = λ slot other. other-kept image t s slots m set inside pools slot (other-out image t slot other);
        near = near-left image t s slots m set inside pools;
        hang = hang-left image t s slots m set inside pools;
        maps = maps-left;
        code = subst (NamesNoCode image) left names-left;
        threads = λ offset own there.
            objects-left image t s slots m set inside offset
            ∙ ap (λ b. if b then None else s.objects offset) (thread-stays image t s slots m set inside offset own there) ∙ there;
        been = λ offset own there. was-there offset (ThreadObject own) there;
        sends = λ queue e x there waits. was-there queue (EndpointObject e) there;
        receives = λ queue e thread there waits. was-there queue (EndpointObject e) there;
        waits = λ queue n thread there waits. was-there queue (NotificationObject n) there;
        bytes = bytes-left;
      }
