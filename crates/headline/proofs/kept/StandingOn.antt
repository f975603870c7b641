-- The invariant of a thread that a change leaves alone still holds.
use Rattle.std.proofs.Common.{ℕ, ◌≡◌, ◌∙◌, ◌^◌, ◌<◌, List, Option, Some, None, sym, ap, subst}
use Rattle.std.specs.Prelude.{Contains}
use Rattle.std.specs.Option.{option_map_or}
use Rattle.model.specs.declared.capabilities.Cap.TheVariants.{Empty}
use Rattle.model.specs.declared.slot_entries.Entry.{Entry}
use Rattle.model.specs.Acceptance.NotedKernel.{noted_after, slot_of_key}
use Rattle.model.specs.Acceptance.NotedStates.{NotedSlot, PointState}
use Rattle.model.specs.Acceptance.PointStates.{Known, address_of, noted}
use Rattle.model.specs.Acceptance.ThreadInvariants.{HasBootParent, LieWithin, MapsAreNoted, NamesNoCode, StandsAt, root_table_of, tcb_of}
use Rattle.model.specs.Capabilities.CapabilityKinds.{root_of}
use Rattle.model.specs.Capabilities.Slots.{Slots, capability_at}
use Rattle.model.specs.Images.Described.{Numbered}
use Rattle.model.specs.Images.Image.{Image}
use Rattle.model.specs.Kernel.AddressSpaces.{vspace_of}
use Rattle.model.specs.Kernel.Soundness.{IsSound}
use Rattle.model.specs.Kernel.State.{State, ThreadState, cspace_slot, vspace_slot}
use Rattle.headline.specs.facts.Untouched.{IsUntouched}
use Rattle.headline.proofs.kept.EachOf.{each-contained}
use Rattle.headline.proofs.kept.KeptCode.{program-kept}
use Rattle.headline.proofs.kept.OwnKeys.{IsOwnKey, noted-own, same-noted}
use Rattle.headline.proofs.kept.ThreadsGiven.{IsGiven}

pub same-capability : (s after : Slots) (slot : ℕ) → after slot ≡ s slot → capability_at after slot ≡ capability_at s slot
same-capability s after slot same = ap (λ (o : Option Entry). option_map_or (λ held. held.capability) o Empty) same

parent-kept : (s after : State) (slot : ℕ) → after.boot_radix ≡ s.boot_radix → after.slots slot ≡ s.slots slot → HasBootParent s slot → HasBootParent after slot
parent-kept s after slot radix same h = record {
  parent = h.parent;
  is = ap (λ (o : Option Entry). option_map_or (λ held. held.parent) o None) same ∙ h.is;
  boot = subst (λ (n : ℕ). h.parent < 2 ^ n) (sym radix) h.boot;
}

module _ (image : Image) (t : Numbered) (s after : State) (facts : IsGiven image t) (sound : IsSound s) (sound_after : IsSound after)
    (same : IsUntouched image t s after) where
  maps-kept : (slots : List NotedSlot) → MapsAreNoted image t s slots → MapsAreNoted image t after slots
  maps-kept slots maps page frame allowed = (
    λ m. (maps page frame allowed).0 ((same.maps page frame allowed).0 m),
    λ given. (same.maps page frame allowed).1 ((maps page frame allowed).1 given),
  )

  pub stands-on : (own next : ThreadState) (point following : ℕ) (state known : PointState) → StandsAt image t s own point state →
      following < t.thread.header.words
      → noted image t following ≡ Known known
      → next.registers.pc ≡ address_of t.thread following → LieWithin next.registers known.ranges → known.slots ≡ state.slots →
      StandsAt image t after next following known
  stands-on own next point following state known stands inside is_known pc registers slots =
      let vspace : vspace_of s (tcb_of image t) ≡ Some (root_table_of image t) = ap root_of stands.vspace ∙ facts.root in
      let root_after = same-capability s.slots after.slots (vspace_slot (tcb_of image t)) same.vspace in
      let maps = subst (λ (all : List NotedSlot). MapsAreNoted image t s all) (sym slots) stands.maps in
      let vspace_after : vspace_of after (tcb_of image t) ≡ Some (root_table_of image t) = ap root_of root_after ∙ vspace in
      record {
        inside = inside;
        known = is_known;
        pc = pc;
        registers = registers;
        slots = same-noted image t.thread s.slots after.slots same.slots ∙ stands.slots ∙ sym slots;
        parents = λ slot listed none.
            let there : Contains state.slots slot = subst (λ (all : List NotedSlot). Contains all slot) slots listed in
            let found : Contains (noted_after image t.thread s.slots) slot = subst (λ (all : List NotedSlot). Contains all slot) (sym stands.slots) there in
            let own = each-contained (λ (n : NotedSlot). IsOwnKey image t.thread n.key) (noted_after image t.thread s.slots) slot
            (noted-own image t.thread s.slots) found in
            parent-kept s after (slot_of_key image slot.key) same.boot_radix (same.slots (slot_of_key image slot.key) own) (stands.parents slot there none);
        program = program-kept image t s after known.slots facts sound sound_after (λ page frame allowed code. (same.maps page frame allowed).1) same.bytes maps
            vspace vspace_after stands.program;
        maps = maps-kept known.slots maps;
        code = subst (λ (all : List NotedSlot). NamesNoCode image all) (sym slots) stands.code;
        cspace = same-capability s.slots after.slots (cspace_slot (tcb_of image t)) same.cspace ∙ stands.cspace;
        vspace = root_after ∙ stands.vspace;
      }
