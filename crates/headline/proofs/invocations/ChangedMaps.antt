-- Mappings after a call that changes slots of one thread: under its root table those of the image and of its noted slots, under others what was mapped before.
use Rattle.std.proofs.Common.{ℕ, ◌≡◌, ◌∙◌, ◌⊎◌, inl, inr, Some, List, refl, sym, ap, subst, arith}
use Rattle.std.specs.Prelude.{Contains}
use Rattle.model.specs.declared.capabilities.Cap.TheVariants.{Frame}
use Rattle.model.specs.declared.rights.Rights.{Rights}
use Rattle.model.specs.Acceptance.Authority.{IsOwnSlot}
use Rattle.model.specs.Acceptance.NotedKernel.{noted_after, slot_of_key}
use Rattle.model.specs.Acceptance.NotedStates.{NotedSlot}
use Rattle.model.specs.Acceptance.ThreadInvariants.{ImageMaps, IsCode, MapsAreNoted, NamesNoCode, NotedMaps, root_table_of}
use Rattle.model.specs.Capabilities.CapabilityKinds.{frame_mapping}
use Rattle.model.specs.Capabilities.Slots.{IsFull, Slots, capability_at}
use Rattle.model.specs.Images.Described.{Numbered, described, numbered_threads}
use Rattle.model.specs.Images.Image.{Image}
use Rattle.model.specs.Kernel.AddressSpaces.{Maps}
use Rattle.model.specs.Kernel.Soundness.{IsSound}
use Rattle.model.specs.Kernel.State.{State}
use Rattle.typestate.specs.Spaces.{StandsApart}
use Rattle.headline.specs.invocations.Changes.{ChangesOwn, IsOther, MapsNothingElse}
use Rattle.headline.specs.invocations.Mirrors.{Mirrors}
use Rattle.headline.proofs.invocations.BlockSlots.{own-or-other}
use Rattle.headline.proofs.invocations.NotedHere.{full-noted, is-noted}
use Rattle.headline.proofs.invocations.OtherMaps.{maps-in-boot}
use Rattle.headline.proofs.invocations.OtherSlots.{boot-other}
use Rattle.headline.proofs.facts.Laws.{page-there}
use Rattle.headline.proofs.kept.Laws.{same-capability}

-- a slot maps this frame at this page under this root table
record MapsAt (slots : Slots) (slot root page frame : ℕ) (allowed : Rights) : Type 0 where
  pub held : Rights
  pub is : capability_at slots slot ≡ Frame frame held (Some (record { root = root; page = page; rights = allowed }))

maps-by : (slots : Slots) (slot root page frame : ℕ) (allowed : Rights) → MapsAt slots slot root page frame allowed → Maps slots root page frame allowed
maps-by slots slot root page frame allowed at = record { slot = slot; frame_rights = at.held; capability = at.is }

at-slot : (slots : Slots) (root page frame : ℕ) (allowed : Rights) → (maps : Maps slots root page frame allowed)
    → MapsAt slots maps.slot root page frame allowed
at-slot slots root page frame allowed maps = record { held = maps.frame_rights; is = maps.capability }

at-other : (slots others : Slots) (slot root page frame : ℕ) (allowed : Rights) → others slot ≡ slots slot → MapsAt slots slot root page frame allowed
    → MapsAt others slot root page frame allowed
at-other slots others slot root page frame allowed same at = record { held = at.held; is = same-capability slots others slot same ∙ at.is }

-- one slot maps a page
one-slot : (s : State) → IsSound s → (a b root page frame other : ℕ) (allowed permitted : Rights) → MapsAt s.slots a root page frame allowed
    → MapsAt s.slots b root page other permitted → a ≡ b
one-slot s sound a b root page frame other allowed permitted first second =
    sound.mappings.one_page a b root page (page-there root page frame first.held allowed (capability_at s.slots a) first.is).1
    (page-there root page other second.held permitted (capability_at s.slots b) second.is).1

-- ---- own slots and noted ones

module _ (image : Image) (t : Numbered) (stand : StandsApart image t.thread) (slots : Slots) (noted : List NotedSlot)
    (same : noted_after image t.thread slots ≡ noted)
    (page frame : ℕ) (allowed : Rights) where
  abbrev root : ℕ
  root = root_table_of image t

  own-noted : (slot : ℕ) → IsOwnSlot image t.thread slot → MapsAt slots slot root page frame allowed → NotedMaps image t noted page frame allowed
  own-noted slot own at =
      let full : IsFull slots slot = (page-there root page frame at.held allowed (capability_at slots slot) at.is).2 in
      let of = full-noted image t stand slots slot own full in
      record { slot = of.n; held = at.held; noted = subst (λ (all : List NotedSlot). Contains all of.n) same of.there; capability = of.capability ∙ at.is }

  noted-there : NotedMaps image t noted page frame allowed → (slot : ℕ) × IsOwnSlot image t.thread slot × MapsAt slots slot root page frame allowed
  noted-there maps =
      let there : Contains (noted_after image t.thread slots) maps.slot = subst (λ (all : List NotedSlot). Contains all maps.slot) (sym same) maps.noted in
      let of = is-noted image t.thread slots maps.slot there in
      (slot_of_key image maps.slot.key, of.own, record { held = maps.held; is = sym of.capability ∙ maps.capability })

-- ---- after the call

module _ (image : Image) (t : Numbered) (s after : State) (slots left : List NotedSlot) (m : Mirrors image t s slots)
    (c : ChangesOwn image t s after left) where
  stays : (slot root page frame : ℕ) (allowed : Rights) → IsOther image t slot → MapsAt s.slots slot root page frame allowed
      → MapsAt after.slots slot root page frame allowed
  stays slot root page frame allowed other at = at-other s.slots after.slots slot root page frame allowed (c.others slot other) at

  was : (slot root page frame : ℕ) (allowed : Rights) → IsOther image t slot → MapsAt after.slots slot root page frame allowed
      → MapsAt s.slots slot root page frame allowed
  was slot root page frame allowed other at = at-other after.slots s.slots slot root page frame allowed (sym (c.others slot other)) at

  -- under the thread's own root table
  module _ (page frame : ℕ) (allowed : Rights) where
    abbrev own_root : ℕ
    own_root = root_table_of image t

    abbrev IsListed : Type 0
    IsListed = ImageMaps image t page frame allowed ⊎ NotedMaps image t left page frame allowed

    -- what another slot maps, the image does
    other-listed : (slot : ℕ) → IsOther image t slot → MapsAt s.slots slot own_root page frame allowed → ImageMaps image t page frame allowed
    other-listed slot other at = elim ((m.mapped page frame allowed).0 (maps-by s.slots slot own_root page frame allowed at)) [
      | inl listed ↦ listed
      | inr noted ↦
          let own = noted-there image t m.stand s.slots slots m.same page frame allowed noted in
          absurd (other (subst (IsOwnSlot image t.thread) (one-slot s m.all.sound own.0 slot own_root page frame frame allowed allowed own.2 at) own.1))
    ]

    map-listed : Maps after.slots own_root page frame allowed → IsListed
    map-listed maps =
        let at = at-slot after.slots own_root page frame allowed maps in
        elim (own-or-other image t maps.slot) [
          | inl own ↦ inr (own-noted image t m.stand after.slots left c.slots page frame allowed maps.slot own at)
          | inr other ↦ inl (other-listed maps.slot other (was maps.slot own_root page frame allowed other at))
        ]

    listed-mapped : IsListed → Maps after.slots own_root page frame allowed
    listed-mapped (inl listed) =
        let by = maps-in-boot image m.accepted.spelled.fits m.accepted.formed t page frame allowed listed in
        let less = by.boot in
        let other : IsOther image t by.slot = boot-other image m.accepted.spelled.fits m.accepted.formed t by.slot m.listed (omega (arith, less)) in
        let at : MapsAt s.slots by.slot own_root page frame allowed =
        record { held = by.held; is = same-capability (described image).slots s.slots by.slot (m.boot by.slot (omega (arith, less))) ∙ by.capability } in
        maps-by after.slots by.slot own_root page frame allowed (stays by.slot own_root page frame allowed other at)
    listed-mapped (inr noted) =
        let own = noted-there image t m.stand after.slots left c.slots page frame allowed noted in
        maps-by after.slots own.0 own_root page frame allowed own.2

  pub maps-noted : MapsAreNoted image t after left
  maps-noted page frame allowed = (map-listed page frame allowed, listed-mapped page frame allowed)

  -- code is mapped by other slots, which stay
  pub code-mapped : NamesNoCode image slots → (page frame : ℕ) (allowed : Rights) → IsCode image frame → Maps s.slots (root_table_of image t) page frame allowed
      → Maps after.slots (root_table_of image t) page frame allowed
  code-mapped none page frame allowed code maps =
      let root = root_table_of image t in
      let at = at-slot s.slots root page frame allowed maps in
      elim (own-or-other image t maps.slot) [
        | inl own ↦
            let noted = own-noted image t m.stand s.slots slots m.same page frame allowed maps.slot own at in
            absurd (none noted.slot frame noted.held (Some (record { root = root; page = page; rights = allowed })) noted.noted noted.capability code)
        | inr other ↦ maps-by after.slots maps.slot root page frame allowed (stays maps.slot root page frame allowed other at)
      ]

  -- under another thread's
  module _ (u : Numbered) (among : Contains (numbered_threads image) u) (apart : u ≡ t → ⊥) (page frame : ℕ) (allowed : Rights) where
    abbrev their_root : ℕ
    their_root = root_table_of image u

    no-own : (x : State) → MapsNothingElse image t x → (slot : ℕ) → MapsAt x.slots slot their_root page frame allowed → IsOther image t slot
    no-own x none slot at own = none u slot (record { root = their_root; page = page; rights = allowed }) among apart own (ap frame_mapping at.is) refl

    pub map-stays : Maps s.slots (root_table_of image u) page frame allowed → Maps after.slots (root_table_of image u) page frame allowed
    map-stays maps =
        let at = at-slot s.slots their_root page frame allowed maps in
        maps-by after.slots maps.slot their_root page frame allowed (stays maps.slot their_root page frame allowed (no-own s m.maps maps.slot at) at)

    pub map-was : Maps after.slots (root_table_of image u) page frame allowed → Maps s.slots (root_table_of image u) page frame allowed
    map-was maps =
        let at = at-slot after.slots their_root page frame allowed maps in
        maps-by s.slots maps.slot their_root page frame allowed (was maps.slot their_root page frame allowed (no-own after c.maps maps.slot at) at)
