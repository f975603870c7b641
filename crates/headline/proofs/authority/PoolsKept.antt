-- Each thread keeps its untyped memory over what the rules allow: no Move, Delete or Revoke takes it away, and all else leaves it where it is.
use Rattle.std.proofs.Common.{ℕ, ◌≡◌, ◌∙◌, ◌==◌, ◌^◌, ◌/◌, ◌%◌, ◌||◌, Bool, false, not, nat_lt, if◌then◌else◌, Option, Some, option_map, Result, Ok}
use Rattle.std.proofs.Common.{List, inl, inr, sym, ap, subst}
use Rattle.std.proofs.lemmas.Bool.{false≢true}
use Rattle.std.proofs.lemmas.Bool.Decides.{eqb_tells}
use Rattle.soundness.specs.Machines.{SameBase}
use Rattle.typestate.specs.Calls.{call_on}
use Rattle.headline.specs.authority.HeldInside.{AllHoldInside, AllPoolsStay}
use Rattle.headline.specs.invocations.Changes.{IsOther}
use Rattle.headline.specs.invocations.Mirrors.{Mirrors}
use Rattle.headline.specs.invocations.Performed.{MayInvoke}
use Rattle.headline.specs.lookups.Found.{slots_noted}
use Rattle.model.specs.declared.capabilities.Cap.{Cap}
use Rattle.model.specs.declared.capabilities.Cap.TheVariants.{Empty, Frame, Untyped}
use Rattle.model.specs.declared.capabilities.FrameMapping.{FrameMapping}
use Rattle.model.specs.declared.errors.KError.{KError}
use Rattle.model.specs.declared.errors.KError.TheVariants.{AlignmentError, DeleteFirst, FailedLookup, IllegalOperation, InvalidArgument, InvalidCapability}
use Rattle.model.specs.declared.errors.KError.TheVariants.{RangeError}
use Rattle.model.specs.declared.invocations.CNodeCall.TheVariants.{Copy, Mint, Move}
use Rattle.model.specs.declared.invocations.FrameCall.TheVariants.{MapFrame, UnmapFrame}
use Rattle.model.specs.declared.invocations.Invocation.TheVariants.{OnCNode, OnFrame}
use Rattle.model.specs.declared.invocations.SlotName.{SlotName}
use Rattle.model.specs.declared.rights.Rights.{Rights}
use Rattle.model.specs.declared.slot_entries.Entry.{Entry}
use Rattle.model.specs.Acceptance.Authority.{IsOwnSlot, IsUntypedAround}
use Rattle.model.specs.Acceptance.CallRules.{names_such}
use Rattle.model.specs.Acceptance.NotedStates.{NotedSlot}
use Rattle.model.specs.Capabilities.CapabilityKinds.{badge_fits, copied, frame_mapping, guard_fits, is_badged, is_untyped, may_be_copied, unmapped}
use Rattle.model.specs.Capabilities.CapabilityKinds.{with_frame_mapping, with_payload}
use Rattle.model.specs.Capabilities.Rights.{mapping_rights, may_execute, may_read}
use Rattle.model.specs.Capabilities.Slots.{Slots, adopted, capability_at, depth_of, empty_entry, inserted, parent_at, recapped, relocated}
use Rattle.model.specs.Images.Described.{Numbered}
use Rattle.model.specs.Images.Image.{Image}
use Rattle.model.specs.Kernel.AddressSpaces.{address_limit, is_page_taken, is_region_taken, page_size, region_pages}
use Rattle.model.specs.Kernel.Arguments.{Call, argument_slot, destination_slot, source_slot}
use Rattle.model.specs.Kernel.Invocations.{perform}
use Rattle.model.specs.Kernel.Kinds.{object_named}
use Rattle.model.specs.Kernel.MappingCalls.{is_mapped, root_named, unmap_frame}
use Rattle.model.specs.Kernel.Retype.{object_bits}
use Rattle.model.specs.Kernel.State.{State, with_slots}
use Rattle.headline.proofs.invocations.BlockSlots.{own-or-other}
use Rattle.headline.proofs.invocations.NamedSlots.{root-inside, source-named}
use Rattle.headline.proofs.invocations.Relocating.{adopted-capability}
use Rattle.headline.proofs.authority.SlotCalls.{named-empty}
use Rattle.headline.proofs.authority.Stored.{capability_of, entered, entered-away, got, passed}

-- ---- where slots stay

pub base-pools : (image : Image) (s after : State) → SameBase s after → AllPoolsStay image s after
base-pools image s after base u among first size h = record {
  slot = h.slot;
  own = h.own;
  such = subst (λ (c : Cap). IsUntypedAround first size c) (ap (λ (slots : Slots). capability_at slots h.slot) (sym base.slots)) h.such;
}

pub base-inside : (image : Image) (s after : State) → SameBase s after → AllHoldInside image s → AllHoldInside image after
base-inside image s after base before u among slot kind offset own names =
    elim (before u among slot kind offset own
    (ap (λ (slots : Slots). object_named (capability_at slots slot)) (sym base.slots) ∙ names)) [
      | inl boot ↦ inl boot
      | inr h ↦ inr (base-pools image s after base u among offset (2 ^ object_bits kind) h)
    ]

-- ---- untyped memory in a thread's own slots

-- each of its own slots that holds untyped memory still does, with a watermark
abbrev pub PoolsIn : Image → Numbered → Slots → Slots → Type 0
PoolsIn image t before after =
    (slot offset bits old : ℕ) → IsOwnSlot image t.thread slot → capability_at before slot ≡ Untyped offset bits old
    → (now : ℕ) × (capability_at after slot ≡ Untyped offset bits now)

pub pools-stay : (image : Image) (t : Numbered) (s after : State) → ((slot : ℕ) → IsOther image t slot → after.slots slot ≡ s.slots slot)
    → PoolsIn image t s.slots after.slots → AllPoolsStay image s after
pools-stay image t s after others keeps u among first size h =
    let was = h.such in
    elim (own-or-other image t h.slot) [
      | inl mine ↦
          let now = keeps h.slot was.offset was.bits was.watermark mine was.is in
          record {
            slot = h.slot;
            own = h.own;
            such = record { offset = was.offset; bits = was.bits; watermark = now.0; is = now.1; begins = was.begins; ends = was.ends };
          }
      | inr other ↦ record {
        slot = h.slot;
        own = h.own;
        such = subst (λ (c : Cap). IsUntypedAround first size c) (ap capability_of (sym (others h.slot other))) was;
      }
    ]

module _ (image : Image) (t : Numbered) (s : State) where
  abbrev Keeps : Slots → Type 0
  Keeps slots = PoolsIn image t s.slots slots

  -- what is no untyped memory changes
  kept-entered : (place : ℕ) (entry : Entry) → ((offset bits old : ℕ) → capability_at s.slots place ≡ Untyped offset bits old → ⊥) →
      Keeps (entered s place entry)
  kept-entered place entry none slot offset bits old mine is = elim (eqb_tells slot place) [
    | inl here ↦ absurd (none offset bits old (ap (capability_at s.slots) (sym here.1) ∙ is))
    | inr apart ↦ (old, ap capability_of (entered-away s place entry slot apart.1) ∙ is)
  ]

  kept-inserted : (to from : ℕ) (new : Cap) → capability_at s.slots to ≡ Empty → Keeps (inserted s.slots to new (Some from))
  kept-inserted to from new empty =
      kept-entered to (record { capability = new; parent = Some from })
      (λ offset bits old is. let clash : Empty ≡ Untyped offset bits old = sym empty ∙ is in cc)

  kept-recapped : (place : ℕ) (new : Cap) (offset : ℕ) (allowed : Rights) (mapping : Option FrameMapping)
      → capability_at s.slots place ≡ Frame offset allowed mapping → Keeps (recapped s.slots place new)
  kept-recapped place new offset allowed mapping frame =
      kept-entered place (record { capability = new; parent = parent_at s.slots place })
      (λ o bits old is. let clash : Frame offset allowed mapping ≡ Untyped o bits old = sym frame ∙ is in cc)

  kept-moved : (from to : ℕ) → is_untyped (capability_at s.slots from) ≡ false → capability_at s.slots to ≡ Empty → Keeps (relocated s.slots from to)
  kept-moved from to plain empty slot offset bits old mine is = elim (eqb_tells slot from) [
    | inl here ↦ absurd (false≢true (sym plain ∙ ap (λ (x : ℕ). is_untyped (capability_at s.slots x)) (sym here.1) ∙ ap is_untyped is))
    | inr not_from ↦ elim (eqb_tells slot to) [
      | inl here ↦ absurd (let clash : Empty ≡ Untyped offset bits old = sym empty ∙ ap (capability_at s.slots) (sym here.1) ∙ is in cc)
      | inr not_to ↦ (
        old,
        ap (λ (b : Bool). capability_of
            (if b then Some empty_entry else if slot == to then s.slots from else option_map (adopted from (Some to)) (s.slots slot))) not_from.0
            ∙ ap (λ (b : Bool). capability_of (if b then s.slots from else option_map (adopted from (Some to)) (s.slots slot))) not_to.0
            ∙ adopted-capability from to (s.slots slot) ∙ is,
      )
    ]
  ]

  done : (a b : State) → ◌≡◌ {A = Result State KError} (Ok a) (Ok b) → Keeps a.slots → Keeps b.slots
  done a b same = subst (λ (x : State). Keeps x.slots) (let e : a ≡ b = cc in e)

  module _ (slots : List NotedSlot) (m : Mirrors image t s slots) (slot : ℕ) where
    abbrev called : Call
    called = call_on image t.thread slot (capability_at s.slots slot)

    pub copies-keep : (destination source : SlotName) (word : ℕ) (after : State)
        → perform s (call_on image t.thread slot (capability_at s.slots slot)) (OnCNode (Copy destination source word)) ≡ Ok after
        → PoolsIn image t s.slots after.slots
    copies-keep destination source word after made =
        let one = got (destination_slot s.slots called.capability destination) _ after made in
        let two = got (source_slot s.slots called.root source) _ after one.2 in
        let three = passed (may_be_copied (capability_at s.slots two.0)) IllegalOperation _ after two.2 in
        let four = passed (nat_lt (depth_of s.slots two.0) 255) IllegalOperation _ after three.1 in
        let new : Cap = copied (capability_at s.slots two.0) word in
        done (with_slots s (inserted s.slots one.0 new (Some two.0))) after four.1
        (kept-inserted one.0 two.0 new (named-empty s.slots called.capability destination one.0 one.1))

    pub mints-keep : (destination source : SlotName) (word payload : ℕ) (after : State)
        → perform s (call_on image t.thread slot (capability_at s.slots slot)) (OnCNode (Mint destination source word payload)) ≡ Ok after
        → PoolsIn image t s.slots after.slots
    mints-keep destination source word payload after made =
        let one = got (destination_slot s.slots called.capability destination) _ after made in
        let two = got (source_slot s.slots called.root source) _ after one.2 in
        let held : Cap = capability_at s.slots two.0 in
        let three = passed (may_be_copied held) IllegalOperation _ after two.2 in
        let four = passed (not (is_badged held)) IllegalOperation _ after three.1 in
        let five = passed (badge_fits held payload) RangeError _ after four.1 in
        let six = passed (guard_fits held payload) IllegalOperation _ after five.1 in
        let seven = passed (nat_lt (depth_of s.slots two.0) 255) IllegalOperation _ after six.1 in
        let new : Cap = with_payload (copied held word) payload in
        done (with_slots s (inserted s.slots one.0 new (Some two.0))) after seven.1
        (kept-inserted one.0 two.0 new (named-empty s.slots called.capability destination one.0 one.1))

    pub moves-keep : (destination source : SlotName) → MayInvoke image t s slots slot (OnCNode (Move destination source)) → (after : State)
        → perform s (call_on image t.thread slot (capability_at s.slots slot)) (OnCNode (Move destination source)) ≡ Ok after
        → PoolsIn image t s.slots after.slots
    moves-keep destination source may after made =
        let one = got (destination_slot s.slots called.capability destination) _ after made in
        let two = got (source_slot s.slots called.root source) _ after one.2 in
        let noted = slots_noted image t slots in
        let inside = root-inside image t s slots m in
        let there : argument_slot s.slots called.root source ≡ Ok two.0 = (source-named s.slots called.root source two.0 two.1).named in
        let named : argument_slot noted called.root source ≡ Ok two.0 = sym (m.finds called.root source inside) ∙ there in
        let plain : is_untyped (capability_at s.slots two.0) ≡ false =
        ap is_untyped (m.held two.0 (m.finds_own called.root source two.0 inside there)) ∙ sym (ap (names_such is_untyped noted) named) ∙ may.keeps_pools in
        done (with_slots s (relocated s.slots two.0 one.0)) after two.2
        (kept-moved two.0 one.0 plain (named-empty s.slots called.capability destination one.0 one.1))

    pub maps-keep : (allowed : Rights) (name : SlotName) (address word : ℕ) → MayInvoke image t s slots slot (OnFrame allowed (MapFrame name address word))
        → (after : State) → perform s (call_on image t.thread slot (capability_at s.slots slot)) (OnFrame allowed (MapFrame name address word)) ≡ Ok after
        → PoolsIn image t s.slots after.slots
    maps-keep allowed name address word may after made =
        let now = mapping_rights allowed word in
        let one = passed (not (is_mapped (frame_mapping (capability_at s.slots slot)))) InvalidCapability _ after made in
        let two = got (root_named s.slots called.root name) _ after one.1 in
        let three = passed (nat_lt address address_limit) InvalidArgument _ after two.2 in
        let four = passed (address % page_size == 0) AlignmentError _ after three.1 in
        let five = passed (is_region_taken s two.0 (address / page_size / region_pages)) FailedLookup _ after four.1 in
        let six = passed (not (is_page_taken s two.0 (address / page_size))) DeleteFirst _ after five.1 in
        let seven = passed (may_read now || may_execute now) InvalidArgument _ after six.1 in
        let mapping : FrameMapping = record { root = two.0; page = address / page_size; rights = now } in
        let new : Cap = with_frame_mapping (capability_at s.slots slot) (Some mapping) in
        done (with_slots s (recapped s.slots slot new)) after seven.1 (kept-recapped slot new may.on.0 allowed may.on.1 may.on.2)

    pub unmaps-keep : (allowed : Rights) → MayInvoke image t s slots slot (OnFrame allowed UnmapFrame) → (after : State)
        → perform s (call_on image t.thread slot (capability_at s.slots slot)) (OnFrame allowed UnmapFrame) ≡ Ok after → PoolsIn image t s.slots after.slots
    unmaps-keep allowed may after made =
        done (unmap_frame s called) after made
        (kept-recapped slot (unmapped (capability_at s.slots slot)) may.on.0 allowed may.on.1 may.on.2)
