-- After an invocation that the rules allow each full slot of the thread's derives from something still.
use Rattle.std.proofs.Common.{ℕ, ◌≡◌, ◌==◌, ◌%◌, ◌/◌, ◌+◌, ◌^◌, ◌&&◌, ◌||◌, nat_lt, nat_le, true, false, not, if◌then◌else◌, Some, Result, Ok, List, sym, subst}
use Rattle.std.proofs.lemmas.Bool.{false≢true}
use Rattle.model.specs.declared.capabilities.Cap.{Cap}
use Rattle.model.specs.declared.capabilities.Cap.TheVariants.{Untyped}
use Rattle.model.specs.declared.errors.KError.{KError}
use Rattle.model.specs.declared.errors.KError.TheVariants.{AlignmentError, DeleteFirst, FailedLookup, IllegalOperation, InvalidArgument, InvalidCapability}
use Rattle.model.specs.declared.errors.KError.TheVariants.{NotEnoughMemory, RangeError}
use Rattle.model.specs.declared.invocations.CNodeCall.TheVariants.{Copy, Mint, Move, Mutate, Delete, Revoke}
use Rattle.model.specs.declared.invocations.FrameCall.TheVariants.{MapFrame, UnmapFrame}
use Rattle.model.specs.declared.invocations.HandlerCall.TheVariants.{Acknowledge, SetNotification, Clear}
use Rattle.model.specs.declared.invocations.Invocation.{Invocation}
use Rattle.model.specs.declared.invocations.Invocation.TheVariants.{OnUntyped, OnThread, OnCNode, OnFrame, OnTable, OnControl, OnHandler}
use Rattle.model.specs.declared.invocations.RetypeCall.{RetypeCall}
use Rattle.model.specs.declared.invocations.SlotName.{SlotName}
use Rattle.model.specs.declared.invocations.UntypedMemory.{UntypedMemory}
use Rattle.model.specs.declared.rights.Rights.{Rights}
use Rattle.model.specs.Acceptance.Authority.{IsOwnSlot}
use Rattle.model.specs.Acceptance.CallRules.{may_call}
use Rattle.model.specs.Acceptance.NotedKernel.{noted_root}
use Rattle.model.specs.Acceptance.NotedStates.{NotedSlot}
use Rattle.model.specs.Capabilities.Slots.{IsFull, capability_at, inserted, is_descendant, is_full, parent_at, recapped, relocated}
use Rattle.model.specs.Images.Described.{Numbered}
use Rattle.model.specs.Images.Image.{Image}
use Rattle.model.specs.Kernel.Arguments.{Call, argument_slot, check, destination_slot, may_have_child, source_slot, wanted}
use Rattle.model.specs.Capabilities.CapabilityKinds.{badge_fits, copied, frame_mapping, guard_fits, is_badged, may_be_copied, unmapped, with_frame_mapping}
use Rattle.model.specs.Capabilities.CapabilityKinds.{with_payload}
use Rattle.model.specs.Capabilities.Placement.{placement}
use Rattle.model.specs.Capabilities.Rights.{mapping_rights, may_execute, may_read}
use Rattle.model.specs.Kernel.AddressSpaces.{address_limit, is_page_taken, is_region_taken, page_size, region_pages}
use Rattle.model.specs.Kernel.Interrupts.{acknowledge}
use Rattle.model.specs.Kernel.Invocations.{perform}
use Rattle.model.specs.Kernel.Removal.{remove}
use Rattle.model.specs.Kernel.MappingCalls.{is_mapped, root_named, unmap_frame}
use Rattle.model.specs.Kernel.Retype.{NewObjects, any_full, is_large_enough, is_small_enough, node, object_bits, retype, type_of, with_new}
use Rattle.model.specs.Kernel.State.{State, slot_of, with_slots}
use Rattle.soundness.proofs.Laws.{acknowledge-machine, passes-both}
use Rattle.headline.specs.lookups.Found.{slots_noted}
use Rattle.headline.proofs.lookups.Laws.{home-inside, root-own}
use Rattle.headline.specs.invocations.Answered.{DerivesFromSome}
use Rattle.headline.specs.invocations.Mirrors.{Mirrors}
use Rattle.headline.specs.invocations.Performed.{InvokesWell, MayInvoke}
use Rattle.headline.proofs.invocations.DerivedEntries.{AllHang, inserted-hang, new-hang, recapped-hang, relocated-hang}
use Rattle.headline.proofs.invocations.Heirs.{removed-hang}
use Rattle.headline.proofs.invocations.BootRemains.{alone-no-boot, below-no-boot}
use Rattle.headline.proofs.invocations.DerivedSlots.{derives-from-some}
use Rattle.typestate.specs.Calls.{call_on}

module _ (image : Image) (t : Numbered) (s : State) (slots : List NotedSlot) (m : Mirrors image t s slots) where
  abbrev own : ℕ → Type 0
  own slot = IsOwnSlot image t.thread slot

  hang : AllHang own s.slots
  hang = derives-from-some image t s slots m

  module _ (slot : ℕ) (mine : IsOwnSlot image t.thread slot) (full : IsFull s.slots slot) (after : State) where
    abbrev call : Call
    call = call_on image t.thread slot (capability_at s.slots slot)

    abbrev Behind : Type 0
    Behind = AllHang own after.slots

    above : (parent : ℕ) × (parent_at s.slots slot ≡ Some parent)
    above = hang slot mine full

    ends : (t : State) → AllHang own t.slots → ◌≡◌ {A = Result State KError} (Ok t) (Ok after) → Behind
    ends t hangs is = let same : t ≡ after = cc in subst (λ (x : State). AllHang own x.slots) same hangs

    by-copy : (destination source : SlotName) (rights_word : ℕ) → perform s call (OnCNode (Copy destination source rights_word)) ≡ Ok after → Behind
    by-copy destination source rights_word is =
        let one = passes-both (destination_slot s.slots call.capability destination) _ after is in
        let two = passes-both (source_slot s.slots call.root source) _ after one.rest in
        let held = capability_at s.slots two.value in
        let three = passes-both (check (may_be_copied held) IllegalOperation) _ after two.rest in
        let four = passes-both (may_have_child s.slots two.value) _ after three.rest in
        let made = copied held rights_word in
        ends (with_slots s (inserted s.slots one.value made (Some two.value))) (inserted-hang own s.slots one.value two.value made hang) four.rest

    by-mint : (destination source : SlotName) (rights_word payload : ℕ) → perform s call (OnCNode (Mint destination source rights_word payload)) ≡ Ok after
        → Behind
    by-mint destination source rights_word payload is =
        let one = passes-both (destination_slot s.slots call.capability destination) _ after is in
        let two = passes-both (source_slot s.slots call.root source) _ after one.rest in
        let held = capability_at s.slots two.value in
        let three = passes-both (check (may_be_copied held) IllegalOperation) _ after two.rest in
        let four = passes-both (check (not (is_badged held)) IllegalOperation) _ after three.rest in
        let five = passes-both (check (badge_fits held payload) RangeError) _ after four.rest in
        let six = passes-both (check (guard_fits held payload) IllegalOperation) _ after five.rest in
        let seven = passes-both (may_have_child s.slots two.value) _ after six.rest in
        let made = with_payload (copied held rights_word) payload in
        ends (with_slots s (inserted s.slots one.value made (Some two.value))) (inserted-hang own s.slots one.value two.value made hang) seven.rest

    -- what the thread names below its root is its own
    source-own : (name : SlotName) (found : ℕ) → source_slot s.slots (noted_root image t.thread) name ≡ Ok found → own found
    source-own name found is =
        let one = passes-both (argument_slot s.slots (noted_root image t.thread) name) _ found is in
        let two = passes-both (check (is_full s.slots one.value) FailedLookup) _ found one.rest in
        let same : one.value ≡ found = (let e : ◌≡◌ {A = Result ℕ KError} (Ok one.value) (Ok found) = two.rest in cc) in
        subst own same (m.finds_own (noted_root image t.thread) name one.value (root-own image t m.accepted.formed m.listed) one.first)

    by-move : (destination source : SlotName) → perform s call (OnCNode (Move destination source)) ≡ Ok after → Behind
    by-move destination source is =
        let one = passes-both (destination_slot s.slots call.capability destination) _ after is in
        let two = passes-both (source_slot s.slots call.root source) _ after one.rest in
        ends (with_slots s (relocated s.slots two.value one.value)) (relocated-hang own s.slots two.value one.value (source-own source two.value two.first)
        hang)
        two.rest

    -- what the call names below the invoked CNode is its own
    named-own : (name : SlotName) (found : ℕ) → argument_slot s.slots (capability_at s.slots slot) name ≡ Ok found → own found
    named-own name found is = m.finds_own (capability_at s.slots slot) name found (home-inside image t.thread (capability_at s.slots slot) (m.home slot mine))
        is

    by-delete : (name : SlotName) → perform s call (OnCNode (Delete name)) ≡ Ok after → Behind
    by-delete name is =
        let one = passes-both (argument_slot s.slots call.capability name) _ after is in
        elim (is_full s.slots one.value) as (λ b. (if b then remove s (λ other. other == one.value) else Ok s) ≡ Ok after → Behind) [
          | true ↦ removed-hang s m.all.sound.slots.derivation own hang m.near (λ other. other == one.value) after
              (alone-no-boot image t s slots m one.value (named-own name one.value one.first))
          | false ↦ ends s hang
        ] one.rest

    by-revoke : (name : SlotName) → perform s call (OnCNode (Revoke name)) ≡ Ok after → Behind
    by-revoke name is =
        let one = passes-both (argument_slot s.slots call.capability name) _ after is in
        removed-hang s m.all.sound.slots.derivation own hang m.near (is_descendant s.slots one.value) after
        (below-no-boot image t s slots m one.value (named-own name one.value one.first)) one.rest

    -- another capability in the invoked slot
    recapped-behind : (c : Cap) → AllHang own (recapped s.slots slot c)
    recapped-behind c = recapped-hang own s.slots slot above.0 c above.1 hang

    by-map : (held : Rights) (name : SlotName) (address rights_word : ℕ) → perform s call (OnFrame held (MapFrame name address rights_word)) ≡ Ok after → Behind
    by-map held name address rights_word is =
        let allowed = mapping_rights held rights_word in
        let one = passes-both (check (not (is_mapped (frame_mapping call.capability))) InvalidCapability) _ after is in
        let two = passes-both (root_named s.slots call.root name) _ after one.rest in
        let three = passes-both (check (nat_lt address address_limit) InvalidArgument) _ after two.rest in
        let four = passes-both (check (address % page_size == 0) AlignmentError) _ after three.rest in
        let five = passes-both (check (is_region_taken s two.value (address / page_size / region_pages)) FailedLookup) _ after four.rest in
        let six = passes-both (check (not (is_page_taken s two.value (address / page_size))) DeleteFirst) _ after five.rest in
        let seven = passes-both (check (may_read allowed || may_execute allowed) InvalidArgument) _ after six.rest in
        let made = with_frame_mapping call.capability (Some (record { root = two.value; page = address / page_size; rights = allowed })) in
        ends (with_slots s (recapped s.slots slot made)) (recapped-behind made) seven.rest

    by-retype : (memory : UntypedMemory) (asked : RetypeCall) → perform s call (OnUntyped memory asked) ≡ Ok after → Behind
    unfolding retype
    by-retype memory asked is =
        let one = passes-both (wanted (type_of asked.kind asked.size) InvalidArgument) _ after is in
        let kind = one.value in
        let two = passes-both (check (is_large_enough kind) InvalidArgument) _ after one.rest in
        let three = passes-both (check (is_small_enough kind) RangeError) _ after two.rest in
        let four = passes-both (node s.slots call.root asked.node) _ after three.rest in
        let window = slot_of four.value.offset asked.index in
        let fits = nat_le 1 asked.count && nat_le asked.count 256 && nat_le (asked.index + asked.count) (2 ^ four.value.radix) in
        let five = passes-both (check fits RangeError) _ after four.rest in
        let six = passes-both (check (not (any_full s.slots window asked.count)) DeleteFirst) _ after five.rest in
        let seven = passes-both (may_have_child s.slots slot) _ after six.rest in
        let eight = passes-both (wanted (placement memory.bits memory.watermark (object_bits kind) asked.count) NotEnoughMemory) _ after seven.rest in
        let used = Untyped memory.offset memory.bits eight.value.1 in
        let new : NewObjects = record { kind = kind; first = memory.offset + eight.value.0; count = asked.count } in
        ends (with_new (with_slots s (recapped s.slots slot used)) new window slot)
        (new-hang own new window slot (recapped s.slots slot used) (recapped-behind used)) eight.rest

    by-acknowledging : (line : ℕ) → perform s call (OnHandler line Acknowledge) ≡ Ok after → Behind
    by-acknowledging line is = ends (acknowledge s line) (subst (AllHang own) (sym (acknowledge-machine s line).slots) hang) is

    by-call : (c : Invocation) → may_call (slots_noted image t slots) call c ≡ true → perform s call c ≡ Ok after → Behind
    by-call (OnUntyped memory asked) may is = by-retype memory asked is
    by-call (OnCNode (Copy destination source rights_word)) may is = by-copy destination source rights_word is
    by-call (OnCNode (Mint destination source rights_word payload)) may is = by-mint destination source rights_word payload is
    by-call (OnCNode (Move destination source)) may is = by-move destination source is
    by-call (OnCNode (Delete name)) may is = by-delete name is
    by-call (OnCNode (Revoke name)) may is = by-revoke name is
    by-call (OnFrame held (MapFrame name address rights_word)) may is = by-map held name address rights_word is
    by-call (OnFrame held UnmapFrame) may is = ends (unmap_frame s call) (recapped-behind (unmapped call.capability)) is
    by-call (OnHandler line Acknowledge) may is = by-acknowledging line is
    by-call (OnThread thread c) may is = absurd (false≢true may)
    by-call (OnCNode (Mutate destination source payload)) may is = absurd (false≢true may)
    by-call (OnTable c) may is = absurd (false≢true may)
    by-call (OnControl line destination) may is = absurd (false≢true may)
    by-call (OnHandler line (SetNotification name)) may is = absurd (false≢true may)
    by-call (OnHandler line Clear) may is = absurd (false≢true may)

pub derives-behind : (image : Image) (t : Numbered) (s : State) (slots : List NotedSlot) (slot : ℕ) (c : Invocation) → Mirrors image t s slots
    → (may : MayInvoke image t s slots slot c) → (well : InvokesWell image t s slot c may.noted) → DerivesFromSome image t well.after
derives-behind image t s slots slot c m may well = by-call image t s slots m slot may.own may.full well.after c may.may well.performs
