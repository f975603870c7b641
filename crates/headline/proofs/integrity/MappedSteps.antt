-- A step leaves what a slot holds, apart from its use, or fills or empties it: no capability takes the place of another.
use Rattle.std.proofs.Common.{ℕ, ◌≡◌, ◌∙◌, ◌==◌, ◌/◌, ◌%◌, ◌||◌, ◌⊎◌, inl, inr, Bool, true, false, not, nat_lt, if◌then◌else◌, Option, Some, option_map, Result}
use Rattle.std.proofs.Common.{Ok, List, refl, sym, ap, subst, is_some}
use Rattle.std.specs.Prelude.{Contains}
use Rattle.std.proofs.lemmas.Bool.{not-false}
use Rattle.std.proofs.lemmas.Bool.Decides.{eqb_tells}
use Rattle.soundness.specs.Machines.{SameBase}
use Rattle.soundness.proofs.Laws.{acknowledge-machine, answered-machine, empty-capability, passes-machine}
use Rattle.typestate.specs.Calls.{call_on}
use Rattle.typestate.proofs.Laws.{reset}
use Rattle.model.specs.declared.capabilities.Cap.{Cap}
use Rattle.model.specs.declared.capabilities.Cap.TheVariants.{Empty, Untyped, Endpoint, Notification, CNode, Frame, PageTable, Tcb, RootTable, InterruptControl}
use Rattle.model.specs.declared.capabilities.Cap.TheVariants.{InterruptHandler}
use Rattle.model.specs.declared.capabilities.FrameMapping.{FrameMapping}
use Rattle.model.specs.declared.errors.KError.{KError}
use Rattle.model.specs.declared.errors.KError.TheVariants.{AlignmentError, DeleteFirst, FailedLookup, IllegalOperation, InvalidArgument, InvalidCapability}
use Rattle.model.specs.declared.errors.KError.TheVariants.{RangeError}
use Rattle.model.specs.declared.events.Event.TheVariants.{Step}
use Rattle.model.specs.declared.invocations.CNodeCall.TheVariants.{Copy, Mint, Move, Mutate, Delete, Revoke}
use Rattle.model.specs.declared.invocations.FrameCall.TheVariants.{MapFrame, UnmapFrame}
use Rattle.model.specs.declared.invocations.HandlerCall.TheVariants.{Acknowledge, SetNotification, Clear}
use Rattle.model.specs.declared.invocations.Invocation.{Invocation}
use Rattle.model.specs.declared.invocations.Invocation.TheVariants.{OnUntyped, OnThread, OnCNode, OnFrame, OnTable, OnControl, OnHandler}
use Rattle.model.specs.declared.invocations.RetypeCall.{RetypeCall}
use Rattle.model.specs.declared.invocations.SlotName.{SlotName}
use Rattle.model.specs.declared.invocations.UntypedMemory.{UntypedMemory}
use Rattle.model.specs.declared.labels.Label.{Label}
use Rattle.model.specs.declared.rights.Rights.{Rights}
use Rattle.model.specs.declared.slot_entries.Entry.{Entry}
use Rattle.model.specs.declared.system_calls.SendCall.{SendCall}
use Rattle.model.specs.Acceptance.Accepted.{IsAccepted}
use Rattle.model.specs.Acceptance.Authority.{without_use}
use Rattle.model.specs.Acceptance.CallRules.{AfterCall, may_make}
use Rattle.model.specs.Acceptance.NotedKernel.{noted_root}
use Rattle.model.specs.Acceptance.NotedStates.{NotedSlot, PointState}
use Rattle.model.specs.Acceptance.ThreadInvariants.{tcb_of}
use Rattle.model.specs.Capabilities.CapabilityKinds.{badge_fits, copied, frame_mapping, guard_fits, is_badged, is_untyped, may_be_copied, unmapped}
use Rattle.model.specs.Capabilities.CapabilityKinds.{with_frame_mapping, with_payload}
use Rattle.model.specs.Capabilities.Rights.{mapping_rights, may_execute, may_read}
use Rattle.model.specs.Capabilities.Slots.{Slots, adopted, capability_at, depth_of, empty_entry, inserted, is_empty, is_full, parent_at, recapped, relocated}
use Rattle.model.specs.Images.Described.{Numbered, numbered_threads}
use Rattle.model.specs.Images.Image.{Image}
use Rattle.model.specs.Kernel.AddressSpaces.{address_limit, is_page_taken, is_region_taken, page_size, region_pages}
use Rattle.model.specs.Kernel.Arguments.{Call, destination_slot, source_slot}
use Rattle.model.specs.Kernel.Interrupts.{acknowledge}
use Rattle.model.specs.Kernel.Invocations.{perform}
use Rattle.model.specs.Kernel.MappingCalls.{is_mapped, root_named, unmap_frame}
use Rattle.model.specs.Kernel.Messages.{passes}
use Rattle.model.specs.Kernel.Removal.{SlotSet, emptied, loses_last_child, with_bindings}
use Rattle.model.specs.Kernel.Scheduling.{current, is_runnable}
use Rattle.model.specs.Kernel.State.{State, Runnable, ThreadState, as_thread, thread_at, with_slots}
use Rattle.model.specs.Kernel.Steps.{answered, completed, step, system_call}
use Rattle.headline.specs.authority.OwnMaps.{AllMapOwn}
use Rattle.headline.specs.facts.Standing.{AllStand}
use Rattle.headline.specs.invocations.Invoking.{Invokes}
use Rattle.headline.specs.invocations.Laws.{Laws}
use Rattle.headline.specs.invocations.Mirrors.{Mirrors}
use Rattle.headline.specs.invocations.Performed.{MayInvoke}
use Rattle.headline.specs.invocations.Running.{Runs}
use Rattle.headline.specs.kept.Laws.{StoresTouchNone}
use Rattle.headline.specs.moves.Moving.{CallsAt}
use Rattle.headline.specs.moves.Steps.{MakesCall}
use Rattle.headline.specs.steps.Laws.{PlainStepsKeepThreads, WritesWhereStoresMay}
use Rattle.headline.proofs.authority.Laws.{capability_of, deletes-leave, entered, entered-away, entered-here, got, named-empty, outside-window, passed}
use Rattle.headline.proofs.authority.Laws.{quiet-same, revokes-leave}
use Rattle.headline.proofs.invocations.AllRuns.{either-invokes}
use Rattle.headline.proofs.invocations.InvocationSteps.{invocation-leaves}
use Rattle.headline.proofs.invocations.NewKinds.{may-made}
use Rattle.headline.proofs.invocations.NewSlots.{as_before, as_new, as_pool}
use Rattle.headline.proofs.invocations.Relocating.{adopted-capability}
use Rattle.headline.proofs.invocations.RemovalChanges.{cap-left}
use Rattle.headline.proofs.invocations.RemovalSides.{own_set}
use Rattle.headline.proofs.invocations.RetypeParts.{retype-found, window_of}
use Rattle.headline.proofs.invocations.RetypeSlots.{before-same, place-of, pool-held}
use Rattle.headline.proofs.invocations.RetypeWell.{making as making_of}
use Rattle.headline.proofs.moves.Laws.{call-leaves, idle-is, one-thread, plain-leaves, step-cases}

-- what a slot holds is gone, is new, or is what it was apart from its use
abbrev pub Stays : Cap → Cap → Type 0
Stays old new = (new ≡ Empty) ⊎ ((old ≡ Empty) ⊎ (without_use old ≡ without_use new))

abbrev pub AreStaying : Slots → Slots → Type 0
AreStaying before after = (slot : ℕ) → Stays (capability_at before slot) (capability_at after slot)

stays-same : (old new : Cap) → without_use old ≡ without_use new → Stays old new
stays-same old new same = inr (inr same)

pub same-stay : (before after : Slots) → after ≡ before → AreStaying before after
same-stay before after same slot =
    stays-same (capability_at before slot) (capability_at after slot) (ap (λ (s : Slots). without_use (capability_at s slot)) (sym same))

-- watermarks are no matter
reset-use : (b : Bool) (c : Cap) → without_use (reset b c) ≡ without_use c
reset-use b Empty = refl
reset-use b (Untyped _ _ _) = refl
reset-use b (Endpoint _ _ _) = refl
reset-use b (Notification _ _ _) = refl
reset-use b (CNode _ _ _) = refl
reset-use b (Frame _ _ _) = refl
reset-use b (PageTable _ _) = refl
reset-use b (Tcb _) = refl
reset-use b (RootTable _) = refl
reset-use b InterruptControl = refl
reset-use b (InterruptHandler _) = refl

-- nor are mappings
frame-use : (c : Cap) (offset : ℕ) (held : Rights) (mapping : Option FrameMapping) (new : Option FrameMapping) → c ≡ Frame offset held mapping
    → without_use c ≡ without_use (with_frame_mapping c new)
frame-use c offset held mapping new is = ap without_use is ∙ sym (ap (λ (x : Cap). without_use (with_frame_mapping x new)) is)

unmapped-use : (c : Cap) (offset : ℕ) (held : Rights) (mapping : Option FrameMapping) → c ≡ Frame offset held mapping
    → without_use c ≡ without_use (unmapped c)
unmapped-use c offset held mapping is = ap without_use is ∙ sym (ap (λ (x : Cap). without_use (unmapped x)) is)

module _ (image : Image) (t : Numbered) (s : State) where
  abbrev Staying : Slots → Type 0
  Staying slots = AreStaying s.slots slots

  stay-entered : (place : ℕ) (entry : Entry) → Stays (capability_at s.slots place) entry.capability → AreStaying s.slots (entered s place entry)
  stay-entered place entry stays slot = elim (eqb_tells slot place) [
    | inl here ↦ subst (λ (x : ℕ). Stays (capability_at s.slots x) (capability_at (entered s place entry) x)) (sym here.1)
        (subst (λ (c : Cap). Stays (capability_at s.slots place) c) (sym (entered-here s place entry place refl)) stays)
    | inr apart ↦ stays-same (capability_at s.slots slot) (capability_at (entered s place entry) slot)
        (ap (λ (o : Option Entry). without_use (capability_of o)) (sym (entered-away s place entry slot apart.1)))
  ]

  stay-inserted : (to from : ℕ) (new : Cap) → capability_at s.slots to ≡ Empty → AreStaying s.slots (inserted s.slots to new (Some from))
  stay-inserted to from new empty = stay-entered to (record { capability = new; parent = Some from }) (inr (inl empty))

  stay-recapped : (place : ℕ) (new : Cap) → without_use (capability_at s.slots place) ≡ without_use new → AreStaying s.slots (recapped s.slots place new)
  stay-recapped place new same = stay-entered place (record { capability = new; parent = parent_at s.slots place }) (inr (inr same))

  stay-moved : (from to : ℕ) → capability_at s.slots to ≡ Empty → AreStaying s.slots (relocated s.slots from to)
  stay-moved from to empty slot = elim (eqb_tells slot from) [
    | inl here ↦ inl (ap (λ (b : Bool). capability_of
        (if b then Some empty_entry else if slot == to then s.slots from else option_map (adopted from (Some to)) (s.slots slot))) here.0)
    | inr not_from ↦ elim (eqb_tells slot to) [
      | inl here ↦ inr (inl (ap (capability_at s.slots) here.1 ∙ empty))
      | inr not_to ↦ stays-same (capability_at s.slots slot) (capability_at (relocated s.slots from to) slot)
          (sym (ap without_use (ap (λ (b : Bool). capability_of
          (if b then Some empty_entry else if slot == to then s.slots from else option_map (adopted from (Some to)) (s.slots slot))) not_from.0
          ∙ ap (λ (b : Bool). capability_of (if b then s.slots from else option_map (adopted from (Some to)) (s.slots slot))) not_to.0
          ∙ adopted-capability from to (s.slots slot))))
    ]
  ]

  done : (a b : State) → ◌≡◌ {A = Result State KError} (Ok a) (Ok b) → AreStaying s.slots a.slots → AreStaying s.slots b.slots
  done a b same = subst (λ (x : State). AreStaying s.slots x.slots) (let e : a ≡ b = cc in e)

  module _ (slots : List NotedSlot) (m : Mirrors image t s slots) (slot : ℕ) where
    abbrev called : Call
    called = call_on image t.thread slot (capability_at s.slots slot)

    abbrev Performs : Invocation → State → Type 0
    Performs c after = perform s (call_on image t.thread slot (capability_at s.slots slot)) c ≡ Ok after

    copies-stay : (destination source : SlotName) (word : ℕ) (after : State) → Performs (OnCNode (Copy destination source word)) after
        → AreStaying s.slots after.slots
    copies-stay destination source word after made =
        let one = got (destination_slot s.slots called.capability destination) _ after made in
        let two = got (source_slot s.slots called.root source) _ after one.2 in
        let three = passed (may_be_copied (capability_at s.slots two.0)) IllegalOperation _ after two.2 in
        let four = passed (nat_lt (depth_of s.slots two.0) 255) IllegalOperation _ after three.1 in
        let new : Cap = copied (capability_at s.slots two.0) word in
        done (with_slots s (inserted s.slots one.0 new (Some two.0))) after four.1
        (stay-inserted one.0 two.0 new (named-empty s.slots called.capability destination one.0 one.1))

    mints-stay : (destination source : SlotName) (word payload : ℕ) (after : State) → Performs (OnCNode (Mint destination source word payload)) after
        → AreStaying s.slots after.slots
    mints-stay destination source word payload after made =
        let one = got (destination_slot s.slots called.capability destination) _ after made in
        let two = got (source_slot s.slots called.root source) _ after one.2 in
        let held : Cap = capability_at s.slots two.0 in
        let three = passed (may_be_copied held) IllegalOperation _ after two.2 in
        let four = passed (not (is_badged held)) IllegalOperation _ after three.1 in
        let five = passed (badge_fits held payload) RangeError _ after four.1 in
        let six = passed (guard_fits held payload) IllegalOperation _ after five.1 in
        let seven = passed (nat_lt (depth_of s.slots two.0) 255) IllegalOperation _ after six.1 in
        let new : Cap = with_payload (copied held word) payload in
        done (with_slots s (inserted s.slots one.0 new (Some two.0))) after seven.1
        (stay-inserted one.0 two.0 new (named-empty s.slots called.capability destination one.0 one.1))

    moves-stay : (destination source : SlotName) (after : State) → Performs (OnCNode (Move destination source)) after → AreStaying s.slots after.slots
    moves-stay destination source after made =
        let one = got (destination_slot s.slots called.capability destination) _ after made in
        let two = got (source_slot s.slots called.root source) _ after one.2 in
        done (with_slots s (relocated s.slots two.0 one.0)) after two.2
        (stay-moved two.0 one.0 (named-empty s.slots called.capability destination one.0 one.1))

    maps-stay : (allowed : Rights) (name : SlotName) (address word : ℕ) → MayInvoke image t s slots slot (OnFrame allowed (MapFrame name address word))
        → (after : State) → Performs (OnFrame allowed (MapFrame name address word)) after → AreStaying s.slots after.slots
    maps-stay allowed name address word may after made =
        let now = mapping_rights allowed word in
        let one = passed (not (is_mapped (frame_mapping (capability_at s.slots slot)))) InvalidCapability _ after made in
        let two = got (root_named s.slots called.root name) _ after one.1 in
        let three = passed (nat_lt address address_limit) InvalidArgument _ after two.2 in
        let four = passed (address % page_size == 0) AlignmentError _ after three.1 in
        let five = passed (is_region_taken s two.0 (address / page_size / region_pages)) FailedLookup _ after four.1 in
        let six = passed (not (is_page_taken s two.0 (address / page_size))) DeleteFirst _ after five.1 in
        let seven = passed (may_read now || may_execute now) InvalidArgument _ after six.1 in
        let mapping : FrameMapping = record { root = two.0; page = address / page_size; rights = now } in
        let held : Cap = capability_at s.slots slot in
        done (with_slots s (recapped s.slots slot (with_frame_mapping held (Some mapping)))) after seven.1
        (stay-recapped slot (with_frame_mapping held (Some mapping)) (frame-use held may.on.0 allowed may.on.1 (Some mapping) may.on.2))

    unmaps-stay : (allowed : Rights) → MayInvoke image t s slots slot (OnFrame allowed UnmapFrame) → (after : State)
        → Performs (OnFrame allowed UnmapFrame) after → AreStaying s.slots after.slots
    unmaps-stay allowed may after made =
        let held : Cap = capability_at s.slots slot in
        done (unmap_frame s called) after made (stay-recapped slot (unmapped held) (unmapped-use held may.on.0 allowed may.on.1 may.on.2))

    -- ---- Retype

    retypes-stay : (memory : UntypedMemory) (asked : RetypeCall) → MayInvoke image t s slots slot (OnUntyped memory asked) → (after : State)
        → Performs (OnUntyped memory asked) after → AreStaying s.slots after.slots
    retypes-stay memory asked may after made =
        let found = retype-found s after (noted_root image t.thread) slot memory asked made in
        let of = found.of in
        let kind_made = may-made of.kind (ap may_make (sym of.kind_is) ∙ may.may) in
        let making = making_of image t s slots m slot may.own memory asked may.on of kind_made in
        subst (λ (x : State). AreStaying s.slots x.slots) found.is (λ x. elim (place-of image t s making x) [
          | as_new inside ↦ inr (inl (empty-capability (capability_at s.slots x)
              (elim (is_full s.slots x) as (λ (b : Bool). is_full s.slots x ≡ b → is_empty (capability_at s.slots x) ≡ true) [
                | true ↦ λ full. absurd (let clash : true ≡ false =
                    sym inside ∙ outside-window s.slots (window_of asked of.cnode) asked.count x of.free full in cc)
                | false ↦ λ none. not-false (is_empty (capability_at s.slots x)) none
              ] refl)))
          | as_pool outside same ↦ inr (inr (ap (λ (y : ℕ). without_use (capability_at s.slots y)) same ∙ ap without_use may.on
              ∙ sym (ap without_use (pool-held image t s making s.slots x outside same))))
          | as_before outside apart ↦ inr (inr
              (ap (λ (o : Option Entry). without_use (capability_of o)) (sym (before-same image t s making s.slots x outside apart))))
        ])

    -- ---- Delete and Revoke

    stay-emptied : (set : SlotSet) → ((x : ℕ) → set x ≡ true → own_set image t x ≡ true)
        → ((x : ℕ) → set x ≡ true → is_untyped (capability_at s.slots x) ≡ false)
        → AreStaying s.slots (emptied s (with_bindings s set)).slots
    stay-emptied set inside pools x =
        let all : SlotSet = with_bindings s set in
        let left = cap-left image t s slots m set set inside inside (λ y mine. refl) pools x in
        elim (all x) as (λ (b : Bool). all x ≡ b → Stays (capability_at s.slots x) (capability_at (emptied s all).slots x)) [
          | true ↦ λ gone. inl (left ∙ ap (λ (b : Bool). if b then Empty else reset (loses_last_child s all x) (capability_at s.slots x)) gone)
          | false ↦ λ stays. inr (inr (sym (ap without_use
              (left ∙ ap (λ (b : Bool). if b then Empty else reset (loses_last_child s all x) (capability_at s.slots x)) stays)
              ∙ reset-use (loses_last_child s all x) (capability_at s.slots x))))
        ] refl

-- ---- a step

module _ (laws : Laws) (bytes : List ℕ) (image : Image) (s : State) (labels : List Label) (accepted : IsAccepted bytes image) (all : AllStand image s labels)
    (maps : AllMapOwn image s) (t : Numbered) (listed : Contains (numbered_threads image) t) where
  abbrev tcb : ℕ
  tcb = tcb_of image t

  refused : {A : Type 0} → false ≡ true → A
  refused clash = absurd cc

  module _ (own : ThreadState) (point : ℕ) (state : PointState) (left : AfterCall) (at : CallsAt image t s labels own point state left) (slot : ℕ) where
    mirrors : Mirrors image t s state.slots
    mirrors = laws.mirror bytes image t s labels own point state accepted listed all at.stands

    runs : Runs image t s
    runs other there = subst (λ (u : ThreadState). u.status ≡ Runnable) (one-thread (s.objects tcb) own other at.there there) at.status

    stay-left : (c : Invocation) → MayInvoke image t s state.slots slot c → (after : State)
        → perform s (call_on image t.thread slot (capability_at s.slots slot)) c ≡ Ok after → AreStaying s.slots after.slots
    stay-left (OnUntyped memory asked) m after made = retypes-stay image t s state.slots mirrors slot memory asked m after made
    stay-left (OnCNode (Copy destination source word)) m after made = copies-stay image t s state.slots mirrors slot destination source word after made
    stay-left (OnCNode (Mint destination source word payload)) m after made =
        mints-stay image t s state.slots mirrors slot destination source word payload after made
    stay-left (OnCNode (Move destination source)) m after made = moves-stay image t s state.slots mirrors slot destination source after made
    stay-left (OnCNode (Delete name)) m after made =
        deletes-leave image t s state.slots mirrors runs own at.there (maps t listed) slot name (λ (x : State). AreStaying s.slots x.slots)
        (same-stay s.slots s.slots refl) (stay-emptied image t s state.slots mirrors slot) m after made
    stay-left (OnCNode (Revoke name)) m after made =
        revokes-leave image t s state.slots mirrors runs own at.there (maps t listed) slot name (λ (x : State). AreStaying s.slots x.slots)
        (stay-emptied image t s state.slots mirrors slot) m after made
    stay-left (OnFrame held (MapFrame name address word)) m after made =
        maps-stay image t s state.slots mirrors slot held name address word m after made
    stay-left (OnFrame held UnmapFrame) m after made = unmaps-stay image t s state.slots mirrors slot held m after made
    stay-left (OnHandler line Acknowledge) m after made =
        let same : acknowledge s line ≡ after = (let e : ◌≡◌ {A = Result State KError} (Ok (acknowledge s line)) (Ok after) = made in cc) in
        subst (λ (x : State). AreStaying s.slots x.slots) same
        (same-stay s.slots (acknowledge s line).slots (SameBase.slots (acknowledge-machine s line)))
    stay-left (OnThread thread c) m after made = refused m.may
    stay-left (OnCNode (Mutate destination source payload)) m after made = refused m.may
    stay-left (OnTable c) m after made = refused m.may
    stay-left (OnControl line destination) m after made = refused m.may
    stay-left (OnHandler line (SetNotification name)) m after made = refused m.may
    stay-left (OnHandler line Clear) m after made = refused m.may

  completed-slots : (x : State) (kind : SendCall) → (completed x (tcb_of image t) kind).slots ≡ x.slots
  completed-slots x kind = elim (is_some (as_thread (x.objects tcb))) as (λ (b : Bool).
      (if b then (if is_runnable (thread_at x tcb).status then answered x tcb kind 0 else passes x tcb) else x).slots ≡ x.slots) [
        | true ↦ elim (is_runnable (thread_at x tcb).status) as (λ (b : Bool). (if b then answered x tcb kind 0 else passes x tcb).slots ≡ x.slots) [
          | true ↦ SameBase.slots (answered-machine x tcb kind 0)
          | false ↦ SameBase.slots (passes-machine x tcb)
        ]
        | false ↦ refl
      ]

  invoked-stay : current s ≡ Some (tcb_of image t) → MakesCall s (tcb_of image t) → Invokes s (tcb_of image t) → AreStaying s.slots (step s Step).0.slots
  invoked-stay now makes invokes =
      invocation-leaves laws bytes image s labels accepted all t listed now (λ (x : State). AreStaying s.slots x.slots)
      (λ own point state left at kind slot c called may after made.
      subst (AreStaying s.slots) (sym (completed-slots after kind)) (stay-left own point state left at slot c may after made)) makes invokes

module _ (laws : Laws) (keeps : PlainStepsKeepThreads) (writes : WritesWhereStoresMay) (touches : StoresTouchNone) (bytes : List ℕ) (image : Image) (s : State)
    (labels : List Label) (accepted : IsAccepted bytes image) (all : AllStand image s labels) (maps : AllMapOwn image s) where
  abbrev last : State
  last = (step s Step).0

  pub step-stays : AreStaying s.slots (step s Step).0.slots
  step-stays = step-cases image s labels all (AreStaying s.slots last.slots)
      (λ none. same-stay s.slots last.slots (ap (λ (x : State × Label). (x.0).slots) (idle-is s none)))
      (λ t listed now makes. elim (either-invokes s (tcb_of image t)) [
        | inl nothing ↦ call-leaves laws.below bytes image t s labels accepted all listed now makes (λ (x : State). AreStaying s.slots x.slots)
            (λ own point state left call at is number rule.
            same-stay s.slots (system_call s (tcb_of image t)).0.slots (SameBase.slots (quiet-same s (tcb_of image t) nothing)))
        | inr invokes ↦ invoked-stay laws bytes image s labels accepted all maps t listed now makes invokes
      ])
      (λ t listed now free.
      plain-leaves laws.below keeps writes touches bytes image t s labels accepted all listed now free (λ (x : State). AreStaying s.slots x.slots)
      (λ own there status code fetched instr spelled. same-stay s.slots s.slots refl))
