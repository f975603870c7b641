-- A step of another thread leaves the bytes and the slots of a part, and so the whole agrees with the part alone as before.
use Rattle.std.proofs.Common.{ℕ, zero, suc, ◌≡◌, ◌≢◌, ◌∙◌, ◌^◌, ◌<◌, inl, inr, true, false, List, Option, Some, None, option_map, refl, sym, ap, subst, arith}
use Rattle.std.specs.Prelude.{Contains}
use Rattle.std.specs.Option.{option_map_or}
use Rattle.std.proofs.lemmas.Bool.{false≢true}
use Rattle.std.proofs.lemmas.Option.{none-some, same_Some}
use Rattle.model.specs.declared.labels.Label.{Label}
use Rattle.model.specs.Acceptance.Accepted.{IsAccepted}
use Rattle.model.specs.Acceptance.Authority.{ByteChange, written, comes_with_frame, goes_with_frame, delivered, Delivers, sends, receives, replies, Holds}
use Rattle.model.specs.Acceptance.Authority.{IsUntypedAround, ObjectChange, appears, ends, WithinAuthority}
use Rattle.model.specs.Acceptance.ThreadInvariants.{tcb_of}
use Rattle.model.specs.Images.Described.{Numbered, is_object_slot, numbered_threads}
use Rattle.model.specs.Capabilities.Slots.{capability_at}
use Rattle.model.specs.Images.Image.{Image, Thread}
use Rattle.model.specs.Kernel.Deliveries.{TakesReceiver}
use Rattle.model.specs.Kernel.Kinds.{frame_around, kind_at, kind_of}
use Rattle.model.specs.Kernel.Messages.{buffer_of}
use Rattle.model.specs.Kernel.Retype.{NewObject, NewUntyped, NewThread, NewEndpoint, NewNotification, NewCNode, NewFrame, NewPageTable, NewRootTable, object}
use Rattle.model.specs.Kernel.Retype.{object_bits}
use Rattle.model.specs.Kernel.Soundness.{IsSound}
use Rattle.model.specs.Kernel.State.{State, Inactive, Blocked, AwaitsReply, Object, ThreadObject, EndpointObject, NotificationObject, CNodeObject}
use Rattle.model.specs.Kernel.State.{FrameObject}
use Rattle.model.specs.Kernel.State.{PageTableObject, RootTableObject, EndpointState, ThreadState, as_endpoint, as_thread, endpoint_at, new_endpoint}
use Rattle.model.specs.Kernel.State.{new_thread}
use Rattle.model.specs.Kernel.State.{slot_of, thread_at}
use Rattle.headline.specs.facts.Standing.{AllStand, IsControlBlock}
use Rattle.headline.specs.kept.Laws.{HaveOwnBlocks}
use Rattle.headline.specs.parts.Agreeing.{IsSlotOfPart, is_own_slot, is_block_slot}
use Rattle.part_laws.specs.Agreeing.{AgreeFor, IsByteOfPart}
use Rattle.part_laws.specs.Nothing.{HasNothing}
use Rattle.headline.specs.parts.Parts.{Part, is_in, is_thread_in}
use Rattle.headline.proofs.Laws.{Waits, one-owner}
use Rattle.part_laws.proofs.changes.Members.{is-member, member-of, no-member}
use Rattle.part_laws.proofs.changes.Messages.{few-length}
use Rattle.part_laws.proofs.outside.Blocks.{block-apart, block-thread, receiver-waits}
use Rattle.part_laws.proofs.outside.Decided.{settled, some-numbers}
use Rattle.part_laws.proofs.outside.Kept.{kept-line, kept-object}
use Rattle.part_laws.proofs.outside.Left.{left-ready, to-send}
use Rattle.part_laws.proofs.outside.SameEntries.{some-entries}
use Rattle.soundness.proofs.Laws.{buffer-slot, cspace-slot, endpoint-kind, vspace-slot}

-- ---- the first receiver waits

first-receiver : (s after : State) → IsSound s → (endpoint r : ℕ) → TakesReceiver s after endpoint r → Waits s r endpoint
first-receiver s after sound endpoint r takes =
    let queue = endpoint-kind (s.objects endpoint) takes.was in
    receiver-waits s sound endpoint queue.0 queue.1 r (endpoint_at after endpoint).receivers
    (ap (λ (e : EndpointState). e.receivers) (sym (ap (λ (o : Option Object). option_map_or (λ (u : EndpointState). u) (as_endpoint o) new_endpoint) queue.1))
    ∙ takes.leaves)

-- who waits for a reply is a thread
awaits-thread : (s : State) (x : ℕ) → (thread_at s x).status ≡ AwaitsReply → (own : ThreadState) × (s.objects x ≡ Some (ThreadObject own))
awaits-thread s x awaits = by (s.objects x) refl
  where
    none : (o : Option Object) → s.objects x ≡ o → as_thread o ≡ None → ⊥
    none o is gone =
        let e : Inactive ≡ AwaitsReply =
        sym (ap (λ (u : Option ThreadState). (option_map_or (λ t. t) u new_thread).status) (ap as_thread is ∙ gone)) ∙ awaits in cc

    by : (o : Option Object) → s.objects x ≡ o → (own : ThreadState) × (s.objects x ≡ Some (ThreadObject own))
    by None is = absurd (none None is refl)
    by (Some (ThreadObject own)) is = (own, is)
    by (Some (EndpointObject e)) is = absurd (none (Some (EndpointObject e)) is refl)
    by (Some (NotificationObject n)) is = absurd (none (Some (NotificationObject n)) is refl)
    by (Some (CNodeObject radix)) is = absurd (none (Some (CNodeObject radix)) is refl)
    by (Some FrameObject) is = absurd (none (Some FrameObject) is refl)
    by (Some PageTableObject) is = absurd (none (Some PageTableObject) is refl)
    by (Some RootTableObject) is = absurd (none (Some RootTableObject) is refl)

-- an object of a type is what that type makes
kind-made : (kind : NewObject) (o : Option Object) → o ≡ object kind → option_map kind_of o ≡ Some NewFrame → kind ≡ NewFrame
kind-made (NewUntyped bits) o new is = absurd (none-some NewFrame (sym (ap (option_map kind_of) new) ∙ is))
kind-made NewThread o new is = let e : Some NewThread ≡ Some NewFrame = sym (ap (option_map kind_of) new) ∙ is in cc
kind-made NewEndpoint o new is = let e : Some NewEndpoint ≡ Some NewFrame = sym (ap (option_map kind_of) new) ∙ is in cc
kind-made NewNotification o new is = let e : Some NewNotification ≡ Some NewFrame = sym (ap (option_map kind_of) new) ∙ is in cc
kind-made (NewCNode radix) o new is = let e : Some (NewCNode radix) ≡ Some NewFrame = sym (ap (option_map kind_of) new) ∙ is in cc
kind-made NewFrame o new is = refl
kind-made NewPageTable o new is = let e : Some NewPageTable ≡ Some NewFrame = sym (ap (option_map kind_of) new) ∙ is in cc
kind-made NewRootTable o new is = let e : Some NewRootTable ≡ Some NewFrame = sym (ap (option_map kind_of) new) ∙ is in cc

-- untyped memory around the frame of a byte is around the byte
around-byte : (image : Image) (t : Thread) (s : State) (place : ℕ) (kind : NewObject) → kind ≡ NewFrame
    → Holds image t s (IsUntypedAround (frame_around place) (2 ^ object_bits kind)) → Holds image t s (IsUntypedAround place 1)
around-byte image t s place kind is h =
    let whole : IsUntypedAround (frame_around place) (2 ^ object_bits NewFrame) (capability_at s.slots h.slot) =
    subst (λ (k : NewObject). IsUntypedAround (frame_around place) (2 ^ object_bits k) (capability_at s.slots h.slot)) is h.such in
    record {
      slot = h.slot;
      own = h.own;
      such = record {
        offset = whole.offset;
        bits = whole.bits;
        watermark = whole.watermark;
        is = whole.is;
        begins = let low = whole.begins in omega (arith, low);
        ends = let high = whole.ends in omega (arith, high);
      };
    }

module _ (bytes : List ℕ) (image : Image) (accepted : IsAccepted bytes image) (own_blocks : HaveOwnBlocks) (part : Part) (t : Numbered)
    (s after : State) (labels later : List Label) (all : AllStand image s labels) (behind : AllStand image after later)
    (listed : Contains (numbered_threads image) t) (outside : is_in part t.thread ≡ false) (nothing : HasNothing image part t s)
    (within : WithinAuthority image t.thread s after) where
  none-inside : (thread : ℕ) → thread ≡ tcb_of image t → is_thread_in image part thread ≡ true → ⊥
  none-inside thread same inside =
      false≢true (sym (no-member bytes image accepted own_blocks part t listed outside) ∙ ap (is_thread_in image part) (sym same) ∙ inside)

  -- nobody of the part gets a delivery from this thread
  no-delivery : (from to : ℕ) → Delivers image t.thread s after from to → is_thread_in image part to ≡ true → ⊥
  no-delivery from to (sends endpoint badge is named queue) inside =
      let m = member-of image part to inside in
      let w = first-receiver s after all.sound endpoint to queue in
      (nothing.others.waits m.thread w.own endpoint m.listed m.inside (ap s.objects m.block ∙ w.is) w.blocked).named
      (record { slot = named.slot; own = named.own; such = to-send endpoint badge named.call _ named.such })
  no-delivery from to (receives endpoint first is named queue sender sent) inside = none-inside to is inside
  no-delivery from to (replies is right awaits runs) inside =
      false≢true (sym (nothing.others.right to (ap (λ (x : ℕ). (thread_at s x).caller) (sym is) ∙ right)) ∙ inside)

  -- who gets a delivery is a thread of the image
  of-block : (to : ℕ) (own : ThreadState) → s.objects to ≡ Some (ThreadObject own) → own.status ≢ Inactive → IsControlBlock image to
  of-block to own is rests = elim (all.others to own is) [
    | inl none ↦ absurd (rests none)
    | inr block ↦ block
  ]

  delivered-to : (from to : ℕ) → Delivers image t.thread s after from to → IsControlBlock image to
  delivered-to from to (sends endpoint badge is named queue) =
      let w = first-receiver s after all.sound endpoint to queue in
      of-block to w.own w.is (λ none. let e : Blocked endpoint ≡ Inactive = sym w.blocked ∙ none in cc)
  delivered-to from to (receives endpoint first is named queue sender sent) = record { thread = t; listed = listed; is = is }
  delivered-to from to (replies is right awaits runs) =
      let there = awaits-thread s to awaits in
      of-block to there.0 there.1 (λ none. let e : AwaitsReply ≡ Inactive =
      sym awaits ∙ ap (λ (o : Option Object). (option_map_or (λ (u : ThreadState). u) (as_thread o) new_thread).status) there.1 ∙ none in cc)

  module _ (place : ℕ) (of : IsByteOfPart image part place) where
    no-frame : (kind : NewObject) → kind ≡ NewFrame → Holds image t.thread s (IsUntypedAround (frame_around place) (2 ^ object_bits kind)) → ⊥
    no-frame kind is around = nothing.memory place of (around-byte image t.thread s place kind is around)

    comes : kind_at after (frame_around place) ≡ Some NewFrame → kind_at s (frame_around place) ≢ Some NewFrame
        → ObjectChange image t.thread s after (frame_around place) → ⊥
    comes is was (appears kind absent new around) = no-frame kind (kind-made kind (after.objects (frame_around place)) new is) around
    comes is was (ends kind there absent around) = none-some NewFrame (sym (ap (option_map kind_of) absent) ∙ is)

    goes : kind_at s (frame_around place) ≡ Some NewFrame → ObjectChange image t.thread s after (frame_around place) → ⊥
    goes was (appears kind absent new around) = none-some NewFrame (sym (ap (option_map kind_of) absent) ∙ was)
    goes was (ends kind there absent around) = no-frame kind (same_Some kind NewFrame (sym there ∙ was)) around

    no-change : ByteChange image t.thread s after place → ⊥
    no-change (written some still address is) = nothing.stores place address of is
    no-change (comes_with_frame was is new) = comes is was (within.objects (frame_around place) (λ same. was (same ∙ is)))
    no-change (goes_with_frame was is none) = goes was (within.objects (frame_around place) (λ same. is (sym same ∙ was)))
    no-change (delivered some still from to index source target delivers one other low high at is) =
        let few = few-length image part s from to in
        let block = delivered-to from to delivers in
        let inside = nothing.buffers place target index block.thread block.listed of (subst (λ (x : ℕ). buffer_of s x ≡ Some target) block.is other)
        (omega (arith, high, few)) at in
        no-delivery from to delivers (ap (is_thread_in image part) block.is ∙ is-member image part block.thread block.listed inside)

    pub kept-byte : after.bytes place ≡ s.bytes place
    kept-byte = sym (settled (s.bytes place) (after.bytes place) (some-numbers (s.bytes place) (after.bytes place)) (λ differs. no-change
        (within.bytes place differs)))

  -- slots of control blocks are in no thread's CNodes
  block-kept : (u : Numbered) (slot : ℕ) → Contains (numbered_threads image) u → is_object_slot image slot u.thread.header.tcb ≡ true
      → after.slots slot ≡ s.slots slot
  block-kept u slot among is =
      let apart = block-apart image accepted.spelled.fits accepted.formed u among slot is in behind.apart slot apart ∙ sym (all.apart slot apart)

  by-index : (u : Numbered) (index : ℕ) → Contains (numbered_threads image) u → index < 3
      → after.slots (slot_of (tcb_of image u) index) ≡ s.slots (slot_of (tcb_of image u) index)
  by-index u zero among less =
      block-kept u (slot_of (tcb_of image u) 0) among
      (cspace-slot image u.thread.header.tcb (block-thread image accepted.spelled.fits accepted.formed u among))
  by-index u (suc zero) among less =
      block-kept u (slot_of (tcb_of image u) 1) among
      (vspace-slot image u.thread.header.tcb (block-thread image accepted.spelled.fits accepted.formed u among))
  by-index u (suc (suc zero)) among less =
      block-kept u (slot_of (tcb_of image u) 2) among
      (buffer-slot image u.thread.header.tcb (block-thread image accepted.spelled.fits accepted.formed u among))
  by-index u (suc (suc (suc n))) among less = absurd (omega (arith, less))

  pub kept-slot : (slot : ℕ) → IsSlotOfPart image part slot → after.slots slot ≡ s.slots slot
  kept-slot slot (is_own_slot u member own) =
      sym (settled (s.slots slot) (after.slots slot) (some-entries (s.slots slot) (after.slots slot)) (λ differs.
      let same : t ≡ u = one-owner image accepted.spelled.fits accepted.formed t u slot listed member.listed (within.slots slot differs) own in
      false≢true (sym outside ∙ ap (λ (v : Numbered). is_in part v.thread) same ∙ member.inside)))
  kept-slot slot (is_block_slot u index member is less) =
      ap after.slots is ∙ by-index u index member.listed less ∙ ap s.slots (sym is)

  -- the whole
  pub others-agree : (alone : State) → AgreeFor image part s alone → AgreeFor image part after alone
  others-agree alone agree = record {
    objects = λ offset of.
        kept-object bytes image accepted own_blocks part t s after labels later all behind listed outside nothing within offset of
        ∙ agree.objects offset of;
    bytes = λ place of. kept-byte place of ∙ agree.bytes place of;
    slots = λ slot of. kept-slot slot of ∙ agree.slots slot of;
    masked = λ line of.
        (kept-line bytes image accepted own_blocks part t s after labels later all behind listed outside nothing within line of).0 ∙ agree.masked line of;
    pending = λ line of.
        (kept-line bytes image accepted own_blocks part t s after labels later all behind listed outside nothing within line of).1 ∙ agree.pending line of;
    ready = λ priority.
        agree.ready priority
        ∙ sym (left-ready bytes image accepted own_blocks part t s after labels later all behind listed outside nothing.others within priority);
  }
