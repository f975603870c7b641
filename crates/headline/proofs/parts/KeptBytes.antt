-- A step of another thread leaves the bytes and the slots of a part, and so the whole agrees with the part alone as before.
use Rattle.std.proofs.Common.{ℕ, zero, suc, ◌≡◌, ◌∙◌, ◌^◌, ◌<◌, true, false, List, Option, sym, ap, subst, arith}
use Rattle.std.specs.Prelude.{Contains}
use Rattle.std.specs.Option.{option_map_or}
use Rattle.std.proofs.lemmas.Bool.{false≢true}
use Rattle.model.specs.declared.capabilities.Cap.TheVariants.{Empty}
use Rattle.model.specs.declared.labels.Label.{Label}
use Rattle.model.specs.declared.slot_entries.Entry.{Entry}
use Rattle.model.specs.Acceptance.Accepted.{IsAccepted}
use Rattle.model.specs.Acceptance.Authority.{ByteChange, written, comes_with_frame, goes_with_frame, delivered, Delivers, sends, receives, replies, Holds}
use Rattle.model.specs.Acceptance.Authority.{IsUntypedAround, ObjectChange, appears, ends, WithinAuthority}
use Rattle.model.specs.Acceptance.ThreadInvariants.{tcb_of}
use Rattle.model.specs.Images.Described.{Numbered, is_object_slot, numbered_threads}
use Rattle.model.specs.Images.Image.{Image}
use Rattle.model.specs.Kernel.Deliveries.{TakesReceiver}
use Rattle.model.specs.Kernel.Kinds.{frame_around}
use Rattle.model.specs.Kernel.Retype.{object_bits}
use Rattle.model.specs.Kernel.Soundness.{IsSound}
use Rattle.model.specs.Kernel.State.{State, EndpointState, endpoint_at, slot_of, thread_at}
use Rattle.headline.specs.facts.Standing.{AllStand}
use Rattle.headline.specs.kept.Laws.{HaveOwnBlocks}
use Rattle.headline.specs.parts.Agreeing.{AgreeFor, IsByteOfPart, is_made_byte, is_taken_byte, IsOfPart, is_made, is_taken, is_thread, IsSlotOfPart}
use Rattle.headline.specs.parts.Agreeing.{is_own_slot, is_block_slot, IsMemberOf}
use Rattle.headline.specs.parts.Leaving.{HasNothing}
use Rattle.headline.specs.parts.Parts.{Part, is_in, is_thread_in}
use Rattle.headline.proofs.authority.Laws.{Waits, receiver-waits}
use Rattle.headline.proofs.invocations.TwoThreads.{one-owner}
use Rattle.headline.proofs.kept.Laws.{block-apart, block-thread, length-few}
use Rattle.headline.proofs.moves.Laws.{at-endpoint}
use Rattle.headline.proofs.parts.Decided.{settled, some-numbers}
use Rattle.headline.proofs.parts.Kept.{kept-line, kept-object}
use Rattle.headline.proofs.parts.Left.{left-ready, to-send}
use Rattle.headline.proofs.parts.Members.{member-of, no-member}
use Rattle.headline.proofs.parts.SameEntries.{some-entries}
use Rattle.soundness.proofs.Laws.{buffer-slot, cspace-slot, endpoint-kind, vspace-slot}

-- ---- the first receiver waits

first-receiver : (s after : State) → IsSound s → (endpoint r : ℕ) → TakesReceiver s after endpoint r → Waits s r endpoint
first-receiver s after sound endpoint r takes =
    let queue = endpoint-kind (s.objects endpoint) takes.was in
    receiver-waits s sound endpoint queue.0 queue.1 r (endpoint_at after endpoint).receivers
    (ap (λ (e : EndpointState). e.receivers) (sym (at-endpoint s endpoint queue.0 queue.1)) ∙ takes.leaves)

module _ (bytes : List ℕ) (image : Image) (accepted : IsAccepted bytes image) (own_blocks : HaveOwnBlocks) (part : Part) (t : Numbered)
    (s after : State) (labels later : List Label) (all : AllStand image s labels) (behind : AllStand image after later)
    (listed : Contains (numbered_threads image) t) (outside : is_in part t.thread ≡ false) (nothing : HasNothing image part t s)
    (within : WithinAuthority image t.thread s after) where
  none-inside : (thread : ℕ) → thread ≡ tcb_of image t → is_thread_in image part thread ≡ true → ⊥
  none-inside thread same inside =
      false≢true (sym (no-member bytes image accepted own_blocks part t listed outside) ∙ ap (is_thread_in image part) (sym same) ∙ inside)

  -- nobody of the part gets a delivery from this thread
  no-delivery : (from to : ℕ) → Delivers image t.thread s after from to → is_thread_in image part to ≡ true → ⊥
  no-delivery from to (sends endpoint badge is named queue) inside =
      let m = member-of image part to inside in
      let w = first-receiver s after all.sound endpoint to queue in
      (nothing.others.waits m.thread w.own endpoint m.listed m.inside (ap s.objects m.block ∙ w.is) w.blocked).named
      (record { slot = named.slot; own = named.own; such = to-send endpoint badge named.call _ named.such })
  no-delivery from to (receives endpoint first is named queue sender sent) inside = none-inside to is inside
  no-delivery from to (replies is right awaits runs) inside =
      false≢true (sym (nothing.others.right to (ap (λ (x : ℕ). (thread_at s x).caller) (sym is) ∙ right)) ∙ inside)

  module _ (place : ℕ) (of : IsByteOfPart image part s place) where
    no-frame : ObjectChange image t.thread s after (frame_around place) → ⊥
    no-frame (appears kind absent new around) = nothing.frames place of (2 ^ object_bits kind) around
    no-frame (ends kind is absent around) = nothing.frames place of (2 ^ object_bits kind) around

    no-change : ByteChange image t.thread s after place → ⊥
    no-change (written some still address is) = nothing.stores place address of is
    no-change (comes_with_frame was is new) = no-frame (within.objects (frame_around place) (λ same. was (same ∙ is)))
    no-change (goes_with_frame was is none) = no-frame (within.objects (frame_around place) (λ same. is (sym same ∙ was)))
    no-change (delivered some still from to index source target delivers one other low high at is) =
        let few = length-few s from to in
        no-delivery from to delivers (nothing.buffers place to target index of other (omega (arith, high, few)) at)

    pub kept-byte : after.bytes place ≡ s.bytes place
    kept-byte = sym (settled (s.bytes place) (after.bytes place) (some-numbers (s.bytes place) (after.bytes place)) (λ differs. no-change
        (within.bytes place differs)))

  -- slots of control blocks are in no thread's CNodes
  block-kept : (u : Numbered) (slot : ℕ) → Contains (numbered_threads image) u → is_object_slot image slot u.thread.header.tcb ≡ true
      → after.slots slot ≡ s.slots slot
  block-kept u slot among is =
      let apart = block-apart image accepted.spelled.fits accepted.formed u among slot is in behind.apart slot apart ∙ sym (all.apart slot apart)

  by-index : (u : Numbered) (index : ℕ) → Contains (numbered_threads image) u → index < 3
      → after.slots (slot_of (tcb_of image u) index) ≡ s.slots (slot_of (tcb_of image u) index)
  by-index u zero among less =
      block-kept u (slot_of (tcb_of image u) 0) among
      (cspace-slot image u.thread.header.tcb (block-thread image accepted.spelled.fits accepted.formed u among))
  by-index u (suc zero) among less =
      block-kept u (slot_of (tcb_of image u) 1) among
      (vspace-slot image u.thread.header.tcb (block-thread image accepted.spelled.fits accepted.formed u among))
  by-index u (suc (suc zero)) among less =
      block-kept u (slot_of (tcb_of image u) 2) among
      (buffer-slot image u.thread.header.tcb (block-thread image accepted.spelled.fits accepted.formed u among))
  by-index u (suc (suc (suc n))) among less = absurd (omega (arith, less))

  pub kept-slot : (slot : ℕ) → IsSlotOfPart image part slot → after.slots slot ≡ s.slots slot
  kept-slot slot (is_own_slot u member own) =
      sym (settled (s.slots slot) (after.slots slot) (some-entries (s.slots slot) (after.slots slot)) (λ differs.
      let same : t ≡ u = one-owner image accepted.spelled.fits accepted.formed t u slot listed member.listed (within.slots slot differs) own in
      false≢true (sym outside ∙ ap (λ (v : Numbered). is_in part v.thread) same ∙ member.inside)))
  kept-slot slot (is_block_slot u index member is less) =
      ap after.slots is ∙ by-index u index member.listed less ∙ ap s.slots (sym is)

  -- what was made in a pool of the part's
  held-before : (u : Numbered) (first : ℕ) → IsMemberOf image part u → (h : Holds image u.thread after (IsUntypedAround first 1))
      → Holds image u.thread s (IsUntypedAround first 1)
  held-before u first member h = record {
    slot = h.slot;
    own = h.own;
    such = subst (λ (o : Option Entry). IsUntypedAround first 1 (option_map_or (λ (e : Entry). e.capability) o Empty))
        (kept-slot h.slot (is_own_slot u member h.own)) h.such;
  }

  of-before : (offset : ℕ) → IsOfPart image part after offset → IsOfPart image part s offset
  of-before offset (is_thread u member is) = is_thread u member is
  of-before offset (is_taken u object member takes is) = is_taken u object member takes is
  of-before offset (is_made u member h) = is_made u member (held-before u offset member h)

  byte-before : (place : ℕ) → IsByteOfPart image part after place → IsByteOfPart image part s place
  byte-before place (is_taken_byte u object member takes low high) = is_taken_byte u object member takes low high
  byte-before place (is_made_byte u member h) = is_made_byte u member (held-before u place member h)

  -- the whole
  pub others-agree : (alone : State) → AgreeFor image part s alone → AgreeFor image part after alone
  others-agree alone agree = record {
    objects = λ offset of.
        let before = of-before offset of in
        kept-object bytes image accepted own_blocks part t s after labels later all behind listed outside nothing within offset before
        ∙ agree.objects offset before;
    bytes = λ place of. let before = byte-before place of in kept-byte place before ∙ agree.bytes place before;
    slots = λ slot of. kept-slot slot of ∙ agree.slots slot of;
    masked = λ line of.
        (kept-line bytes image accepted own_blocks part t s after labels later all behind listed outside nothing within line of).0 ∙ agree.masked line of;
    pending = λ line of.
        (kept-line bytes image accepted own_blocks part t s after labels later all behind listed outside nothing within line of).1 ∙ agree.pending line of;
    ready = λ priority.
        agree.ready priority
        ∙ sym (left-ready bytes image accepted own_blocks part t s after labels later all behind listed outside nothing.others within priority);
  }
