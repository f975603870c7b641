-- A frame that a slot of a thread maps with write is one that its capability may write: it was mapped so, or came with its mapping from another slot
-- of the thread.
use Rattle.std.proofs.Common.{ℕ, ◌≡◌, ◌≢◌, ◌∙◌, ◌++◌, inl, inr, Bool, true, false, Option, Some, None, List, [], ◌∷◌, refl, sym, ap, subst, append_assoc}
use Rattle.std.proofs.Common.{append-nil}
use Rattle.std.specs.Prelude.{Contains}
use Rattle.std.proofs.lemmas.Bool.{false≢true}
use Rattle.std.proofs.lemmas.Option.{none-some, same_Some}
use Rattle.soundness.specs.Machines.{SameBase, SameBesideBytes}
use Rattle.soundness.proofs.Laws.{empty-capability, raise-machine, tick-machine, written-beside}
use Rattle.model.specs.declared.capabilities.Cap.{Cap}
use Rattle.model.specs.declared.capabilities.Cap.TheVariants.{Empty, Untyped, Endpoint, Notification, CNode, Frame, PageTable, Tcb, RootTable, InterruptControl}
use Rattle.model.specs.declared.capabilities.Cap.TheVariants.{InterruptHandler}
use Rattle.model.specs.declared.capabilities.FrameMapping.{FrameMapping}
use Rattle.model.specs.declared.events.Event.{Event}
use Rattle.model.specs.declared.events.Event.TheVariants.{Step, Tick, Irq, Write, Read}
use Rattle.model.specs.declared.labels.Label.{Label}
use Rattle.model.specs.declared.rights.Rights.{Rights}
use Rattle.model.specs.Acceptance.Accepted.{IsAccepted}
use Rattle.model.specs.Acceptance.Authority.{IsOwnSlot, MappingGranted, given, moved_along, OwnStep, StaysWithin, WithinAuthority, rights_of, without_use}
use Rattle.model.specs.Capabilities.CapabilityKinds.{frame_mapping}
use Rattle.model.specs.Capabilities.Rights.{mapping_rights, may_write, rights}
use Rattle.model.specs.Capabilities.Slots.{Slots, capability_at, is_empty}
use Rattle.model.specs.Images.Described.{Numbered, described, numbered_threads}
use Rattle.model.specs.Images.Image.{Image}
use Rattle.model.specs.Kernel.State.{State}
use Rattle.model.specs.Kernel.Steps.{place_of, state_after, step}
use Rattle.headline.specs.authority.OwnMaps.{AllMapOwn}
use Rattle.headline.specs.facts.Standing.{AllStand}
use Rattle.headline.specs.integrity.Mapped.{AllMapAsHeld}
use Rattle.headline.specs.integrity.Runs.{last_of}
use Rattle.headline.specs.starts.Laws.{SlotsAreAsListed}
use Rattle.headline.proofs.steps.Laws.{state-next}
use Rattle.headline.proofs.authority.Laws.{maps-own-at-start, maps-own-kept}
use Rattle.headline.proofs.integrity.MappedSteps.{AreStaying, Stays}
use Rattle.headline.proofs.integrity.Stores.{writes-held}
use Rattle.headline.proofs.kept.Laws.{listed-from}
use Rattle.headline.proofs.parts.Laws.{Decided, both, listed-at-start, numbers, pairs}
use Rattle.headline.proofs.starts.Laws.{contained, listed-no-frame}

-- ---- mappings

mappings : (a b : FrameMapping) → Decided a b
mappings a b =
    both (λ (m : FrameMapping). m.root) (λ (m : FrameMapping). (m.page, m.rights.0)) a b
    (λ root rest. λ i. record { root = root i; page = (rest i).0; rights = rights (rest i).1 }) (numbers a.root b.root)
    (pairs (a.page, a.rights.0) (b.page, b.rights.0) (numbers a.page b.page) (numbers a.rights.0 b.rights.0))

-- a capability that is a frame's apart from its use
record IsFrameOf (c : Cap) (offset : ℕ) (held : Rights) : Type 0 where
  pub mapping : Option FrameMapping
  pub is : c ≡ Frame offset held mapping

frame-used : (c : Cap) (offset : ℕ) (held : Rights) → without_use c ≡ Frame offset held None → IsFrameOf c offset held
frame-used (Frame o r m) offset held is = record {
  mapping = m;
  is = let e : Frame o r None ≡ Frame offset held None = is in
      let at : o ≡ offset = cc in
      let right : r ≡ held = cc in
      λ i. Frame (at i) (right i) m;
}
frame-used Empty offset held is = absurd (let e : Empty ≡ Frame offset held None = is in cc)
frame-used (Untyped a b w) offset held is = absurd (let e : Untyped a b 0 ≡ Frame offset held None = is in cc)
frame-used (Endpoint a r b) offset held is = absurd (let e : Endpoint a r b ≡ Frame offset held None = is in cc)
frame-used (Notification a r b) offset held is = absurd (let e : Notification a r b ≡ Frame offset held None = is in cc)
frame-used (CNode a r g) offset held is = absurd (let e : CNode a r g ≡ Frame offset held None = is in cc)
frame-used (PageTable a m) offset held is = absurd (let e : PageTable a None ≡ Frame offset held None = is in cc)
frame-used (Tcb a) offset held is = absurd (let e : Tcb a ≡ Frame offset held None = is in cc)
frame-used (RootTable a) offset held is = absurd (let e : RootTable a ≡ Frame offset held None = is in cc)
frame-used InterruptControl offset held is = absurd (let e : InterruptControl ≡ Frame offset held None = is in cc)
frame-used (InterruptHandler n) offset held is = absurd (let e : InterruptHandler n ≡ Frame offset held None = is in cc)

-- ---- an event

module _ (image : Image) (s after : State) (before : AllMapAsHeld image s) where
  module _ (t : Numbered) (listed : Contains (numbered_threads image) t) (within : WithinAuthority image t.thread s after)
      (staying : AreStaying s.slots after.slots) (u : Numbered) (slot offset : ℕ) (held : Rights) (mapping : FrameMapping)
      (among : Contains (numbered_threads image) u) (own : IsOwnSlot image u.thread slot)
      (is : capability_at after.slots slot ≡ Frame offset held (Some mapping)) (writes : may_write mapping.rights ≡ true) where
    by-grant : MappingGranted image t.thread s (capability_at after.slots slot) mapping → may_write held ≡ true
    by-grant (given word same) =
        writes-held held word
        (sym (ap (λ (c : Cap). may_write (mapping_rights (rights_of c) word)) is) ∙ ap may_write (sym same) ∙ writes)
    by-grant (moved_along h) = before t h.slot offset held mapping listed h.own (h.such ∙ is) writes

    fresh : frame_mapping (capability_at s.slots slot) ≢ Some mapping → may_write held ≡ true
    fresh new = by-grant (within.mapped slot mapping new (ap frame_mapping is))

    by-mapping : (old : Option FrameMapping) → capability_at s.slots slot ≡ Frame offset held old → may_write held ≡ true
    by-mapping None was = fresh (λ same. none-some mapping (sym (ap frame_mapping was) ∙ same))
    by-mapping (Some m) was = elim (mappings m mapping) [
      | inl here ↦ before u slot offset held mapping among own (was ∙ ap (λ (x : FrameMapping). Frame offset held (Some x)) here) writes
      | inr apart ↦ fresh (λ same. apart (same_Some m mapping (sym (ap frame_mapping was) ∙ same)))
    ]

    by-stays : Stays (capability_at s.slots slot) (capability_at after.slots slot) → may_write held ≡ true
    by-stays (inl gone) = absurd (let e : Empty ≡ Frame offset held (Some mapping) = sym gone ∙ is in cc)
    by-stays (inr (inl empty)) = fresh (λ same. none-some mapping (sym (ap frame_mapping empty) ∙ same))
    by-stays (inr (inr same)) =
        let frame = frame-used (capability_at s.slots slot) offset held (same ∙ ap without_use is) in by-mapping frame.mapping frame.is

    pub kept-held : may_write held ≡ true
    kept-held = by-stays (staying slot)

  own-step : OwnStep image s after → AreStaying s.slots after.slots → AllMapAsHeld image after
  own-step step staying u slot offset held mapping among own is writes =
      let place = contained image.threads step.thread step.listed in
      let there = listed-from 0 image.threads place.0 step.thread place.1 in
      kept-held (record { number = there.0; thread = step.thread }) there.1 step.within staying u slot offset held mapping among own is writes

  same-slots : after.slots ≡ s.slots → AllMapAsHeld image after
  same-slots same u slot offset held mapping among own is writes =
      before u slot offset held mapping among own (ap (λ (slots : Slots). capability_at slots slot) (sym same) ∙ is) writes

  pub held-kept : (event : Event) → StaysWithin image s event after → (event ≡ Step → AreStaying s.slots after.slots) → AllMapAsHeld image after
  held-kept Step (inl idle) staying = same-slots (ap (λ (x : State). x.slots) idle.1)
  held-kept Step (inr step) staying = own-step step (staying refl)
  held-kept Tick within staying = same-slots (ap (λ (x : State). x.slots) within ∙ SameBase.slots (tick-machine s))
  held-kept (Irq line) within staying = same-slots (ap (λ (x : State). x.slots) within ∙ SameBase.slots (raise-machine s line))
  held-kept (Write address word) within staying =
      same-slots (ap (λ (x : State). x.slots) within ∙ SameBase.slots (SameBesideBytes.base (written-beside s (place_of address) word)))
  held-kept (Read address) same staying = same-slots (ap (λ (x : State). x.slots) same)

-- ---- any events

-- what is known of each state
pub record IsReached (image : Image) (front : List Event) : Type 0 where
  pub labels : List Label
  pub stand : AllStand image (last_of image front) labels
  pub within : (event : Event) → StaysWithin image (last_of image front) event (step (last_of image front) event).0

record IsMapped (image : Image) (front : List Event) : Type 0 where
  pub own : AllMapOwn image (last_of image front)
  pub held : AllMapAsHeld image (last_of image front)

module _ (bytes : List ℕ) (image : Image) (accepted : IsAccepted bytes image) (events : List Event)
    (reached : (front rest : List Event) → events ≡ front ++ rest → IsReached image front)
    (stays : (s : State) (labels : List Label) → AllStand image s labels → AllMapOwn image s → AreStaying s.slots (step s Step).0.slots) where
  next-mapped : (front : List Event) (event : Event) → IsReached image front → IsMapped image front → IsMapped image (front ++ event ∷ [])
  next-mapped front event here mapped =
      let s : State = last_of image front in
      let next = state-next (described image) front event in
      record {
        own = subst (AllMapOwn image) (sym next) (maps-own-kept bytes image accepted s (step s event).0 mapped.own event (here.within event));
        held = subst (AllMapAsHeld image) (sym next)
            (held-kept image s (step s event).0 mapped.held event (here.within event)
            (λ is. subst (λ (e : Event). AreStaying s.slots (step s e).0.slots) (sym is) (stays s here.labels here.stand mapped.own)));
      }

  mapped-behind : (front rest : List Event) → events ≡ front ++ rest → IsMapped image front → IsMapped image events
  mapped-behind front [] is mapped = subst (IsMapped image) (sym (is ∙ append-nil front)) mapped
  mapped-behind front (event ∷ rest) is mapped =
      mapped-behind (front ++ event ∷ []) rest (is ∙ sym (append_assoc front (event ∷ []) rest))
      (next-mapped front event (reached front (event ∷ rest) is) mapped)

  pub all-mapped : ((u : Numbered) (slot : ℕ) → Contains (numbered_threads image) u → IsOwnSlot image u.thread slot
      → frame_mapping (capability_at (described image).slots slot) ≡ None) → AllMapAsHeld image (last_of image events)
  unfolding state_after
  all-mapped none =
      IsMapped.held (mapped-behind [] events refl (record {
        own = maps-own-at-start bytes image accepted;
        held = λ u slot offset held mapping among own is writes.
            absurd (none-some mapping (sym (none u slot among own) ∙ ap frame_mapping is));
      }))

-- at the start no slot of a thread maps a frame
pub starts-none : (bytes : List ℕ) (image : Image) → IsAccepted bytes image → SlotsAreAsListed → (u : Numbered) (slot : ℕ)
    → Contains (numbered_threads image) u → IsOwnSlot image u.thread slot → frame_mapping (capability_at (described image).slots slot) ≡ None
starts-none bytes image accepted as_listed u slot among own =
    let c = capability_at (described image).slots slot in
    elim (is_empty c) as (λ (b : Bool). is_empty c ≡ b → frame_mapping c ≡ None) [
      | true ↦ λ empty. ap frame_mapping (empty-capability c empty)
      | false ↦ λ full.
          let from = listed-at-start bytes image accepted as_listed u slot among own (λ empty. false≢true (sym full ∙ ap is_empty empty)) in
          sym (ap frame_mapping from.is) ∙ listed-no-frame image from.entry
    ] refl
