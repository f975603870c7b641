-- A frame that a slot of a thread maps for some access is one that its capability may read: without that right a mapping has no rights at all, and a mapping
-- comes with the capability that it was made of.
use Rattle.std.proofs.Common.{ℕ, ◌≡◌, ◌≢◌, ◌∙◌, ◌++◌, ◌+◌, ◌*◌, ◌/◌, ◌%◌, inl, inr, Bool, true, false, bit_and, not, Option, Some, None, List, [], ◌∷◌}
use Rattle.std.proofs.Common.{refl, sym, ap, subst, append_assoc, append-nil, arith}
use Rattle.std.specs.Prelude.{Contains}
use Rattle.std.proofs.lemmas.Bool.{false≢true}
use Rattle.std.proofs.lemmas.Bool.Decides.{eqb_tells}
use Rattle.std.proofs.lemmas.Option.{none-some, same_Some}
use Rattle.soundness.specs.Machines.{SameBase, SameBesideBytes}
use Rattle.soundness.proofs.Laws.{empty-capability, raise-machine, tick-machine, written-beside}
use Rattle.model.specs.declared.capabilities.Cap.{Cap}
use Rattle.model.specs.declared.capabilities.Cap.TheVariants.{Empty, Untyped, Endpoint, Notification, CNode, Frame, PageTable, Tcb, RootTable, InterruptControl}
use Rattle.model.specs.declared.capabilities.Cap.TheVariants.{InterruptHandler}
use Rattle.model.specs.declared.capabilities.FrameMapping.{FrameMapping}
use Rattle.model.specs.declared.events.Event.{Event}
use Rattle.model.specs.declared.events.Event.TheVariants.{Step, Tick, Irq, Write, Read}
use Rattle.model.specs.declared.instructions.Access.{Access}
use Rattle.model.specs.declared.instructions.Access.TheVariants.{Load, Store, Fetch}
use Rattle.model.specs.declared.labels.Label.{Label}
use Rattle.model.specs.declared.rights.Rights.{Rights}
use Rattle.model.specs.Acceptance.Accepted.{IsAccepted}
use Rattle.model.specs.Acceptance.Authority.{IsOwnSlot, MappingGranted, given, moved_along, OwnStep, StaysWithin, WithinAuthority, rights_of, without_use}
use Rattle.model.specs.Capabilities.CapabilityKinds.{frame_mapping}
use Rattle.model.specs.Capabilities.Rights.{mapping_rights, may_read, rights}
use Rattle.model.specs.Capabilities.Slots.{Slots, capability_at, is_empty}
use Rattle.model.specs.Images.Described.{Numbered, described, numbered_threads}
use Rattle.model.specs.Images.Image.{Image}
use Rattle.model.specs.Kernel.AddressSpaces.{allows}
use Rattle.model.specs.Kernel.State.{State}
use Rattle.model.specs.Kernel.Steps.{place_of, state_after, step}
use Rattle.headline.specs.authority.OwnMaps.{AllMapOwn}
use Rattle.headline.specs.facts.Standing.{AllStand}
use Rattle.headline.specs.starts.Laws.{SlotsAreAsListed}
use Rattle.headline.proofs.Laws.{AreStaying, Stays, listed-at-start, listed-no-frame, maps-own-at-start, maps-own-kept, state-next}
use Rattle.part_laws.specs.own.Read.{AllMapAsRead}
use Rattle.part_laws.proofs.changes.Members.{listed-from}
use Rattle.part_laws.proofs.outside.Decided.{Decided, both, numbers, pairs}
use Rattle.part_laws.proofs.outside.Places.{contained}

-- ---- rights of mappings

nothing-left : (w x y k : ℕ) → k ≡ 0 → w * (k / 2 * x) + 2 * (k / 2 * x) + 4 * (k / 2 * y) ≡ 0
nothing-left w x y k none =
    let half : k / 2 ≡ 0 = omega (arith, none) in
    let zero_left : (n : ℕ) → 0 * n ≡ 0 = λ n. omega arith in
    let zero_right : (n : ℕ) → n * 0 ≡ 0 = λ n. omega arith in
    let reads : k / 2 * x ≡ 0 = ap (λ (n : ℕ). n * x) half ∙ zero_left x in
    let runs : k / 2 * y ≡ 0 = ap (λ (n : ℕ). n * y) half ∙ zero_left y in
    let writes : w * (k / 2 * x) ≡ 0 = ap (λ (n : ℕ). w * n) reads ∙ zero_right w in
    omega (arith, reads, runs, writes)

nothing-allowed : (access : Access) → allows access (rights 0) ≡ false
nothing-allowed Load = refl
nothing-allowed Store = refl
nothing-allowed Fetch = refl

-- a mapping allows some access only if the capability may read
pub reads-held : (held : Rights) (word : ℕ) (access : Access) → allows access (mapping_rights held word) ≡ true → may_read held ≡ true
reads-held held word access allowed = elim (eqb_tells (bit_and held.0 2) 0) [
  | inr apart ↦ ap not apart.0
  | inl none ↦
      absurd (false≢true
      (sym (ap (λ (n : ℕ). allows access (rights n))
      (nothing-left (bit_and held.0 1 * (word % 2)) (word / 2 % 2) (word / 4 % 2) (bit_and held.0 2) none.1) ∙ nothing-allowed access) ∙ allowed))
]

-- ---- mappings

mappings : (a b : FrameMapping) → Decided a b
mappings a b =
    both (λ (m : FrameMapping). m.root) (λ (m : FrameMapping). (m.page, m.rights.0)) a b
    (λ root rest. λ i. record { root = root i; page = (rest i).0; rights = rights (rest i).1 }) (numbers a.root b.root)
    (pairs (a.page, a.rights.0) (b.page, b.rights.0) (numbers a.page b.page) (numbers a.rights.0 b.rights.0))

-- a capability that is a frame's apart from its use
record IsFrameOf (c : Cap) (offset : ℕ) (held : Rights) : Type 0 where
  pub mapping : Option FrameMapping
  pub is : c ≡ Frame offset held mapping

frame-used : (c : Cap) (offset : ℕ) (held : Rights) → without_use c ≡ Frame offset held None → IsFrameOf c offset held
frame-used (Frame o r m) offset held is = record {
  mapping = m;
  is = let e : Frame o r None ≡ Frame offset held None = is in
      let at : o ≡ offset = cc in
      let right : r ≡ held = cc in
      λ i. Frame (at i) (right i) m;
}
frame-used Empty offset held is = absurd (let e : Empty ≡ Frame offset held None = is in cc)
frame-used (Untyped a b w) offset held is = absurd (let e : Untyped a b 0 ≡ Frame offset held None = is in cc)
frame-used (Endpoint a r b) offset held is = absurd (let e : Endpoint a r b ≡ Frame offset held None = is in cc)
frame-used (Notification a r b) offset held is = absurd (let e : Notification a r b ≡ Frame offset held None = is in cc)
frame-used (CNode a r g) offset held is = absurd (let e : CNode a r g ≡ Frame offset held None = is in cc)
frame-used (PageTable a m) offset held is = absurd (let e : PageTable a None ≡ Frame offset held None = is in cc)
frame-used (Tcb a) offset held is = absurd (let e : Tcb a ≡ Frame offset held None = is in cc)
frame-used (RootTable a) offset held is = absurd (let e : RootTable a ≡ Frame offset held None = is in cc)
frame-used InterruptControl offset held is = absurd (let e : InterruptControl ≡ Frame offset held None = is in cc)
frame-used (InterruptHandler n) offset held is = absurd (let e : InterruptHandler n ≡ Frame offset held None = is in cc)

-- ---- an event

module _ (image : Image) (s after : State) (before : AllMapAsRead image s) where
  module _ (t : Numbered) (listed : Contains (numbered_threads image) t) (within : WithinAuthority image t.thread s after)
      (staying : AreStaying s.slots after.slots) (u : Numbered) (slot offset : ℕ) (held : Rights) (mapping : FrameMapping) (access : Access)
      (among : Contains (numbered_threads image) u) (own : IsOwnSlot image u.thread slot)
      (is : capability_at after.slots slot ≡ Frame offset held (Some mapping)) (allowed : allows access mapping.rights ≡ true) where
    by-grant : MappingGranted image t.thread s (capability_at after.slots slot) mapping → may_read held ≡ true
    by-grant (given word same) =
        reads-held held word access
        (sym (ap (λ (c : Cap). allows access (mapping_rights (rights_of c) word)) is) ∙ ap (allows access) (sym same) ∙ allowed)
    by-grant (moved_along h) = before t h.slot offset held mapping access listed h.own (h.such ∙ is) allowed

    fresh : frame_mapping (capability_at s.slots slot) ≢ Some mapping → may_read held ≡ true
    fresh new = by-grant (within.mapped slot mapping new (ap frame_mapping is))

    by-mapping : (old : Option FrameMapping) → capability_at s.slots slot ≡ Frame offset held old → may_read held ≡ true
    by-mapping None was = fresh (λ same. none-some mapping (sym (ap frame_mapping was) ∙ same))
    by-mapping (Some m) was = elim (mappings m mapping) [
      | inl here ↦ before u slot offset held mapping access among own (was ∙ ap (λ (x : FrameMapping). Frame offset held (Some x)) here) allowed
      | inr apart ↦ fresh (λ same. apart (same_Some m mapping (sym (ap frame_mapping was) ∙ same)))
    ]

    by-stays : Stays (capability_at s.slots slot) (capability_at after.slots slot) → may_read held ≡ true
    by-stays (inl gone) = absurd (let e : Empty ≡ Frame offset held (Some mapping) = sym gone ∙ is in cc)
    by-stays (inr (inl empty)) = fresh (λ same. none-some mapping (sym (ap frame_mapping empty) ∙ same))
    by-stays (inr (inr same)) =
        let frame = frame-used (capability_at s.slots slot) offset held (same ∙ ap without_use is) in by-mapping frame.mapping frame.is

    pub kept-read : may_read held ≡ true
    kept-read = by-stays (staying slot)

  own-step : OwnStep image s after → AreStaying s.slots after.slots → AllMapAsRead image after
  own-step step staying u slot offset held mapping access among own is allowed =
      let place = contained image.threads step.thread step.listed in
      let there = listed-from 0 image.threads place.0 step.thread place.1 in
      kept-read (record { number = there.0; thread = step.thread }) there.1 step.within staying u slot offset held mapping access among own is allowed

  same-slots : after.slots ≡ s.slots → AllMapAsRead image after
  same-slots same u slot offset held mapping access among own is allowed =
      before u slot offset held mapping access among own (ap (λ (slots : Slots). capability_at slots slot) (sym same) ∙ is) allowed

  pub reads-kept : (event : Event) → StaysWithin image s event after → (event ≡ Step → AreStaying s.slots after.slots) → AllMapAsRead image after
  reads-kept Step (inl idle) staying = same-slots (ap (λ (x : State). x.slots) idle.1)
  reads-kept Step (inr step) staying = own-step step (staying refl)
  reads-kept Tick within staying = same-slots (ap (λ (x : State). x.slots) within ∙ SameBase.slots (tick-machine s))
  reads-kept (Irq line) within staying = same-slots (ap (λ (x : State). x.slots) within ∙ SameBase.slots (raise-machine s line))
  reads-kept (Write address word) within staying =
      same-slots (ap (λ (x : State). x.slots) within ∙ SameBase.slots (SameBesideBytes.base (written-beside s (place_of address) word)))
  reads-kept (Read address) same staying = same-slots (ap (λ (x : State). x.slots) same)

-- ---- any events

-- what is known of each state
pub record IsReached (image : Image) (front : List Event) : Type 0 where
  pub labels : List Label
  pub stand : AllStand image (state_after (described image) front) labels
  pub within : (event : Event)
      → StaysWithin image (state_after (described image) front) event (step (state_after (described image) front) event).0

record IsMapped (image : Image) (front : List Event) : Type 0 where
  pub own : AllMapOwn image (state_after (described image) front)
  pub read : AllMapAsRead image (state_after (described image) front)

module _ (bytes : List ℕ) (image : Image) (accepted : IsAccepted bytes image) (events : List Event)
    (reached : (front rest : List Event) → events ≡ front ++ rest → IsReached image front)
    (stays : (s : State) (labels : List Label) → AllStand image s labels → AllMapOwn image s → AreStaying s.slots (step s Step).0.slots) where
  next-mapped : (front : List Event) (event : Event) → IsReached image front → IsMapped image front → IsMapped image (front ++ event ∷ [])
  next-mapped front event here mapped =
      let s : State = state_after (described image) front in
      let next = state-next (described image) front event in
      record {
        own = subst (AllMapOwn image) (sym next) (maps-own-kept bytes image accepted s (step s event).0 mapped.own event (here.within event));
        read = subst (AllMapAsRead image) (sym next)
            (reads-kept image s (step s event).0 mapped.read event (here.within event)
            (λ is. subst (λ (e : Event). AreStaying s.slots (step s e).0.slots) (sym is) (stays s here.labels here.stand mapped.own)));
      }

  mapped-behind : (front rest : List Event) → events ≡ front ++ rest → IsMapped image front → IsMapped image events
  mapped-behind front [] is mapped = subst (IsMapped image) (sym (is ∙ append-nil front)) mapped
  mapped-behind front (event ∷ rest) is mapped =
      mapped-behind (front ++ event ∷ []) rest (is ∙ sym (append_assoc front (event ∷ []) rest))
      (next-mapped front event (reached front (event ∷ rest) is) mapped)

  pub all-read : ((u : Numbered) (slot : ℕ) → Contains (numbered_threads image) u → IsOwnSlot image u.thread slot
      → frame_mapping (capability_at (described image).slots slot) ≡ None) → AllMapAsRead image (state_after (described image) events)
  unfolding state_after
  all-read none =
      IsMapped.read (mapped-behind [] events refl (record {
        own = maps-own-at-start bytes image accepted;
        read = λ u slot offset held mapping access among own is allowed.
            absurd (none-some mapping (sym (none u slot among own) ∙ ap frame_mapping is));
      }))

-- at the start no slot of a thread maps a frame
pub starts-none : (bytes : List ℕ) (image : Image) → IsAccepted bytes image → SlotsAreAsListed → (u : Numbered) (slot : ℕ)
    → Contains (numbered_threads image) u → IsOwnSlot image u.thread slot → frame_mapping (capability_at (described image).slots slot) ≡ None
starts-none bytes image accepted as_listed u slot among own =
    let c = capability_at (described image).slots slot in
    elim (is_empty c) as (λ (b : Bool). is_empty c ≡ b → frame_mapping c ≡ None) [
      | true ↦ λ empty. ap frame_mapping (empty-capability c empty)
      | false ↦ λ full.
          let from = listed-at-start bytes image accepted as_listed u slot among own (λ empty. false≢true (sym full ∙ ap is_empty empty)) in
          sym (ap frame_mapping from.is) ∙ listed-no-frame image from.entry
    ] refl
