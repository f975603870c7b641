-- The objects that threads' slots name last by the boot CNode, or lie inside untyped memory of the thread's own: so in the described state,
-- where the boot CNode names each object, and over a step that stays within authority and leaves each thread its untyped memory.
use Rattle.std.proofs.Common.{ℕ, ◌≡◌, ◌≢◌, ◌∙◌, ◌^◌, ◌⊎◌, inl, inr, Bool, true, false, List, Option, Some, None, option_map, refl, sym, ap, subst}
use Rattle.std.specs.Prelude.{Contains}
use Rattle.std.proofs.lemmas.Bool.{eqb-true, false≢true}
use Rattle.std.proofs.lemmas.Bool.Decides.{eqb_tells}
use Rattle.std.proofs.lemmas.Option.{none-some, same_Some}
use Rattle.soundness.proofs.Laws.{described-sound}
use Rattle.thread_spaces.proofs.Laws.{object-held}
use Rattle.typestate.specs.Spaces.{HeldInBoot}
use Rattle.headline.specs.authority.HeldInside.{AllHoldInside, AllPoolsStay, HoldsInside}
use Rattle.headline.specs.authority.Scenarios.{EndsInside}
use Rattle.headline.specs.invocations.Mirrors.{Mirrors}
use Rattle.model.specs.declared.capabilities.Cap.{Cap}
use Rattle.model.specs.declared.capabilities.Cap.TheVariants.{Empty, Untyped, Endpoint, Notification, CNode, Frame, PageTable, Tcb, RootTable, InterruptControl}
use Rattle.model.specs.declared.capabilities.Cap.TheVariants.{InterruptHandler}
use Rattle.model.specs.declared.slot_entries.Entry.{Entry}
use Rattle.model.specs.Acceptance.Accepted.{IsAccepted}
use Rattle.model.specs.Acceptance.Authority.{Granted, held, appeared, pool, handler, made_handler, control, Holds, IsUntypedAround, ObjectChange, appears}
use Rattle.model.specs.Acceptance.Authority.{ends as ended}
use Rattle.model.specs.Acceptance.Authority.{WithinAuthority, without_use}
use Rattle.model.specs.Acceptance.NotedStates.{NotedSlot}
use Rattle.model.specs.Capabilities.CapabilityKinds.{names_object}
use Rattle.model.specs.Capabilities.Slots.{capability_at}
use Rattle.model.specs.Images.Described.{Numbered, described, numbered_threads}
use Rattle.model.specs.Images.Image.{Image}
use Rattle.model.specs.Kernel.Kinds.{Names, kind_at, kind_of, object_named}
use Rattle.model.specs.Kernel.Removal.{SlotSet}
use Rattle.model.specs.Kernel.Retype.{NewObject, NewThread, NewEndpoint, NewNotification, NewCNode, NewFrame, NewPageTable, NewRootTable, object_bits}
use Rattle.model.specs.Kernel.Soundness.{IsSound}
use Rattle.model.specs.Kernel.State.{State, Object}
use Rattle.headline.proofs.invocations.NobodySetBack.{object-by}
use Rattle.headline.proofs.invocations.RealRemoval.{ends-own, side, stays-else}
use Rattle.headline.proofs.invocations.RemovalSides.{else-of, own_set}
use Rattle.headline.proofs.invocations.TwoThreads.{one-owner}
use Rattle.headline.proofs.authority.Stored.{capability_of}

-- ---- what a capability names

unnamed : {A : Type 0} (kind : NewObject) (offset : ℕ) → ◌≡◌ {A = Option (NewObject × ℕ)} None (Some (kind, offset)) → A
unnamed kind offset clash = absurd (none-some (kind, offset) clash)

pub names-kind : (offset : ℕ) (c : Cap) → names_object offset c ≡ true → (kind : NewObject) × Names kind offset c
names-kind offset Empty is = absurd (false≢true is)
names-kind offset (Untyped _ _ _) is = absurd (false≢true is)
names-kind offset (Endpoint a r b) is = (NewEndpoint, ap (λ (o : ℕ). Some (NewEndpoint, o)) (eqb-true a offset is))
names-kind offset (Notification a r b) is = (NewNotification, ap (λ (o : ℕ). Some (NewNotification, o)) (eqb-true a offset is))
names-kind offset (CNode a radix g) is = (NewCNode radix, ap (λ (o : ℕ). Some (NewCNode radix, o)) (eqb-true a offset is))
names-kind offset (Frame a r m) is = (NewFrame, ap (λ (o : ℕ). Some (NewFrame, o)) (eqb-true a offset is))
names-kind offset (PageTable a m) is = (NewPageTable, ap (λ (o : ℕ). Some (NewPageTable, o)) (eqb-true a offset is))
names-kind offset (Tcb a) is = (NewThread, ap (λ (o : ℕ). Some (NewThread, o)) (eqb-true a offset is))
names-kind offset (RootTable a) is = (NewRootTable, ap (λ (o : ℕ). Some (NewRootTable, o)) (eqb-true a offset is))
names-kind offset InterruptControl is = absurd (false≢true is)
names-kind offset (InterruptHandler _) is = absurd (false≢true is)

names-use : (offset : ℕ) (c : Cap) → names_object offset (without_use c) ≡ names_object offset c
names-use offset Empty = refl
names-use offset (Untyped _ _ _) = refl
names-use offset (Endpoint _ _ _) = refl
names-use offset (Notification _ _ _) = refl
names-use offset (CNode _ _ _) = refl
names-use offset (Frame _ _ _) = refl
names-use offset (PageTable _ _) = refl
names-use offset (Tcb _) = refl
names-use offset (RootTable _) = refl
names-use offset InterruptControl = refl
names-use offset (InterruptHandler _) = refl

one-name : (c : Cap) (a b : NewObject) (x y : ℕ) → Names a x c → Names b y c → (a ≡ b) × (x ≡ y)
one-name c a b x y first second =
    let same : ◌≡◌ {A = NewObject × ℕ} (a, x) (b, y) = same_Some (a, x) (b, y) (sym first ∙ second) in
    (ap (λ p. p.0) same, ap (λ p. p.1) same)

-- ---- the described state

pub inside-at-start : (bytes : List ℕ) (image : Image) → IsAccepted bytes image → AllHoldInside image (described image)
inside-at-start bytes image accepted t listed slot kind offset own names =
    let fits = accepted.spelled.fits in
    let there = (described-sound image fits accepted.formed).memory.named slot kind offset names in
    elim ((described image).objects offset) as (λ (o : Option Object). (described image).objects offset ≡ o → HeldInBoot image (names_object offset)
    ⊎ Holds image t.thread (described image) (IsUntypedAround offset (2 ^ object_bits kind))) [
      | None ↦ λ none. absurd (none-some kind (sym (ap (option_map kind_of) none) ∙ there))
      | Some o ↦ λ is. inl (object-held image fits accepted.formed offset o is)
    ] refl

-- ---- a step

module _ (bytes : List ℕ) (image : Image) (accepted : IsAccepted bytes image) (s after : State) (sound : IsSound s) (behind : IsSound after)
    (before : AllHoldInside image s) (stay : AllPoolsStay image s after) (t : Numbered) (listed : Contains (numbered_threads image) t)
    (within : WithinAuthority image t.thread s after) where
  abbrev Inside : Numbered → State → NewObject → ℕ → Type 0
  Inside u x kind offset = HeldInBoot image (names_object offset) ⊎ Holds image u.thread x (IsUntypedAround offset (2 ^ object_bits kind))

  over : (u : Numbered) → Contains (numbered_threads image) u → (kind : NewObject) (offset : ℕ) → Inside u s kind offset → Inside u after kind offset
  over u among kind offset (inl boot) = inl boot
  over u among kind offset (inr around) = inr (stay u among offset (2 ^ object_bits kind) around)

  resized : (u : Numbered) (was now : NewObject) (offset : ℕ) → object_bits was ≡ object_bits now → Inside u s was offset → Inside u s now offset
  resized u was now offset size (inl boot) = inl boot
  resized u was now offset size (inr around) = inr (subst (λ (n : ℕ). Holds image u.thread s (IsUntypedAround offset (2 ^ n))) size around)

  -- an object that is there before and after has one size
  changed : (offset : ℕ) (was now : NewObject) → kind_at s offset ≡ Some was → kind_at after offset ≡ Some now → ObjectChange image t.thread s after offset → ⊥
  changed offset was now there is (appears kind none new around) = none-some was (sym (ap (option_map kind_of) none) ∙ there)
  changed offset was now there is (ended kind old none around) = none-some now (sym (ap (option_map kind_of) none) ∙ is)

  one-size : (offset : ℕ) (was now : NewObject) → kind_at s offset ≡ Some was → kind_at after offset ≡ Some now → object_bits was ≡ object_bits now
  one-size offset was now there is = elim (eqb_tells (object_bits was) (object_bits now)) [
    | inl same ↦ same.1
    | inr apart ↦ absurd (changed offset was now there is
        (within.objects offset (λ same. apart.1 (ap object_bits (same_Some was now (sym there ∙ same ∙ is))))))
  ]

  -- what a new capability names was named by one of the thread's, or appeared inside its untyped memory
  by-grant : (kind : NewObject) (offset : ℕ) (new : Cap) → Granted image t.thread s after new → Names kind offset new → Inside t s kind offset
  by-grant kind offset new (held _ h) names =
      let c = h.such in
      let same = one-name new c.kind kind c.offset offset c.names names in
      subst (λ (o : ℕ). Inside t s kind o) same.1
      (subst (λ (k : NewObject). Inside t s k c.offset) same.0 (before t listed h.slot c.kind c.offset h.own c.same))
  by-grant kind offset new (appeared _ made place named none is h) names =
      let same = one-name new made kind place offset named names in
      inr (subst (λ (o : ℕ). Holds image t.thread s (IsUntypedAround o (2 ^ object_bits kind))) same.1
      (subst (λ (k : NewObject). Holds image t.thread s (IsUntypedAround place (2 ^ object_bits k))) same.0 h))
  by-grant kind offset _ (pool first bits watermark h) names = unnamed kind offset names
  by-grant kind offset _ (handler number h) names = unnamed kind offset names
  by-grant kind offset _ (made_handler number less h) names = unnamed kind offset names
  by-grant kind offset _ (control h) names = unnamed kind offset names

  pub inside-kept : AllHoldInside image after
  inside-kept u among slot kind offset own names = over u among kind offset (by-test (names_object offset (capability_at s.slots slot)) refl)
    where
      by-test : (b : Bool) → names_object offset (capability_at s.slots slot) ≡ b → Inside u s kind offset
      by-test true named =
          let was = names-kind offset (capability_at s.slots slot) named in
          resized u was.0 kind offset (one-size offset was.0 kind (sound.memory.named slot was.0 offset was.1) (behind.memory.named slot kind offset names))
          (before u among slot was.0 offset own was.1)
      by-test false other =
          let differs : without_use (capability_at s.slots slot) ≢ without_use (capability_at after.slots slot) =
          λ same. false≢true (sym (names-use offset (capability_at s.slots slot) ∙ other) ∙ ap (names_object offset) same
          ∙ names-use offset (capability_at after.slots slot) ∙ object-by (capability_at after.slots slot) kind offset names) in
          let mine = within.slots slot (λ same. differs (ap (λ (o : Option Entry). without_use (capability_of o)) same)) in
          let same : t ≡ u = one-owner image accepted.spelled.fits accepted.formed t u slot listed among mine own in
          subst (λ (v : Numbered). Inside v s kind offset) same
          (by-grant kind offset (capability_at after.slots slot)
          (within.capabilities slot differs (λ none. unnamed kind offset (sym (ap object_named none) ∙ names))) names)

-- ---- what ends with slots of a thread's own

pub ends-inside : (image : Image) (t : Numbered) (s : State) (slots : List NotedSlot) → Mirrors image t s slots → (set : SlotSet)
    → ((slot : ℕ) → set slot ≡ true → own_set image t slot ≡ true) → HoldsInside image t s → EndsInside image t.thread s set
ends-inside image t s slots m set inside holds offset kind gone is =
    let e = ends-own image t s slots m set inside offset gone in
    let named = names-kind offset (capability_at s.slots e.slot) e.names in
    let same : named.0 ≡ kind = same_Some named.0 kind (sym (m.all.sound.memory.named e.slot named.0 offset named.1) ∙ is) in
    elim (holds e.slot named.0 offset (inside e.slot e.there) named.1) [
      | inl boot ↦ absurd (false≢true (sym (stays-else image t s slots m set inside offset
          (else-of image t m.stand s (side image t s slots m) (names_object offset) boot)) ∙ gone))
      | inr around ↦ subst (λ (k : NewObject). Holds image t.thread s (IsUntypedAround offset (2 ^ object_bits k))) same around
    ]
