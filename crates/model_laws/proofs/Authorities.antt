-- What authority rules out. A capability that is granted to a thread which holds one endpoint is one to that endpoint.
use Rattle.std.proofs.Common.{ℕ, ◌≡◌, ◌≢◌, ◌⊎◌, ◌≤◌, ◌++◌, Bool, true, not, if◌then◌else◌, Option, Some, None, List, [], ◌∷◌, Contains, refl, sym, ◌∙◌, ap}
use Rattle.std.proofs.Common.{subst, inl, inr, arith, bit_and, eq-eqb, lit<, ◌==◌}
use Rattle.std.proofs.lemmas.Bool.{ne_eqb}
use Rattle.model.specs.declared.capabilities.Cap.{Cap}
use Rattle.model.specs.declared.capabilities.Cap.TheVariants.{Empty, Endpoint, Frame, InterruptControl, InterruptHandler, Untyped}
use Rattle.model.specs.declared.capabilities.FrameMapping.{FrameMapping}
use Rattle.model.specs.declared.rights.Rights.{Rights}
use Rattle.model.specs.Acceptance.Authority.{Covers, Granted, held, appeared, pool, handler, made_handler, control, given, moved_along, IsUntypedAround}
use Rattle.model.specs.Acceptance.Authority.{ReadyChange, WithinAuthority, rights_of, badge_of, without_use}
use Rattle.model.specs.Capabilities.CapabilityKinds.{frame_mapping}
use Rattle.model.specs.Capabilities.Rights.{mapping_rights, rights}
use Rattle.model.specs.Capabilities.Slots.{capability_at}
use Rattle.model.specs.Images.Image.{Image, Thread}
use Rattle.model.specs.Kernel.Kinds.{object_named}
use Rattle.model.specs.Shared.Lists.{times_in, without}
use Rattle.model.specs.Kernel.Retype.{NewObject, NewEndpoint, NewThread}
use Rattle.std.specs.Option.{option_map_or}
use Rattle.model.specs.Kernel.State.{State}
use Rattle.model_laws.specs.Scenarios.{HoldsOnly}

-- what is granted to a thread that holds one endpoint: the same endpoint, with rights among its own, and its badge unless that is 0
pub record IsPart (offset : ℕ) (r : Rights) (badge : ℕ) (new : Cap) : Type 0 where
  pub names : object_named new ≡ Some (NewEndpoint, offset)
  pub allowed : bit_and r.0 (rights_of new).0 ≡ (rights_of new).0
  pub marks : (badge ≡ 0) ⊎ (badge ≡ badge_of new)

covered : (offset : ℕ) (r : Rights) (badge : ℕ) (new source : Cap) → (source ≡ Empty) ⊎ (source ≡ Endpoint offset r badge) → Covers new source →
    IsPart offset r badge new
covered offset r badge new source (inl none) covers =
    let e : None ≡ Some (covers.kind, covers.offset) = sym (ap object_named none) ∙ covers.same in cc
covered offset r badge new source (inr same) covers = record {
  names = covers.names ∙ sym covers.same ∙ ap object_named same;
  allowed = let e : rights_of source ≡ r = ap rights_of same in subst (λ (q : Rights). bit_and q.0 (rights_of new).0 ≡ (rights_of new).0) e covers.rights;
  marks = let e : badge_of source ≡ badge = ap badge_of same in subst (λ (b : ℕ). (b ≡ 0) ⊎ (b ≡ badge_of new)) e covers.badge;
}

-- neither is untyped memory, a handler or interrupt control
pub no_untyped : (offset : ℕ) (r : Rights) (badge first size : ℕ) (source : Cap) → (source ≡ Empty) ⊎ (source ≡ Endpoint offset r badge) →
    IsUntypedAround first size source → ⊥
no_untyped offset r badge first size source (inl none) around = let e : Empty ≡ Untyped around.offset around.bits around.watermark = sym none ∙ around.is in cc
no_untyped offset r badge first size source (inr same) around = let e : Endpoint offset r badge ≡ Untyped around.offset around.bits around.watermark = sym same
    ∙ around.is in cc

no_handler : (offset : ℕ) (r : Rights) (badge number : ℕ) (source : Cap) → (source ≡ Empty) ⊎ (source ≡ Endpoint offset r badge) →
    source ≡ InterruptHandler number → ⊥
no_handler offset r badge number source (inl none) is = let e : Empty ≡ InterruptHandler number = sym none ∙ is in cc
no_handler offset r badge number source (inr same) is = let e : Endpoint offset r badge ≡ InterruptHandler number = sym same ∙ is in cc

no_control : (offset : ℕ) (r : Rights) (badge : ℕ) (source : Cap) → (source ≡ Empty) ⊎ (source ≡ Endpoint offset r badge) → source ≡ InterruptControl → ⊥
no_control offset r badge source (inl none) is = let e : Empty ≡ InterruptControl = sym none ∙ is in cc
no_control offset r badge source (inr same) is = let e : Endpoint offset r badge ≡ InterruptControl = sym same ∙ is in cc

granted-part : (image : Image) (t : Thread) (s after : State) (offset : ℕ) (r : Rights) (badge : ℕ) (new : Cap)
    → HoldsOnly image t s (Endpoint offset r badge) → Granted image t s after new → IsPart offset r badge new
granted-part image t s after offset r badge new only (held _ h) = covered offset r badge new (capability_at s.slots h.slot) (only.slots h.slot h.own) h.such
granted-part image t s after offset r badge new only (appeared _ kind place names none is h) =
    absurd (no_untyped offset r badge _ _ (capability_at s.slots h.slot) (only.slots h.slot h.own) h.such)
granted-part image t s after offset r badge _ only (pool first bits watermark h) =
    absurd (no_untyped offset r badge _ _ (capability_at s.slots h.slot) (only.slots h.slot h.own) h.such)
granted-part image t s after offset r badge _ only (handler number h) =
    absurd (no_handler offset r badge number (capability_at s.slots h.slot) (only.slots h.slot h.own) h.such)
granted-part image t s after offset r badge _ only (made_handler number less h) =
    absurd (no_control offset r badge (capability_at s.slots h.slot) (only.slots h.slot h.own) h.such)
granted-part image t s after offset r badge _ only (control h) =
    absurd (no_control offset r badge (capability_at s.slots h.slot) (only.slots h.slot h.own) h.such)

-- so a new capability in a slot is a part of the endpoint
pub new-part : (image : Image) (t : Thread) (s after : State) (slot offset : ℕ) (r : Rights) (badge : ℕ) (old new : Cap)
    → HoldsOnly image t s (Endpoint offset r badge) → capability_at s.slots slot ≡ old → capability_at after.slots slot ≡ new
    → without_use old ≢ without_use new → new ≢ Empty → WithinAuthority image t s after → IsPart offset r badge new
new-part image t s after slot offset r badge old new only before behind differ some within =
    subst (λ (c : Cap). IsPart offset r badge c) behind
    (granted-part image t s after offset r badge (capability_at after.slots slot) only
    (within.capabilities slot (λ same. differ (sym (ap without_use before) ∙ same ∙ ap without_use behind)) (λ none. some (sym behind ∙ none))))

-- ---- the ready list

alone : (self other : ℕ) → other ≢ self → without self (other ∷ []) ≡ other ∷ []
alone self other differ = ap (λ (b : Bool). if not b then other ∷ [] else []) (ne_eqb other self differ)

both : (self first second : ℕ) → first ≢ self → second ≢ self → without self (first ∷ second ∷ []) ≡ first ∷ second ∷ []
both self first second one two =
    ap (λ (b : Bool). if not b then first ∷ without self (second ∷ []) else without self (second ∷ [])) (ne_eqb first self one)
    ∙ ap (λ (rest : List ℕ). first ∷ rest) (alone self second two)

-- what follows an empty list was added
pub added-alone : (s after : State) (self priority : ℕ) (new : List ℕ) → s.ready priority ≡ [] → without self (after.ready priority) ≡ new
    → (change : ReadyChange s after self priority) → change.added ≡ new
added-alone s after self priority new empty list change =
    let e : without self (s.ready priority) ≡ [] = ap (without self) empty in
    let front : without self (s.ready priority) ++ change.added ≡ change.added = ap (λ (front : List ℕ). front ++ change.added) e in
    sym front ∙ sym change.list ∙ list

pub added-one : (s after : State) (self priority other : ℕ) → other ≢ self → s.ready priority ≡ [] → after.ready priority ≡ other ∷ []
    → (change : ReadyChange s after self priority) → change.added ≡ other ∷ []
added-one s after self priority other differ empty list change =
    added-alone s after self priority (other ∷ []) empty (ap (without self) list ∙ alone self other differ) change

pub added-two : (s after : State) (self priority other : ℕ) → other ≢ self → s.ready priority ≡ [] → after.ready priority ≡ other ∷ other ∷ []
    → (change : ReadyChange s after self priority) → change.added ≡ other ∷ other ∷ []
added-two s after self priority other differ empty list change =
    added-alone s after self priority (other ∷ other ∷ []) empty (ap (without self) list ∙ both self other other differ differ) change

pub fronts : (s after : State) (self priority first second : ℕ) → first ≢ self → second ≢ self → s.ready priority ≡ first ∷ []
    → after.ready priority ≡ second ∷ first ∷ [] → ReadyChange s after self priority → second ≡ first
fronts s after self priority first second one two before behind change =
    let old : without self (s.ready priority) ≡ first ∷ [] = ap (without self) before ∙ alone self first one in
    let new : without self (after.ready priority) ≡ second ∷ first ∷ [] = ap (without self) behind ∙ both self second first two one in
    let e : second ∷ first ∷ [] ≡ (first ∷ []) ++ change.added = sym new ∙ change.list ∙ ap (λ (front : List ℕ). front ++ change.added) old in
    cc

-- ---- counts

pub one_there : (other : ℕ) (added : List ℕ) → added ≡ other ∷ [] → Contains added other
one_there other added is = subst (λ (l : List ℕ). Contains l other) (sym is) (0, lit< tt, refl)

pub twice_there : (other : ℕ) (added : List ℕ) → added ≡ other ∷ other ∷ [] → times_in added other ≤ 1 → ⊥
twice_there other added is once =
    let less : times_in (other ∷ other ∷ []) other ≤ 1 = subst (λ (l : List ℕ). times_in l other ≤ 1) is once in
    let same : (other == other) ≡ true = eq-eqb other other refl in
    let two : times_in (other ∷ other ∷ []) other ≡ 2 = rw same refl in
    omega (arith, less, two)

pub itself_there : (self : ℕ) → times_in (self ∷ []) self ≤ times_in [] self → ⊥
itself_there self less =
    let same : (self == self) ≡ true = eq-eqb self self refl in
    let one : times_in (self ∷ []) self ≡ 1 = rw same refl in
    omega (arith, less, one)

pub not_nowhere : (self : ℕ) → times_in (self ∷ []) self ≡ times_in [] self → ⊥
not_nowhere self none = itself_there self (omega (arith, none))

-- ---- mappings

-- what a mapping that is new gets from a frame of which the thread holds this capability alone, unmapped
pub mapping-rights : (image : Image) (t : Thread) (s after : State) (slot offset : ℕ) (r : Rights) (mapping : FrameMapping) →
    HoldsOnly image t s (Frame offset r None)
    → capability_at s.slots slot ≡ Frame offset r None → capability_at after.slots slot ≡ Frame offset r (Some mapping)
    → WithinAuthority image t s after → (word : ℕ) × (mapping.rights ≡ mapping_rights r word)
mapping-rights image t s after slot offset r mapping only before behind within =
    let fresh : frame_mapping (capability_at s.slots slot) ≢ Some mapping = λ same. let e : None ≡ Some mapping = sym (ap frame_mapping before) ∙ same in cc in
    elim (within.mapped slot mapping fresh (ap frame_mapping behind)) [
      | given word is ↦ (word, is ∙ ap (λ (c : Cap). mapping_rights (rights_of c) word) behind)
      | moved_along h ↦ elim (only.slots h.slot h.own) [
        | inl none ↦ let e : Empty ≡ Frame offset r (Some mapping) = sym none ∙ h.such ∙ behind in absurd cc
        | inr same ↦ let e : Frame offset r None ≡ Frame offset r (Some mapping) = sym same ∙ h.such ∙ behind in absurd cc
      ]
    ]

pub no_write : (word : ℕ) → rights 3 ≡ mapping_rights (rights 2) word → ⊥
no_write word is = let e : 3 ≡ (mapping_rights (rights 2) word).0 = ap (λ (r : Rights). r.0) is in omega (arith, e)

pub no_execute : (word : ℕ) → rights 4 ≡ mapping_rights (rights 1) word → ⊥
no_execute word is = let e : 4 ≡ (mapping_rights (rights 1) word).0 = ap (λ (r : Rights). r.0) is in omega (arith, e)

-- a part of an endpoint is a capability to an endpoint
abbrev pub kind_named : Option (NewObject × ℕ) → NewObject
kind_named o = option_map_or (λ n. n.0) o NewThread
