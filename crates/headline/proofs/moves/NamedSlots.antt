-- The slot that a thread names at a system call, and what is there.
use Rattle.std.proofs.Common.{ℕ, ◌≡◌, ◌∙◌, ◌^◌, ◌<◌, true, false, not, if◌then◌else◌, Option, Some, None, Result, Ok, Err, List, refl, sym, ap, subst}
use Rattle.std.specs.Prelude.{Contains}
use Rattle.headline.specs.facts.Standing.{AllStand}
use Rattle.headline.specs.facts.Waiting.{NamesThere}
use Rattle.headline.proofs.facts.Laws.{at-place}
use Rattle.model.specs.declared.capabilities.Cap.{Cap}
use Rattle.model.specs.declared.capabilities.Cap.TheVariants.{Endpoint, Notification}
use Rattle.model.specs.declared.labels.Label.{Label}
use Rattle.model.specs.declared.lookup_failures.LookupFailure.{LookupFailure}
use Rattle.model.specs.declared.lookup_failures.LookupFailure.TheVariants.{MissingCapability}
use Rattle.model.specs.declared.refusals.Refusal.{Refusal}
use Rattle.model.specs.declared.rights.Rights.{Rights}
use Rattle.model.specs.Acceptance.Accepted.{IsAccepted}
use Rattle.model.specs.Acceptance.Authority.{Holds, IsOwnSlot}
use Rattle.model.specs.Acceptance.CallRules.{AfterCall, after_call, by_capability}
use Rattle.model.specs.Acceptance.NotedKernel.{noted_root}
use Rattle.model.specs.Acceptance.NotedStates.{PointState, has_stray_slots}
use Rattle.model.specs.Acceptance.PointStates.{call_at, point_of}
use Rattle.model.specs.Acceptance.ThreadInvariants.{StandsAt, tcb_of}
use Rattle.model.specs.Capabilities.CapabilityWords.{IsCapability}
use Rattle.model.specs.Capabilities.Lookup.{called, called_slot, lookup}
use Rattle.model.specs.Capabilities.Slots.{Slots, capability_at, is_empty, is_full}
use Rattle.model.specs.Images.Described.{Numbered, numbered_threads}
use Rattle.model.specs.Images.Image.{Image}
use Rattle.model.specs.Kernel.Kinds.{object_named}
use Rattle.model.specs.Kernel.Messages.{a0}
use Rattle.model.specs.Kernel.Retype.{NewEndpoint, NewNotification}
use Rattle.model.specs.Kernel.State.{State, EndpointObject, EndpointState, NotificationObject, NotificationState, ThreadState}
use Rattle.model.specs.Kernel.Steps.{named_slot, registers_of}
use Rattle.model.specs.Machine.ProgramMemory.{read}
use Rattle.soundness.proofs.Laws.{endpoint-kind, notification-kind}
use Rattle.headline.specs.lookups.Found.{FindsNoted, slots_noted}
use Rattle.headline.specs.lookups.Laws.{HoldsNoted, LooksUpNoted}
use Rattle.headline.specs.moves.Moving.{CallsAt}
use Rattle.headline.specs.moves.Laws.{Laws}

-- no slot of a point whose call is looked at is one that the thread may not have
no-stray : (image : Image) (t : Numbered) (point : ℕ) (state : PointState) (left : AfterCall) → call_at image t point state ≡ Some (Ok left) →
    has_stray_slots image t.thread point state ≡ false
unfolding call_at
no-stray image t point state left is =
    elim (has_stray_slots image t.thread point state)
    as (λ b. (if b then None else Some (after_call image t.thread (point_of t point) state)) ≡ Some (Ok left) → b ≡ false) [
      | true ↦ λ clash. absurd (let e : ◌≡◌ {A = Option (Result AfterCall Refusal)} None (Some (Ok left)) = clash in cc)
      | false ↦ λ same. refl
    ] is

-- what is called is full
record IsCalled (slots : Slots) (found : ℕ × ℕ) (slot : ℕ) : Type 0 where
  same : found.0 ≡ slot
  full : is_full slots found.0 ≡ true

called-is : (slots : Slots) (found : ℕ × ℕ) (slot : ℕ) → called slots (Ok found) ≡ Ok slot → IsCalled slots found slot
called-is slots found slot is =
    elim (is_full slots found.0) as (λ b. is_full slots found.0 ≡ b → (if b then Ok found.0 else Err MissingCapability) ≡ Ok slot → IsCalled slots found slot) [
      | true ↦ λ full same. record { same = (let e : ◌≡◌ {A = Result ℕ LookupFailure} (Ok found.0) (Ok slot) = same in cc); full = full }
      | false ↦ λ empty clash. absurd (let e : ◌≡◌ {A = Result ℕ LookupFailure} (Err MissingCapability) (Ok slot) = clash in cc)
    ] refl is

record CallsBoth (slots : Slots) (r : Result (ℕ × ℕ) LookupFailure) (slot : ℕ) : Type 0 where
  found : ℕ × ℕ
  is : r ≡ Ok found
  at : IsCalled slots found slot

called-both : (slots : Slots) (r : Result (ℕ × ℕ) LookupFailure) (slot : ℕ) → called slots r ≡ Ok slot → CallsBoth slots r slot
called-both slots (Ok found) slot is = record { found = found; is = refl; at = called-is slots found slot is }
called-both slots (Err failure) slot clash = absurd (let e : ◌≡◌ {A = Result ℕ LookupFailure} (Err failure) (Ok slot) = clash in cc)

-- the slot that a thread names, and that it is the one which the rules looked at
pub record NamesHere (image : Image) (t : Numbered) (s : State) (state : PointState) (rules : ℕ → Cap → Result AfterCall Refusal) (left : AfterCall) : Type 0
  where
    pub slot : ℕ
    pub named : named_slot s (tcb_of image t) ≡ Ok slot
    pub own : IsOwnSlot image t.thread slot
    pub full : is_full s.slots slot ≡ true
    pub rule : rules slot (capability_at s.slots slot) ≡ Ok left
    pub there : NamesThere image t state (capability_at s.slots slot)

-- what a call finds by what is noted is a slot of the thread's own, which holds what is noted
record FoundThere (image : Image) (t : Numbered) (s : State) (state : PointState) (address slot : ℕ) : Type 0 where
  own : IsOwnSlot image t.thread slot
  held : capability_at s.slots slot ≡ capability_at (slots_noted image t state.slots) slot
  full : is_full s.slots slot ≡ true
  called_here : called_slot s.slots (noted_root image t.thread) address ≡ Ok slot

module _ (holds : HoldsNoted) (finds : LooksUpNoted) (bytes : List ℕ) (image : Image) (t : Numbered) (s : State) (accepted : IsAccepted bytes image)
    (listed : Contains (numbered_threads image) t) (own : ThreadState) (point : ℕ) (state : PointState) (left : AfterCall)
    (stands : StandsAt image t s own point state) (call : call_at image t point state ≡ Some (Ok left)) where
  abbrev noted_here : Slots
  noted_here = slots_noted image t state.slots

  found-there : (address slot : ℕ) → called_slot noted_here (noted_root image t.thread) address ≡ Ok slot → FoundThere image t s state address slot
  found-there address slot is =
      let by : FindsNoted image t s state.slots address 32 =
      finds bytes image t s point state accepted listed stands.slots (no-stray image t point state left call) address 32 in
      let both = called-both noted_here (lookup noted_here (noted_root image t.thread) address 32) slot is in
      let found = CallsBoth.found both in
      let here : lookup s.slots (noted_root image t.thread) address 32 ≡ Ok found = by.same ∙ CallsBoth.is both in
      let same : found.0 ≡ slot = IsCalled.same (CallsBoth.at both) in
      let own_found : IsOwnSlot image t.thread found.0 = by.own found here in
      let held : capability_at s.slots found.0 ≡ capability_at noted_here found.0 =
      holds bytes image t s state accepted listed stands.slots found.0 own_found in
      let full : is_full s.slots found.0 ≡ true = ap (λ (c : Cap). not (is_empty c)) held ∙ IsCalled.full (CallsBoth.at both) in
      record {
        own = subst (IsOwnSlot image t.thread) same own_found;
        held = subst (λ n. capability_at s.slots n ≡ capability_at noted_here n) same held;
        full = subst (λ n. is_full s.slots n ≡ true) same full;
        called_here = ap (called s.slots) here ∙ ap (λ b. if b then Ok found.0 else Err MissingCapability) full ∙ ap Ok same;
      }

  -- the thread holds the capability that its call names
  pub held-there : (Such : Cap → Type 0) (capability : Cap) → NamesThere image t state capability → Such capability → Holds image t.thread s Such
  held-there Such capability names such =
      let found = found-there names.address names.slot names.found in
      record { slot = names.slot; own = FoundThere.own found; such = subst Such (sym (FoundThere.held found ∙ names.is)) such }

module _ (laws : Laws) (bytes : List ℕ) (image : Image) (s : State) (labels : List Label) (accepted : IsAccepted bytes image) (t : Numbered)
    (listed : Contains (numbered_threads image) t)
    (own : ThreadState) (point : ℕ) (state : PointState) (left : AfterCall) (at : CallsAt image t s labels own point state left) where
  abbrev address : ℕ
  address = read own.registers a0

  pub named-here : (rules : ℕ → Cap → Result AfterCall Refusal) → by_capability image t.thread (point_of t point) state rules ≡ Ok left →
      NamesHere image t s state rules left
  named-here rules by =
      let names = laws.named image t.thread (point_of t point) state rules left own.registers by at.stands.registers in
      let found = found-there laws.holds laws.finds bytes image t s accepted listed own point state left at.stands at.call address names.slot names.found in
      record {
        slot = names.slot;
        named = ap (λ (c : Cap). called_slot s.slots c (read (registers_of s (tcb_of image t)) a0)) at.stands.cspace
            ∙ ap (λ (u : ThreadState). called_slot s.slots (noted_root image t.thread) (read u.registers a0)) (at-place s (tcb_of image t) own at.there)
            ∙ FoundThere.called_here found;
        own = FoundThere.own found;
        full = FoundThere.full found;
        rule = ap (λ (c : Cap). rules names.slot c) (FoundThere.held found) ∙ names.rule;
        there = record { address = address; known = names.known; slot = names.slot; found = names.found; is = sym (FoundThere.held found) };
      }

-- ---- what is where a capability leads

pub record EndpointThere (image : Image) (t : Numbered) (s : State) (state : PointState) (offset : ℕ) (r : Rights) (badge : ℕ) : Type 0 where
  pub old : EndpointState
  pub was : s.objects offset ≡ Some (EndpointObject old)
  pub named : NamesThere image t state (Endpoint offset r badge)
  pub small : badge < 2 ^ 28

pub record NotificationThere (image : Image) (t : Numbered) (s : State) (state : PointState) (offset : ℕ) (r : Rights) (badge : ℕ) : Type 0 where
  pub old : NotificationState
  pub was : s.objects offset ≡ Some (NotificationObject old)
  pub named : NamesThere image t state (Notification offset r badge)
  pub small : badge < 2 ^ 28

module _ (image : Image) (t : Numbered) (s : State) (labels : List Label) (all : AllStand image s labels) (state : PointState) (slot : ℕ)
    (names : NamesThere image t state (capability_at s.slots slot)) (offset : ℕ) (r : Rights) (badge : ℕ) where
  pub endpoint-named : capability_at s.slots slot ≡ Endpoint offset r badge → EndpointThere image t s state offset r badge
  endpoint-named is =
      let found = endpoint-kind (s.objects offset) (all.sound.memory.named slot NewEndpoint offset (ap object_named is)) in
      record {
        old = found.0;
        was = found.1;
        named = subst (NamesThere image t state) is names;
        small = (subst IsCapability is (all.sound.slots.derivation.valid slot)).2;
      }

  pub notification-named : capability_at s.slots slot ≡ Notification offset r badge → NotificationThere image t s state offset r badge
  notification-named is =
      let found = notification-kind (s.objects offset) (all.sound.memory.named slot NewNotification offset (ap object_named is)) in
      record {
        old = found.0;
        was = found.1;
        named = subst (NamesThere image t state) is names;
        small = (subst IsCapability is (all.sound.slots.derivation.valid slot)).2;
      }
