-- What the lookups of a thread of the part find, in the whole and alone: the same slots, which are its own; and the queues that it names are the part's.
use Rattle.std.proofs.Common.{ℕ, ◌≡◌, ◌∙◌, ◌⊎◌, inl, inr, Bool, true, false, if◌then◌else◌, Option, Some, None, Result, Ok, Err, List, refl, sym, ap, subst}
use Rattle.std.proofs.Common.{arith}
use Rattle.std.specs.Option.{option_map_or}
use Rattle.model.specs.declared.capabilities.Cap.{Cap}
use Rattle.model.specs.declared.capabilities.Cap.TheVariants.{Empty, Endpoint, Notification}
use Rattle.model.specs.declared.lookup_failures.LookupFailure.{LookupFailure}
use Rattle.model.specs.declared.lookup_failures.LookupFailure.TheVariants.{MissingCapability}
use Rattle.model.specs.declared.refusals.Refusal.{Refusal}
use Rattle.model.specs.declared.rights.Rights.{Rights}
use Rattle.model.specs.declared.slot_entries.Entry.{Entry}
use Rattle.model.specs.Acceptance.Accepted.{IsAccepted}
use Rattle.model.specs.Acceptance.Authority.{IsOwnSlot}
use Rattle.model.specs.Acceptance.CallRules.{AfterCall, after_call}
use Rattle.model.specs.Acceptance.NotedKernel.{noted_after, noted_root}
use Rattle.model.specs.Acceptance.NotedStates.{PointState, has_stray_slots}
use Rattle.model.specs.Acceptance.PointStates.{call_at, point_of}
use Rattle.model.specs.Acceptance.ThreadInvariants.{tcb_of}
use Rattle.model.specs.Capabilities.Lookup.{called, called_slot, lookup}
use Rattle.model.specs.Capabilities.Rights.{may_read, may_write}
use Rattle.model.specs.Capabilities.Slots.{Slots, capability_at, is_full}
use Rattle.model.specs.Images.Described.{Numbered}
use Rattle.model.specs.Images.Image.{Image}
use Rattle.model.specs.Kernel.Retype.{NewObject, NewEndpoint, NewNotification}
use Rattle.model.specs.Kernel.State.{State, cspace_slot}
use Rattle.model.specs.Kernel.Steps.{cspace_of}
use Rattle.headline.specs.lookups.Laws.{LooksUpNoted}
use Rattle.headline.specs.parts.Agreeing.{IsMemberOf, is_block_slot, is_own_slot}
use Rattle.headline.specs.parts.Given.{AllHoldGiven, IsGivenTo, IsPoolAround}
use Rattle.headline.specs.parts.Parts.{Part}
use Rattle.part_laws.specs.Agreeing.{AgreeFor, IsOfPart, is_pool, is_taken}
use Rattle.part_laws.specs.own.Dispatch.{LeadsTo}
use Rattle.part_laws.proofs.outside.Reaching.{QueueListed, listed-takes, queue-listed}

-- a call that is looked at names no slot that the thread may not have
pub not-stray : (image : Image) (t : Numbered) (point : ℕ) (state : PointState) (left : AfterCall) → call_at image t point state ≡ Some (Ok left)
    → has_stray_slots image t.thread point state ≡ false
unfolding call_at
not-stray image t point state left is =
    by (has_stray_slots image t.thread point state) is
  where
    by : (b : Bool) → (if b then None else Some (after_call image t.thread (point_of t point) state)) ≡ Some (Ok left) → b ≡ false
    by false here = refl
    by true clash = absurd (let e : ◌≡◌ {A = Option (Result AfterCall Refusal)} None (Some (Ok left)) = clash in cc)

module _ (finds : LooksUpNoted) (image : Image) (part : Part) (bytes : List ℕ) (accepted : IsAccepted bytes image) (s t : State) (u : Numbered)
    (member : IsMemberOf image part u) (agree : AgreeFor image part s t) (point : ℕ) (state : PointState)
    (noted : noted_after image u.thread s.slots ≡ state.slots) (alone_noted : noted_after image u.thread t.slots ≡ state.slots)
    (stray : has_stray_slots image u.thread point state ≡ false) (root : cspace_of s (tcb_of image u) ≡ noted_root image u.thread) where
  abbrev x : ℕ
  x = tcb_of image u

  same-slot : (slot : ℕ) → IsOwnSlot image u.thread slot → s.slots slot ≡ t.slots slot
  same-slot slot own = agree.slots slot (is_own_slot u member own)

  pub same-capability : (slot : ℕ) → IsOwnSlot image u.thread slot → capability_at s.slots slot ≡ capability_at t.slots slot
  same-capability slot own = ap (λ (o : Option Entry). option_map_or (λ (e : Entry). e.capability) o Empty) (same-slot slot own)

  pub same-root : cspace_of s x ≡ cspace_of t x
  same-root =
      ap (λ (o : Option Entry). option_map_or (λ (e : Entry). e.capability) o Empty)
      (agree.slots (cspace_slot x) (is_block_slot u 0 member refl (omega arith)))

  pub same-lookup : (address depth : ℕ) → lookup s.slots (noted_root image u.thread) address depth ≡ lookup t.slots (noted_root image u.thread) address depth
  same-lookup address depth =
      (finds bytes image u s point state accepted member.listed noted stray address depth).same
      ∙ sym (finds bytes image u t point state accepted member.listed alone_noted stray address depth).same

  pub found-own : (address depth : ℕ) (found : ℕ × ℕ) → lookup s.slots (noted_root image u.thread) address depth ≡ Ok found → IsOwnSlot image u.thread found.0
  found-own address depth found is = (finds bytes image u s point state accepted member.listed noted stray address depth).own found is

  called-same : (r : Result (ℕ × ℕ) LookupFailure) → ((found : ℕ × ℕ) → r ≡ Ok found → IsOwnSlot image u.thread found.0)
      → called s.slots r ≡ called t.slots r
  called-same (Err failure) own = refl
  called-same (Ok found) own =
      let e : Result ℕ LookupFailure = Err MissingCapability in
      ap (λ (b : Bool). if b then Ok found.0 else e) (ap (λ (c : Cap). is_full (λ _. Some (record { capability = c; parent = None })) 0)
      (same-capability found.0 (own found refl)))

  at-root : (address : ℕ) → called_slot s.slots (noted_root image u.thread) address ≡ called_slot t.slots (noted_root image u.thread) address
  at-root address =
      called-same (lookup s.slots (noted_root image u.thread) address 32) (λ found is. found-own address 32 found is)
      ∙ ap (called t.slots) (same-lookup address 32)

  pub same-called : (address : ℕ) → called_slot s.slots (cspace_of s x) address ≡ called_slot t.slots (cspace_of t x) address
  same-called address =
      ap (λ (c : Cap). called_slot s.slots c address) root ∙ at-root address
      ∙ ap (λ (c : Cap). called_slot t.slots c address) (sym root ∙ same-root)

  called-own : (slots : Slots) (r : Result (ℕ × ℕ) LookupFailure) (slot : ℕ) → ((found : ℕ × ℕ) → r ≡ Ok found → IsOwnSlot image u.thread found.0)
      → called slots r ≡ Ok slot → IsOwnSlot image u.thread slot
  called-own slots (Err failure) slot own is = absurd (let e : ◌≡◌ {A = Result ℕ LookupFailure} (Err failure) (Ok slot) = is in cc)
  called-own slots (Ok found) slot own is = by (is_full slots found.0) is
    where
      by : (b : Bool) → (if b then Ok found.0 else Err MissingCapability) ≡ Ok slot → IsOwnSlot image u.thread slot
      by true here =
          let e : ◌≡◌ {A = Result ℕ LookupFailure} (Ok found.0) (Ok slot) = here in
          let same : found.0 ≡ slot = cc in subst (λ (n : ℕ). IsOwnSlot image u.thread n) same (own found refl)
      by false clash = absurd (let e : ◌≡◌ {A = Result ℕ LookupFailure} (Err MissingCapability) (Ok slot) = clash in cc)

  pub leads-own : (address slot : ℕ) → LeadsTo s x address slot → IsOwnSlot image u.thread slot
  leads-own address slot is =
      called-own s.slots (lookup s.slots (noted_root image u.thread) address 32) slot (λ found there. found-own address 32 found there)
      (ap (λ (c : Cap). called_slot s.slots c address) (sym root) ∙ is)

  -- ---- the queues that it names

  module _ (given : AllHoldGiven image s) where
    of-listed : (offset right : ℕ) (kind : NewObject) → (right ≡ 2) ⊎ ((right ≡ 1) × (kind ≡ NewEndpoint))
        → QueueListed image u.thread offset kind right ⊎ IsPoolAround image u.thread offset 1 → IsOfPart image part offset
    of-listed offset right kind which (inl q) =
        is_taken q.entry.source
        (record { thread = u; member = member; inside = q.inside; takes = listed-takes image u.thread offset kind right q which }) q.at
    of-listed offset right kind which (inr p) = is_pool u member p

    pub endpoint-of : (slot offset badge : ℕ) (r : Rights) → IsOwnSlot image u.thread slot → capability_at s.slots slot ≡ Endpoint offset r badge
        → (may_write r ≡ true) ⊎ (may_read r ≡ true) → IsOfPart image part offset
    endpoint-of slot offset badge r own is may = elim may [
      | inl writes ↦ of-listed offset 1 NewEndpoint (inr (refl, refl))
          (queue-listed image u.thread offset 1 (Endpoint offset r badge) NewEndpoint refl refl writes held)
      | inr reads ↦ of-listed offset 2 NewEndpoint (inl refl)
          (queue-listed image u.thread offset 2 (Endpoint offset r badge) NewEndpoint refl refl reads held)
    ]
      where
        held : IsGivenTo image u.thread (Endpoint offset r badge)
        held = subst (λ (c : Cap). IsGivenTo image u.thread c) is
            (given u slot member.listed own (λ empty. let e : Endpoint offset r badge ≡ Empty = sym is ∙ empty in cc))

    pub notification-of : (slot offset badge : ℕ) (r : Rights) → IsOwnSlot image u.thread slot → capability_at s.slots slot ≡ Notification offset r badge
        → may_read r ≡ true → IsOfPart image part offset
    notification-of slot offset badge r own is reads =
        of-listed offset 2 NewNotification (inl refl)
        (queue-listed image u.thread offset 2 (Notification offset r badge) NewNotification refl refl reads
        (subst (λ (c : Cap). IsGivenTo image u.thread c) is
        (given u slot member.listed own (λ empty. let e : Notification offset r badge ≡ Empty = sym is ∙ empty in cc))))
