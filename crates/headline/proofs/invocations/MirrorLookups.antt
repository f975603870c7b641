-- Slots that an argument names below one of the thread's CNodes are the same in the state and in what is noted.
use Rattle.std.proofs.Common.{ℕ, ◌≡◌, ◌∙◌, ◌==◌, ◌&&◌, true, false, nat_le, nat_lt, if◌then◌else◌, List, Option, Some, None, Result, Ok, Err, refl, ap, subst}
use Rattle.model.specs.declared.capabilities.Cap.{Cap}
use Rattle.model.specs.declared.errors.KError.{KError}
use Rattle.model.specs.declared.errors.KError.TheVariants.{FailedLookup, RangeError}
use Rattle.model.specs.declared.invocations.SlotName.{SlotName}
use Rattle.model.specs.declared.lookup_failures.LookupFailure.{LookupFailure}
use Rattle.model.specs.Acceptance.Authority.{IsOwnSlot}
use Rattle.model.specs.Acceptance.NotedKernel.{noted_after}
use Rattle.model.specs.Acceptance.NotedStates.{NotedSlot, PointState, has_stray_slots, is_foreign, slot_at}
use Rattle.model.specs.Acceptance.ThreadRules.{reached}
use Rattle.model.specs.Capabilities.Lookup.{lookup}
use Rattle.model.specs.Capabilities.Slots.{capability_at}
use Rattle.model.specs.Images.Described.{Numbered}
use Rattle.model.specs.Images.Image.{Image}
use Rattle.model.specs.Kernel.Arguments.{◌>>=◌, argument_slot, check, whole}
use Rattle.model.specs.Kernel.State.{State}
use Rattle.headline.specs.lookups.Found.{slots_noted}
use Rattle.headline.proofs.lookups.Laws.{GoesSame, HasKey, capability-noted, capability_noted, found-own, goes-noted, key-found, own-same, passes-not}
use Rattle.typestate.specs.Spaces.{NothingLeadsOutside, StandsApart, is_inside}

-- ---- an argument, and the lookup after it

abbrev argued : SlotName → Result (ℕ × ℕ) LookupFailure → Result ℕ KError
argued name found = do
  _ ← check (nat_lt 0 name.depth && nat_le name.depth 32) RangeError
  whole found

record IsFoundAs (found : Result (ℕ × ℕ) LookupFailure) (slot : ℕ) : Type 0 where
  pub place : ℕ × ℕ
  pub is : found ≡ Ok place
  pub slot_is : place.0 ≡ slot

whole-found : (found : Result (ℕ × ℕ) LookupFailure) (slot : ℕ) → whole found ≡ Ok slot → IsFoundAs found slot
whole-found (Err failure) slot clash = absurd (let no : ◌≡◌ {A = Result ℕ KError} (Err FailedLookup) (Ok slot) = clash in cc)
whole-found (Ok place) slot is =
    elim (place.1 == 0) as (λ b. (if b then Ok place.0 else Err FailedLookup) ≡ Ok slot → IsFoundAs (Ok place) slot) [
      | true ↦ λ here. record { place = place; is = refl; slot_is = (let same : ◌≡◌ {A = Result ℕ KError} (Ok place.0) (Ok slot) = here in cc) }
      | false ↦ λ clash. absurd (let no : ◌≡◌ {A = Result ℕ KError} (Err FailedLookup) (Ok slot) = clash in cc)
    ] is

argued-found : (name : SlotName) (found : Result (ℕ × ℕ) LookupFailure) (slot : ℕ) → argued name found ≡ Ok slot → IsFoundAs found slot
argued-found name found slot is =
    elim (nat_lt 0 name.depth && nat_le name.depth 32) as (λ b. (check b RangeError >>= (λ _. whole found)) ≡ Ok slot → IsFoundAs found slot) [
      | true ↦ λ here. whole-found found slot here
      | false ↦ λ clash. absurd (let no : ◌≡◌ {A = Result ℕ KError} (Err RangeError) (Ok slot) = clash in cc)
    ] is

module _ (image : Image) (t : Numbered) (stand : StandsApart image t.thread) (s : State)
    (point : ℕ) (state : PointState) (same : noted_after image t.thread s.slots ≡ state.slots)
    (none : has_stray_slots image t.thread point state ≡ false) (root : Cap) (name : SlotName) (inside : is_inside image t.thread root ≡ true) where
  goes : GoesSame (IsOwnSlot image t.thread) (lookup s.slots root name.address name.depth)
      (lookup (slots_noted image t state.slots) root name.address name.depth)
  goes = goes-noted image t stand s point state same none root name.address name.depth inside

  pub finds-same : argument_slot s.slots root name ≡ argument_slot (slots_noted image t state.slots) root name
  finds-same = ap (argued name) goes.result

  pub finds-own : (slot : ℕ) → argument_slot s.slots root name ≡ Ok slot → IsOwnSlot image t.thread slot
  finds-own slot is =
      let of = argued-found name (lookup s.slots root name.address name.depth) slot is in
      subst (IsOwnSlot image t.thread) of.slot_is (found-own (IsOwnSlot image t.thread) _ of.place goes.finds of.is)

-- ---- what the slots hold is no other's

pub home-held : (image : Image) (t : Numbered) (stand : StandsApart image t.thread) (s : State) (slots : List NotedSlot)
    → noted_after image t.thread s.slots ≡ slots
    → NothingLeadsOutside image t.thread slots → (slot : ℕ) → IsOwnSlot image t.thread slot
    → is_foreign image t.thread (reached image t.thread) (capability_at s.slots slot) ≡ false
home-held image t stand s slots same inside slot own =
    let of = key-found image (reached image t.thread) slot own in
    ap (is_foreign image t.thread (reached image t.thread)) (own-same image t stand s.slots slots same slot own ∙ capability-noted image t slots slot of)
    ∙ by-found (slot_at slots of.key) refl
  where
    by-found : (found : Option NotedSlot) → slot_at slots (HasKey.key (key-found image (reached image t.thread) slot own)) ≡ found
        → is_foreign image t.thread (reached image t.thread) (capability_noted found) ≡ false
    by-found None is = refl
    by-found (Some noted) is = passes-not (λ n. is_foreign image t.thread (reached image t.thread) n.capability) slots _ noted inside is
