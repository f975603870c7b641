-- A lookup goes the same way in two maps of slots that hold the same in each slot of some CNodes which it cannot leave, and ends in such a slot.
use Rattle.std.proofs.Common.{ℕ, zero, suc, ◌≡◌, ◌∙◌, ◌==◌, ◌+◌, ◌/◌, ◌^◌, ◌<◌, ◌||◌, Bool, true, false, not, if◌then◌else◌, Result, Ok, Err, refl, ap, subst}
use Rattle.model.specs.declared.capabilities.Cap.{Cap}
use Rattle.model.specs.declared.capabilities.Cap.TheVariants.{Empty, Untyped, Endpoint, Notification, CNode, Frame, PageTable, Tcb, RootTable, InterruptControl}
use Rattle.model.specs.declared.capabilities.Cap.TheVariants.{InterruptHandler}
use Rattle.model.specs.declared.lookup_failures.LookupFailure.{LookupFailure}
use Rattle.model.specs.Capabilities.Lookup.{go_on, is_cnode, lookup_within, resolve}
use Rattle.model.specs.Capabilities.Slots.{Slots, capability_at}
use Rattle.typestate.specs.Spaces.{is_among}
use Rattle.typestate.proofs.Laws.{index-below}

abbrev Found : Type 0
Found = Result (ℕ × ℕ) LookupFailure

-- ---- the index that a CNode resolves is one of its slots

abbrev IsIndexIn : ℕ → Found → Type 0
IsIndexIn radix (Ok place) = place.0 < 2 ^ radix
IsIndexIn radix (Err failure) = Unit {0}

-- ---- what is known of the two maps

-- a slot of one of the CNodes: both maps hold the same there, which leads to no other CNode
pub record HoldsSame (a b : Slots) (own : ℕ → ℕ → Bool) (IsOwn : ℕ → Type 0) (slot : ℕ) : Type 0 where
  pub is_own : IsOwn slot
  pub same : capability_at a slot ≡ capability_at b slot
  pub inside : is_among own (capability_at a slot) ≡ true

abbrev FindsOwn : (ℕ → Type 0) → Found → Type 0
FindsOwn IsOwn (Ok found) = IsOwn found.0
FindsOwn IsOwn (Err failure) = Unit {0}

pub record GoesSame (IsOwn : ℕ → Type 0) (one other : Found) : Type 0 where
  pub result : one ≡ other
  pub finds : FindsOwn IsOwn one

-- what is found is an own slot
pub found-own : (IsOwn : ℕ → Type 0) (one : Found) (found : ℕ × ℕ) → FindsOwn IsOwn one → one ≡ Ok found → IsOwn found.0
found-own IsOwn one found finds is = subst (λ (r : Found). FindsOwn IsOwn r) is finds

module _ (a b : Slots) (own : ℕ → ℕ → Bool) (IsOwn : ℕ → Type 0)
    (each : (offset radix index : ℕ) → own offset radix ≡ true → index < 2 ^ radix → HoldsSame a b own IsOwn (offset / 16 + index)) (address : ℕ) where
  abbrev in_a : ℕ → Cap → ℕ → Found
  in_a n held left = lookup_within n a held address left

  abbrev in_b : ℕ → Cap → ℕ → Found
  in_b n held left = lookup_within n b held address left

  -- after a CNode
  goes-on : (n offset : ℕ) (place : ℕ × ℕ) → HoldsSame a b own IsOwn (offset / 16 + place.0)
      → GoesSame IsOwn (in_a n (capability_at a (offset / 16 + place.0)) place.1) (in_b n (capability_at a (offset / 16 + place.0)) place.1)
      → GoesSame IsOwn (go_on a offset (in_a n) (Ok place)) (go_on b offset (in_b n) (Ok place))
  goes-on n offset place holds behind =
      let slot = offset / 16 + place.0 in
      let held = capability_at a slot in
      let ends = place.1 == 0 || not (is_cnode held) in
      record {
        result = ap (λ (found : Found). if ends then Ok (slot, place.1) else found) behind.result
            ∙ ap (λ (other : Cap). if place.1 == 0 || not (is_cnode other) then Ok (slot, place.1) else in_b n other place.1) holds.same;
        finds = elim ends as (λ b. FindsOwn IsOwn (if b then Ok (slot, place.1) else in_a n held place.1)) [ true ↦ holds.is_own | false ↦ behind.finds ];
      }

  through : (n offset radix : ℕ) (found : Found) → own offset radix ≡ true → IsIndexIn radix found
      → ((held : Cap) (left : ℕ) → is_among own held ≡ true → GoesSame IsOwn (in_a n held left) (in_b n held left))
      → GoesSame IsOwn (go_on a offset (in_a n) found) (go_on b offset (in_b n) found)
  through n offset radix (Err failure) mine index behind = record { result = refl; finds = tt }
  through n offset radix (Ok place) mine index behind =
      let holds = each offset radix place.0 mine index in
      goes-on n offset place holds (behind (capability_at a (offset / 16 + place.0)) place.1 holds.inside)

  pub goes-same : (n : ℕ) (root : Cap) (left : ℕ) → is_among own root ≡ true → GoesSame IsOwn (in_a n root left) (in_b n root left)
  unfolding lookup_within
  goes-same zero root left mine = record { result = refl; finds = tt }
  goes-same (suc n) Empty left mine = record { result = refl; finds = tt }
  goes-same (suc n) (Untyped _ _ _) left mine = record { result = refl; finds = tt }
  goes-same (suc n) (Endpoint _ _ _) left mine = record { result = refl; finds = tt }
  goes-same (suc n) (Notification _ _ _) left mine = record { result = refl; finds = tt }
  goes-same (suc n) (CNode offset radix guard) left mine = through n offset radix (resolve radix guard address left) mine (index-below radix guard address left)
      (goes-same n)
  goes-same (suc n) (Frame _ _ _) left mine = record { result = refl; finds = tt }
  goes-same (suc n) (PageTable _ _) left mine = record { result = refl; finds = tt }
  goes-same (suc n) (Tcb _) left mine = record { result = refl; finds = tt }
  goes-same (suc n) (RootTable _) left mine = record { result = refl; finds = tt }
  goes-same (suc n) InterruptControl left mine = record { result = refl; finds = tt }
  goes-same (suc n) (InterruptHandler _) left mine = record { result = refl; finds = tt }
