-- A system call's lookup goes the same way in two maps of slots that hold the same in all CNodes that it comes to.
use Rattle.std.proofs.Common.{ℕ, zero, suc, ◌≡◌, ◌∙◌, ◌==◌, ◌+◌, ◌/◌, ◌^◌, ◌<◌, ◌||◌, Bool, true, false, not, if◌then◌else◌, Result, Ok, Err, refl, ap}
use Rattle.model.specs.Capabilities.Lookup.{called, called_slot, go_on, is_cnode, lookup, lookup_within, resolve}
use Rattle.model.specs.Capabilities.Slots.{Slots, capability_at, is_empty, is_full}
use Rattle.typestate.specs.Spaces.{is_among}
use Rattle.model.specs.declared.capabilities.Cap.{Cap}
use Rattle.model.specs.declared.capabilities.Cap.TheVariants.{Empty, Untyped, Endpoint, Notification, CNode, Frame, PageTable, Tcb, RootTable, InterruptControl}
use Rattle.model.specs.declared.capabilities.Cap.TheVariants.{InterruptHandler}
use Rattle.model.specs.declared.lookup_failures.LookupFailure.{LookupFailure}
use Rattle.model.specs.declared.lookup_failures.LookupFailure.TheVariants.{MissingCapability}
use Rattle.typestate.proofs.Laws.{index-below}

-- In the CNodes of these places both maps hold the same, and no capability leads to another CNode.
pub record AgreeInside (s t : Slots) (own : ℕ → ℕ → Bool) : Type 0 where
  pub same : (offset radix index : ℕ) → own offset radix ≡ true → index < 2 ^ radix
      → capability_at s (offset / 16 + index) ≡ capability_at t (offset / 16 + index)
  pub inside : (offset radix index : ℕ) → own offset radix ≡ true → index < 2 ^ radix
      → is_among own (capability_at s (offset / 16 + index)) ≡ true

-- the index that a CNode resolves is one of its slots
abbrev pub IsIndexIn : ℕ → Result (ℕ × ℕ) LookupFailure → Type 0
IsIndexIn radix (Ok place) = place.0 < 2 ^ radix
IsIndexIn radix (Err failure) = Unit {0}

-- what is found holds the same in both maps
abbrev pub FindsSame : Slots → Slots → Result (ℕ × ℕ) LookupFailure → Type 0
FindsSame s t (Ok found) = capability_at s found.0 ≡ capability_at t found.0
FindsSame s t (Err failure) = Unit {0}

pub record GoesSame (s t : Slots) (a b : Result (ℕ × ℕ) LookupFailure) : Type 0 where
  pub result : a ≡ b
  pub finds : FindsSame s t a

module _ (s t : Slots) (own : ℕ → ℕ → Bool) (agree : AgreeInside s t own) (address : ℕ) where
  goes-on : (n offset : ℕ) (place : ℕ × ℕ) → capability_at s (offset / 16 + place.0) ≡ capability_at t (offset / 16 + place.0)
      → GoesSame s t (lookup_within n s (capability_at s (offset / 16 + place.0)) address place.1)
      (lookup_within n t (capability_at s (offset / 16 + place.0)) address place.1)
      → GoesSame s t (go_on s offset (λ held rest. lookup_within n s held address rest) (Ok place))
      (go_on t offset (λ held rest. lookup_within n t held address rest) (Ok place))
  goes-on n offset place same behind =
      let slot = offset / 16 + place.0 in
      let held = capability_at s slot in
      let further : (if place.1 == 0 || not (is_cnode held) then Ok (slot, place.1) else lookup_within n t held address place.1) ≡ go_on t offset
      (λ other rest. lookup_within n t other address rest) (Ok place)
      = ap (λ (other : Cap). if place.1 == 0 || not (is_cnode other) then Ok (slot, place.1) else lookup_within n t other address place.1) same in
      record {
        result = ap (λ (found : Result (ℕ × ℕ) LookupFailure). if place.1 == 0 || not (is_cnode held) then Ok (slot, place.1) else found) behind.result
            ∙ further;
        finds = elim (place.1 == 0 || not (is_cnode held)) as (λ b. FindsSame s t (if b then Ok (slot, place.1) else lookup_within n s held address place.1))
            [ true ↦ same | false ↦ behind.finds ];
      }

  resolved-same : (n offset radix : ℕ) (found : Result (ℕ × ℕ) LookupFailure) → own offset radix ≡ true → IsIndexIn radix found
      → ((held : Cap) (left : ℕ) → is_among own held ≡ true → GoesSame s t (lookup_within n s held address left) (lookup_within n t held address left))
      → GoesSame s t (go_on s offset (λ held rest. lookup_within n s held address rest) found)
      (go_on t offset (λ held rest. lookup_within n t held address rest) found)
  resolved-same n offset radix (Err failure) mine index behind = record { result = refl; finds = tt }
  resolved-same n offset radix (Ok place) mine index behind =
      goes-on n offset place (agree.same offset radix place.0 mine index)
      (behind (capability_at s (offset / 16 + place.0)) place.1 (agree.inside offset radix place.0 mine index))

  pub looks-same : (n : ℕ) (root : Cap) (left : ℕ) → is_among own root ≡ true →
      GoesSame s t (lookup_within n s root address left) (lookup_within n t root address left)
  unfolding lookup_within
  looks-same zero root left mine = record { result = refl; finds = tt }
  looks-same (suc n) Empty left mine = record { result = refl; finds = tt }
  looks-same (suc n) (Untyped _ _ _) left mine = record { result = refl; finds = tt }
  looks-same (suc n) (Endpoint _ _ _) left mine = record { result = refl; finds = tt }
  looks-same (suc n) (Notification _ _ _) left mine = record { result = refl; finds = tt }
  looks-same (suc n) (CNode offset radix guard) left mine =
      resolved-same n offset radix (resolve radix guard address left) mine (index-below radix guard address left) (looks-same n)
  looks-same (suc n) (Frame _ _ _) left mine = record { result = refl; finds = tt }
  looks-same (suc n) (PageTable _ _) left mine = record { result = refl; finds = tt }
  looks-same (suc n) (Tcb _) left mine = record { result = refl; finds = tt }
  looks-same (suc n) (RootTable _) left mine = record { result = refl; finds = tt }
  looks-same (suc n) InterruptControl left mine = record { result = refl; finds = tt }
  looks-same (suc n) (InterruptHandler _) left mine = record { result = refl; finds = tt }

-- ---- the slot that a system call names

abbrev pub CallsSame : Slots → Slots → Result ℕ LookupFailure → Type 0
CallsSame s t (Ok slot) = capability_at s slot ≡ capability_at t slot
CallsSame s t (Err failure) = Unit {0}

called-same : (s t : Slots) (found : Result (ℕ × ℕ) LookupFailure) → FindsSame s t found → called s found ≡ called t found
called-same s t (Ok found) same = ap (λ (held : Cap). if not (is_empty held) then Ok found.0 else Err MissingCapability) same
called-same s t (Err failure) same = refl

called-finds : (s t : Slots) (found : Result (ℕ × ℕ) LookupFailure) → FindsSame s t found → CallsSame s t (called s found)
called-finds s t (Ok found) same = elim (is_full s found.0) as (λ b. CallsSame s t (if b then Ok found.0 else Err MissingCapability))
    [ true ↦ same | false ↦ tt ]
called-finds s t (Err failure) same = tt

pub called-slot-same : (s t : Slots) (own : ℕ → ℕ → Bool) → AgreeInside s t own → (root : Cap) (address : ℕ) → is_among own root ≡ true
    → (called_slot s root address ≡ called_slot t root address) × CallsSame s t (called_slot s root address)
called-slot-same s t own agree root address mine =
    let goes = looks-same s t own agree address 33 root 32 mine in
    (called-same s t (lookup s root address 32) goes.finds ∙ ap (called t) goes.result, called-finds s t (lookup s root address 32) goes.finds)
