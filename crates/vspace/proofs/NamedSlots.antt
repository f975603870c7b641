-- Going over the slots that name an object, each of them once, while what they hold changes.
use Rattle.std.proofs.Common.{ℕ, ◌≡◌, ◌≢◌, ◌∙◌, ◌+◌, ◌<◌, ◌≤◌, inl, inr, Bool, true, false, not, if◌then◌else◌, Option, Some, None, List, [], ◌∷◌, filter}
use Rattle.std.proofs.Common.{length, refl, sym, ap, subst, arith}
use Rattle.std.proofs.lemmas.Bool.{ne_eqb}
use Rattle.std.proofs.lemmas.Bool.Decides.{eqb_tells}
use Rattle.model.specs.Capabilities.CapabilityKinds.{names_object}
use Rattle.model.specs.Capabilities.Orders.{IsOrderOf, next_in}
use Rattle.model.specs.Capabilities.Slots.{Slots, capability_at, is_empty, is_full}
use Rattle.model.specs.Shared.Lists.{times_in}
use Rattle.model.specs.declared.capabilities.Cap.{Cap}
use Rattle.model.specs.declared.capabilities.Cap.TheVariants.{Empty, Untyped, Endpoint, Notification, CNode, Frame, PageTable, Tcb, RootTable, InterruptControl}
use Rattle.model.specs.declared.capabilities.Cap.TheVariants.{InterruptHandler}
use Rattle.model.proofs.Orders.{after-behind, behind, behind-step, behind_slot, first-none, first-some, times-filter}
use Rattle.slots.specs.Listed.{is_naming, naming}

-- how far a walk has come over the slots that name an object: what the slots hold that it has passed fails a test
pub record NamedSoFar (test : Cap → Bool) (order : List ℕ) (now : Slots) (object : ℕ) (at : Option ℕ) : Type 0 where
  pub known : (slot : ℕ) → at ≡ Some slot → is_naming now object slot ≡ true
  pub passed : (y : ℕ) → 1 ≤ times_in (naming order now object) y → times_in (behind (naming order now object) at) y ≡ 0 → test (capability_at now y) ≡ false

-- ---- a list that has nothing twice

-- no slot comes after itself
behind-own : (list : List ℕ) (slot : ℕ) → times_in list slot ≤ 1 → times_in (behind_slot list slot) slot ≡ 0
behind-own [] slot once = refl
behind-own (s ∷ rest) slot once = elim (eqb_tells s slot) [
  | inl here ↦
      ap (λ (b : Bool). times_in (if b then rest else behind_slot rest slot) slot) here.0
      ∙ omega (arith, once, ap (λ (b : Bool). if b then times_in rest slot + 1 else times_in rest slot) here.0)
  | inr other ↦
      ap (λ (b : Bool). times_in (if b then rest else behind_slot rest slot) slot) other.0
      ∙ behind-own rest slot (omega (arith, once, ap (λ (b : Bool). if b then times_in rest slot + 1 else times_in rest slot) other.0))
]

module _ (list : List ℕ) (once : (y : ℕ) → times_in list y ≤ 1) (at : Option ℕ) (slot : ℕ) (is : Some slot ≡ next_in list at) where
  first : (rest : List ℕ) × (behind list at ≡ slot ∷ rest)
  first = first-some (behind list at) slot (sym (after-behind list at) ∙ sym is)

  rest-is : behind list (Some slot) ≡ first.0
  rest-is = behind-step list at slot first.0 once first.1

  -- each step leaves fewer, and passes one slot alone
  fewer-left : length (behind list (Some slot)) < length (behind list at)
  fewer-left = omega (arith, ap length rest-is, ap length first.1)

  others-left : (y : ℕ) → slot ≢ y → times_in (behind list (Some slot)) y ≡ times_in (behind list at) y
  others-left y other =
      ap (λ (l : List ℕ). times_in l y) rest-is
      ∙ sym (ap (λ (l : List ℕ). times_in l y) first.1 ∙ ap (λ (b : Bool). if b then times_in first.0 y + 1 else times_in first.0 y) (ne_eqb slot y other))

-- where no next slot is none is left
none-left : (list : List ℕ) (at : Option ℕ) → None ≡ next_in list at → (y : ℕ) → times_in (behind list at) y ≡ 0
none-left list at is y = ap (λ (l : List ℕ). times_in l y) (first-none (behind list at) (sym (after-behind list at) ∙ sym is))

-- ---- the slots that name an object

pub named-full : (object : ℕ) (c : Cap) → names_object object c ≡ true → not (is_empty c) ≡ true
named-full object Empty names = absurd (let clash : false ≡ true = names in cc)
named-full object (Untyped _ _ _) names = refl
named-full object (Endpoint _ _ _) names = refl
named-full object (Notification _ _ _) names = refl
named-full object (CNode _ _ _) names = refl
named-full object (Frame _ _ _) names = refl
named-full object (PageTable _ _) names = refl
named-full object (Tcb _) names = refl
named-full object (RootTable _) names = refl
named-full object InterruptControl names = refl
named-full object (InterruptHandler _) names = refl

-- no slot has been passed
pub named-first : (test : Cap → Bool) (order : List ℕ) (now : Slots) (object : ℕ) → NamedSoFar test order now object None
named-first test order now object = record {
  known = λ slot is. absurd (let clash : None ≡ Some slot = is in cc);
  passed = λ y there none. absurd (omega (arith, there, none));
}

module _ (order : List ℕ) (now : Slots) (object : ℕ) (lists : IsOrderOf order now) where
  order-once : (y : ℕ) → times_in order y ≤ 1
  order-once y = omega (arith, lists y, elim (is_full now y) as (λ b. (if b then 1 else 0) ≤ 1) [ true ↦ omega arith | false ↦ omega arith ])

  named-once : (y : ℕ) → times_in (naming order now object) y ≤ 1
  named-once y =
      let few : (if is_naming now object y then times_in order y else 0) ≤ 1 =
      elim (is_naming now object y) as (λ b. (if b then times_in order y else 0) ≤ 1) [ true ↦ order-once y | false ↦ omega arith ] in
      omega (arith, times-filter (is_naming now object) order y, few)

  named-listed : (y : ℕ) → is_naming now object y ≡ true → 1 ≤ times_in (naming order now object) y
  named-listed y names =
      let full : is_full now y ≡ true = named-full object (capability_at now y) names in
      let one : times_in order y ≡ 1 = lists y ∙ ap (λ b. if b then 1 else 0) full in
      omega (arith, times-filter (is_naming now object) order y ∙ ap (λ b. if b then times_in order y else 0) names ∙ one)

  module _ (test : Cap → Bool) (at : Option ℕ) (so_far : NamedSoFar test order now object at) where
    -- where there is no next one all have been passed
    pub named-last : None ≡ next_in (naming order now object) at → (y : ℕ) → is_naming now object y ≡ true → test (capability_at now y) ≡ false
    named-last is y names = so_far.passed y (named-listed y names) (none-left (naming order now object) at is y)

    module _ (slot : ℕ) (is : Some slot ≡ next_in (naming order now object) at) (next : Slots)
        (same : (y : ℕ) → is_naming next object y ≡ is_naming now object y) where
      list-same : naming order next object ≡ naming order now object
      list-same = ap (λ (part : ℕ → Bool). filter part order) (λ i y. same y i)

      pub named-fewer : length (behind (naming order next object) (Some slot)) < length (behind (naming order now object) at)
      named-fewer = omega (arith, ap (λ (l : List ℕ). length (behind l (Some slot))) list-same, fewer-left (naming order now object) named-once at slot is)

      -- one slot more has been passed
      pub named-next : is_naming now object slot ≡ true → ((y : ℕ) → test (capability_at now y) ≡ false → test (capability_at next y) ≡ false) →
          test (capability_at next slot) ≡ false
          → NamedSoFar test order next object (Some slot)
      named-next names kept here = record {
        known = λ other same_slot. let there : slot ≡ other = cc in subst (λ (n : ℕ). is_naming next object n ≡ true) there (same slot ∙ names);
        passed = λ y there none. elim (eqb_tells slot y) [
          | inl own ↦ subst (λ (n : ℕ). test (capability_at next n) ≡ false) own.1 here
          | inr other ↦ kept y (so_far.passed y
              (omega (arith, there, ap (λ (l : List ℕ). times_in l y) list-same))
              (sym (others-left (naming order now object) named-once at slot is y other.1)
              ∙ sym (ap (λ (l : List ℕ). times_in (behind l (Some slot)) y) list-same) ∙ none))
        ];
      }
