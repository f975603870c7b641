-- Going over a list of slots, each of them once.
use Rattle.std.proofs.Common.{ℕ, ◌≡◌, ◌≢◌, ◌∙◌, ◌+◌, ◌<◌, ◌≤◌, Bool, true, false, not, if◌then◌else◌, Option, Some, None, List, [], ◌∷◌, length, refl, sym, ap}
use Rattle.std.proofs.Common.{subst, arith}
use Rattle.std.proofs.lemmas.Bool.{ne_eqb}
use Rattle.cnode_ops.specs.Listed.{Lists}
use Rattle.model.specs.Capabilities.Orders.{next_in}
use Rattle.model.specs.Capabilities.Slots.{Slots, capability_at, is_empty, is_full}
use Rattle.model.specs.declared.capabilities.Cap.{Cap}
use Rattle.model.specs.declared.capabilities.Cap.TheVariants.{Empty, Untyped, Endpoint, Notification, CNode, Frame, PageTable, Tcb, RootTable, InterruptControl}
use Rattle.model.specs.declared.capabilities.Cap.TheVariants.{InterruptHandler}
use Rattle.model.specs.Shared.Lists.{times_in}
use Rattle.model.proofs.Orders.{after-behind, behind, behind-step, first-none, first-some, times-behind}

-- who is listed and passes a test is after a slot, if the list is one of those
abbrev pub AreBehind : List ℕ → (ℕ → Bool) → (ℕ → Bool) → Option ℕ → Type 0
AreBehind list member test at = Lists list member → (slot : ℕ) → member slot ≡ true → test slot ≡ true → 1 ≤ times_in (behind list at) slot

pub behind-first : (list : List ℕ) (member test : ℕ → Bool) → AreBehind list member test None
behind-first list member test lists slot is passes = omega (arith, lists slot ∙ ap (λ b. if b then 1 else 0) is)

module _ (list : List ℕ) (member : ℕ → Bool) (lists : Lists list member) where
  once : (slot : ℕ) → times_in list slot ≤ 1
  once slot = omega (arith, lists slot, elim (member slot) as (λ b. (if b then 1 else 0) ≤ 1) [ true ↦ omega arith | false ↦ omega arith ])

  pub found-member : (at : Option ℕ) (slot : ℕ) → Some slot ≡ next_in list at → member slot ≡ true
  found-member at slot is =
      let found = first-some _ slot (sym (after-behind list at) ∙ sym is) in
      let listed = times-behind list at slot found.0 found.1 in
      elim (member slot) as (λ b. member slot ≡ b → member slot ≡ true) [
        | true ↦ λ yes. yes
        | false ↦ λ no. absurd (omega (arith, listed, lists slot ∙ ap (λ b. if b then 1 else 0) no))
      ] refl

  -- each step leaves fewer
  pub fewer-behind : (at : Option ℕ) (slot : ℕ) → Some slot ≡ next_in list at → length (behind list (Some slot)) < length (behind list at)
  fewer-behind at slot is =
      let found = first-some _ slot (sym (after-behind list at) ∙ sym is) in
      omega (arith, ap length (behind-step list at slot found.0 once found.1), ap length found.1)

  -- a slot that does not pass is passed by
  pub behind-next : (test : ℕ → Bool) (at : Option ℕ) (slot : ℕ) → AreBehind list member test at → Some slot ≡ next_in list at → test slot ≡ false →
      AreBehind list member test (Some slot)
  behind-next test at slot before is fails listed y inside passes =
      let found = first-some _ slot (sym (after-behind list at) ∙ sym is) in
      let other : slot ≢ y = λ same. absurd (let clash : false ≡ true = sym fails ∙ ap test same ∙ passes in cc) in
      let late : 1 ≤ times_in (slot ∷ found.0) y = subst (λ (l : List ℕ). 1 ≤ times_in l y) found.1 (before lists y inside passes) in
      let less : 1 ≤ times_in found.0 y = subst (λ (b : Bool). 1 ≤ (if b then times_in found.0 y + 1 else times_in found.0 y)) (ne_eqb slot y other) late in
      subst (λ (l : List ℕ). 1 ≤ times_in l y) (sym (behind-step list at slot found.0 once found.1)) less

  -- none passes where nothing is left
  pub none-left : (test : ℕ → Bool) (at : Option ℕ) → AreBehind list member test at → None ≡ next_in list at → (slot : ℕ) → member slot ≡ true →
      test slot ≡ false
  none-left test at before is slot inside =
      let empty : behind list at ≡ [] = first-none _ (sym (after-behind list at) ∙ sym is) in
      elim (test slot) as (λ b. test slot ≡ b → b ≡ false) [
        | true ↦ λ passes. absurd (omega (arith, before lists slot inside passes, ap (λ l. times_in l slot) empty))
        | false ↦ λ fails. refl
      ] refl

  pub none-passes : (test : ℕ → Bool) (at : Option ℕ) → AreBehind list member test at → None ≡ next_in list at →
      ((slot : ℕ) → test slot ≡ true → member slot ≡ true) → (slot : ℕ) → test slot ≡ false
  none-passes test at before is inside slot = elim (test slot) as (λ b. test slot ≡ b → b ≡ false) [
    | true ↦ λ passes. absurd (let clash : true ≡ false = sym passes ∙ none-left test at before is slot (inside slot passes) in cc)
    | false ↦ λ fails. refl
  ] refl

pub same-number : (n m : ℕ) → Some n ≡ Some m → n ≡ m
same-number n m is = cc

-- no slot is the last one before the first
pub before-first : (P : ℕ → Type 0) (slot : ℕ) → None ≡ Some slot → P slot
before-first P slot is = absurd (let clash : None ≡ Some slot = is in cc)

pub last-found : (P : ℕ → Type 0) (found slot : ℕ) → P found → Some found ≡ Some slot → P slot
last-found P found slot holds is = subst P (same-number found slot is) holds

-- what passes a test that no empty capability passes is full
filled : (test : Cap → Bool) → test Empty ≡ false → (c : Cap) → test c ≡ true → not (is_empty c) ≡ true
filled test none Empty is = absurd (let clash : false ≡ true = sym none ∙ is in cc)
filled test none (Untyped f b w) is = refl
filled test none (Endpoint f r b) is = refl
filled test none (Notification f r b) is = refl
filled test none (CNode f radix g) is = refl
filled test none (Frame f r m) is = refl
filled test none (PageTable f m) is = refl
filled test none (Tcb f) is = refl
filled test none (RootTable f) is = refl
filled test none InterruptControl is = refl
filled test none (InterruptHandler line) is = refl

pub passes-full : (slots : Slots) (test : Cap → Bool) → test Empty ≡ false → (slot : ℕ) → test (capability_at slots slot) ≡ true → is_full slots slot ≡ true
passes-full slots test none slot is = filled test none (capability_at slots slot) is
