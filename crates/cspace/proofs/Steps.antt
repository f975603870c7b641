-- One CNode of a lookup.
use Rattle.std.proofs.Common.{ℕ, zero, suc, ◌≡◌, ◌∙◌, ◌==◌, ◌+◌, ◌/◌, ◌<◌, ◌||◌, true, false, not, Result, Ok, Err, refl, sym, ap, arith}
use Rattle.model.specs.Capabilities.Slots.{Slots, capability_at}
use Rattle.model.specs.Capabilities.Lookup.{resolve, is_cnode, go_on, lookup_within}
use Rattle.model.specs.declared.capabilities.Cap.{Cap}
use Rattle.model.specs.declared.capabilities.Cap.TheVariants.{Empty, Untyped, Endpoint, Notification, CNode, Frame, PageTable, Tcb, RootTable, InterruptControl}
use Rattle.model.specs.declared.capabilities.Cap.TheVariants.{InterruptHandler}
use Rattle.model.specs.declared.lookup_failures.LookupFailure.{LookupFailure}
use Rattle.model.specs.declared.lookup_failures.LookupFailure.TheVariants.{InvalidRoot}

-- a root that is no CNode
pub lookup-no_cnode : (n : ℕ) (slots : Slots) (held : Cap) (address left : ℕ) (whole : Result (ℕ × ℕ) LookupFailure) → left < n →
    ((offset radix guard_word : ℕ) → held ≡ CNode offset radix guard_word → ⊥) → lookup_within n slots held address left ≡ whole → whole ≡ Err InvalidRoot
unfolding lookup_within
lookup-no_cnode zero slots held address left whole less other is = absurd (omega arith)
lookup-no_cnode (suc n) slots Empty address left whole less other is = sym is
lookup-no_cnode (suc n) slots (Untyped _ _ _) address left whole less other is = sym is
lookup-no_cnode (suc n) slots (Endpoint _ _ _) address left whole less other is = sym is
lookup-no_cnode (suc n) slots (Notification _ _ _) address left whole less other is = sym is
lookup-no_cnode (suc n) slots (CNode offset radix guard_word) address left whole less other is = absurd (other offset radix guard_word refl)
lookup-no_cnode (suc n) slots (Frame _ _ _) address left whole less other is = sym is
lookup-no_cnode (suc n) slots (PageTable _ _) address left whole less other is = sym is
lookup-no_cnode (suc n) slots (Tcb _) address left whole less other is = sym is
lookup-no_cnode (suc n) slots (RootTable _) address left whole less other is = sym is
lookup-no_cnode (suc n) slots InterruptControl address left whole less other is = sym is
lookup-no_cnode (suc n) slots (InterruptHandler _) address left whole less other is = sym is

-- a CNode that does not resolve
pub lookup-fails : (n : ℕ) (slots : Slots) (offset radix guard_word address left : ℕ) (whole : Result (ℕ × ℕ) LookupFailure) (failure : LookupFailure) →
    left < n → lookup_within n slots (CNode offset radix guard_word) address left ≡ whole → resolve radix guard_word address left ≡ Err failure →
    whole ≡ Err failure
unfolding lookup_within
lookup-fails zero slots offset radix guard_word address left whole failure less is resolved = absurd (omega arith)
lookup-fails (suc n) slots offset radix guard_word address left whole failure less is resolved =
    sym is ∙ ap (go_on slots offset (λ held rest. lookup_within n slots held address rest)) resolved

-- after a CNode, what the lookup gives
lookup-behind : (n : ℕ) (slots : Slots) (offset radix guard_word address left : ℕ) (whole : Result (ℕ × ℕ) LookupFailure) (index rest : ℕ) →
    lookup_within (suc n) slots (CNode offset radix guard_word) address left ≡ whole → resolve radix guard_word address left ≡ Ok (index, rest) →
    go_on slots offset (λ held more. lookup_within n slots held address more) (Ok (index, rest)) ≡ whole
unfolding lookup_within
lookup-behind n slots offset radix guard_word address left whole index rest is resolved =
    sym (ap (go_on slots offset (λ held more. lookup_within n slots held address more)) resolved) ∙ is

-- it ends with the slot
pub lookup-ends : (n : ℕ) (slots : Slots) (offset radix guard_word address left : ℕ) (whole : Result (ℕ × ℕ) LookupFailure) (index rest : ℕ) → left < n →
    lookup_within n slots (CNode offset radix guard_word) address left ≡ whole → resolve radix guard_word address left ≡ Ok (index, rest) →
    (rest == 0 || not (is_cnode (capability_at slots (offset / 16 + index)))) ≡ true → whole ≡ Ok (offset / 16 + index, rest)
lookup-ends zero slots offset radix guard_word address left whole index rest less is resolved ends = absurd (omega arith)
lookup-ends (suc n) slots offset radix guard_word address left whole index rest less is resolved ends =
    let e = lookup-behind n slots offset radix guard_word address left whole index rest is resolved in
    sym (rw ends at e)

-- or goes on
pub lookup-goes_on : (n : ℕ) (slots : Slots) (offset radix guard_word address left : ℕ) (whole : Result (ℕ × ℕ) LookupFailure) (index rest : ℕ) → left < n →
    rest < left → lookup_within n slots (CNode offset radix guard_word) address left ≡ whole → resolve radix guard_word address left ≡ Ok (index, rest) →
    (rest == 0 || not (is_cnode (capability_at slots (offset / 16 + index)))) ≡ false → (m : ℕ) × (rest < m)
    × (lookup_within m slots (capability_at slots (offset / 16 + index)) address rest ≡ whole)
lookup-goes_on zero slots offset radix guard_word address left whole index rest less fewer is resolved more = absurd (omega arith)
lookup-goes_on (suc n) slots offset radix guard_word address left whole index rest less fewer is resolved more =
    let e = lookup-behind n slots offset radix guard_word address left whole index rest is resolved in
    (n, omega arith, rw more at e)
