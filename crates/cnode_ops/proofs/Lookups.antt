-- The slots that names lead to are open where all CNodes have their slots.
use Rattle.std.proofs.Common.{ℕ, zero, suc, ◌≡◌, ◌∙◌, is_some, ◌==◌, ◌+◌, ◌-◌, ◌/◌, ◌%◌, ◌^◌, ◌<◌, ◌&&◌, ◌||◌, Bool, true, false, not, Option, Some, None}
use Rattle.std.proofs.Common.{Result, Ok, Err, refl, sym, ap, subst, arith}
use Rattle.std.specs.Prelude.{if◌then◌else◌, nat_le, nat_lt}
use Rattle.std.proofs.lemmas.Nat.{pow_pos}
use Rattle.model.specs.Capabilities.Lookup.{go_on, is_cnode, lookup, lookup_within, resolve}
use Rattle.model.specs.Capabilities.Slots.{IsDerivation, IsOpen, Slots, capability_at, empty_entry, is_empty}
use Rattle.model.specs.Kernel.Arguments.{◌>>=◌, argument_slot, check, destination_slot, whole}
use Rattle.model.specs.declared.capabilities.Cap.{Cap}
use Rattle.model.specs.declared.capabilities.Cap.TheVariants.{Empty, Untyped, Endpoint, Notification, CNode, Frame, PageTable, Tcb, RootTable, InterruptControl}
use Rattle.model.specs.declared.capabilities.Cap.TheVariants.{InterruptHandler}
use Rattle.model.specs.declared.errors.KError.{KError}
use Rattle.model.specs.declared.errors.KError.TheVariants.{DeleteFirst, FailedLookup, RangeError}
use Rattle.model.specs.declared.invocations.SlotName.{SlotName}
use Rattle.model.specs.declared.lookup_failures.LookupFailure.{LookupFailure}
use Rattle.model.specs.declared.lookup_failures.LookupFailure.TheVariants.{DepthMismatch, GuardMismatch}
use Rattle.model.specs.declared.slot_entries.Entry.{Entry}
use Rattle.model.proofs.SlotChanges.{capability_of, parent_of}
use Rattle.cnode_ops.specs.Nodes.{CNodesAreOpen, HasOpenSlots}

-- ---- one CNode

-- what is answered after three tests is answered at the end
third-index : (a b c : Bool) (e f g : LookupFailure) (index rest bound : ℕ) (place : ℕ × ℕ) → index < bound →
    (if a then Err e else if b then Err f else if c then Err g else Ok (index, rest)) ≡ Ok place → place.0 < bound
third-index true b c e f g index rest bound place less is = absurd (cc)
third-index false true c e f g index rest bound place less is = absurd (cc)
third-index false false true e f g index rest bound place less is = absurd (cc)
third-index false false false e f g index rest bound place less is =
    let same : (index, rest) ≡ place = cc in subst (λ (p : ℕ × ℕ). p.0 < bound) same less

resolved-index : (radix guard_word address left : ℕ) (place : ℕ × ℕ) → resolve radix guard_word address left ≡ Ok place → place.0 < 2 ^ radix
resolved-index radix guard_word address left place is =
    let size = guard_word % 2 ^ 5 in
    let rest = left - (size + radix) in
    let positive = pow_pos radix in
    third-index (nat_lt left size) (not (address / 2 ^ (left - size) % 2 ^ size == guard_word / 2 ^ 5)) (nat_lt left (size + radix)) (GuardMismatch left)
    (GuardMismatch left) (DepthMismatch left)
    (address / 2 ^ rest % 2 ^ radix) rest (2 ^ radix) place (omega (arith, positive)) is

-- after a CNode the lookup ends at an open slot, or goes on
step-open : (slots : Slots) (offset : ℕ) (next : Cap → ℕ → Result (ℕ × ℕ) LookupFailure) (place : Result (ℕ × ℕ) LookupFailure) (found : ℕ × ℕ) →
    CNodesAreOpen slots → ((p : ℕ × ℕ) → place ≡ Ok p → IsOpen slots (offset / 16 + p.0)) →
    ((held : Cap) (rest : ℕ) → HasOpenSlots slots held → next held rest ≡ Ok found → IsOpen slots found.0) → go_on slots offset next place ≡ Ok found →
    IsOpen slots found.0
step-open slots offset next (Err failure) found nodes inside on is = absurd (cc)
step-open slots offset next (Ok p) found nodes inside on is =
    elim (p.1 == 0 || not (is_cnode (capability_at slots (offset / 16 + p.0))))
    as (λ b. (if b then Ok (offset / 16 + p.0, p.1) else next (capability_at slots (offset / 16 + p.0)) p.1) ≡ Ok found → IsOpen slots found.0) [
      | true ↦ λ e. let same : (offset / 16 + p.0, p.1) ≡ found = cc in subst (λ (f : ℕ × ℕ). IsOpen slots f.0) same (inside p refl)
      | false ↦ λ e. on _ _ (nodes.nodes (offset / 16 + p.0)) e
    ] is

-- ---- the whole lookup

lookup-open : (n : ℕ) (slots : Slots) (root : Cap) (address left : ℕ) (found : ℕ × ℕ) → CNodesAreOpen slots → HasOpenSlots slots root →
    lookup_within n slots root address left ≡ Ok found → IsOpen slots found.0
unfolding lookup_within
lookup-open zero slots root address left found nodes here is = absurd (cc)
lookup-open (suc n) slots Empty address left found nodes here is = absurd (cc)
lookup-open (suc n) slots (Untyped _ _ _) address left found nodes here is = absurd (cc)
lookup-open (suc n) slots (Endpoint _ _ _) address left found nodes here is = absurd (cc)
lookup-open (suc n) slots (Notification _ _ _) address left found nodes here is = absurd (cc)
lookup-open (suc n) slots (CNode offset radix guard_word) address left found nodes here is =
    step-open slots offset (λ held rest. lookup_within n slots held address rest) (resolve radix guard_word address left) found nodes
    (λ p e. here.each offset radix guard_word p.0 refl (resolved-index radix guard_word address left p e))
    (λ held rest next e. lookup-open n slots held address rest found nodes next e) is
lookup-open (suc n) slots (Frame _ _ _) address left found nodes here is = absurd (cc)
lookup-open (suc n) slots (PageTable _ _) address left found nodes here is = absurd (cc)
lookup-open (suc n) slots (Tcb _) address left found nodes here is = absurd (cc)
lookup-open (suc n) slots (RootTable _) address left found nodes here is = absurd (cc)
lookup-open (suc n) slots InterruptControl address left found nodes here is = absurd (cc)
lookup-open (suc n) slots (InterruptHandler _) address left found nodes here is = absurd (cc)

-- ---- names

whole-open : (slots : Slots) (answer : Result (ℕ × ℕ) LookupFailure) (slot : ℕ) → ((found : ℕ × ℕ) → answer ≡ Ok found → IsOpen slots found.0) →
    whole answer ≡ Ok slot → IsOpen slots slot
whole-open slots (Err failure) slot is_open is = absurd (cc)
whole-open slots (Ok found) slot is_open is =
    elim (found.1 == 0) as (λ b. (if b then Ok found.0 else Err FailedLookup) ≡ Ok slot → IsOpen slots slot) [
      | true ↦ λ e. let same : found.0 ≡ slot = cc in subst (λ (s : ℕ). IsOpen slots s) same (is_open found refl)
      | false ↦ λ e. absurd (cc)
    ] is

checked-open : (slots : Slots) (test : Bool) (answer : Result ℕ KError) (slot : ℕ) → (answer ≡ Ok slot → IsOpen slots slot) →
    (check test RangeError >>= λ _. answer) ≡ Ok slot → IsOpen slots slot
checked-open slots true answer slot is_open is = is_open is
checked-open slots false answer slot is_open is = absurd (cc)

argument-open : (slots : Slots) (root : Cap) (name : SlotName) (slot : ℕ) → CNodesAreOpen slots → HasOpenSlots slots root →
    argument_slot slots root name ≡ Ok slot → IsOpen slots slot
argument-open slots root name slot nodes here is =
    checked-open slots (nat_lt 0 name.depth && nat_le name.depth 32) _ slot
    (whole-open slots (lookup slots root name.address name.depth) slot
    (λ found e. lookup-open (suc name.depth) slots root name.address name.depth found nodes here e)) is

-- a destination is an argument slot that holds nothing
abbrev empty_slot : Bool → ℕ → Result ℕ KError
empty_slot empty found = check (not (not empty)) DeleteFirst >>= λ _. Ok found

empty-checked : (empty : Bool) (found slot : ℕ) → empty_slot empty found ≡ Ok slot → (found ≡ slot) × (empty ≡ true)
empty-checked true found slot is = (cc, refl)
empty-checked false found slot is = absurd (cc)

destination-parts : (slots : Slots) (answer : Result ℕ KError) (slot : ℕ) →
    (answer >>= λ found. empty_slot (is_empty (capability_at slots found)) found) ≡ Ok slot → (answer ≡ Ok slot) × (is_empty (capability_at slots slot) ≡ true)
destination-parts slots (Err e) slot is = absurd (cc)
destination-parts slots (Ok found) slot is =
    let parts = empty-checked (is_empty (capability_at slots found)) found slot is in
    let answered : ℕ → Result ℕ KError = λ x. Ok x in (
      ap answered parts.0,
      ap (λ (x : ℕ). is_empty (capability_at slots x)) (sym parts.0) ∙ parts.1,
    )

pub destination-open : (slots : Slots) (node : Cap) (name : SlotName) (slot : ℕ) → CNodesAreOpen slots → HasOpenSlots slots node →
    destination_slot slots node name ≡ Ok slot → IsOpen slots slot
destination-open slots node name slot nodes here is = argument-open slots node name slot nodes here
    (destination-parts slots (argument_slot slots node name) slot is).0

-- ---- empty slots

empty-capability : (held : Cap) → is_empty held ≡ true → held ≡ Empty
empty-capability Empty is = refl
empty-capability (Untyped _ _ _) is = absurd (cc)
empty-capability (Endpoint _ _ _) is = absurd (cc)
empty-capability (Notification _ _ _) is = absurd (cc)
empty-capability (CNode _ _ _) is = absurd (cc)
empty-capability (Frame _ _ _) is = absurd (cc)
empty-capability (PageTable _ _) is = absurd (cc)
empty-capability (Tcb _) is = absurd (cc)
empty-capability (RootTable _) is = absurd (cc)
empty-capability InterruptControl is = absurd (cc)
empty-capability (InterruptHandler _) is = absurd (cc)

-- an entry without a capability has no parent
orphan : (slots : Slots) (slot : ℕ) (parent : Option ℕ) → IsDerivation slots → slots slot ≡ Some (record { capability = Empty; parent = parent }) →
    parent ≡ None
orphan slots slot None tree is = refl
orphan slots slot (Some p) tree is =
    let full : not (is_empty (capability_of (slots slot))) ≡ true = tree.child_full slot p (ap parent_of is) in
    let clash : false ≡ true = sym (ap (λ (o : Option Entry). not (is_empty (capability_of o))) is) ∙ full in
    absurd (cc)

pub open-empty : (slots : Slots) (slot : ℕ) → IsDerivation slots → IsOpen slots slot → is_empty (capability_at slots slot) ≡ true →
    slots slot ≡ Some empty_entry
open-empty slots slot tree is_open empty =
    elim (slots slot) as (λ o. slots slot ≡ o → slots slot ≡ Some empty_entry) [
      | None ↦ λ is. absurd (let clash : false ≡ true = sym (ap is_some is) ∙ is_open in cc)
      | Some held ↦ λ is.
          let bare : held.capability ≡ Empty = empty-capability held.capability (ap (λ (o : Option Entry). is_empty (capability_of o)) (sym is) ∙ empty) in
          let split : slots slot ≡ Some (record { capability = Empty; parent = held.parent }) = is
          ∙ ap (λ (c : Cap). Some (record { capability = c; parent = held.parent })) bare in
          split ∙ ap (λ (p : Option ℕ). Some (record { capability = Empty; parent = p })) (orphan slots slot held.parent tree split)
    ] refl

pub destination-free : (slots : Slots) (node : Cap) (name : SlotName) (slot : ℕ) → IsDerivation slots → IsOpen slots slot →
    destination_slot slots node name ≡ Ok slot → slots slot ≡ Some empty_entry
destination-free slots node name slot tree is_open is = open-empty slots slot tree is_open (destination-parts slots (argument_slot slots node name) slot is).1
