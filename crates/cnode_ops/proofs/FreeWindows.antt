-- The slots of a window lie in the CNode, and are empty where none is full.
use Rattle.std.proofs.Common.{ℕ, ◌≡◌, ◌∙◌, ◌+◌, ◌-◌, ◌/◌, ◌^◌, ◌<◌, ◌≤◌, ◌&&◌, Bool, true, false, not, nat_le, Option, Some, None, Result, Ok, Err, refl, sym}
use Rattle.std.proofs.Common.{subst, arith}
use Rattle.std.proofs.lemmas.Bool.{and_parts, leb-true, not-false}
use Rattle.cspace.proofs.Laws.{slot_below}
use Rattle.cnode_ops.specs.Nodes.{HasOpenSlots}
use Rattle.cnode_ops.specs.Refusals.{some_slot}
use Rattle.cnode_ops.specs.RetypeChecks.{has_slots, window}
use Rattle.cnode_ops.proofs.Lookups.{open-empty}
use Rattle.cnode_ops.proofs.SomeSlot.{some-at}
use Rattle.model.specs.Capabilities.CapabilityKinds.{Node, cnode_of}
use Rattle.model.specs.Capabilities.CapabilityWords.{IsCapability}
use Rattle.model.specs.Capabilities.Slots.{IsDerivation, IsOpen, Slots, capability_at, empty_entry, is_empty, is_full}
use Rattle.model.specs.Kernel.Arguments.{◌>>=◌, check, wanted}
use Rattle.model.specs.Kernel.Retype.{any_full}
use Rattle.model.specs.Kernel.State.{slot_of}
use Rattle.model.specs.declared.capabilities.Cap.{Cap}
use Rattle.model.specs.declared.capabilities.Cap.TheVariants.{CNode}
use Rattle.model.specs.declared.errors.KError.{KError}
use Rattle.model.specs.declared.errors.KError.TheVariants.{DeleteFirst, FailedLookup, RangeError}

pub counted : (radix index count : ℕ) → has_slots radix index count ≡ true → (1 ≤ count) × (count ≤ 256) × (index + count ≤ 2 ^ radix)
counted radix index count has =
    let outer = and_parts (nat_le 1 count && nat_le count 256) (nat_le (index + count) (2 ^ radix)) has in
    let inner = and_parts (nat_le 1 count) (nat_le count 256) outer.0 in
    (leb-true 1 count inner.0, leb-true count 256 inner.1, leb-true (index + count) (2 ^ radix) outer.1)

pub window-near : (offset radix guard index count : ℕ) → IsCapability (CNode offset radix guard) → has_slots radix index count ≡ true
    → offset / 16 + index + count ≤ 2 ^ 20
window-near offset radix guard index count valid has =
    let parts = counted radix index count has in
    let some = parts.0 in
    let fits = parts.2 in
    let last = slot_below offset radix (index + count - 1) valid.2 valid.0.0 valid.0.1 (omega (arith, some, fits)) in
    omega (arith, last, some)

none-full : (slots : Slots) (first count i : ℕ) → any_full slots first count ≡ false → i < count → is_full slots (first + i) ≡ false
unfolding some_slot
none-full slots first count i none less =
    elim (is_full slots (first + i)) as (λ b. is_full slots (first + i) ≡ b → b ≡ false) [
      | true ↦ λ full. absurd (let clash : true ≡ false = sym (some-at first count (first + i) (is_full slots) (omega arith) (omega (arith, less)) full)
          ∙ none in cc)
      | false ↦ λ _. refl
    ] refl

pub window-free : (slots : Slots) (offset radix guard index count : ℕ) → IsDerivation slots → HasOpenSlots slots (CNode offset radix guard)
    → has_slots radix index count ≡ true → any_full slots (offset / 16 + index) count ≡ false
    → (i : ℕ) → i < count → slots (offset / 16 + index + i) ≡ Some empty_entry
window-free slots offset radix guard index count tree there has none i less =
    let slot : ℕ = offset / 16 + index + i in
    let fits = (counted radix index count has).2 in
    let opens : IsOpen slots slot = subst (λ (n : ℕ). IsOpen slots n) (omega arith)
    (there.each offset radix guard (index + i) refl (omega (arith, fits, less))) in
    open-empty slots slot tree opens (not-false (is_empty (capability_at slots slot)) (none-full slots (offset / 16 + index) count i none less))

-- a window has 1 to 256 slots
answered : (o : Option Node) (has full : Node → Bool) (first : Node → ℕ) (found : ℕ)
    → Ok found ≡ (wanted o FailedLookup >>= λ n. check (has n) RangeError >>= λ _. check (full n) DeleteFirst >>= λ _. Ok (first n)) → (n : Node)
    × (has n ≡ true)
answered None has full first found is = absurd (let clash : ◌≡◌ {A = Result ℕ KError} (Ok found) (Err FailedLookup) = is in cc)
answered (Some n) has full first found is =
    elim (has n) as (λ b. has n ≡ b → Ok found ≡ (check b RangeError >>= λ _. check (full n) DeleteFirst >>= λ _. Ok (first n)) → (n : Node) × (has n ≡ true)) [
      | true ↦ λ test _. (n, test)
      | false ↦ λ _ so. absurd (let clash : ◌≡◌ {A = Result ℕ KError} (Ok found) (Err RangeError) = so in cc)
    ] refl is

pub window-counted : (slots : Slots) (held : Cap) (index count first : ℕ) → Ok first ≡ window slots held index count → (1 ≤ count) × (count ≤ 256)
window-counted slots held index count first is =
    let node = answered (cnode_of held) (λ n. has_slots n.radix index count) (λ n. not (any_full slots (slot_of n.offset index) count))
    (λ n. slot_of n.offset index) first is in
    let parts = counted node.0.radix index count node.1 in
    (parts.0, parts.1)
