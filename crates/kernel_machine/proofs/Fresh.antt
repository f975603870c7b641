-- The empty machine: its slots are open and empty, and nothing else is there.
use Rattle.std.proofs.Common.{ℕ, ◌≡◌, ◌∙◌, zero-add, ◌+◌, ◌*◌, ◌%◌, ◌^◌, ◌≤◌, ◌&&◌, Bool, true, false, if◌then◌else◌, nat_le, nat_lt, Option, Some, None, List}
use Rattle.std.proofs.Common.{length, refl, sym, ap, subst, arith}
use Rattle.std.specs.Option.{option_map_or}
use Rattle.std.proofs.Math.Pow.{pow_mono}
use Rattle.std.proofs.lemmas.Bool.{le-leb}
use Rattle.std.proofs.lemmas.Nat.{pow-add}
use Rattle.kernel_invariant.proofs.Laws.{bare-agrees}
use Rattle.kernel_invariant.specs.Agreement.{Agrees}
use Rattle.kernel_invariant.specs.Wholeness.{IsWhole}
use Rattle.model.specs.Capabilities.Slots.{Slots, empty_entry, opened}
use Rattle.model.specs.Kernel.Setup.{boot_area}
use Rattle.model.specs.Kernel.Soundness.{IsSound}
use Rattle.model.specs.Kernel.State.{State, boot_area_slots, with_slots}
use Rattle.model.specs.declared.capabilities.Cap.TheVariants.{Empty}
use Rattle.objects.specs.Standing.{Standing}
use Rattle.objects.specs.Tables.{Tables, state_of}
use Rattle.soundness.proofs.Laws.{fresh-sound}

-- the boot area and the interrupt table fit into memory
pub boot-fits : (bits radix : ℕ) → 16 ≤ bits → radix + 5 ≤ bits → 16 * (2 ^ radix + 64) ≤ 2 ^ bits
boot-fits bits radix least room =
    let most : 2 ^ (radix + 5) ≤ 2 ^ bits = pow_mono room in
    let large : 2 ^ 16 ≤ 2 ^ bits = pow_mono least in
    let parts : 2 ^ (radix + 5) ≡ 2 ^ radix * 32 = pow-add 2 radix 5 in
    omega (arith, most, large, parts)

-- as the code counts them
pub boot-count : (radix : ℕ) → radix ≤ 14 → 1 * 2 ^ radix % 2 ^ 32 + 64 ≡ boot_area_slots radix
boot-count radix few =
    let most : 2 ^ radix ≤ 2 ^ 14 = pow_mono few in
    omega (arith, most)

slot-opened : (count slot : ℕ) (was : Option _) → was ≡ None
    → (if nat_le 0 slot && nat_lt slot (0 + count) then Some empty_entry else was) ≡ (if nat_lt slot count then Some empty_entry else None)
slot-opened count slot was none = rw (none, le-leb 0 slot (omega arith), zero-add count) refl

pub opened-slots : (slots : Slots) (bits radix : ℕ) → ((slot : ℕ) → slots slot ≡ None) → opened slots 0 (boot_area_slots radix) ≡ (boot_area bits radix).slots
unfolding boot_area
opened-slots slots bits radix none = λ i. λ slot. slot-opened (boot_area_slots radix) slot (slots slot) (none slot) i

empty-at : (b : Bool) → option_map_or (λ held. held.capability) (if b then Some empty_entry else None) Empty ≡ Empty
empty-at true = refl
empty-at false = refl

pub boot-agrees : (bits radix : ℕ) (memory : List ℕ) → 2 ^ bits ≡ length memory → Agrees (boot_area bits radix) memory
unfolding boot_area
boot-agrees bits radix memory size = bare-agrees (boot_area bits radix) memory (λ slot. empty-at (nat_lt slot (boot_area_slots radix))) (λ place. refl) size

pub boot-whole : (bits radix : ℕ) (o : Tables) (slots : Slots) (memory : List ℕ) → 16 ≤ bits → bits ≤ 24 → 1 ≤ radix → radix ≤ 14 → radix + 5 ≤ bits →
    2 ^ bits ≡ length memory
    → state_of o slots memory ≡ boot_area bits radix → Standing o slots memory → IsWhole o slots memory
boot-whole bits radix o slots memory least most low high room size is stands = record {
  sound = subst IsSound (sym is) (fresh-sound bits radix least most low high room);
  agrees = subst (λ (s : State). Agrees s memory) (sym is) (boot-agrees bits radix memory size);
  stands = stands;
}

same-slots : (bits radix : ℕ) (slots : Slots) → slots ≡ (boot_area bits radix).slots → with_slots (boot_area bits radix) slots ≡ boot_area bits radix
unfolding boot_area
same-slots bits radix slots is = ap (λ (n : Slots). with_slots (boot_area bits radix) n) is

pub fresh-state : (bits radix : ℕ) (o : Tables) (slots now : Slots) (memory : List ℕ) → radix ≤ 14
    → ((at : Slots) (bytes : List ℕ) → state_of o at bytes ≡ with_slots (boot_area bits radix) at)
    → ((slot : ℕ) → slots slot ≡ None) → (first : ℕ) → first ≡ 0 → now ≡ opened slots first (1 * 2 ^ radix % 2 ^ 32 + 64)
    → state_of o now memory ≡ boot_area bits radix
fresh-state bits radix o slots now memory few stands none first at is =
    stands now memory
    ∙ same-slots bits radix now (is ∙ ap (λ (n : ℕ). opened slots n (1 * 2 ^ radix % 2 ^ 32 + 64)) at ∙ ap (opened slots 0) (boot-count radix few)
    ∙ opened-slots slots bits radix none)
