-- The room that opening slots or zeroing a page makes.
use Rattle.std.proofs.Common.{ℕ, ◌≡◌, ◌∙◌, ◌&&◌, ◌||◌, ◌+◌, ◌*◌, ◌-◌, ◌/◌, ◌^◌, ◌≤◌, inl, inr, Bool, true, false, if◌then◌else◌, Some, List, length, replicate}
use Rattle.std.proofs.Common.{refl, sym, ap, arith}
use Rattle.std.specs.Prelude.{nat_le, nat_lt, slice_index}
use Rattle.std.proofs.lemmas.Bool.{le-ltb, leb-true}
use Rattle.std.proofs.lemmas.List.{get_or-replicate, length-replicate}
use Rattle.model.specs.Capabilities.Slots.{SameOutside, Slots, empty_entry, is_within, opened}
use Rattle.model.specs.Kernel.AddressSpaces.{page_size}
use Rattle.model.specs.Kernel.Removal.{slot_count}
use Rattle.model.specs.Kernel.Retype.{NewObject, NewObjects, object, object_bits, some_new, with_new_slots}
use Rattle.model.specs.Kernel.State.{slot_of}
use Rattle.model.specs.Shared.Bytes.{written}
use Rattle.model.proofs.BytesLemmas.{length-written, slice_index-written_before, slice_index-written_behind, slice_index-written_inside}
use Rattle.kernel_invariant.specs.Rooms.{RoomMade, has_page}

or-false : (b : Bool) → (b || false) ≡ b
or-false true = refl
or-false false = refl

abbrev pub alone : NewObject → ℕ → NewObjects
alone kind place = record { kind = kind; first = place; count = 1 }

-- of one object alone the one test counts
pub some-alone : (kind : NewObject) (place : ℕ) (test : ℕ → Bool) → some_new (alone kind place) test ≡ test place
some-alone kind place test =
    let at : place + 0 * 2 ^ object_bits kind ≡ place = omega arith in
    or-false (test (place + 0 * 2 ^ object_bits kind)) ∙ ap test at

never-within : (first slot : ℕ) → is_within first 0 slot ≡ false
never-within first slot = elim (nat_le first slot) as (λ b. nat_le first slot ≡ b → (b && nat_lt slot (first + 0)) ≡ false) [
  | false ↦ λ is. refl
  | true ↦ λ is. le-ltb slot (first + 0) (omega (arith, leb-true first slot is))
] refl

-- its slots: those of a CNode or a thread, and none of another
pub slots-alone : (kind : NewObject) (place slot : ℕ) (slots : Slots) → with_new_slots (alone kind place) slots slot
    ≡ (if is_within (place / 16) (slot_count (object kind)) slot then Some empty_entry else slots slot)
slots-alone kind place slot slots =
    let at : place / 16 + 0 ≡ place / 16 = omega arith in
    ap (λ b. if b then Some empty_entry else slots slot) (some-alone kind place (λ p. is_within (slot_of p 0) (slot_count (object kind)) slot)
    ∙ ap (λ (n : ℕ). is_within n (slot_count (object kind)) slot) at)

pub no-slots : (kind : NewObject) (place : ℕ) (slots : Slots) → slot_count (object kind) ≡ 0 → with_new_slots (alone kind place) slots ≡ slots
no-slots kind place slots none = λ i slot.
    (slots-alone kind place slot slots ∙ ap (λ b. if b then Some empty_entry else slots slot)
    (ap (λ (n : ℕ). is_within (place / 16) n slot) none ∙ never-within (place / 16) slot)) i

pub slots-opened : (kind : NewObject) (place count : ℕ) (slots : Slots) → slot_count (object kind) ≡ count →
    with_new_slots (alone kind place) slots ≡ opened slots (place / 16) count
slots-opened kind place count slots is = λ i slot.
    (slots-alone kind place slot slots ∙ ap (λ (n : ℕ). if is_within (place / 16) n slot then Some empty_entry else slots slot) is) i

-- where slots were opened
pub room-of-slots : (kind : NewObject) (place count : ℕ) (slots now : Slots) (old new : List ℕ) → has_page kind ≡ false → slot_count (object kind) ≡ count
    → now ≡ opened slots (place / 16) count → SameOutside now old new → RoomMade slots now old new kind place
room-of-slots kind place count slots now old new no_page is opens same = record {
  slots = opens ∙ sym (slots-opened kind place count slots is);
  size = same.size;
  bytes = λ other closed beside. same.bytes other closed;
  page = λ paged. absurd (let clash : true ≡ false = sym paged ∙ no_page in cc);
}

-- where nothing was done
pub room-of-none : (kind : NewObject) (place : ℕ) (slots : Slots) (memory : List ℕ) → has_page kind ≡ false → slot_count (object kind) ≡ 0
    → RoomMade slots slots memory memory kind place
room-of-none kind place slots memory no_page none = record {
  slots = sym (no-slots kind place slots none);
  size = refl;
  bytes = λ other closed beside. refl;
  page = λ paged. absurd (let clash : true ≡ false = sym paged ∙ no_page in cc);
}

-- where a page was zeroed
pub room-of-page : (kind : NewObject) (place : ℕ) (slots : Slots) (old new : List ℕ) → slot_count (object kind) ≡ 0 → object_bits kind ≡ 12
    → place + 2 ^ 12 ≤ length old → new ≡ written old place (replicate page_size 0) → RoomMade slots slots old new kind place
room-of-page kind place slots old new none bits within is =
    let long : length (replicate {A = ℕ} page_size 0) ≡ page_size = length-replicate {A = ℕ} page_size 0 in
    let fits : place + length (replicate {A = ℕ} page_size 0) ≤ length old = omega (arith, long, within) in
    let wide : 2 ^ object_bits kind ≡ page_size = ap (λ (n : ℕ). 2 ^ n) bits in
    record {
      slots = sym (no-slots kind place slots none);
      size = ap length is ∙ length-written old place (replicate page_size 0) fits;
      bytes = λ other closed beside. ap (λ (l : List ℕ). slice_index l other) is ∙ elim beside [
        | inl before ↦ slice_index-written_before old place (replicate page_size 0) other fits before
        | inr behind ↦ slice_index-written_behind old place (replicate page_size 0) other fits (omega (arith, behind, wide, long))
      ];
      page = λ paged other low high.
          ap (λ (l : List ℕ). slice_index l other) is
          ∙ ap (λ (n : ℕ). slice_index (written old place (replicate page_size 0)) n) (omega (arith, low))
          ∙ slice_index-written_inside old place (replicate page_size 0) (other - place) fits (omega (arith, low, high, long))
          ∙ get_or-replicate {A = ℕ} page_size (other - place) 0 0 (omega (arith, low, high));
    }
