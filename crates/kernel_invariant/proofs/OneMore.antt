-- Objects one after another: so many and one more are the next number of them.
use Rattle.std.proofs.Common.{ℕ, ◌≡◌, ◌∙◌, ◌==◌, ◌&&◌, ◌||◌, ◌+◌, ◌-◌, ◌*◌, ◌^◌, ◌<◌, ◌≤◌, ◌⊎◌, inl, inr, Bool, true, false, if◌then◌else◌, Option, Some, None}
use Rattle.std.proofs.Common.{[], ◌∷◌, map, refl, sym, ap, arith}
use Rattle.std.specs.Option.{option_map_or}
use Rattle.std.specs.List.{list_any, range_with_len}
use Rattle.std.proofs.lemmas.Bool.{cases_lt}
use Rattle.std.proofs.lemmas.List.FromFn.{map-range_with_len_more}
use Rattle.std.proofs.lemmas.List.Folds.{list_any-append}
use Rattle.kernel_invariant.specs.Growing.{one_placed}
use Rattle.model.proofs.SlotChanges.{bounds-within, within-bounds}
use Rattle.model.specs.Capabilities.Slots.{empty_entry, is_within}
use Rattle.model.specs.Kernel.Removal.{slot_count}
use Rattle.model.specs.Kernel.Retype.{NewObject, NewObjects, first_capability, is_frame, object, object_bits, place_of_new, some_new, with_first_capabilities}
use Rattle.model.specs.Kernel.Retype.{with_new, with_new_bytes, with_new_objects, with_new_slots}
use Rattle.model.specs.Kernel.State.{Object, State, slot_of}
use Rattle.model.specs.declared.slot_entries.Entry.{Entry}

-- ---- ranges and tests

pub outside-within : (first count x : ℕ) → (x < first) ⊎ (first + count ≤ x) → is_within first count x ≡ false
outside-within first count x out = elim (is_within first count x) as (λ b. is_within first count x ≡ b → b ≡ false) [
  | true ↦ λ inside.
      let bounds = within-bounds first count x inside in
      let low = bounds.0 in
      let high = bounds.1 in
      absurd (elim out [ inl before ↦ omega (arith, before, low) | inr behind ↦ omega (arith, behind, high) ])
  | false ↦ λ _. refl
] refl

-- two ranges, one after the other
within-joined : (first a b whole x : ℕ) → whole ≡ a + b → is_within first whole x ≡ (is_within first a x || is_within (first + a) b x)
within-joined first a b whole x is = elim (cases_lt x first) [
  | inl before ↦
      outside-within first whole x (inl before)
      ∙ sym (ap (λ (t : Bool). t || is_within (first + a) b x) (outside-within first a x (inl before))
      ∙ outside-within (first + a) b x (inl (omega (arith, before))))
  | inr from ↦ elim (cases_lt x (first + a)) [
    | inl early ↦
        bounds-within first whole x from (omega (arith, early, is))
        ∙ sym (ap (λ (t : Bool). t || is_within (first + a) b x) (bounds-within first a x from early))
    | inr late ↦
        let none : is_within first a x ≡ false = outside-within first a x (inr late) in
        elim (cases_lt x (first + a + b)) [
          | inl inside ↦
              bounds-within first whole x from (omega (arith, inside, is))
              ∙ sym (ap (λ (t : Bool). t || is_within (first + a) b x) none ∙ bounds-within (first + a) b x late inside)
          | inr behind ↦
              outside-within first whole x (inr (omega (arith, behind, is)))
              ∙ sym (ap (λ (t : Bool). t || is_within (first + a) b x) none ∙ outside-within (first + a) b x (inr behind))
        ]
  ]
]

or-none : (b : Bool) → (b || false) ≡ b
or-none true = refl
or-none false = refl

and-or : (a b c : Bool) → (a && (b || c)) ≡ (a && b || a && c)
and-or true b c = refl
and-or false b c = refl

and-none : (b : Bool) → (b && false) ≡ false
and-none true = refl
and-none false = refl

module _ (kind : NewObject) (first : ℕ) where
  abbrev so_many : ℕ → NewObjects
  so_many count = record { kind = kind; first = first; count = count }

  abbrev place : ℕ → ℕ
  place i = first + i * 2 ^ object_bits kind

  some-more : (i : ℕ) (test : ℕ → Bool) → some_new (so_many (i + 1)) test ≡ (some_new (so_many i) test || test (place i))
  some-more i test =
      ap (list_any test) (map-range_with_len_more place 0 i i (omega arith))
      ∙ list_any-append test (map place (range_with_len 0 i)) (place i ∷ [])
      ∙ ap (λ (b : Bool). some_new (so_many i) test || b) (or-none (test (place i)))

pub some-one : (kind : NewObject) (first : ℕ) (test : ℕ → Bool) → some_new (record { kind = kind; first = first; count = 1 }) test ≡ test first
some-one kind first test = or-none (test (first + 0 * 2 ^ object_bits kind)) ∙ ap test (omega arith)

-- ---- what one more makes of a slot, an object and a byte

slot-cases : (a b m n : Bool) (one other empty was : Option Entry) → (b ≡ true → one ≡ other) → (a ≡ true → n ≡ false)
    → (if a || b then one else (if m || n then empty else was)) ≡ (if b then other else (if n then empty else (if a then one else (if m then empty else was))))
slot-cases true true m n one other empty was same apart = same refl
slot-cases false true m n one other empty was same apart = same refl
slot-cases true false m true one other empty was same apart = absurd (let clash : true ≡ false = apart refl in cc)
slot-cases true false m false one other empty was same apart = refl
slot-cases false false true true one other empty was same apart = refl
slot-cases false false true false one other empty was same apart = refl
slot-cases false false false true one other empty was same apart = refl
slot-cases false false false false one other empty was same apart = refl

-- an object that comes twice is there once
only-once : (new was : Option Object) → option_map_or Some new was ≡ option_map_or Some new (option_map_or Some new was)
only-once (Some o) was = refl
only-once None was = refl

object-cases : (a b : Bool) (new was : Option Object)
    → (if a || b then option_map_or Some new was else was)
    ≡ (if b then option_map_or Some new (if a then option_map_or Some new was else was) else (if a then option_map_or Some new was else was))
object-cases true true new was = only-once new was
object-cases true false new was = refl
object-cases false true new was = refl
object-cases false false new was = refl

byte-cases : (a b : Bool) (zero_byte was : Option ℕ) → (if a || b then zero_byte else was) ≡ (if b then zero_byte else (if a then zero_byte else was))
byte-cases true true zero_byte was = refl
byte-cases true false zero_byte was = refl
byte-cases false true zero_byte was = refl
byte-cases false false zero_byte was = refl

-- ---- one more

module _ (t : State) (kind : NewObject) (first i window parent : ℕ) where
  abbrev many : NewObjects
  many = record { kind = kind; first = first; count = i }

  abbrev more : NewObjects
  more = record { kind = kind; first = first; count = i + 1 }

  abbrev next : ℕ
  next = first + i * 2 ^ object_bits kind

  abbrev single : NewObjects
  single = record { kind = kind; first = next; count = 1 }

  abbrev before : State
  before = with_new t many window parent

  -- the first capability of the object with this number
  abbrev entry : ℕ → Option Entry
  entry at = Some (record { capability = first_capability kind at; parent = Some parent })

  abbrev has_slot : ℕ → ℕ → Bool
  has_slot y at = is_within (slot_of at 0) (slot_count (object kind)) y

  same-entry : (y : ℕ) → is_within (window + i) 1 y ≡ true → entry (place_of_new more (y - window)) ≡ entry (place_of_new single (y - (window + i)))
  same-entry y inside =
      let bounds = within-bounds (window + i) 1 y inside in
      let low = bounds.0 in
      let high = bounds.1 in
      let number : y - window ≡ i = omega (arith, low, high) in
      let none : y - (window + i) ≡ 0 = omega (arith, low, high) in
      ap (λ (n : ℕ). entry (first + n * 2 ^ object_bits kind)) number
      ∙ ap entry (let e : next ≡ next + 0 * 2 ^ object_bits kind = omega arith in e)
      ∙ sym (ap (λ (n : ℕ). entry (next + n * 2 ^ object_bits kind)) none)

  one-more-slots : ((j : ℕ) → j < i → is_within (slot_of next 0) (slot_count (object kind)) (window + j) ≡ false)
      → (y : ℕ) → with_first_capabilities more window parent (with_new_slots more t.slots) y
      ≡ with_first_capabilities single (window + i) parent (with_new_slots single before.slots) y
  one-more-slots apart y =
      let one : Option Entry = entry (place_of_new more (y - window)) in
      let other : Option Entry = entry (place_of_new single (y - (window + i))) in
      let was : Option Entry = t.slots y in
      let early : Bool = is_within window i y in
      let late : Bool = is_within (window + i) 1 y in
      let free : early ≡ true → has_slot y next ≡ false = λ inside.
      (let bounds = within-bounds window i y inside in
      let low = bounds.0 in
      let high = bounds.1 in
      let at : window + (y - window) ≡ y = omega (arith, low) in
      ap (λ (n : ℕ). has_slot n next) (sym at) ∙ apart (y - window) (omega (arith, low, high))) in
      ap (λ (b : Bool). if b then one else (if some_new more (has_slot y) then Some empty_entry else was)) (within-joined window i 1 (i + 1) y refl)
      ∙ ap (λ (b : Bool). if early || late then one else (if b then Some empty_entry else was)) (some-more kind first i (has_slot y))
      ∙ slot-cases early late (some_new many (has_slot y)) (has_slot y next) one other (Some empty_entry) was (same-entry y) free
      ∙ ap (λ (b : Bool). if late then other else
      (if b then Some empty_entry else (if early then one else (if some_new many (has_slot y) then Some empty_entry else was))))
      (sym (some-one kind next (has_slot y)))

  one-more-objects : (o : ℕ) → with_new_objects more t.objects o ≡ with_new_objects single before.objects o
  one-more-objects o =
      let new : Option Object = object kind in
      let was : Option Object = t.objects o in
      let some : Bool = some_new many (λ at. at == o) in
      ap (λ (b : Bool). if b then option_map_or Some new was else was) (some-more kind first i (λ at. at == o))
      ∙ object-cases some (next == o) new was
      ∙ ap (λ (b : Bool). if b then option_map_or Some new (if some then option_map_or Some new was else was) else
      (if some then option_map_or Some new was else was))
      (sym (some-one kind next (λ at. at == o)))

  one-more-bytes : (p : ℕ) → with_new_bytes more t.bytes p ≡ with_new_bytes single before.bytes p
  one-more-bytes p =
      let was : Option ℕ = t.bytes p in
      let size : ℕ = 2 ^ object_bits kind in
      let early : Bool = is_within first (i * size) p in
      let late : Bool = is_within next (1 * size) p in
      let sum : (i + 1) * 2 ^ object_bits kind ≡ i * 2 ^ object_bits kind + 1 * 2 ^ object_bits kind = grind arith in
      ap (λ (b : Bool). if is_frame kind && b then Some 0 else was) (within-joined first (i * size) (1 * size) ((i + 1) * size) p sum)
      ∙ ap (λ (b : Bool). if b then Some 0 else was) (and-or (is_frame kind) early late)
      ∙ byte-cases (is_frame kind && early) (is_frame kind && late) (Some 0) was

  pub one-more : ((j : ℕ) → j < i → is_within (slot_of next 0) (slot_count (object kind)) (window + j) ≡ false)
      → with_new t (record { kind = kind; first = first; count = i + 1 }) window parent
      ≡ one_placed (with_new t (record { kind = kind; first = first; count = i }) window parent) kind (first + i * 2 ^ object_bits kind) (window + i) parent
  one-more apart = λ d. record t {
    slots = λ y. one-more-slots apart y d;
    objects = λ o. one-more-objects o d;
    bytes = λ p. one-more-bytes p d;
  }

-- ---- none

module _ (t : State) (kind : NewObject) (first window parent : ℕ) where
  abbrev none : NewObjects
  none = record { kind = kind; first = first; count = 0 }

  none-slots : (y : ℕ) → with_first_capabilities none window parent (with_new_slots none t.slots) y ≡ t.slots y
  none-slots y =
      let first_one : Option Entry = Some (record { capability = first_capability kind (place_of_new none (y - window)); parent = Some parent }) in
      ap (λ (b : Bool). if b then first_one else t.slots y)
      (outside-within window 0 y (elim (cases_lt y window) [ inl low ↦ inl low | inr high ↦ inr (omega (arith, high)) ]))

  none-bytes : (p : ℕ) → with_new_bytes none t.bytes p ≡ t.bytes p
  none-bytes p =
      let no_size : 0 * 2 ^ object_bits kind ≡ 0 = omega arith in
      let nowhere : is_within first (0 * 2 ^ object_bits kind) p ≡ false =
      outside-within first (0 * 2 ^ object_bits kind) p (elim (cases_lt p first) [ inl low ↦ inl low | inr high ↦ inr (omega (arith, high, no_size)) ]) in
      ap (λ (b : Bool). if is_frame kind && b then Some 0 else t.bytes p) nowhere
      ∙ ap (λ (b : Bool). if b then Some 0 else t.bytes p) (and-none (is_frame kind))

  pub none-yet : with_new t (record { kind = kind; first = first; count = 0 }) window parent ≡ t
  none-yet = λ d. record t { slots = λ y. none-slots y d; objects = t.objects; bytes = λ p. none-bytes p d }
