-- Closing, slot by slot, what belongs to no object.
use Rattle.std.proofs.Common.{ℕ, suc, ◌≡◌, ◌≢◌, ◌∙◌, ◌==◌, ◌+◌, ◌*◌, ◌/◌, ◌^◌, ◌<◌, ◌≤◌, ◌&&◌, ◌||◌, inl, inr, Bool, true, false, not, nat_lt, if◌then◌else◌}
use Rattle.std.proofs.Common.{Option, Some, None, is_some, max, refl, sym, ap, subst, arith}
use Rattle.std.specs.List.{list_any}
use Rattle.std.proofs.Math.Bool.{and-false, or-true}
use Rattle.std.proofs.lemmas.Bool.{eq-eqb, le-leb}
use Rattle.std.proofs.lemmas.Bool.Decides.{eqb_tells, leb_tells}
use Rattle.model.specs.declared.slot_entries.Entry.{Entry}
use Rattle.model.specs.Capabilities.Slots.{IsOpen, empty_entry}
use Rattle.model.specs.Kernel.Removal.{is_slot_of}
use Rattle.model.specs.Kernel.State.{State, boot_area_slots, slots_of}
use Rattle.removal_laws.specs.Finishing.{MaySettle, StrayClosed, closed_below, has_slot, slot_kept, slots_from, stray_closed, without_slot, without_strays}
use Rattle.removal_laws.proofs.Finishing.{bounds-within, within-bounds}
use Rattle.removal_laws.proofs.Found.{found-at, found-none}

-- all below a number is done, and no object reaches over it
pub record IsPassed (s w : State) (at : ℕ) : Type 0 where
  pub may : MaySettle s
  pub state : w ≡ closed_below s at
  pub behind : (n : ℕ) → n < at → n + slots_from s n ≤ at
  pub boot : boot_area_slots s.boot_radix ≤ at

lt-false : (a b : ℕ) → b ≤ a → nat_lt a b ≡ false
lt-false a b le = elim (leb_tells (suc a) b) [ inl low ↦ absurd (omega (arith, low.1, le)) | inr high ↦ high.0 ]

lt-true : (a b : ℕ) → a < b → nat_lt a b ≡ true
lt-true a b less = le-leb (suc a) b less

same-place : (n : ℕ) → 16 * n / 16 ≡ n
same-place n = omega arith

-- where nothing starts and nothing reaches, nothing has the slot
no-owner : (s w : State) (at : ℕ) → IsPassed s w at → slots_from s at ≡ 0 → has_slot s at ≡ false
no-owner s w at passed none =
    ap (λ b. b || list_any (λ n. is_slot_of s (16 * n) at) (slots_of s)) (lt-false at (boot_area_slots s.boot_radix) passed.boot)
    ∙ found-none s.memory_bits (λ n. is_slot_of s (16 * n) at) (λ n. elim (is_slot_of s (16 * n) at) as (λ b. is_slot_of s (16 * n) at ≡ b → b ≡ false) [
      | true ↦ λ is.
          let bounds = within-bounds (16 * n / 16) (slots_from s n) at is in
          let place = same-place n in
          elim (eqb_tells n at) [
            | inl here ↦ absurd (omega (arith, bounds.0, bounds.1, place, here.1, none, ap (slots_from s) here.1))
            | inr other ↦
                let before : n < at = omega (arith, bounds.0, place, other.1) in
                absurd (omega (arith, bounds.1, place, passed.behind n before))
          ]
      | false ↦ λ is. refl
    ] refl)

-- and the slots of an object are its own
owned : (s : State) (at y : ℕ) → MaySettle s → slots_from s at ≢ 0 → at ≤ y → y < at + slots_from s at → has_slot s y ≡ true
owned s at y may some low high =
    let place = same-place at in
    let inner : is_slot_of s (16 * at) y ≡ true = bounds-within (16 * at / 16) (slots_from s at) y (omega (arith, place, low)) (omega (arith, place, high)) in
    ap (λ b. nat_lt y (boot_area_slots s.boot_radix) || b)
    (found-at s.memory_bits at (λ n. is_slot_of s (16 * n) y) (let fits = may.inside at some in omega (arith, fits, low, high)) inner)
    ∙ or-true (nat_lt y (boot_area_slots s.boot_radix))

-- what is open and to be closed is empty
pub stray-empty : (s w : State) (at : ℕ) → IsPassed s w at → slots_from s at ≡ 0 → IsOpen w.slots at → w.slots at ≡ Some empty_entry
stray-empty s w at passed none opens =
    let kept : w.slots at ≡ s.slots at = ap (λ (t : State). t.slots at) passed.state
    ∙ ap (λ b. if b && not (has_slot s at) then None else s.slots at) (lt-false at at (omega arith)) in
    kept ∙ passed.may.strays at (ap is_some (sym kept) ∙ opens) (no-owner s w at passed none)

one-more : (s : State) (at y : ℕ) (stray : Bool) → has_slot s at ≡ false →
    (if y == at then None else if nat_lt y at && not (has_slot s y) then None else s.slots y)
    ≡ (if nat_lt y (at + 1) && not (has_slot s y) then None else s.slots y)
one-more s at y stray none = elim (eqb_tells y at) [
  | inl here ↦
      ap (λ b. if b then None else if nat_lt y at && not (has_slot s y) then None else s.slots y) here.0
      ∙ sym (ap (λ b. if b && not (has_slot s y) then None else s.slots y) (lt-true y (at + 1) (omega (arith, here.1)))
      ∙ ap (λ b. if not b then None else s.slots y) (ap (has_slot s) here.1 ∙ none))
  | inr other ↦
      ap (λ b. if b then None else if nat_lt y at && not (has_slot s y) then None else s.slots y) other.0
      ∙ ap (λ b. if b && not (has_slot s y) then None else s.slots y) (elim (leb_tells (suc y) at) [
        | inl low ↦ low.0 ∙ sym (lt-true y (at + 1) (omega (arith, low.1)))
        | inr high ↦ high.0 ∙ sym (lt-false y (at + 1) (omega (arith, high.1, other.1)))
      ])
]

more-owned : (s : State) (at y own : ℕ) → MaySettle s → slots_from s at ≡ own → own ≢ 0 →
    (if nat_lt y at && not (has_slot s y) then None else s.slots y) ≡ (if nat_lt y (at + own) && not (has_slot s y) then None else s.slots y)
more-owned s at y own may is some = elim (leb_tells (suc y) at) [
  | inl low ↦ ap (λ b. if b && not (has_slot s y) then None else s.slots y) (low.0 ∙ sym (lt-true y (at + own) (omega (arith, low.1))))
  | inr high ↦ elim (leb_tells (suc y) (at + own)) [
    | inl inner ↦
        let has : has_slot s y ≡ true = owned s at y may (λ zero_is. some (sym is ∙ zero_is)) (omega (arith, high.1)) (omega (arith, inner.1, is)) in
        ap (λ b. if b && not (has_slot s y) then None else s.slots y) high.0
        ∙ sym (ap (λ b. if nat_lt y (at + own) && not b then None else s.slots y) has
        ∙ ap (λ b. if b then None else s.slots y) (and-false (nat_lt y (at + own))))
    | inr above ↦ ap (λ b. if b && not (has_slot s y) then None else s.slots y) (high.0 ∙ sym above.0)
  ]
]

pub passed-next : (s w now : State) (at own : ℕ) (stray : Bool) → IsPassed s w at → own ≡ slots_from s at → stray ≡ (own == 0) → StrayClosed w at stray now →
    IsPassed s now (at + max own 1)
passed-next s w now at own stray passed own_is stray_is (stray_closed is closes) =
    let zero_is : own ≡ 0 = elim (eqb_tells own 0) [
      | inl here ↦ here.1
      | inr other ↦
          absurd (let clash : false ≡ true = sym other.0 ∙ sym stray_is ∙ is in cc)
    ] in
    let none : slots_from s at ≡ 0 = sym own_is ∙ zero_is in
    let next : at + 1 ≡ at + max own 1 = omega (arith, zero_is) in
    subst (λ (n : ℕ). IsPassed s now n) next (record {
      may = passed.may;
      state = closes ∙ ap (λ (t : State). without_slot t at) passed.state
          ∙ (λ i. record s { slots = λ y. one-more s at y stray (no-owner s w at passed none) i });
      behind = λ n less. elim (eqb_tells n at) [
        | inl here ↦ omega (arith, none, ap (slots_from s) here.1, here.1)
        | inr other ↦ omega (arith, passed.behind n (omega (arith, less, other.1)))
      ];
      boot = omega (arith, passed.boot);
    })
passed-next s w now at own stray passed own_is stray_is (slot_kept is same) =
    let some : own ≢ 0 = λ zero_is. absurd (let clash : false ≡ true = sym is ∙ stray_is ∙ eq-eqb own 0 zero_is in cc) in
    let there : slots_from s at ≢ 0 = λ zero_is. some (own_is ∙ zero_is) in
    let next : at + own ≡ at + max own 1 = omega (arith, some) in
    subst (λ (n : ℕ). IsPassed s now n) next (record {
      may = passed.may;
      state = same ∙ passed.state ∙ (λ i. record s { slots = λ y. more-owned s at y own passed.may (sym own_is) some i });
      behind = λ n less. elim (eqb_tells n at) [
        | inl here ↦ omega (arith, own_is, ap (slots_from s) here.1, here.1)
        | inr other ↦ elim (leb_tells (suc n) at) [
          | inl low ↦ omega (arith, passed.behind n low.1)
          | inr high ↦ elim (eqb_tells (slots_from s n) 0) [
            | inl nothing_there ↦ omega (arith, nothing_there.1, less)
            | inr something ↦ absurd (let apart = passed.may.apart at n (omega (arith, high.1, other.1)) there something.1 in
                omega (arith, apart, less, own_is))
          ]
        ]
      ];
      boot = omega (arith, passed.boot);
    })

pub passed-first : (s : State) (at : ℕ) → MaySettle s → at ≡ boot_area_slots s.boot_radix → IsPassed s s at
passed-first s at may is = record {
  may = may;
  state = λ i. record s { slots = λ y. first y i };
  behind = λ n less. omega (arith, none n less, less);
  boot = omega (arith, is);
}
  where
    none : (n : ℕ) → n < at → slots_from s n ≡ 0
    none n less = elim (eqb_tells (slots_from s n) 0) [
      | inl nothing_there ↦ nothing_there.1
      | inr something ↦ absurd (let late = may.boot n something.1 in omega (arith, late, less, is))
    ]

    has : (y : ℕ) → y < at → has_slot s y ≡ true
    has y early = ap (λ b. b || list_any (λ n. is_slot_of s (16 * n) y) (slots_of s)) (lt-true y (boot_area_slots s.boot_radix) (omega (arith, early, is)))

    first : (y : ℕ) → s.slots y ≡ (if nat_lt y at && not (has_slot s y) then None else s.slots y)
    first y = elim (leb_tells (suc y) at) [
      | inl low ↦ sym (ap (λ b. if nat_lt y at && not b then None else s.slots y) (has y low.1)
          ∙ ap (λ b. if b then None else s.slots y) (and-false (nat_lt y at)))
      | inr high ↦ sym (ap (λ b. if b && not (has_slot s y) then None else s.slots y) high.0)
    ]

pub passed-all : (s w : State) (at : ℕ) → IsPassed s w at → 2 ^ s.memory_bits / 16 ≤ at → w ≡ without_strays s
passed-all s w at passed whole = passed.state ∙ (λ i. record s { slots = λ y. rest y i })
  where
    closed-anyway : (y : ℕ) (b : Bool) (o : Option Entry) → o ≡ None → (if b then None else o) ≡ None
    closed-anyway y true o none = refl
    closed-anyway y false o none = none

    rest : (y : ℕ) → (if nat_lt y at && not (has_slot s y) then None else s.slots y) ≡ (if not (has_slot s y) then None else s.slots y)
    rest y = elim (leb_tells (suc y) at) [
      | inl low ↦ ap (λ b. if b && not (has_slot s y) then None else s.slots y) low.0
      | inr high ↦ elim (s.slots y) as (λ o. s.slots y ≡ o →
          (if nat_lt y at && not (has_slot s y) then None else s.slots y) ≡ (if not (has_slot s y) then None else s.slots y)) [
            | None ↦ λ none. closed-anyway y (nat_lt y at && not (has_slot s y)) (s.slots y) none ∙ sym (closed-anyway y (not (has_slot s y)) (s.slots y) none)
            | Some h ↦ λ some. absurd (omega (arith, high.1, whole, passed.may.near y (ap is_some some)))
          ] refl
    ]

-- where a step may go
pub passed-fits : (s w : State) (at own : ℕ) → IsPassed s w at → own ≡ slots_from s at → at < 2 ^ s.memory_bits / 16 → at + max own 1 ≤ 2 ^ s.memory_bits / 16
passed-fits s w at own passed is low = elim (eqb_tells own 0) [
  | inl none ↦ omega (arith, none.1, low)
  | inr some ↦ let fits = passed.may.inside at (λ zero_is. some.1 (is ∙ zero_is)) in omega (arith, fits, is, some.1)
]

-- the objects are those of before
pub passed-objects : (s w : State) (at n : ℕ) → IsPassed s w at → slots_from w n ≡ slots_from s n
passed-objects s w at n passed = ap (λ (t : State). slots_from t n) passed.state
