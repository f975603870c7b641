-- Lists of slots whose keys rise: a change keeps them so, and they are the same where every look-up is.
use Rattle.std.proofs.Common.{ℕ, suc, ◌≡◌, ◌∙◌, ◌==◌, ◌+◌, ◌<◌, ◌≤◌, inl, inr, ◌&&◌, Bool, true, false, not, nat_lt, if◌then◌else◌, Option, Some, None, List}
use Rattle.std.proofs.Common.{[], ◌∷◌, map, refl, sym, ap, subst, arith}
use Rattle.std.specs.Prelude.{nat_eq, slice_index}
use Rattle.std.proofs.lemmas.Bool.{and_parts, cases_lt, eq-eqb, eqb-true}
use Rattle.std.proofs.lemmas.Bool.Decides.{eqb_tells, nat_tests}
use lib.Pointwise.{pointwise}
use Rattle.model.specs.Acceptance.NotedStates.{NotedSlot, SlotKey, are_same_slots, is_same_key, is_same_parent, is_same_slot, number_of, put_in, slot_at}
use Rattle.model.specs.Acceptance.NotedStates.{with_noted, without_key}
use Rattle.model.specs.Capabilities.CapabilityFields.{same_words}
use Rattle.model.specs.Capabilities.CapabilityWords.{words_of}
use Rattle.model.specs.Capabilities.Slots.{is_empty}
use Rattle.typestate.specs.Differences.{changed, is_same_held}
use Rattle.typestate.specs.Orders.{Rise}
use Rattle.typestate.proofs.SlotLists.{without-at}

-- keys rise from a number on
abbrev pub RiseFrom : ℕ → List NotedSlot → Type 0
RiseFrom least [] = Unit {0}
RiseFrom least (s ∷ rest) = (least ≤ number_of s.key) × RiseFrom (number_of s.key + 1) rest

next-rises : (s : NotedSlot) (rest : List NotedSlot) → Rise (s ∷ rest) → Rise rest
next-rises s rest rises k below =
    let numbers = map (λ (o : NotedSlot). number_of o.key) (s ∷ rest) in
    let next : suc k + 1 ≡ suc (k + 1) = omega arith in
    subst (λ i. slice_index numbers (suc k) < slice_index numbers i) next (rises (suc k) (omega (arith, below)))

behind-rises : (s : NotedSlot) (rest : List NotedSlot) → Rise (s ∷ rest) → RiseFrom (number_of s.key + 1) rest
behind-rises s [] rises = tt
behind-rises s (r ∷ rest) rises = (omega (arith, rises 0 (omega arith)), behind-rises r rest (next-rises s (r ∷ rest) rises))

pub from-first : (slots : List NotedSlot) → Rise slots → RiseFrom 0 slots
from-first [] rises = tt
from-first (s ∷ rest) rises = (omega arith, behind-rises s rest rises)

-- ---- look-ups

other-number : (a b : ℕ) → b < a → (a == b) ≡ false
other-number a b less = grind (arith, nat_tests)

pub none-below : (slots : List NotedSlot) (least : ℕ) (key : SlotKey) → RiseFrom least slots → number_of key < least → slot_at slots key ≡ None
none-below [] least key rises less = refl
none-below (s ∷ rest) least key rises less =
    let most : number_of key < number_of s.key = omega (arith, rises.0, less) in
    ap (λ b. if b then Some s else slot_at rest key) (other-number (number_of s.key) (number_of key) most)
    ∙ none-below rest (number_of s.key + 1) key rises.1 (omega (arith, most))

pub first-found : (s : NotedSlot) (rest : List NotedSlot) (key : SlotKey) → number_of s.key ≡ number_of key → slot_at (s ∷ rest) key ≡ Some s
first-found s rest key same = ap (λ b. if b then Some s else slot_at rest key) (eq-eqb (number_of s.key) (number_of key) same)

-- ---- the same lists have the same look-ups

same-keys : (a b : NotedSlot) → is_same_slot a b ≡ true → number_of a.key ≡ number_of b.key
same-keys a b same =
    let parts = and_parts (is_same_key a.key b.key && same_words (words_of a.capability) (words_of b.capability)) (is_same_parent a.parent b.parent) same in
    eqb-true (number_of a.key) (number_of b.key) (and_parts (is_same_key a.key b.key) (same_words (words_of a.capability) (words_of b.capability)) parts.0).0

pub same-looks : (slots others : List NotedSlot) (key : SlotKey) → are_same_slots slots others ≡ true →
    is_same_held (slot_at slots key) (slot_at others key) ≡ true
same-looks [] [] key same = refl
same-looks [] (b ∷ bs) key same = absurd (let clash : false ≡ true = same in cc)
same-looks (a ∷ as_) [] key same = absurd (let clash : false ≡ true = same in cc)
same-looks (a ∷ as_) (b ∷ bs) key same =
    let parts = and_parts (is_same_slot a b) (are_same_slots as_ bs) same in
    ap (λ n. is_same_held (if n == number_of key then Some a else slot_at as_ key) (slot_at (b ∷ bs) key)) (same-keys a b parts.0)
    ∙ (elim (number_of b.key == number_of key) as (λ c. is_same_held (if c then Some a else slot_at as_ key) (if c then Some b else slot_at bs key) ≡ true) [
      | true ↦ parts.0
      | false ↦ same-looks as_ bs key parts.1
    ])

-- ---- lists with the same look-ups are the same

pub looks-same : (slots others : List NotedSlot) (least low : ℕ) → RiseFrom least slots → RiseFrom low others
    → ((key : SlotKey) → is_same_held (slot_at slots key) (slot_at others key) ≡ true) → are_same_slots slots others ≡ true
looks-same [] [] least low rises rise held = refl
looks-same [] (b ∷ bs) least low rises rise held =
    absurd (let clash : false ≡ true = sym (ap (is_same_held None) (first-found b bs b.key refl)) ∙ held b.key in cc)
looks-same (a ∷ as_) [] least low rises rise held =
    absurd (let clash : false ≡ true = sym (ap (λ found. is_same_held found None) (first-found a as_ a.key refl)) ∙ held a.key in cc)
looks-same (a ∷ as_) (b ∷ bs) least low rises rise held = elim (eqb_tells (number_of a.key) (number_of b.key)) [
  | inl same ↦
      let one : is_same_slot a b ≡ true =
      ap (λ found. is_same_held found (Some b)) (sym (first-found a as_ a.key refl))
      ∙ ap (is_same_held (slot_at (a ∷ as_) a.key)) (sym (first-found b bs a.key (sym same.1))) ∙ held a.key in
      let rest : are_same_slots as_ bs ≡ true = looks-same as_ bs (number_of a.key + 1) (number_of b.key + 1) rises.1 rise.1
      (λ key. behind a b as_ bs key same.1 rises.1 rise.1 (held key)) in
      ap (λ c. c && are_same_slots as_ bs) one ∙ rest
  | inr other ↦ elim (cases_lt (number_of a.key) (number_of b.key)) [
    | inl less ↦
        let none : slot_at (b ∷ bs) a.key ≡ None = none-below (b ∷ bs) (number_of b.key) a.key (omega arith, rise.1) less in
        absurd (let clash : false ≡ true = ap (λ found. is_same_held found None) (sym (first-found a as_ a.key refl))
        ∙ ap (is_same_held (slot_at (a ∷ as_) a.key)) (sym none) ∙ held a.key in cc)
    | inr most ↦
        let less : number_of b.key < number_of a.key = omega (arith, most, other.1) in
        let none : slot_at (a ∷ as_) b.key ≡ None = none-below (a ∷ as_) (number_of a.key) b.key (omega arith, rises.1) less in
        absurd (let clash : false ≡ true = ap (is_same_held None) (sym (first-found b bs b.key refl))
        ∙ ap (λ found. is_same_held found (slot_at (b ∷ bs) b.key)) (sym none) ∙ held b.key in cc)
  ]
]
  where
    behind : (a b : NotedSlot) (as_ bs : List NotedSlot) (key : SlotKey) → number_of a.key ≡ number_of b.key → RiseFrom (number_of a.key + 1) as_ →
        RiseFrom (number_of b.key + 1) bs
        → is_same_held (slot_at (a ∷ as_) key) (slot_at (b ∷ bs) key) ≡ true → is_same_held (slot_at as_ key) (slot_at bs key) ≡ true
    behind a b as_ bs key same rises rise held = elim (eqb_tells (number_of a.key) (number_of key)) [
      | inl here ↦
          let none : slot_at as_ key ≡ None = none-below as_ (number_of a.key + 1) key rises (omega (arith, here.1)) in
          let nothing : slot_at bs key ≡ None = none-below bs (number_of b.key + 1) key rise (omega (arith, here.1, same)) in
          ap (λ found. is_same_held found (slot_at bs key)) none ∙ ap (is_same_held None) nothing
      | inr other ↦
          let first : slot_at (a ∷ as_) key ≡ slot_at as_ key = ap (λ c. if c then Some a else slot_at as_ key) other.0 in
          let second : slot_at (b ∷ bs) key ≡ slot_at bs key = ap (λ n. if n == number_of key then Some b else slot_at bs key) (sym same)
          ∙ ap (λ c. if c then Some b else slot_at bs key) other.0 in
          ap (λ found. is_same_held found (slot_at bs key)) (sym first) ∙ ap (is_same_held (slot_at (a ∷ as_) key)) (sym second) ∙ held
    ]

-- ---- a slot is the same as itself

same-words : (words : List ℕ) → pointwise nat_eq words words ≡ true
same-words [] = refl
same-words (w ∷ rest) = ap (λ b. b && pointwise nat_eq rest rest) (eq-eqb w w refl) ∙ same-words rest

pub same-parent : (parent : Option SlotKey) → is_same_parent parent parent ≡ true
same-parent None = refl
same-parent (Some key) = eq-eqb (number_of key) (number_of key) refl

pub same-itself : (found : Option NotedSlot) → is_same_held found found ≡ true
same-itself None = refl
same-itself (Some s) =
    ap (λ b. b && same_words (words_of s.capability) (words_of s.capability) && is_same_parent s.parent s.parent)
    (eq-eqb (number_of s.key) (number_of s.key) refl)
    ∙ ap (λ b. b && is_same_parent s.parent s.parent) (same-words (words_of s.capability)) ∙ same-parent s.parent

-- ---- changes keep keys rising

lower : (slots : List NotedSlot) (least low : ℕ) → low ≤ least → RiseFrom least slots → RiseFrom low slots
lower [] least low less rises = tt
lower (s ∷ rest) least low less rises = (omega (arith, rises.0, less), rises.1)

without-rises : (slots : List NotedSlot) (least : ℕ) (gone : SlotKey) → RiseFrom least slots → RiseFrom least (without_key gone slots)
without-rises [] least gone rises = tt
without-rises (s ∷ rest) least gone rises =
    let behind = without-rises rest (number_of s.key + 1) gone rises.1 in
    elim (is_same_key s.key gone) as (λ b. RiseFrom least (if not b then s ∷ without_key gone rest else without_key gone rest)) [
      | true ↦ lower (without_key gone rest) (number_of s.key + 1) least (omega (arith, rises.0)) behind
      | false ↦ (rises.0, behind)
    ]

put-rises : (slot : NotedSlot) (others : List NotedSlot) (least : ℕ) → RiseFrom least others → least ≤ number_of slot.key → slot_at others slot.key ≡ None →
    RiseFrom least (put_in slot others)
unfolding put_in
put-rises slot [] least rises more none = (more, tt)
put-rises slot (o ∷ rest) least rises more none = elim (cases_lt (number_of slot.key) (number_of o.key)) [
  | inl less ↦ put-first (nat_lt (number_of slot.key) (number_of o.key)) (below-test (number_of slot.key) (number_of o.key) less)
      (more, (omega (arith, less), rises.1))
  | inr most ↦ elim (eqb_tells (number_of o.key) (number_of slot.key)) [
    | inl same ↦ absurd (let clash : Some o ≡ None = sym (first-found o rest slot.key same.1) ∙ none in cc)
    | inr other ↦
        let apart : slot_at rest slot.key ≡ None = sym (ap (λ c. if c then Some o else slot_at rest slot.key) other.0) ∙ none in
        put-behind (nat_lt (number_of slot.key) (number_of o.key)) (above-test (number_of slot.key) (number_of o.key) most)
        (rises.0, put-rises slot rest (number_of o.key + 1) rises.1 (omega (arith, most, other.1)) apart)
  ]
]
  where
    below-test : (a b : ℕ) → a < b → nat_lt a b ≡ true
    below-test a b less = grind (arith, nat_tests)

    above-test : (a b : ℕ) → b ≤ a → nat_lt a b ≡ false
    above-test a b most = grind (arith, nat_tests)

    put-first : (c : Bool) → c ≡ true → RiseFrom least (slot ∷ o ∷ rest) → RiseFrom least (if c then slot ∷ o ∷ rest else o ∷ put_in slot rest)
    put-first true is rises = rises
    put-first false is rises = absurd (let clash : false ≡ true = is in cc)

    put-behind : (c : Bool) → c ≡ false → RiseFrom least (o ∷ put_in slot rest) → RiseFrom least (if c then slot ∷ o ∷ rest else o ∷ put_in slot rest)
    put-behind true is rises = absurd (let clash : true ≡ false = is in cc)
    put-behind false is rises = rises

pub noted-rises : (slots : List NotedSlot) (change : NotedSlot) → RiseFrom 0 slots → RiseFrom 0 (with_noted slots change)
noted-rises slots change rises =
    let others = without_key change.key slots in
    let left = without-rises slots 0 change.key rises in
    let none : slot_at others change.key ≡ None = without-at slots change.key change.key
    ∙ ap (λ b. if b then None else slot_at slots change.key) (eq-eqb (number_of change.key) (number_of change.key) refl) in
    elim (is_empty change.capability) as (λ b. RiseFrom 0 (if b then others else put_in change others))
    [ true ↦ left | false ↦ put-rises change others 0 left (omega arith) none ]

pub changes-rise : (slots changes : List NotedSlot) → RiseFrom 0 slots → RiseFrom 0 (changed slots changes)
changes-rise slots [] rises = rises
changes-rise slots (change ∷ rest) rises = changes-rise (with_noted slots change) rest (noted-rises slots change rises)

-- ---- and equal, where each look-up is equal

pub looks-equal : (slots others : List NotedSlot) (least low : ℕ) → RiseFrom least slots → RiseFrom low others →
    ((key : SlotKey) → slot_at slots key ≡ slot_at others key) → slots ≡ others
looks-equal [] [] least low rises rise held = refl
looks-equal [] (b ∷ bs) least low rises rise held = absurd (let clash : None ≡ Some b = held b.key ∙ first-found b bs b.key refl in cc)
looks-equal (a ∷ as_) [] least low rises rise held = absurd (let clash : Some a ≡ None = sym (first-found a as_ a.key refl) ∙ held a.key in cc)
looks-equal (a ∷ as_) (b ∷ bs) least low rises rise held = elim (eqb_tells (number_of a.key) (number_of b.key)) [
  | inl same ↦
      let both : Some a ≡ Some b = sym (first-found a as_ a.key refl) ∙ held a.key ∙ first-found b bs a.key (sym same.1) in
      let one : a ≡ b = cc in
      let rest : as_ ≡ bs = looks-equal as_ bs (number_of a.key + 1) (number_of b.key + 1) rises.1 rise.1 (λ key. tails key same.1) in
      ap (λ (s : NotedSlot). s ∷ as_) one ∙ ap (λ (more : List NotedSlot). b ∷ more) rest
  | inr other ↦ elim (cases_lt (number_of a.key) (number_of b.key)) [
    | inl less ↦
        let none : slot_at (b ∷ bs) a.key ≡ None = none-below (b ∷ bs) (number_of b.key) a.key (omega arith, rise.1) less in
        absurd (let clash : Some a ≡ None = sym (first-found a as_ a.key refl) ∙ held a.key ∙ none in cc)
    | inr most ↦
        let less : number_of b.key < number_of a.key = omega (arith, most, other.1) in
        let none : slot_at (a ∷ as_) b.key ≡ None = none-below (a ∷ as_) (number_of a.key) b.key (omega arith, rises.1) less in
        absurd (let clash : None ≡ Some b = sym none ∙ held b.key ∙ first-found b bs b.key refl in cc)
  ]
]
  where
    tails : (key : SlotKey) → number_of a.key ≡ number_of b.key → slot_at as_ key ≡ slot_at bs key
    tails key same = elim (eqb_tells (number_of a.key) (number_of key)) [
      | inl here ↦
          none-below as_ (number_of a.key + 1) key rises.1 (omega (arith, here.1))
          ∙ sym (none-below bs (number_of b.key + 1) key rise.1 (omega (arith, here.1, same)))
      | inr other ↦
          sym (ap (λ c. if c then Some a else slot_at as_ key) other.0) ∙ held key
          ∙ ap (λ n. if n == number_of key then Some b else slot_at bs key) (sym same) ∙ ap (λ c. if c then Some b else slot_at bs key) other.0
    ]
