-- The keys of a thread's slots: each slot of its CNodes has its key among them, and keys with the same number are the same.
use Rattle.std.proofs.Common.{ℕ, zero, suc, ◌≡◌, ◌∙◌, ◌+◌, ◌-◌, ◌*◌, ◌/◌, ◌^◌, ◌<◌, ◌≤◌, ◌≢◌, ◌||◌, inl, inr, Bool, true, false, nat_eq, if◌then◌else◌, Some}
use Rattle.std.proofs.Common.{option_map, List, [], ◌∷◌, ◌++◌, map, filter, refl, sym, ap, subst, arith}
use Rattle.std.specs.List.{find, flat_map, list_any, range_with_len}
use Rattle.std.proofs.lemmas.Bool.{eq-eqb, false≢true}
use Rattle.std.proofs.lemmas.Bool.Decides.{eqb_tells, nat_tests}
use Rattle.model.specs.Acceptance.NotedKernel.{key_of, keys_of, keys_of_cnode, slot_of_key, slots_of_cnode, stands_in}
use Rattle.model.specs.Acceptance.NotedStates.{SlotKey, is_same_key, number_of}
use Rattle.model.specs.Acceptance.ThreadRules.{is_member, reached}
use Rattle.model.specs.Capabilities.Slots.{is_within}
use Rattle.model.specs.Images.Image.{Image, Thread}
use Rattle.model.specs.Images.Places.{cnode_slot, offset_of}
use Rattle.typestate.specs.Spaces.{StandsApart}
use Rattle.typestate.proofs.Laws.{is_among}
use Rattle.thread_spaces.proofs.Laws.{or-second}

-- ---- what is found in a list of numbers

record IsFound (test : ℕ → Bool) (xs : List ℕ) : Type 0 where
  pub number : ℕ
  pub at : find test xs ≡ Some number
  pub passes : test number ≡ true
  pub member : is_member number xs ≡ true

found-first : (test : ℕ → Bool) (xs : List ℕ) → list_any test xs ≡ true → IsFound test xs
found-first test [] some = absurd (false≢true some)
found-first test (x ∷ rest) some = elim (test x) as (λ b. test x ≡ b → (b || list_any test rest) ≡ true → IsFound test (x ∷ rest)) [
  | true ↦ λ passes _. record {
    number = x;
    at = ap (λ b. if b then Some x else find test rest) passes;
    passes = passes;
    member = ap (λ b. b || is_member x rest) (eq-eqb x x refl);
  }
  | false ↦ λ fails later.
      let of = found-first test rest later in
      record {
        number = of.number;
        at = ap (λ b. if b then Some x else find test rest) fails ∙ of.at;
        passes = of.passes;
        member = or-second (nat_eq of.number x) (is_member of.number rest) of.member;
      }
] refl some

-- ---- the key of an own slot

-- a slot by its key, in one of these CNodes
pub record HasKey (image : Image) (cnodes : List ℕ) (slot : ℕ) : Type 0 where
  pub key : SlotKey
  pub at : key_of image cnodes slot ≡ Some key
  pub place : slot_of_key image key ≡ slot
  pub member : is_member key.cnode cnodes ≡ true
  pub inside : key.index < slots_of_cnode image key.cnode

abbrev key_at : Image → ℕ → ℕ → SlotKey
key_at image slot cnode = record { cnode = cnode; index = slot - cnode_slot image cnode 0 }

within-from : (first count slot : ℕ) → is_within first count slot ≡ true → first ≤ slot
within-from first count slot is = grind (arith, nat_tests)

within-index : (first count slot : ℕ) → is_within first count slot ≡ true → slot - first < count
within-index first count slot is = grind (arith, nat_tests)

back : (first slot : ℕ) → first + 0 ≤ slot → first + (slot - (first + 0)) ≡ slot
back first slot from = omega (arith, from)

pub key-found : (image : Image) (cnodes : List ℕ) (slot : ℕ) → list_any (stands_in image slot) cnodes ≡ true → HasKey image cnodes slot
key-found image cnodes slot own =
    let of = found-first (stands_in image slot) cnodes own in
    let first = cnode_slot image of.number 0 in
    let count = slots_of_cnode image of.number in
    record {
      key = key_at image slot of.number;
      at = ap (option_map (key_at image slot)) of.at;
      place = back (offset_of image of.number / 16) slot (within-from first count slot of.passes);
      member = of.member;
      inside = within-index first count slot of.passes;
    }

-- ---- which keys there are

abbrev pub AreLow : List SlotKey → Type 0
AreLow [] = Unit {0}
AreLow (k ∷ rest) = (k.index < 2 ^ 32) × AreLow rest

abbrev key_for : ℕ → ℕ → SlotKey
key_for cnode index = record { cnode = cnode; index = index }

low-append : (xs ys : List SlotKey) → AreLow xs → AreLow ys → AreLow (xs ++ ys)
low-append [] ys first second = second
low-append (x ∷ xs) ys first second = (first.0, low-append xs ys first.1 second)

low-range : (cnode a n : ℕ) → a + n ≤ 2 ^ 32 → AreLow (map (key_for cnode) (range_with_len a n))
low-range cnode a zero few = tt
low-range cnode a (suc n) few = (omega (arith, few), low-range cnode (a + 1) n (omega (arith, few)))

-- the keys of the CNodes among so many that pass a test
abbrev keys_from : Image → (ℕ → Bool) → ℕ → ℕ → List SlotKey
keys_from image test a n = flat_map (keys_of_cnode image) (filter test (range_with_len a n))

-- with the first CNode, or without it
abbrev with_first : Image → (ℕ → Bool) → ℕ → ℕ → Bool → List SlotKey
with_first image test a n passes =
    let others = filter test (range_with_len (a + 1) n) in
    flat_map (keys_of_cnode image) (if passes then a ∷ others else others)

low-all : (image : Image) (test : ℕ → Bool) (a n : ℕ) → ((cnode : ℕ) → test cnode ≡ true → slots_of_cnode image cnode ≤ 2 ^ 14)
    → AreLow (keys_from image test a n)
low-all image test a zero few = tt
low-all image test a (suc n) few =
    let others = low-all image test (a + 1) n few in
    elim (test a) as (λ b. test a ≡ b → AreLow (with_first image test a n b)) [
      | true ↦ λ is. low-append (keys_of_cnode image a) _ (low-range a 0 (slots_of_cnode image a) (fits (slots_of_cnode image a) (few a is))) others
      | false ↦ λ _. others
    ] refl
  where
    fits : (n : ℕ) → n ≤ 2 ^ 14 → 0 + n ≤ 2 ^ 32
    fits n less = omega (arith, less)

among-before : (key : SlotKey) (xs ys : List SlotKey) → is_among key xs ≡ true → is_among key (xs ++ ys) ≡ true
among-before key [] ys there = absurd (false≢true there)
among-before key (x ∷ xs) ys there = elim (is_same_key x key) as (λ b. (b || is_among key xs) ≡ true → (b || is_among key (xs ++ ys)) ≡ true) [
  | true ↦ λ _. refl
  | false ↦ λ later. among-before key xs ys later
] there

among-behind : (key : SlotKey) (xs ys : List SlotKey) → is_among key ys ≡ true → is_among key (xs ++ ys) ≡ true
among-behind key [] ys there = there
among-behind key (x ∷ xs) ys there = or-second (is_same_key x key) (is_among key (xs ++ ys)) (among-behind key xs ys there)

among-range : (cnode a n index : ℕ) → a ≤ index → index < a + n → is_among (key_for cnode index) (map (key_for cnode) (range_with_len a n)) ≡ true
among-range cnode a zero index from below = absurd (omega (arith, from, below))
among-range cnode a (suc n) index from below = elim (eqb_tells (number_of (key_for cnode a)) (number_of (key_for cnode index))) [
  | inl same ↦ ap (λ b. b || is_among (key_for cnode index) (map (key_for cnode) (range_with_len (a + 1) n))) same.0
  | inr other ↦ or-second (is_same_key (key_for cnode a) (key_for cnode index)) _
      (among-range cnode (a + 1) n index (later a index from other.1) (omega (arith, below)))
]
  where
    later : (a index : ℕ) → a ≤ index → cnode * 2 ^ 32 + a ≢ cnode * 2 ^ 32 + index → a + 1 ≤ index
    later a index from other = omega (arith, from, other)

among-all : (image : Image) (test : ℕ → Bool) (a n : ℕ) (key : SlotKey) → test key.cnode ≡ true → key.index < slots_of_cnode image key.cnode → a ≤ key.cnode →
    key.cnode < a + n
    → is_among key (keys_from image test a n) ≡ true
among-all image test a zero key passes inside from below = absurd (omega (arith, from, below))
among-all image test a (suc n) key passes inside from below = elim (eqb_tells a key.cnode) [
  | inl same ↦
      let here : test a ≡ true = ap test same.1 ∙ passes in
      let mine : is_among key (keys_of_cnode image a) ≡ true =
      subst (λ (c : ℕ). is_among key (keys_of_cnode image c) ≡ true) (sym same.1)
      (among-range key.cnode 0 (slots_of_cnode image key.cnode) key.index (omega arith) (omega (arith, inside))) in
      ap (λ b. is_among key (with_first image test a n b)) here
      ∙ among-before key (keys_of_cnode image a) _ mine
  | inr other ↦
      let others = among-all image test (a + 1) n key passes inside (next a key.cnode from other.1) (omega (arith, below)) in
      elim (test a) as (λ b. is_among key (with_first image test a n b) ≡ true) [
        | true ↦ among-behind key (keys_of_cnode image a) _ others
        | false ↦ others
      ]
]
  where
    next : (a c : ℕ) → a ≤ c → a ≢ c → a + 1 ≤ c
    next a c from other = omega (arith, from, other)

-- ---- the thread's

module _ (image : Image) (t : Thread) (stand : StandsApart image t) where
  abbrev cnodes : List ℕ
  cnodes = reached image t

  pub keys-low : AreLow (keys_of image cnodes)
  keys-low = low-all image (λ number. is_member number cnodes) 0 image.header.objects stand.small

  module _ (slot : ℕ) (of : HasKey image cnodes slot) where
    pub key-among : is_among of.key (keys_of image cnodes) ≡ true
    key-among =
        let listed = stand.listed of.key.cnode of.member in
        among-all image (λ number. is_member number cnodes) 0 image.header.objects of.key of.member of.inside (omega arith) (omega (arith, listed))

    pub key-low : of.key.index < 2 ^ 32
    key-low =
        let small = stand.small of.key.cnode of.member in
        let inside = of.inside in
        omega (arith, small, inside)
