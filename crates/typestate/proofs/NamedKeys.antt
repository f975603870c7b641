-- From slots of a thread's CNodes to their keys, and back.
use Rattle.std.proofs.Common.{ℕ, zero, suc, ◌≡◌, ◌∙◌, ◌==◌, ◌+◌, ◌-◌, ◌*◌, ◌/◌, ◌^◌, ◌<◌, ◌≤◌, ◌≢◌, ◌&&◌, ◌||◌, inl, inr, Bool, true, false, nat_lt}
use Rattle.std.proofs.Common.{if◌then◌else◌, Option, Some, None, option_map, List, [], ◌∷◌, ◌++◌, map, filter, refl, sym, ap, subst, arith}
use Rattle.std.specs.Option.{option_map_or}
use Rattle.std.specs.List.{cons_option, filter_map, find, flat_map, list_any, range_with_len}
use Rattle.std.proofs.lemmas.Bool.{and_parts, eq-eqb}
use Rattle.std.proofs.lemmas.Bool.Decides.{eqb_tells, nat_tests}
use Rattle.model.specs.Acceptance.NotedKernel.{key_of, keys_of, keys_of_cnode, object_numbers, slot_of_key, slots_of_cnode, stands_in}
use Rattle.model.specs.Acceptance.NotedStates.{NotedSlot, SlotKey, is_own, is_same_key, number_of, slot_at}
use Rattle.model.specs.Acceptance.ThreadRules.{is_member, reached}
use Rattle.model.specs.Acceptance.WellFormed.{has_slot, radix_of}
use Rattle.model.specs.Capabilities.Slots.{is_within}
use Rattle.model.specs.Images.Image.{Image, Thread}
use Rattle.model.specs.Images.Places.{cnode_slot, offset_of, type_at}
use Rattle.typestate.specs.Spaces.{StandsApart}
use Rattle.typestate.proofs.Rising.{RiseFrom, first-found, none-below}

-- ---- what is found in a list

find-passes : {A : Type 0} (test : A → Bool) (xs : List A) (x : A) → find test xs ≡ Some x → test x ≡ true
find-passes test [] x is = absurd (let clash : None ≡ Some x = is in cc)
find-passes test (y ∷ ys) x is = elim (test y) as (λ b. test y ≡ b → (if b then Some y else find test ys) ≡ Some x → test x ≡ true) [
  | true ↦ λ passes here. let same : y ≡ x = cc in ap test (sym same) ∙ passes
  | false ↦ λ _ later. find-passes test ys x later
] refl is

or-second : (a b : Bool) → b ≡ true → (a || b) ≡ true
or-second true b is = refl
or-second false b is = is

find-member : (test : ℕ → Bool) (xs : List ℕ) (x : ℕ) → find test xs ≡ Some x → is_member x xs ≡ true
find-member test [] x is = absurd (let clash : None ≡ Some x = is in cc)
find-member test (y ∷ ys) x is = elim (test y) as (λ b. (if b then Some y else find test ys) ≡ Some x → (x == y || is_member x ys) ≡ true) [
  | true ↦ λ here. let same : x ≡ y = cc in ap (λ b. b || is_member x ys) (eq-eqb x y same)
  | false ↦ λ later. or-second (x == y) (is_member x ys) (find-member test ys x later)
] is

find-only : (test : ℕ → Bool) (xs : List ℕ) (x : ℕ) → is_member x xs ≡ true → test x ≡ true → ((y : ℕ) → is_member y xs ≡ true → test y ≡ true → y ≡ x) →
    find test xs ≡ Some x
find-only test [] x member passes only = absurd (let clash : false ≡ true = member in cc)
find-only test (y ∷ ys) x member passes only = elim (test y) as (λ b. test y ≡ b → (if b then Some y else find test ys) ≡ Some x) [
  | true ↦ λ is. ap (λ n. Some n) (only y (ap (λ b. b || is_member y ys) (eq-eqb y y refl)) is)
  | false ↦ λ isnt. elim (eqb_tells x y) [
    | inl same ↦ absurd (let clash : false ≡ true = sym isnt ∙ ap test (sym same.1) ∙ passes in cc)
    | inr other ↦ find-only test ys x (sym (ap (λ b. b || is_member x ys) other.0) ∙ member) passes
        (λ z among is. only z (or-second (z == y) (is_member z ys) among) is)
  ]
] refl

-- ---- keys and numbers

has-slot-is : (image : Image) (cnode index : ℕ) → has_slot image cnode index ≡ nat_lt index (slots_of_cnode image cnode)
has-slot-is image cnode index = by-radix (radix_of (type_at image cnode))
  where
    none : (i : ℕ) → false ≡ nat_lt i 0
    none i = grind (arith, nat_tests)

    by-radix : (found : Option ℕ) → option_map_or (λ radix. nat_lt index (2 ^ radix)) found false ≡ nat_lt index (option_map_or (λ radix. 2 ^ radix) found 0)
    by-radix None = none index
    by-radix (Some radix) = refl

within-index : (first count slot : ℕ) → is_within first count slot ≡ true → nat_lt (slot - first) count ≡ true
within-index first count slot is = grind (arith, nat_tests)

within-from : (first count slot : ℕ) → is_within first count slot ≡ true → first ≤ slot
within-from first count slot is = grind (arith, nat_tests)

index-within : (first count index : ℕ) → nat_lt index count ≡ true → is_within (first + 0) count (first + index) ≡ true
index-within first count index is = grind (arith, nat_tests)

pub record IsNamed (image : Image) (cnodes : List ℕ) (slot : ℕ) (key : SlotKey) : Type 0 where
  pub place : slot_of_key image key ≡ slot
  pub own : is_own image cnodes key ≡ true

abbrev key_at : Image → ℕ → ℕ → SlotKey
key_at image slot cnode = record { cnode = cnode; index = slot - cnode_slot image cnode 0 }

pub key-named : (image : Image) (cnodes : List ℕ) (slot : ℕ) (key : SlotKey) → key_of image cnodes slot ≡ Some key → IsNamed image cnodes slot key
key-named image cnodes slot key is = elim (find (stands_in image slot) cnodes)
    as (λ found. find (stands_in image slot) cnodes ≡ found → option_map (key_at image slot) found ≡ Some key → IsNamed image cnodes slot key) [
      | None ↦ λ _ clash. absurd (let no : None ≡ Some key = clash in cc)
      | Some cnode ↦ λ at here.
          let same : key_at image slot cnode ≡ key = (let both : Some (key_at image slot cnode) ≡ Some key = here in cc) in
          let stands = find-passes (stands_in image slot) cnodes cnode at in
          let from = within-from (cnode_slot image cnode 0) (slots_of_cnode image cnode) slot stands in
          let made : IsNamed image cnodes slot (key_at image slot cnode) = record {
            place = back (offset_of image cnode / 16) slot from;
            own = ap (λ b. b && has_slot image cnode (slot - cnode_slot image cnode 0)) (find-member (stands_in image slot) cnodes cnode at)
                ∙ has-slot-is image cnode (slot - cnode_slot image cnode 0) ∙ within-index (cnode_slot image cnode 0) (slots_of_cnode image cnode) slot stands;
          } in
          subst (λ (k : SlotKey). IsNamed image cnodes slot k) same made
    ] refl is
  where
    back : (first slot : ℕ) → first + 0 ≤ slot → first + (slot - (first + 0)) ≡ slot
    back first slot from = omega (arith, from)

module _ (image : Image) (t : Thread) (stand : StandsApart image t) where
  abbrev cnodes : List ℕ
  cnodes = reached image t

  own-parts : (key : SlotKey) → is_own image cnodes key ≡ true → (is_member key.cnode cnodes ≡ true)
      × (nat_lt key.index (slots_of_cnode image key.cnode) ≡ true)
  own-parts key own =
      let parts = and_parts (is_member key.cnode cnodes) (has_slot image key.cnode key.index) own in
      (parts.0, sym (has-slot-is image key.cnode key.index) ∙ parts.1)

  pub own-named : (key : SlotKey) → is_own image cnodes key ≡ true → key_of image cnodes (slot_of_key image key) ≡ Some key
  own-named key own =
      let parts = own-parts key own in
      let slot = slot_of_key image key in
      let stands : stands_in image slot key.cnode ≡ true = index-within (offset_of image key.cnode / 16) (slots_of_cnode image key.cnode) key.index parts.1 in
      ap (option_map (key_at image slot)) (find-only (stands_in image slot) cnodes key.cnode parts.0 stands
      (λ y member is. stand.apart y key.cnode slot member parts.0 is stands))
      ∙ ap (λ i. let k : SlotKey = record { cnode = key.cnode; index = i } in Some k) (index-back (offset_of image key.cnode / 16) key.index)
    where
      index-back : (first index : ℕ) → (first + index) - (first + 0) ≡ index
      index-back first index = omega arith

  small-index : (key : SlotKey) → is_own image cnodes key ≡ true → key.index < 2 ^ 32
  small-index key own =
      let parts = own-parts key own in
      below key.index (slots_of_cnode image key.cnode) parts.1 (stand.small key.cnode parts.0)
    where
      below : (i n : ℕ) → nat_lt i n ≡ true → n ≤ 2 ^ 14 → i < 2 ^ 32
      below i n less few = let l : i < n = grind (arith, nat_tests) in omega (arith, l, few)

  pub same-own-key : (a b : SlotKey) → is_own image cnodes a ≡ true → is_own image cnodes b ≡ true → number_of a ≡ number_of b → a ≡ b
  same-own-key a b mine yours same =
      let one : a.cnode ≡ b.cnode = firsts a.cnode a.index b.cnode b.index (small-index a mine) (small-index b yours) same in
      let two : a.index ≡ b.index = omega (arith, same, one) in
      ap (λ n. let k : SlotKey = record { cnode = n; index = a.index } in k) one ∙ ap (λ n. let k : SlotKey = record { cnode = b.cnode; index = n } in k) two
    where
      firsts : (x i y j : ℕ) → i < 2 ^ 32 → j < 2 ^ 32 → x * 2 ^ 32 + i ≡ y * 2 ^ 32 + j → x ≡ y
      firsts x i y j first second same = omega (arith, first, second, same)

-- ---- lists of keys that rise

abbrev pub KeysBetween : ℕ → ℕ → List SlotKey → Type 0
KeysBetween least bound [] = least ≤ bound
KeysBetween least bound (k ∷ rest) = (least ≤ number_of k) × KeysBetween (number_of k + 1) bound rest

keys-lower : (keys : List SlotKey) (low least bound : ℕ) → low ≤ least → KeysBetween least bound keys → KeysBetween low bound keys
keys-lower [] low least bound less between = omega (arith, less, between)
keys-lower (k ∷ rest) low least bound less between = (omega (arith, less, between.0), between.1)

keys-append : (xs ys : List SlotKey) (least middle bound : ℕ) → KeysBetween least middle xs → KeysBetween middle bound ys → KeysBetween least bound (xs ++ ys)
keys-append [] ys least middle bound first second = keys-lower ys least middle bound first second
keys-append (x ∷ xs) ys least middle bound first second = (first.0, keys-append xs ys (number_of x + 1) middle bound first.1 second)

abbrev key_of_index : ℕ → ℕ → SlotKey
key_of_index cnode index = record { cnode = cnode; index = index }

range-between : (cnode a n least bound : ℕ) → least ≤ cnode * 2 ^ 32 + a → cnode * 2 ^ 32 + a + n ≤ bound →
    KeysBetween least bound (map (key_of_index cnode) (range_with_len a n))
range-between cnode a zero least bound from to = omega (arith, from, to)
range-between cnode a (suc n) least bound from to =
    (omega (arith, from), range-between cnode (a + 1) n (number_of (key_of_index cnode a) + 1) bound (omega arith) (omega (arith, to)))

keys-between : (image : Image) (test : ℕ → Bool) (a n : ℕ) → ((cnode : ℕ) → test cnode ≡ true → slots_of_cnode image cnode ≤ 2 ^ 14)
    → KeysBetween (a * 2 ^ 32) ((a + n) * 2 ^ 32) (flat_map (keys_of_cnode image) (filter test (range_with_len a n)))
keys-between image test a zero few = omega arith
keys-between image test a (suc n) few =
    let next = keys-lower (flat_map (keys_of_cnode image) (filter test (range_with_len (a + 1) n))) (a * 2 ^ 32) ((a + 1) * 2 ^ 32) ((a + suc n) * 2 ^ 32)
    (omega arith)
    (subst (λ m. KeysBetween ((a + 1) * 2 ^ 32) (m * 2 ^ 32) (flat_map (keys_of_cnode image) (filter test (range_with_len (a + 1) n))))
    (let e : a + 1 + n ≡ a + suc n = omega arith in e) (keys-between image test (a + 1) n few)) in
    elim (test a) as (λ b. test a ≡ b → KeysBetween (a * 2 ^ 32) ((a + suc n) * 2 ^ 32)
    (flat_map (keys_of_cnode image) (if b then a ∷ filter test (range_with_len (a + 1) n) else filter test (range_with_len (a + 1) n)))) [
      | false ↦ λ _. next
      | true ↦ λ is.
          let behind = subst (λ m. KeysBetween ((a + 1) * 2 ^ 32) (m * 2 ^ 32) (flat_map (keys_of_cnode image) (filter test (range_with_len (a + 1) n))))
          (let e : a + 1 + n ≡ a + suc n = omega arith in e) (keys-between image test (a + 1) n few) in
          keys-append (keys_of_cnode image a) (flat_map (keys_of_cnode image) (filter test (range_with_len (a + 1) n))) (a * 2 ^ 32) ((a + 1) * 2 ^ 32)
          ((a + suc n) * 2 ^ 32)
          (range-between a 0 (slots_of_cnode image a) (a * 2 ^ 32) ((a + 1) * 2 ^ 32) (omega arith) (fits a (slots_of_cnode image a) (few a is))) behind
    ] refl
  where
    fits : (a n : ℕ) → n ≤ 2 ^ 14 → a * 2 ^ 32 + 0 + n ≤ (a + 1) * 2 ^ 32
    fits a n less = omega (arith, less)

-- ---- which keys are in them

abbrev pub is_among : SlotKey → List SlotKey → Bool
is_among key keys = list_any (λ k. is_same_key k key) keys

abbrev pub EachKey : (SlotKey → Type 0) → List SlotKey → Type 0
EachKey P [] = Unit {0}
EachKey P (k ∷ rest) = P k × EachKey P rest

among-append : (key : SlotKey) (xs ys : List SlotKey) → is_among key (xs ++ ys) ≡ (is_among key xs || is_among key ys)
among-append key [] ys = refl
among-append key (x ∷ xs) ys = ap (λ b. is_same_key x key || b) (among-append key xs ys) ∙ or-again (is_same_key x key) (is_among key xs) (is_among key ys)
  where
    or-again : (a b c : Bool) → (a || (b || c)) ≡ ((a || b) || c)
    or-again true b c = refl
    or-again false b c = refl

each-append : (P : SlotKey → Type 0) (xs ys : List SlotKey) → EachKey P xs → EachKey P ys → EachKey P (xs ++ ys)
each-append P [] ys first second = second
each-append P (x ∷ xs) ys first second = (first.0, each-append P xs ys first.1 second)

range-among : (cnode a n index : ℕ) → a ≤ index → index < a + n → is_among (key_of_index cnode index) (map (key_of_index cnode) (range_with_len a n)) ≡ true
range-among cnode a zero index from below = absurd (omega (arith, from, below))
range-among cnode a (suc n) index from below = elim (eqb_tells (number_of (key_of_index cnode a)) (number_of (key_of_index cnode index))) [
  | inl same ↦ ap (λ b. b || is_among (key_of_index cnode index) (map (key_of_index cnode) (range_with_len (a + 1) n))) same.0
  | inr other ↦ or-second (is_same_key (key_of_index cnode a) (key_of_index cnode index)) _
      (range-among cnode (a + 1) n index (later a index from other.1) (omega (arith, below)))
]
  where
    later : (a index : ℕ) → a ≤ index → cnode * 2 ^ 32 + a ≢ cnode * 2 ^ 32 + index → a + 1 ≤ index
    later a index from other = omega (arith, from, other)

keys-among : (image : Image) (test : ℕ → Bool) (a n : ℕ) (key : SlotKey) → test key.cnode ≡ true → nat_lt key.index (slots_of_cnode image key.cnode) ≡ true →
    a ≤ key.cnode → key.cnode < a + n
    → is_among key (flat_map (keys_of_cnode image) (filter test (range_with_len a n))) ≡ true
keys-among image test a zero key mine below from to = absurd (omega (arith, from, to))
keys-among image test a (suc n) key mine below from to =
    let rest = flat_map (keys_of_cnode image) (filter test (range_with_len (a + 1) n)) in
    elim (eqb_tells a key.cnode) [
      | inl same ↦
          let first : is_among key (keys_of_cnode image key.cnode) ≡ true =
          range-among key.cnode 0 (slots_of_cnode image key.cnode) key.index (omega arith) (less key.index (slots_of_cnode image key.cnode) below) in
          let here : is_among key (keys_of_cnode image a ++ rest) ≡ true =
          among-append key (keys_of_cnode image a) rest ∙ ap (λ c. is_among key (keys_of_cnode image c) || is_among key rest) same.1
          ∙ ap (λ b. b || is_among key rest) first in
          ap (λ b. is_among key
          (flat_map (keys_of_cnode image) (if b then a ∷ filter test (range_with_len (a + 1) n) else filter test (range_with_len (a + 1) n))))
          (ap test same.1 ∙ mine) ∙ here
      | inr other ↦
          let next : is_among key rest ≡ true = keys-among image test (a + 1) n key mine below (further a key.cnode from other.1) (omega (arith, to)) in
          elim (test a) as (λ b.
          is_among key (flat_map (keys_of_cnode image) (if b then a ∷ filter test (range_with_len (a + 1) n) else filter test (range_with_len (a + 1) n)))
          ≡ true) [
            | true ↦ among-append key (keys_of_cnode image a) rest ∙ or-second (is_among key (keys_of_cnode image a)) (is_among key rest) next
            | false ↦ next
          ]
    ]
  where
    less : (i n : ℕ) → nat_lt i n ≡ true → i < 0 + n
    less i n is = grind (arith, nat_tests)

    further : (a c : ℕ) → a ≤ c → a ≢ c → a + 1 ≤ c
    further a c from other = omega (arith, from, other)

range-own : (image : Image) (numbers : List ℕ) (cnode a n : ℕ) → is_member cnode numbers ≡ true → a + n ≤ slots_of_cnode image cnode
    → EachKey (λ k. is_own image numbers k ≡ true) (map (key_of_index cnode) (range_with_len a n))
range-own image numbers cnode a zero member few = tt
range-own image numbers cnode a (suc n) member few = (
  ap (λ b. b && has_slot image cnode a) member ∙ has-slot-is image cnode a ∙ below a (slots_of_cnode image cnode) (omega (arith, few)),
  range-own image numbers cnode (a + 1) n member (omega (arith, few)),
)
  where
    below : (i n : ℕ) → i < n → nat_lt i n ≡ true
    below i n less = grind (arith, nat_tests)

keys-own : (image : Image) (numbers : List ℕ) (ns : List ℕ) →
    EachKey (λ k. is_own image numbers k ≡ true) (flat_map (keys_of_cnode image) (filter (λ number. is_member number numbers) ns))
keys-own image numbers [] = tt
keys-own image numbers (n ∷ ns) =
    let next = keys-own image numbers ns in
    elim (is_member n numbers) as (λ b. is_member n numbers ≡ b →
    EachKey (λ k. is_own image numbers k ≡ true)
    (flat_map (keys_of_cnode image) (if b then n ∷ filter (λ number. is_member number numbers) ns else filter (λ number. is_member number numbers) ns))) [
      | true ↦ λ is. each-append (λ k. is_own image numbers k ≡ true) (keys_of_cnode image n)
          (flat_map (keys_of_cnode image) (filter (λ number. is_member number numbers) ns))
          (range-own image numbers n 0 (slots_of_cnode image n) is (omega arith)) next
      | false ↦ λ _. next
    ] refl

-- ---- slots by these keys

abbrev pub KeepsKeys : (SlotKey → Option NotedSlot) → Type 0
KeepsKeys f = (k : SlotKey) (s : NotedSlot) → f k ≡ Some s → s.key ≡ k

pub kept-rise : (f : SlotKey → Option NotedSlot) → KeepsKeys f → (keys : List SlotKey) (least bound : ℕ) → KeysBetween least bound keys →
    RiseFrom least (filter_map f keys)
kept-rise f keeps [] least bound between = tt
kept-rise f keeps (k ∷ rest) least bound between = elim (f k) as (λ o. f k ≡ o → RiseFrom least (cons_option o (filter_map f rest))) [
  | None ↦ λ _. rise-lower (filter_map f rest) least (number_of k + 1) (omega (arith, between.0)) (kept-rise f keeps rest (number_of k + 1) bound between.1)
  | Some s ↦ λ is.
      let same : number_of s.key ≡ number_of k = ap number_of (keeps k s is) in
      (omega (arith, between.0, same), subst (λ m. RiseFrom (m + 1) (filter_map f rest)) (sym same) (kept-rise f keeps rest (number_of k + 1) bound between.1))
] refl
  where
    rise-lower : (slots : List NotedSlot) (low least : ℕ) → low ≤ least → RiseFrom least slots → RiseFrom low slots
    rise-lower [] low least less rises = tt
    rise-lower (s ∷ rest) low least less rises = (omega (arith, less, rises.0), rises.1)

pub kept-each : (f : SlotKey → Option NotedSlot) → KeepsKeys f → (P : SlotKey → Type 0) (keys : List SlotKey) (key : SlotKey) (s : NotedSlot) → EachKey P keys →
    slot_at (filter_map f keys) key ≡ Some s → P s.key
kept-each f keeps P [] key s each found = absurd (let clash : None ≡ Some s = found in cc)
kept-each f keeps P (k ∷ rest) key s each found = elim (f k) as (λ o. f k ≡ o → slot_at (cons_option o (filter_map f rest)) key ≡ Some s → P s.key) [
  | None ↦ λ _ later. kept-each f keeps P rest key s each.1 later
  | Some r ↦ λ is at. elim (is_same_key r.key key) as (λ b. (if b then Some r else slot_at (filter_map f rest) key) ≡ Some s → P s.key) [
    | true ↦ λ here. let one : r ≡ s = cc in subst P (sym (keeps k r is) ∙ ap (λ (x : NotedSlot). x.key) one) each.0
    | false ↦ λ later. kept-each f keeps P rest key s each.1 later
  ] at
] refl found

module _ (f : SlotKey → Option NotedSlot) (keeps : KeepsKeys f) (P : SlotKey → Type 0)
    (one : (a b : SlotKey) → P a → P b → number_of a ≡ number_of b → a ≡ b) where
  kept-none : (keys : List SlotKey) (least bound : ℕ) (key : SlotKey) → KeysBetween least bound keys → number_of key < least →
      slot_at (filter_map f keys) key ≡ None
  kept-none keys least bound key between less = none-below (filter_map f keys) least key (kept-rise f keeps keys least bound between) less

  pub kept-at : (keys : List SlotKey) (least bound : ℕ) (key : SlotKey) → KeysBetween least bound keys → EachKey P keys → P key → is_among key keys ≡ true →
      slot_at (filter_map f keys) key ≡ f key
  kept-at [] least bound key between each mine among = absurd (let clash : false ≡ true = among in cc)
  kept-at (k ∷ rest) least bound key between each mine among = elim (eqb_tells (number_of k) (number_of key)) [
    | inl same ↦
        let here : f k ≡ f key = ap f (one k key each.0 mine same.1) in
        elim (f k) as (λ o. f k ≡ o → slot_at (cons_option o (filter_map f rest)) key ≡ f key) [
          | None ↦ λ is. kept-none rest (number_of k + 1) bound key between.1 (omega (arith, same.1)) ∙ sym is ∙ here
          | Some s ↦ λ is. first-found s (filter_map f rest) key (ap number_of (keeps k s is) ∙ same.1) ∙ sym is ∙ here
        ] refl
    | inr other ↦
        let later : slot_at (filter_map f rest) key ≡ f key =
        kept-at rest (number_of k + 1) bound key between.1 each.1 mine (sym (ap (λ b. b || is_among key rest) other.0) ∙ among) in
        elim (f k) as (λ o. f k ≡ o → slot_at (cons_option o (filter_map f rest)) key ≡ f key) [
          | None ↦ λ _. later
          | Some s ↦ λ is. ap (λ n. if n == number_of key then Some s else slot_at (filter_map f rest) key) (ap number_of (keeps k s is))
              ∙ ap (λ b. if b then Some s else slot_at (filter_map f rest) key) other.0 ∙ later
        ] refl
  ]

-- ---- all of a thread's

pub keys-rise : (image : Image) (t : Thread) → StandsApart image t →
    KeysBetween (0 * 2 ^ 32) ((0 + image.header.objects) * 2 ^ 32) (keys_of image (reached image t))
keys-rise image t stand = keys-between image (λ number. is_member number (reached image t)) 0 image.header.objects stand.small

pub own-among : (image : Image) (t : Thread) → StandsApart image t → (key : SlotKey) → is_own image (reached image t) key ≡ true →
    is_among key (keys_of image (reached image t)) ≡ true
own-among image t stand key own =
    let parts = own-parts image t stand key own in
    keys-among image (λ number. is_member number (reached image t)) 0 image.header.objects key parts.0 parts.1 (omega arith)
    (omega (arith, stand.listed key.cnode parts.0))

pub each-own : (image : Image) (t : Thread) → EachKey (λ k. is_own image (reached image t) k ≡ true) (keys_of image (reached image t))
each-own image t = keys-own image (reached image t) (object_numbers image)
