-- The children of a slot are found by their links.
use Rattle.std.proofs.Common.{ℕ, ◌≡◌, ◌∙◌, ◌==◌, ◌*◌, ◌+◌, ◌/◌, ◌<◌, ◌≤◌, inl, inr, ◌||◌, ◌&&◌, Bool, true, false, not, is_some, if◌then◌else◌, Option, Some}
use Rattle.std.proofs.Common.{None, option_and_then, List, [], ◌∷◌, ◌++◌, refl, sym, ap, subst, arith}
use Rattle.std.specs.List.{AllByRecursion, filter, flat_map, list_any}
use Rattle.std.specs.List.Sorted.{IsStrictlySortedBy}
use Rattle.std.specs.Option.{option_map_or}
use Rattle.std.specs.Ordering.{is_eq, is_le, nat_cmp, ordering_then}
use Rattle.std.specs.declared.cmp.Ordering.TheVariants.{Less}
use Rattle.std.proofs.lemmas.Bool.{eqb-true}
use Rattle.std.proofs.lemmas.Bool.Decides.{eqb_tells, nat_tests}
use Rattle.model.specs.Acceptance.NotedStates.{NotedSlot, SlotKey, number_of}
use Rattle.typestate.specs.Families.{children_in, children_of, found, has_link, has_parent, link_cmp}
use Rattle.typestate.specs.Left.{left_by}
use Rattle.typestate.specs.Orders.{Rise}
use Rattle.typestate.proofs.Rising.{RiseFrom, from-first, looks-equal}

abbrev none-slot : Option NotedSlot
none-slot = None

-- what passes a test
abbrev pub kept : (NotedSlot → Bool) → Option NotedSlot → Option NotedSlot
kept test o = option_and_then (λ c. if test c then Some c else None) o

pub none-numbered : (cs : List NotedSlot) (least n : ℕ) → RiseFrom least cs → n < least → found cs n ≡ None
none-numbered [] least n rises less = refl
none-numbered (c ∷ rest) least n rises less =
    ap (λ b. if b then Some c else found rest n) (other (number_of c.key) n (omega (arith, rises.0, less)))
    ∙ none-numbered rest (number_of c.key + 1) n rises.1 (omega (arith, rises.0, less))
  where
    other : (a b : ℕ) → b < a → (a == b) ≡ false
    other a b less = grind (arith, nat_tests)

-- a look-up among those that pass is one among all, if that passes
pub filter-found : (test : NotedSlot → Bool) (cs : List NotedSlot) (least n : ℕ) → RiseFrom least cs → found (filter test cs) n ≡ kept test (found cs n)
filter-found test [] least n rises = refl
filter-found test (c ∷ rest) least n rises =
    let more = filter-found test rest (number_of c.key + 1) n rises.1 in
    elim (eqb_tells (number_of c.key) n) [
      | inl same ↦
          let none : found rest n ≡ None = none-numbered rest (number_of c.key + 1) n rises.1 (omega (arith, same.1)) in
          (elim (test c) as (λ t. found (if t then c ∷ filter test rest else filter test rest) n ≡ (if t then Some c else None)) [
            | true ↦ ap (λ b. if b then Some c else found (filter test rest) n) same.0
            | false ↦ more ∙ ap (kept test) none
          ])
          ∙ sym (ap (λ b. kept test (if b then Some c else found rest n)) same.0)
      | inr other ↦
          (elim (test c) as (λ t. found (if t then c ∷ filter test rest else filter test rest) n ≡ kept test (found rest n)) [
            | true ↦ ap (λ b. if b then Some c else found (filter test rest) n) other.0 ∙ more
            | false ↦ more
          ])
          ∙ sym (ap (λ b. kept test (if b then Some c else found rest n)) other.0)
    ]

lower : (cs : List NotedSlot) (least low : ℕ) → low ≤ least → RiseFrom least cs → RiseFrom low cs
lower [] least low less rises = tt
lower (c ∷ rest) least low less rises = (omega (arith, less, rises.0), rises.1)

pub filter-rises : (test : NotedSlot → Bool) (cs : List NotedSlot) (least : ℕ) → RiseFrom least cs → RiseFrom least (filter test cs)
filter-rises test [] least rises = tt
filter-rises test (c ∷ rest) least rises =
    let more = filter-rises test rest (number_of c.key + 1) rises.1 in
    elim (test c) as (λ t. RiseFrom least (if t then c ∷ filter test rest else filter test rest)) [
      | true ↦ (rises.0, more)
      | false ↦ lower (filter test rest) (number_of c.key + 1) least (omega (arith, rises.0)) more
    ]

-- what is found has the number
pub found-number : (cs : List NotedSlot) (n : ℕ) (c : NotedSlot) → found cs n ≡ Some c → number_of c.key ≡ n
found-number [] n c is = absurd (let clash : None ≡ Some c = is in cc)
found-number (d ∷ rest) n c is = elim (number_of d.key == n) as (λ b. number_of d.key == n ≡ b → (if b then Some d else found rest n) ≡ Some c →
    number_of c.key ≡ n) [
      | true ↦ λ same here. let one : d ≡ c = cc in ap (λ (s : NotedSlot). number_of s.key) (sym one) ∙ eqb-true (number_of d.key) n same
      | false ↦ λ _ later. found-number rest n c later
    ] refl is

abbrev named : ℕ → ℕ × ℕ → Bool
named m q = q.0 == m

abbrev has_number : ℕ → ℕ × ℕ → Bool
has_number n q = q.1 == n

-- a link is one of those from its number
pub from-here : (m : ℕ) (links : List (ℕ × ℕ)) (n : ℕ) → list_any (λ (q : ℕ × ℕ). is_eq (link_cmp (m, n) q)) links ≡ true →
    list_any (has_number n) (filter (named m) links) ≡ true
from-here m [] n some = some
from-here m (q ∷ rest) n some = elim (eqb_tells q.0 m) [
  | inl same ↦
      subst (λ b. list_any (has_number n) (if b then q ∷ filter (named m) rest else filter (named m) rest) ≡ true) (sym same.0)
      (first-or (is_eq (link_cmp (m, n) q)) (q.1 == n) (list_any (λ (r : ℕ × ℕ). is_eq (link_cmp (m, n) r)) rest)
      (list_any (has_number n) (filter (named m) rest)) (equal-both m n q.0 q.1) (from-here m rest n) some)
  | inr other ↦
      subst (λ b. list_any (has_number n) (if b then q ∷ filter (named m) rest else filter (named m) rest) ≡ true) (sym other.0)
      (from-here m rest n (ap (λ b. b || list_any (λ (r : ℕ × ℕ). is_eq (link_cmp (m, n) r)) rest) (sym (apart m n q.0 q.1 other.1)) ∙ some))
]
  where
    first-or : (a b c d : Bool) → (a ≡ true → b ≡ true) → (c ≡ true → d ≡ true) → (a || c) ≡ true → (b || d) ≡ true
    first-or true b c d one other some = ap (λ x. x || d) (one refl)
    first-or false true c d one other some = refl
    first-or false false c d one other some = other some

    equal-both : (a b c d : ℕ) → is_eq (ordering_then (nat_cmp a c) (nat_cmp b d)) ≡ true → (d == b) ≡ true
    equal-both a b c d is = grind (arith, nat_tests)

    apart : (a b c d : ℕ) → (c ≡ a → ⊥) → is_eq (ordering_then (nat_cmp a c) (nat_cmp b d)) ≡ false
    apart a b c d other = grind (arith, nat_tests)

abbrev or_else : Option NotedSlot → Option NotedSlot → Option NotedSlot
or_else None other = other
or_else (Some c) other = Some c

found-joined : (xs ys : List NotedSlot) (n : ℕ) → found (xs ++ ys) n ≡ or_else (found xs n) (found ys n)
found-joined [] ys n = refl
found-joined (x ∷ xs) ys n = elim (number_of x.key == n) as (λ b. (if b then Some x else found (xs ++ ys) n)
    ≡ or_else (if b then Some x else found xs n) (found ys n)) [ true ↦ refl | false ↦ found-joined xs ys n ]

abbrev inside : ℕ → NotedSlot → Bool
inside block c = number_of c.key / 16 * 16 == block

abbrev AreInside : ℕ → List NotedSlot → Type 0
AreInside block [] = Unit {0}
AreInside block (c ∷ rest) = (number_of c.key / 16 * 16 ≡ block) × AreInside block rest

-- where slots of a block come before those of later blocks, keys rise
rises-on : (block low : ℕ) (xs ys : List NotedSlot) → low ≤ (block + 16) / 16 * 16 → RiseFrom low xs → AreInside block xs →
    RiseFrom ((block + 16) / 16 * 16) ys → RiseFrom low (xs ++ ys)
rises-on block low [] ys most rises in_block behind = lower ys ((block + 16) / 16 * 16) low most behind
rises-on block low (x ∷ xs) ys most rises in_block behind =
    (rises.0, rises-on block (number_of x.key + 1) xs ys (omega (arith, in_block.0)) rises.1 in_block.1 behind)

from-block : (block least low : ℕ) (xs : List NotedSlot) → RiseFrom low xs → AreInside block xs → least ≤ block → RiseFrom ((least + 15) / 16 * 16) xs
from-block block least low [] rises in_block most = tt
from-block block least low (x ∷ xs) rises in_block most = (omega (arith, in_block.0, most), rises.1)

module _ (changes : List NotedSlot) (parent : SlotKey) (m : ℕ) where
  abbrev test : NotedSlot → Bool
  test c = has_parent parent (left_by c)

  abbrev children : ℕ × ℕ → List NotedSlot
  children q = children_in changes parent q.1

  all-inside : (block : ℕ) (cs : List NotedSlot) → AreInside block (filter test (filter (inside block) cs))
  all-inside block [] = tt
  all-inside block (c ∷ rest) =
      let more = all-inside block rest in
      elim (inside block c) as (λ b. inside block c ≡ b → AreInside block (filter test (if b then c ∷ filter (inside block) rest else
      filter (inside block) rest))) [
        | true ↦ λ is. elim (test c) as (λ t. AreInside block (if t then c ∷ filter test (filter (inside block) rest) else
            filter test (filter (inside block) rest))) [ true ↦ (eqb-true (number_of c.key / 16 * 16) block is, more) | false ↦ more ]
        | false ↦ λ _. more
      ] refl

  -- what is found among the children of a block
  block-found : Rise changes → (block n : ℕ) → found (children_in changes parent block) n
      ≡ (if block == n / 16 * 16 then kept test (found changes n) else None)
  block-found rises block n =
      let first = from-first changes rises in
      filter-found test (filter (inside block) changes) 0 n (filter-rises (inside block) changes 0 first)
      ∙ ap (kept test) (filter-found (inside block) changes 0 n first)
      ∙ in-place (found changes n) refl
    where
      turn : (a b : ℕ) → (a == b) ≡ (b == a)
      turn a b = grind (arith, nat_tests)

      in-place : (o : Option NotedSlot) → found changes n ≡ o → kept test (kept (inside block) o) ≡ (if block == n / 16 * 16 then kept test o else None)
      in-place None is = none-either (block == n / 16 * 16)
        where
          none-either : (b : Bool) → none-slot ≡ (if b then none-slot else none-slot)
          none-either true = refl
          none-either false = refl
      in-place (Some c) is =
          ap (λ b. kept test (if b then Some c else None)) (ap (λ k. k / 16 * 16 == block) (found-number changes n c is) ∙ turn (n / 16 * 16) block)
          ∙ passes (block == n / 16 * 16)
        where
          passes : (b : Bool) → kept test (if b then Some c else None) ≡ (if b then kept test (Some c) else None)
          passes true = refl
          passes false = refl

  -- what is found among the children of some links
  some-found : Rise changes → (links : List (ℕ × ℕ)) (n : ℕ) → found (flat_map children links) n
      ≡ (if list_any (has_number (n / 16 * 16)) links then kept test (found changes n) else None)
  some-found rises [] n = refl
  some-found rises (q ∷ rest) n =
      found-joined (children q) (flat_map children rest) n
      ∙ ap (λ o. or_else o (found (flat_map children rest) n)) (block-found rises q.1 n)
      ∙ ap (or_else (if q.1 == n / 16 * 16 then kept test (found changes n) else None)) (some-found rises rest n)
      ∙ either (q.1 == n / 16 * 16) (list_any (has_number (n / 16 * 16)) rest) (kept test (found changes n))
    where
      either : (a b : Bool) (o : Option NotedSlot) → or_else (if a then o else None) (if b then o else None) ≡ (if a || b then o else None)
      either true true None = refl
      either true true (Some c) = refl
      either true false None = refl
      either true false (Some c) = refl
      either false b o = refl

  -- links rise from a number on
  abbrev AllFrom : ℕ → List (ℕ × ℕ) → Type 0
  AllFrom least [] = Unit {0}
  AllFrom least (q ∷ rest) = (q.0 ≡ m → least ≤ q.1) × AllFrom least rest

  all-behind : (q : ℕ × ℕ) (rest : List (ℕ × ℕ)) → q.0 ≡ m → AllByRecursion (λ r. link_cmp q r ≡ Less) rest → AllFrom (q.1 + 1) rest
  all-behind q [] here less = tt
  all-behind q (r ∷ rest) here less = (λ there. behind q.0 q.1 r.0 r.1 (here ∙ sym there) less.0, all-behind q rest here less.1)
    where
      behind : (a b c d : ℕ) → a ≡ c → ordering_then (nat_cmp a c) (nat_cmp b d) ≡ Less → b + 1 ≤ d
      behind a b c d same less = grind (arith, nat_tests)

  children-rise : Rise changes → (links : List (ℕ × ℕ)) (least : ℕ) → IsStrictlySortedBy link_cmp links → AllFrom least links →
      RiseFrom ((least + 15) / 16 * 16) (flat_map children (filter (named m) links))
  unfolding IsStrictlySortedBy
  children-rise rises [] least sorted from = tt
  children-rise rises (q ∷ rest) least sorted from = elim (eqb_tells q.0 m) [
    | inl same ↦
        let first = from-first changes rises in
        let ours : AreInside q.1 (children q) = all-inside q.1 changes in
        let most : least ≤ q.1 = from.0 same.1 in
        let up : q.1 + 1 + 15 ≡ q.1 + 16 = omega arith in
        subst (λ b. RiseFrom ((least + 15) / 16 * 16) (flat_map children (if b then q ∷ filter (named m) rest else filter (named m) rest))) (sym same.0)
        (rises-on q.1 ((least + 15) / 16 * 16) (children q) (flat_map children (filter (named m) rest)) (omega (arith, most))
        (from-block q.1 least 0 (children q) (filter-rises test (filter (inside q.1) changes) 0 (filter-rises (inside q.1) changes 0 first)) ours most) ours
        (subst (λ k. RiseFrom (k / 16 * 16) (flat_map children (filter (named m) rest))) up
        (children-rise rises rest (q.1 + 1) sorted.1 (all-behind q rest same.1 sorted.0))))
    | inr other ↦
        subst (λ b. RiseFrom ((least + 15) / 16 * 16) (flat_map children (if b then q ∷ filter (named m) rest else filter (named m) rest))) (sym other.0)
        (children-rise rises rest least sorted.1 from.1)
  ]

  all-from-zero : (links : List (ℕ × ℕ)) → AllFrom 0 links
  all-from-zero [] = tt
  all-from-zero (q ∷ rest) = (λ _. omega arith, all-from-zero rest)

  -- the children by their links, of which each has one from a number to its block, are the changes that leave children
  pub linked-children : (links : List (ℕ × ℕ)) → Rise changes →
      ((slot : ℕ) → option_map_or test (found changes slot) false ≡ true → has_link links m (slot / 16 * 16) ≡ true) → IsStrictlySortedBy link_cmp links →
      flat_map children (filter (named m) links) ≡ children_of changes parent
  linked-children links rises linked sorted =
      let first = from-first changes rises in
      looks-equal (flat_map children (filter (named m) links)) (children_of changes parent) ((0 + 15) / 16 * 16) 0
      (children-rise rises links 0 sorted (all-from-zero links))
      (filter-rises test changes 0 first)
      (λ key. same-at (number_of key) ∙ sym (filter-found test changes 0 (number_of key) first))
    where
      all-or : (b : Bool) (o : Option NotedSlot) → (is_some o ≡ true → b ≡ true) → (if b then o else None) ≡ o
      all-or true o so = refl
      all-or false None so = refl
      all-or false (Some c) so = absurd (let clash : false ≡ true = so refl in cc)

      passes-child : (o : Option NotedSlot) → is_some (kept test o) ≡ true → option_map_or test o false ≡ true
      passes-child None is = is
      passes-child (Some c) is = elim (test c) as (λ b. is_some (if b then Some c else None) ≡ true → b ≡ true) [ true ↦ λ _. refl | false ↦ λ clash. clash ] is

      same-at : (n : ℕ) → found (flat_map children (filter (named m) links)) n ≡ kept test (found changes n)
      same-at n =
          some-found rises (filter (named m) links) n
          ∙ all-or (list_any (has_number (n / 16 * 16)) (filter (named m) links)) (kept test (found changes n))
          (λ some. from-here m links (n / 16 * 16) (linked n (passes-child (found changes n) some)))

pub append-none : (cs : List NotedSlot) → cs ++ [] ≡ cs
append-none [] = refl
append-none (c ∷ rest) = ap (λ (l : List NotedSlot). c ∷ l) (append-none rest)

pub append-again : (xs ys zs : List NotedSlot) → (xs ++ ys) ++ zs ≡ xs ++ (ys ++ zs)
append-again [] ys zs = refl
append-again (x ∷ xs) ys zs = ap (λ (l : List NotedSlot). x ∷ l) (append-again xs ys zs)

-- ---- the links between two bounds

in-range : (a b m : ℕ) → (is_le (ordering_then (nat_cmp m a) (nat_cmp 0 b)) && not (is_le (ordering_then (nat_cmp (m + 1) a) (nat_cmp 0 b)))) ≡ (a == m)
in-range a b m = grind (arith, nat_tests)

pub named-links : (m : ℕ) (links : List (ℕ × ℕ)) → filter (λ (q : ℕ × ℕ). is_le (link_cmp (m, 0) q) && not (is_le (link_cmp (m + 1, 0) q))) links ≡ filter
    (λ (q : ℕ × ℕ). q.0 == m) links
named-links m [] = refl
named-links m (q ∷ rest) =
    ap (λ b. if b then q ∷ filter (λ (q : ℕ × ℕ). is_le (link_cmp (m, 0) q) && not (is_le (link_cmp (m + 1, 0) q))) rest else
    filter (λ (q : ℕ × ℕ). is_le (link_cmp (m, 0) q) && not (is_le (link_cmp (m + 1, 0) q))) rest) (in-range q.0 q.1 m)
    ∙ ap (λ (l : List (ℕ × ℕ)). if q.0 == m then q ∷ l else l) (named-links m rest)
