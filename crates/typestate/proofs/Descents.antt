-- What descends from a slot, found level by level: what the next level adds are the children of the newest one.
use Rattle.std.proofs.Common.{ℕ, suc, ◌≡◌, ◌∙◌, ◌==◌, ◌≤◌, ◌+◌, ◌||◌, ◌&&◌, inl, inr, Bool, true, false, not, if◌then◌else◌, is_some, Option, Some, None}
use Rattle.std.proofs.Common.{option_and_then, List, [], ◌∷◌, ◌++◌, refl, sym, ap, subst, arith}
use Rattle.std.specs.List.{AllByRecursion, filter_map, flat_map, list_any}
use Rattle.std.specs.List.Sorted.{IsStrictlySortedBy}
use Rattle.std.specs.Option.{option_map_or}
use Rattle.std.specs.Ordering.{is_eq, nat_cmp}
use Rattle.std.specs.declared.cmp.Ordering.TheVariants.{Less}
use Rattle.std.proofs.lemmas.Bool.{eq-eqb, eqb-true, ne_eqb}
use Rattle.std.proofs.lemmas.Bool.Decides.{eqb_tells, nat_tests}
use Rattle.model.specs.Acceptance.NotedStates.{NotedSlot, SlotKey, is_same_key, number_of, slot_at}
use Rattle.typestate.specs.Descents.{AreBelow, if_other, is_found, is_one_of, levels_of}
use Rattle.typestate.specs.Differences.{left_by, slots_of}
use Rattle.typestate.specs.Families.{children_of, found, has_parent}
use Rattle.typestate.specs.Levels.{all_below, below_by, named, touched_by}
use Rattle.typestate.specs.Orders.{Rise}
use Rattle.typestate.specs.SlotChanges.{emptied, noted_descends, noted_parent}
use Rattle.typestate.specs.declared.points.NotedSlots.{NotedSlots}
use Rattle.typestate.specs.declared.slot_changes.Removed.{Removed}
use Rattle.typestate.specs.declared.slot_changes.Removed.TheVariants.{One, Below}
use Rattle.typestate.proofs.Compared.{is_changed}
use Rattle.typestate.proofs.LevelByLevel.{first-level, next-level, steady}
use Rattle.typestate.proofs.Linked.{filter-found, filter-rises, found-number, kept}
use Rattle.typestate.proofs.OrderedChanges.{changed-at, found_or}
use Rattle.typestate.proofs.OwnChanges.{unnamed-parent}
use Rattle.typestate.proofs.PutPlaces.{rise-of}
use Rattle.typestate.proofs.Rising.{RiseFrom, from-first, looks-equal}

same-eqb : (a b : ℕ) → (a == b) ≡ (b == a)
same-eqb a b = grind (arith, nat_tests)

or-false : (b : Bool) → b ≡ (b || false)
or-false true = refl
or-false false = refl

-- ---- among some slots

pub changed-found : (cs : List NotedSlot) (key : SlotKey) → is_changed cs key ≡ is_some (slot_at cs key)
changed-found [] key = refl
changed-found (c ∷ rest) key = elim (is_same_key c.key key) as (λ b. (b || is_changed rest key) ≡ is_some (if b then Some c else slot_at rest key)) [
  | true ↦ refl
  | false ↦ changed-found rest key
]

changed-append : (key : SlotKey) (xs ys : List NotedSlot) → is_changed (xs ++ ys) key ≡ (is_changed xs key || is_changed ys key)
changed-append key [] ys = refl
changed-append key (x ∷ xs) ys = ap (λ b. is_same_key x.key key || b) (changed-append key xs ys)
    ∙ or-again (is_same_key x.key key) (is_changed xs key) (is_changed ys key)
  where
    or-again : (a b c : Bool) → (a || (b || c)) ≡ ((a || b) || c)
    or-again true b c = refl
    or-again false b c = refl

one-of-none : (o : Option SlotKey) → is_one_of [] o ≡ false
one-of-none None = refl
one-of-none (Some _) = refl

one-of-more : (s : NotedSlot) (rest : List NotedSlot) (o : Option SlotKey) →
    (option_map_or (λ q. is_same_key q s.key) o false || is_one_of rest o) ≡ is_one_of (s ∷ rest) o
one-of-more s rest None = refl
one-of-more s rest (Some q) = ap (λ b. b || is_changed rest q) (same-eqb (number_of q) (number_of s.key))

-- those that are not at a place
others-at : (root key : SlotKey) (cs : List NotedSlot) → is_changed (flat_map (if_other root) cs) key ≡ (is_changed cs key && not (is_same_key key root))
others-at root key [] = refl
others-at root key (c ∷ rest) =
    let more = others-at root key rest in
    elim (eqb_tells (number_of c.key) (number_of root)) [
      | inl same ↦
          ap (λ b. is_changed ((if b then [] else c ∷ []) ++ flat_map (if_other root) rest) key) same.0 ∙ more
          ∙ ap (λ n. is_changed rest key && not (number_of key == n)) (sym same.1)
          ∙ gone (is_changed rest key) (number_of c.key == number_of key) (number_of key == number_of c.key) (same-eqb (number_of c.key) (number_of key))
          ∙ ap (λ n. (number_of c.key == number_of key || is_changed rest key) && not (number_of key == n)) same.1
      | inr other ↦
          ap (λ b. is_changed ((if b then [] else c ∷ []) ++ flat_map (if_other root) rest) key) other.0 ∙ ap (λ b. is_same_key c.key key || b) more
          ∙ stays (is_changed rest key) (is_same_key c.key key) (is_same_key key root)
          (λ here. ne_eqb (number_of key) (number_of root) (λ there. other.1 (eqb-true (number_of c.key) (number_of key) here ∙ there)))
    ]
  where
    gone : (m a b : Bool) → a ≡ b → (m && not b) ≡ ((a || m) && not b)
    gone m true b same = subst (λ x. (m && not x) ≡ ((true || m) && not x)) same (none m)
      where
        none : (m : Bool) → (m && false) ≡ false
        none true = refl
        none false = refl
    gone m false b same = refl

    stays : (m a r : Bool) → (a ≡ true → r ≡ false) → (a || (m && not r)) ≡ ((a || m) && not r)
    stays m true r so = sym (ap (λ x. not x) (so refl))
    stays m false r so = refl

module _ (n : NotedSlots) (root : SlotKey) where
  abbrev slots : List NotedSlot
  slots = slots_of n

  abbrev cs : List NotedSlot
  cs = n.changes.now

  abbrev below : ℕ → SlotKey → Bool
  below k key = noted_descends k slots root key

  -- ---- children

  child-at : (p key : SlotKey) → is_changed (children_of cs p) key ≡ option_map_or (λ q. is_same_key q p) (noted_parent slots key) false
  child-at p key =
      let first = from-first cs n.ordered in
      changed-found (children_of cs p) key ∙ ap is_some (filter-found (λ c. has_parent p (left_by c)) cs 0 (number_of key) first)
      ∙ (elim (slot_at cs key) as (λ o. slot_at cs key ≡ o →
      is_some (kept (λ c. has_parent p (left_by c)) o) ≡ option_map_or (λ q. is_same_key q p) (noted_parent slots key) false) [
        | None ↦ λ none. sym (ap (λ o. option_map_or (λ q. is_same_key q p) o false) (parentless (changed-found cs key ∙ ap is_some none)))
        | Some c ↦ λ here.
            let holds : slot_at slots key ≡ left_by c = changed-at cs n.image.now 0 key first ∙ ap (λ o. found_or o (slot_at n.image.now key)) here in
            tested (has_parent p (left_by c)) c ∙ on-held (left_by c)
            ∙ sym (ap (λ (o : Option NotedSlot). option_map_or (λ q. is_same_key q p) (option_and_then (λ (s : NotedSlot). s.parent) o) false) holds)
      ] refl)
    where
      parentless : is_changed cs key ≡ false → noted_parent slots key ≡ None
      parentless none = elim (slot_at slots key) as (λ (o : Option NotedSlot). slot_at slots key ≡ o → option_and_then (λ (s : NotedSlot). s.parent) o ≡ None) [
        | None ↦ λ _. refl
        | Some s ↦ λ at. unnamed-parent n key s at none
      ] refl

      tested : (b : Bool) (c : NotedSlot) → is_some (if b then Some c else None) ≡ b
      tested true c = refl
      tested false c = refl

      on-held : (o : Option NotedSlot) → has_parent p o ≡ option_map_or (λ q. is_same_key q p) (option_and_then (λ (s : NotedSlot). s.parent) o) false
      on-held None = refl
      on-held (Some s) = refl

  children-at : (going : List NotedSlot) (key : SlotKey) → is_changed (flat_map (λ (s : NotedSlot). children_of cs s.key) going) key ≡ is_one_of going
      (noted_parent slots key)
  children-at [] key = sym (one-of-none (noted_parent slots key))
  children-at (s ∷ rest) key =
      changed-append key (children_of cs s.key) (flat_map (λ (s : NotedSlot). children_of cs s.key) rest)
      ∙ ap (λ b. b || is_changed (flat_map (λ (s : NotedSlot). children_of cs s.key) rest) key) (child-at s.key key)
      ∙ ap (λ b. option_map_or (λ q. is_same_key q s.key) (noted_parent slots key) false || b) (children-at rest key)
      ∙ one-of-more s rest (noted_parent slots key)

  -- ---- levels

  pub starts-below : (numbers : List ℕ) (newest : List NotedSlot) → numbers ≡ [] → newest ≡ emptied root ∷ [] → AreBelow 0 n root numbers newest
  unfolding noted_descends
  starts-below numbers newest none one = λ key. (
    ap (λ (l : List ℕ). is_found l (number_of key)) none,
    on-parent (noted_parent slots key) ∙ sym (ap (λ (l : List NotedSlot). is_one_of l (noted_parent slots key)) one),
  )
    where
      on-parent : (o : Option SlotKey) → option_map_or (λ parent. is_same_key parent root || false) o false ≡ is_one_of (emptied root ∷ []) o
      on-parent None = refl
      on-parent (Some p) = ap (λ b. b || false) (same-eqb (number_of p) (number_of root))

  pub more-below : (k : ℕ) (numbers more : List ℕ) (newest children next : List NotedSlot) →
      children ≡ flat_map (λ (s : NotedSlot). children_of cs s.key) newest
      → ((m : ℕ) → is_found more m ≡ (is_found numbers m || list_any (λ c. number_of c.key == m) children)) → next ≡ flat_map (if_other root) children
      → AreBelow k n root numbers newest → AreBelow (suc k) n root more next
  unfolding noted_descends
  more-below k numbers more newest children next is added other so = λ key. (
    added (number_of key) ∙ ap (λ b. b || is_changed children key) (so key).0 ∙ ap (λ b. below k key || b) (named-by key) ∙ sym (so key).1,
    on-parent (noted_parent slots key) ∙ sym (ap (λ (l : List NotedSlot). below (suc k) key || is_one_of l (noted_parent slots key)) other),
  )
    where
      named-by : (key : SlotKey) → is_changed children key ≡ is_one_of newest (noted_parent slots key)
      named-by key = ap (λ (l : List NotedSlot). is_changed l key) is ∙ children-at newest key

      either : (r f m : Bool) → (r || (f || m)) ≡ ((r || f) || (m && not r))
      either true f m = refl
      either false true m = refl
      either false false true = refl
      either false false false = refl

      on-parent : (o : Option SlotKey) → option_map_or (λ parent. is_same_key parent root || below (suc k) parent) o false
          ≡ (option_map_or (λ parent. is_same_key parent root || below k parent) o false || is_one_of (flat_map (if_other root) children) o)
      on-parent None = refl
      on-parent (Some p) =
          ap (λ b. is_same_key p root || b) ((so p).1 ∙ ap (λ b. below k p || b) (sym (named-by p)))
          ∙ either (is_same_key p root) (below k p) (is_changed children p)
          ∙ ap (λ b. (is_same_key p root || below k p) || b) (sym (others-at root p children))

  -- where no slot is new, none is later
  pub all-are-below : (k j : ℕ) (numbers : List ℕ) (newest : List NotedSlot) → newest ≡ [] → k ≤ j → AreBelow k n root numbers newest →
      AreBelow j n root numbers newest
  all-are-below k j numbers newest none less so =
      let nothing : (key : SlotKey) → is_one_of newest (noted_parent slots key) ≡ false = λ key.
      ap (λ (l : List NotedSlot). is_one_of l (noted_parent slots key)) none ∙ one-of-none (noted_parent slots key) in
      let still : (key : SlotKey) → below (suc k) key ≡ below k key = λ key. (so key).1 ∙ ap (λ b. below k key || b) (nothing key)
      ∙ sym (or-false (below k key)) in
      let same : (i : ℕ) → k ≤ i → (key : SlotKey) → below i key ≡ below k key = λ i more. steady n root k i still more in
      λ key. (
        (so key).0 ∙ sym (same j less key),
        same (suc j) (omega (arith, less)) key ∙ sym (same j less key) ∙ or-false (below j key) ∙ ap (λ b. below j key || b) (sym (nothing key)),
      )

-- ---- the changes of some numbers

abbrev cons : Option NotedSlot → List NotedSlot → List NotedSlot
cons None l = l
cons (Some c) l = c ∷ l

abbrev AllFrom : ℕ → List ℕ → Type 0
AllFrom least [] = Unit {0}
AllFrom least (m ∷ rest) = (least ≤ m) × AllFrom least rest

all-behind : (q : ℕ) (rest : List ℕ) → AllByRecursion (λ r. nat_cmp q r ≡ Less) rest → AllFrom (q + 1) rest
all-behind q [] less = tt
all-behind q (r ∷ rest) less = (behind q r less.0, all-behind q rest less.1)
  where
    behind : (a b : ℕ) → nat_cmp a b ≡ Less → a + 1 ≤ b
    behind a b less = grind (arith, nat_tests)

all-from-zero : (numbers : List ℕ) → AllFrom 0 numbers
all-from-zero [] = tt
all-from-zero (q ∷ rest) = (omega arith, all-from-zero rest)

module _ (changes : List NotedSlot) where
  all-rise : (numbers : List ℕ) (least : ℕ) → IsStrictlySortedBy nat_cmp numbers → AllFrom least numbers → RiseFrom least (filter_map (found changes) numbers)
  unfolding IsStrictlySortedBy
  all-rise [] least sorted from = tt
  all-rise (q ∷ rest) least sorted from =
      let more = all-rise rest (q + 1) sorted.1 (all-behind q rest sorted.0) in
      elim (found changes q) as (λ o. found changes q ≡ o → RiseFrom least (cons o (filter_map (found changes) rest))) [
        | None ↦ λ _. all-rise rest least sorted.1 from.1
        | Some c ↦ λ is.
            let number = found-number changes q c is in
            (omega (arith, number, from.0), subst (λ k. RiseFrom (k + 1) (filter_map (found changes) rest)) (sym number) more)
      ] refl

  all-found : (numbers : List ℕ) (m : ℕ) → found (filter_map (found changes) numbers) m ≡ (if is_found numbers m then found changes m else None)
  all-found [] m = refl
  all-found (q ∷ rest) m =
      let more = all-found rest m in
      elim (eqb_tells q m) [
        | inl same ↦
            let here : found changes q ≡ found changes m = ap (found changes) same.1 in
            (elim (found changes q) as (λ o. found changes q ≡ o → found (cons o (filter_map (found changes) rest)) m ≡ found changes m) [
              | None ↦ λ none.
                  let nothing : found changes m ≡ None = sym here ∙ none in
                  more ∙ ap (λ (o : Option NotedSlot). if is_found rest m then o else None) nothing ∙ either-none (is_found rest m) ∙ sym nothing
              | Some c ↦ λ is.
                  ap (λ b. if b then Some c else found (filter_map (found changes) rest) m) (eq-eqb (number_of c.key) m (found-number changes q c is ∙ same.1))
                  ∙ sym is ∙ here
            ] refl)
            ∙ sym (ap (λ b. if b || is_found rest m then found changes m else None) (equal-is m q (sym same.1)))
        | inr other ↦
            (elim (found changes q) as (λ o. found changes q ≡ o →
            found (cons o (filter_map (found changes) rest)) m ≡ (if is_found rest m then found changes m else None)) [
              | None ↦ λ _. more
              | Some c ↦ λ is.
                  ap (λ b. if b then Some c else found (filter_map (found changes) rest) m)
                  (ne_eqb (number_of c.key) m (λ same. other.1 (sym (found-number changes q c is) ∙ same))) ∙ more
            ] refl)
            ∙ sym (ap (λ b. if b || is_found rest m then found changes m else None) (other-is m q (λ same. other.1 (sym same))))
      ]
    where
      none-slot : Option NotedSlot
      none-slot = None

      either-none : (b : Bool) → (if b then none-slot else none-slot) ≡ none-slot
      either-none true = refl
      either-none false = refl

      equal-is : (a b : ℕ) → a ≡ b → is_eq (nat_cmp a b) ≡ true
      equal-is a b same = grind (arith, nat_tests)

      other-is : (a b : ℕ) → (a ≡ b → ⊥) → is_eq (nat_cmp a b) ≡ false
      other-is a b other = grind (arith, nat_tests)

-- those of the numbers that were found below a root are the changes whose slots descend from it
pub numbered-below : (n : NotedSlots) (root : SlotKey) (k : ℕ) (numbers : List ℕ) (newest : List NotedSlot) → IsStrictlySortedBy nat_cmp numbers →
    AreBelow k n root numbers newest
    → filter_map (found n.changes.now) numbers ≡ below_by k n root
numbered-below n root k numbers newest sorted so =
    let cs = n.changes.now in
    let first = from-first cs n.ordered in
    let test : NotedSlot → Bool = λ c. noted_descends k (slots_of n) root c.key in
    looks-equal (filter_map (found cs) numbers) (below_by k n root) 0 0 (all-rise cs numbers 0 sorted (all-from-zero numbers)) (filter-rises test cs 0 first)
    (λ key. all-found cs numbers (number_of key) ∙ tested test (number_of key) (found cs (number_of key))
    (λ c is. ap (is_found numbers) (sym (found-number cs (number_of key) c is)) ∙ (so c.key).0)
    ∙ sym (filter-found test cs 0 (number_of key) first))
  where
    none-slot : Option NotedSlot
    none-slot = None

    tested : (test : NotedSlot → Bool) (m : ℕ) (o : Option NotedSlot) → ((c : NotedSlot) → o ≡ Some c → is_found numbers m ≡ test c) →
        (if is_found numbers m then o else None) ≡ kept test o
    tested test m None so = elim (is_found numbers m) as (λ b. (if b then none-slot else none-slot) ≡ none-slot) [ true ↦ refl | false ↦ refl ]
    tested test m (Some c) so = ap (λ b. if b then Some c else None) (so c refl)

pub below-rises : (n : NotedSlots) (numbers : List ℕ) → IsStrictlySortedBy nat_cmp numbers → Rise (filter_map (found n.changes.now) numbers)
below-rises n numbers sorted = rise-of (filter_map (found n.changes.now) numbers) 0 (all-rise n.changes.now numbers 0 sorted (all-from-zero numbers))

-- ---- what goes, and what it touches

pub below-levels : (n : NotedSlots) (which : Removed) → below_by (levels_of which) n (named which) ≡ all_below n which
below-levels n (One gone) = sym (first-level n gone)
below-levels n (Below root) = refl

pub touched-levels : (n : NotedSlots) (which : Removed) → below_by (suc (levels_of which)) n (named which) ≡ touched_by n which
touched-levels n which = sym (next-level n (named which) (levels_of which) (all_below n which) (sym (below-levels n which)))
