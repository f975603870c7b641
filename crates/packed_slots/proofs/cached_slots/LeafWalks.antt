-- What the leaf of a page says of walks, and what leaves it as it is.
use Rattle.std.proofs.lemmas.Bool.Decides.{nat_tests}
use Rattle.std.proofs.Common.{ℕ, ◌≡◌, ◌∙◌, ◌+◌, ◌-◌, ◌<◌, ◌≤◌, ◌==◌, nat_lt, ◌*◌, ◌/◌, ◌%◌, ◌^◌, ◌&&◌, true, false, nat_le, if◌then◌else◌, Option, Some, None}
use Rattle.std.proofs.Common.{List, length, refl, sym, ap, arith}
use Rattle.model.specs.Machine.Sv32.{◌>>=◌, entry_at, is_leaf, is_valid, leaf_place, page_address, permits, place_of, walk}
use Rattle.model.specs.Shared.Bytes.{word_at}
use Rattle.model.specs.declared.instructions.Access.{Access}
use Rattle.model.proofs.BytesLemmas.{word_at-same}
use Rattle.packed_slots.specs.cached_slots.KeptLeaves.{AreSameEntries, IsSameWord, leaf_of}

-- ---- below an entry of the root table

abbrev leaf_in : List ℕ → ℕ → ℕ → Option ℕ
leaf_in memory number table = do
  last ← entry_at memory table number
  if is_leaf last then Some last else None

abbrev leaf_below : List ℕ → ℕ → ℕ → Option ℕ
leaf_below memory number top =
    if is_leaf top then None else (place_of (page_address top) >>= leaf_in memory number)

abbrev place_at : List ℕ → ℕ → ℕ → Access → ℕ → Option ℕ
place_at memory number address access table = do
  last ← entry_at memory table number
  if is_leaf last then leaf_place memory last 12 address access else None

abbrev place_below : List ℕ → ℕ → ℕ → Access → ℕ → Option ℕ
place_below memory number address access top =
    if is_leaf top then leaf_place memory top 22 address access else (place_of (page_address top) >>= place_at memory number address access)

none-some : (leaf : ℕ) {A : Type 0} → None ≡ Some leaf → A
none-some leaf is = absurd (let clash : None ≡ Some leaf = is in cc)

last-leaf : (memory : List ℕ) (address : ℕ) (access : Access) (leaf : ℕ) (o : Option ℕ)
    → (o >>= (λ last. if is_leaf last then Some last else None)) ≡ Some leaf
    → (o >>= (λ last. if is_leaf last then leaf_place memory last 12 address access else None)) ≡ leaf_place memory leaf 12 address access
last-leaf memory address access leaf None is = none-some leaf is
last-leaf memory address access leaf (Some last) is =
    elim (is_leaf last) as (λ b. (if b then Some last else None) ≡ Some leaf
    → (if b then leaf_place memory last 12 address access else None) ≡ leaf_place memory leaf 12 address access) [
      | true ↦ λ found. let same : last ≡ leaf = cc in ap (λ entry. leaf_place memory entry 12 address access) same
      | false ↦ λ found. none-some leaf found
    ] is

table-leaf : (memory : List ℕ) (number address : ℕ) (access : Access) (leaf : ℕ) (o : Option ℕ) → (o >>= leaf_in memory number) ≡ Some leaf
    → (o >>= place_at memory number address access) ≡ leaf_place memory leaf 12 address access
table-leaf memory number address access leaf None is = none-some leaf is
table-leaf memory number address access leaf (Some table) is = last-leaf memory address access leaf (entry_at memory table number) is

top-leaf : (memory : List ℕ) (number address : ℕ) (access : Access) (leaf : ℕ) (o : Option ℕ) → (o >>= leaf_below memory number) ≡ Some leaf
    → (o >>= place_below memory number address access) ≡ leaf_place memory leaf 12 address access
top-leaf memory number address access leaf None is = none-some leaf is
top-leaf memory number address access leaf (Some top) is =
    elim (is_leaf top) as (λ b. (if b then None else (place_of (page_address top) >>= leaf_in memory number)) ≡ Some leaf
    → (if b then leaf_place memory top 22 address access else (place_of (page_address top) >>= place_at memory number address access))
    ≡ leaf_place memory leaf 12 address access) [
      | true ↦ λ found. none-some leaf found
      | false ↦ λ found. table-leaf memory number address access leaf (place_of (page_address top)) found
    ] is

-- the leaf of an address's page gives what the walk gives
pub walk_leaf : (memory : List ℕ) (root address leaf : ℕ) (access : Access) → leaf_of memory root (address / 2 ^ 12) ≡ Some leaf
    → walk memory root address access ≡ leaf_place memory leaf 12 address access
unfolding walk leaf_of
walk_leaf memory root address leaf access is =
    let number = address / 2 ^ 12 % 2 ^ 10 in
    let high : address / 2 ^ 22 ≡ address / 2 ^ 12 / 2 ^ 10 = omega arith in
    ap (λ n. entry_at memory root n >>= place_below memory number address access) high
    ∙ top-leaf memory number address access leaf (entry_at memory root (address / 2 ^ 12 / 2 ^ 10)) is

-- ---- the place that an address has in the page that a leaf names

pub near_leaf : (memory : List ℕ) (entry address place : ℕ) (access : Access) → entry < 2 ^ 32 → length memory ≤ 2 ^ 24 → permits entry access ≡ true
    → place ≡ (entry + 3758096384) % 2 ^ 32 / 2 ^ 10 * 2 ^ 12 + address % 2 ^ 12 → place < length memory →
    leaf_place memory entry 12 address access ≡ Some place
unfolding leaf_place
near_leaf memory entry address place access fits few allowed is inside =
    let small : (entry + 3758096384) % 2 ^ 32 < 2 ^ 22 = omega (arith, is, inside, few) in
    let part : entry ≡ 2 ^ 29 + (entry + 3758096384) % 2 ^ 32 = omega (arith, small, fits) in
    let physical : page_address entry + address % 2 ^ 12 ≡ 2 ^ 31 + place = omega (arith, part, is) in
    let above : nat_le (2 ^ 31) (2 ^ 31 + place) ≡ true = grind (arith, nat_tests) in
    let back : 2 ^ 31 + place - 2 ^ 31 ≡ place = omega arith in
    let whole : (page_address entry % 2 ^ 12 == 0) ≡ true = grind (arith, nat_tests) in
    let within : nat_lt place (length memory) ≡ true = grind (arith, nat_tests) in
    rw (physical, above, back, allowed, whole, within) refl

-- ---- the same entries have the same leaf

entry-same : (old new : List ℕ) (table number : ℕ) → length new ≡ length old → IsSameWord old new (table + 4 * number) →
    entry_at new table number ≡ entry_at old table number
unfolding entry_at
entry-same old new table number size same =
    let at = table + 4 * number in
    ap (λ n. if nat_le (at + 4) n && is_valid (word_at new at) then Some (word_at new at) else None) size
    ∙ ap (λ w. if nat_le (at + 4) (length old) && is_valid w then Some w else None) (word_at-same old new at same)

below-same : (old new : List ℕ) (number top : ℕ) → length new ≡ length old
    → ((table : ℕ) → place_of (page_address top) ≡ Some table → IsSameWord old new (table + 4 * number)) → leaf_below new number top ≡ leaf_below old number top
below-same old new number top size same =
    elim (is_leaf top) as (λ b. (if b then None else (place_of (page_address top) >>= leaf_in new number))
    ≡ (if b then None else (place_of (page_address top) >>= leaf_in old number))) [
      | true ↦ refl
      | false ↦ elim (place_of (page_address top)) as (λ o. place_of (page_address top) ≡ o
          → (place_of (page_address top) >>= leaf_in new number) ≡ (place_of (page_address top) >>= leaf_in old number)) [
            | None ↦ λ is. ap (λ o. o >>= leaf_in new number) is ∙ sym (ap (λ o. o >>= leaf_in old number) is)
            | Some table ↦ λ is.
                ap (λ o. o >>= leaf_in new number) is
                ∙ ap (λ o. o >>= (λ last. if is_leaf last then Some last else None)) (entry-same old new table number size (same table is))
                ∙ sym (ap (λ o. o >>= leaf_in old number) is)
          ] refl
    ]

pub leaf_same : (old new : List ℕ) (root page : ℕ) → AreSameEntries old new root page → leaf_of new root page ≡ leaf_of old root page
unfolding leaf_of
leaf_same old new root page same =
    let number = page % 2 ^ 10 in
    let first = entry-same old new root (page / 2 ^ 10) same.size same.top in
    elim (entry_at old root (page / 2 ^ 10)) as (λ o. entry_at old root (page / 2 ^ 10) ≡ o
    → (entry_at new root (page / 2 ^ 10) >>= leaf_below new number) ≡ (entry_at old root (page / 2 ^ 10) >>= leaf_below old number)) [
      | None ↦ λ is. ap (λ o. o >>= leaf_below new number) (first ∙ is) ∙ sym (ap (λ o. o >>= leaf_below old number) is)
      | Some top ↦ λ is.
          ap (λ o. o >>= leaf_below new number) (first ∙ is) ∙ below-same old new number top same.size (λ table names. same.last top table is names)
          ∙ sym (ap (λ o. o >>= leaf_below old number) is)
    ] refl
