-- A map from numbers to packed changes, as the list of its changes.
use Rattle.std.proofs.Common.{ℕ, ◌≡◌, ◌∙◌, ◌==◌, ◌*◌, ◌+◌, ◌/◌, ◌%◌, ◌<◌, ◌≤◌, ◌^◌, inl, inr, ◌||◌, ◌&&◌, Bool, true, false, not, cond, if◌then◌else◌, nat_lt}
use Rattle.std.proofs.Common.{Option, Some, None, option_map, List, [], ◌∷◌, map, refl, sym, ap, subst, arith}
use Rattle.std.specs.List.{filter, list_all, list_any}
use Rattle.std.specs.List.Sorted.{IsStrictlySortedBy}
use Rattle.std.specs.Map.{keys_of}
use Rattle.std.specs.Option.{option_map_or}
use Rattle.std.specs.Ordering.{is_eq, is_le, nat_cmp}
use Rattle.std.specs.declared.cmp.Ordering.TheVariants.{Less}
use Rattle.std.proofs.lemmas.Bool.{eq-eqb, eqb-true, ne_eqb}
use Rattle.std.proofs.lemmas.Bool.Decides.{eqb_tells, nat_tests}
use Rattle.model.specs.Acceptance.NotedStates.{NotedSlot, SlotKey, number_of}
use Rattle.model.specs.Capabilities.Slots.{is_empty}
use Rattle.model.specs.declared.capabilities.Cap.{Cap}
use Rattle.typestate.specs.Families.{KeepsLinks, found, has_link, has_parent, in_block}
use Rattle.typestate.specs.Left.{left_by}
use Rattle.typestate.specs.Names.{AreInverse, renamed, turned_number}
use Rattle.typestate.specs.Orders.{is_narrow}
use Rattle.typestate.specs.PackedChanges.{AreLinked, begin_in, cap_of, has_name, is_named, numbered_key, packed_at, unpacked_change, unpacked_entry}
use Rattle.typestate.specs.Replays.{exchanged, turned}
use Rattle.typestate.specs.declared.packed_change.PackedChange.{PackedChange}

-- ---- keys and numbers

pub number-back : (n : ℕ) → number_of (numbered_key n) ≡ n
number-back n = omega arith

below : (a b : ℕ) → nat_lt a b ≡ true → a < b
below a b less = grind (arith, nat_tests)

below-test : (a b : ℕ) → a < b → nat_lt a b ≡ true
below-test a b less = grind (arith, nat_tests)

pub key-back : (key : SlotKey) → nat_lt key.index (2 ^ 32) ≡ true → numbered_key (number_of key) ≡ key
key-back key low =
    let small : key.index < 4294967296 = below key.index 4294967296 low in
    let first : (key.cnode * 4294967296 + key.index) / 4294967296 ≡ key.cnode = omega (arith, small) in
    let second : (key.cnode * 4294967296 + key.index) % 4294967296 ≡ key.index = omega (arith, small) in
    ap (λ (n : ℕ). let k : SlotKey = record { cnode = n; index = (key.cnode * 4294967296 + key.index) % 4294967296 } in k) first
    ∙ ap (λ (n : ℕ). let k : SlotKey = record { cnode = key.cnode; index = n } in k) second

eq-test : (a b : ℕ) → is_eq (nat_cmp a b) ≡ (b == a)
eq-test a b = grind (arith, nat_tests)

-- ---- numbers between two bounds

abbrev is_between : ℕ → ℕ → ℕ → Bool
is_between first end k = is_le (nat_cmp first k) && not (is_le (nat_cmp end k))

outside : (first end n k : ℕ) → first ≤ n → n < end → is_between first end k ≡ false → (k == n) ≡ false
outside first end n k from before out = grind (arith, nat_tests)

-- where none is between two bounds, none is at a number there
pub none-between : (first end n : ℕ) → first ≤ n → n < end → (es : List (ℕ × PackedChange)) →
    filter (λ (e : ℕ × PackedChange). is_between first end e.0) es ≡ [] → packed_at es n ≡ None
none-between first end n from before [] none = refl
none-between first end n from before (e ∷ es) none =
    let rest = filter (λ (e : ℕ × PackedChange). is_between first end e.0) es in
    elim (is_between first end e.0) as (λ b. is_between first end e.0 ≡ b → (if b then e ∷ rest else rest) ≡ [] → packed_at (e ∷ es) n ≡ None) [
      | true ↦ λ _ some. absurd (let clash : e ∷ rest ≡ [] = some in cc)
      | false ↦ λ out later.
          ap (λ b. cond b (Some e.1) (packed_at es n)) (eq-test n e.0 ∙ outside first end n e.0 from before out)
          ∙ none-between first end n from before es later
    ] refl none

module _ (slots : List (ℕ × ℕ)) where
  -- ---- look-ups

  pub unpacked-found : (es : List (ℕ × PackedChange)) (n : ℕ) → found (map (unpacked_entry slots) es) n ≡ option_map (unpacked_change slots n) (packed_at es n)
  unpacked-found [] n = refl
  unpacked-found (e ∷ es) n = elim (eqb_tells e.0 n) [
    | inl same ↦
        ap (λ k. if k == n then Some (unpacked_entry slots e) else found (map (unpacked_entry slots) es) n) (number-back e.0)
        ∙ ap (λ b. if b then Some (unpacked_entry slots e) else found (map (unpacked_entry slots) es) n) same.0
        ∙ ap (λ k. Some (unpacked_change slots k e.1)) same.1
        ∙ sym (ap (λ b. option_map (unpacked_change slots n) (cond b (Some e.1) (packed_at es n))) (eq-test n e.0 ∙ same.0))
    | inr other ↦
        ap (λ k. if k == n then Some (unpacked_entry slots e) else found (map (unpacked_entry slots) es) n) (number-back e.0)
        ∙ ap (λ b. if b then Some (unpacked_entry slots e) else found (map (unpacked_entry slots) es) n) other.0
        ∙ unpacked-found es n
        ∙ sym (ap (λ b. option_map (unpacked_change slots n) (cond b (Some e.1) (packed_at es n))) (eq-test n e.0 ∙ other.0))
  ]

  -- the change to the slot of each number, after one was put
  pub put-found : (es new : List (ℕ × PackedChange)) (n m : ℕ) (packed : PackedChange) (c : NotedSlot) → n ≡ number_of c.key →
      unpacked_change slots (number_of c.key) packed ≡ c
      → packed_at new m ≡ cond (is_eq (nat_cmp n m)) (Some packed) (packed_at es m)
      → found (map (unpacked_entry slots) new) m ≡ (if number_of c.key == m then Some c else found (map (unpacked_entry slots) es) m)
  put-found es new n m packed c is back same =
      unpacked-found new m ∙ ap (option_map (unpacked_change slots m)) same
      ∙ ap (λ k. option_map (unpacked_change slots m) (cond (is_eq (nat_cmp k m)) (Some packed) (packed_at es m))) is
      ∙ (elim (eqb_tells m (number_of c.key)) [
        | inl here ↦
            ap (λ b. option_map (unpacked_change slots m) (cond b (Some packed) (packed_at es m))) (eq-test (number_of c.key) m ∙ here.0)
            ∙ ap (λ k. Some (unpacked_change slots k packed)) here.1 ∙ ap (λ (s : NotedSlot). Some s) back
            ∙ sym (ap (λ b. if b then Some c else found (map (unpacked_entry slots) es) m) (eq-eqb (number_of c.key) m (sym here.1)))
        | inr other ↦
            ap (λ b. option_map (unpacked_change slots m) (cond b (Some packed) (packed_at es m))) (eq-test (number_of c.key) m ∙ other.0)
            ∙ sym (unpacked-found es m)
            ∙ sym (ap (λ b. if b then Some c else found (map (unpacked_entry slots) es) m) (turned (number_of c.key) m other.0))
      ])
    where
      turned : (a b : ℕ) → (b == a) ≡ false → (a == b) ≡ false
      turned a b off = grind (arith, nat_tests)

  -- what is kept of a change is the change again
  pub unpacked-is : (packed : PackedChange) (change : NotedSlot) → numbered_key (number_of change.key) ≡ change.key →
      cap_of packed.head packed.word ≡ change.capability
      → option_map (λ name. numbered_key (renamed slots name)) packed.parent ≡ change.parent → unpacked_change slots (number_of change.key) packed ≡ change
  unpacked-is packed change key capability parent =
      ap (λ (k : SlotKey). let s : NotedSlot =
      record {
        key = k;
        capability = cap_of packed.head packed.word;
        parent =
            option_map (λ name. numbered_key (renamed slots name)) packed.parent;
      } in s) key
      ∙ ap (λ (k : Cap). let s : NotedSlot = record {
        key = change.key;
        capability = k;
        parent =
            option_map (λ name. numbered_key (renamed slots name)) packed.parent;
      } in s) capability
      ∙ ap (λ (p : Option SlotKey). let s : NotedSlot = record { key = change.key; capability = change.capability; parent = p } in s) parent

  pub numbers-are : (es : List (ℕ × PackedChange)) → map (λ (s : NotedSlot). number_of s.key) (map (unpacked_entry slots) es) ≡ keys_of es
  numbers-are [] = refl
  numbers-are (e ∷ es) =
      ap (λ (n : ℕ). n ∷ map (λ (s : NotedSlot). number_of s.key) (map (unpacked_entry slots) es)) (number-back e.0)
      ∙ ap (λ (l : List ℕ). e.0 ∷ l) (numbers-are es)

  pub all-narrow : (es : List (ℕ × PackedChange)) → list_all is_narrow (map (unpacked_entry slots) es) ≡ true
  all-narrow [] = refl
  all-narrow (e ∷ es) = ap (λ b. b && list_all is_narrow (map (unpacked_entry slots) es)) (one e.1.parent) ∙ all-narrow es
    where
      one : (p : Option ℕ) → option_map_or (λ (key : SlotKey). nat_lt key.index (2 ^ 32)) (option_map (λ name. numbered_key (renamed slots name)) p) true ≡ true
      one None = refl
      one (Some name) = below-test (renamed slots name % 4294967296) 4294967296 (omega arith)

-- ---- two slots change places

module _ (old new : List (ℕ × ℕ)) (one other : SlotKey) (first : nat_lt one.index (2 ^ 32) ≡ true) (second : nat_lt other.index (2 ^ 32) ≡ true)
    (turn : (n : ℕ) → renamed new n ≡ turned_number (number_of one) (number_of other) (renamed old n)) where
  turned-key : (m : ℕ) → numbered_key (turned_number (number_of one) (number_of other) m) ≡ turned one other (numbered_key m)
  turned-key m =
      by-tests (m == number_of one) (m == number_of other)
      ∙ sym (ap (λ k. if k == number_of one then other else if k == number_of other then one else numbered_key m) (number-back m))
    where
      by-tests : (a b : Bool) → numbered_key (if a then number_of other else if b then number_of one else m)
          ≡ (if a then other else if b then one else numbered_key m)
      by-tests true b = key-back other second
      by-tests false true = key-back one first
      by-tests false false = refl

  turned-parent : (p : Option ℕ) → option_map (λ name. numbered_key (renamed new name)) p ≡ option_map (turned one other)
      (option_map (λ name. numbered_key (renamed old name)) p)
  turned-parent None = refl
  turned-parent (Some name) = ap (λ (k : SlotKey). Some k) (ap numbered_key (turn name) ∙ turned-key (renamed old name))

  pub exchanged-entries : (es : List (ℕ × PackedChange)) → map (unpacked_entry new) es ≡ map (exchanged one other) (map (unpacked_entry old) es)
  exchanged-entries [] = refl
  exchanged-entries (e ∷ es) =
      ap (λ (p : Option SlotKey). let s : NotedSlot = record { key = numbered_key e.0; capability = cap_of e.1.head e.1.word; parent = p } in
      s ∷ map (unpacked_entry new) es) (turned-parent e.1.parent)
      ∙ ap (λ (l : List NotedSlot). exchanged one other (unpacked_entry old e) ∷ l) (exchanged-entries es)

-- ---- links

-- each child of a slot has the link to its block from the slot's name
pub child-linked : (slots names : List (ℕ × ℕ)) (es : List (ℕ × PackedChange)) (links : List (ℕ × ℕ)) (parent : SlotKey) → AreInverse slots names →
    AreLinked es links
    → (slot : ℕ) → option_map_or (λ c. has_parent parent (left_by c)) (found (map (unpacked_entry slots) es) slot) false ≡ true →
    has_link links (renamed names (number_of parent)) (slot / 16 * 16) ≡ true
child-linked slots names es links parent inverse linked slot is =
    linked (renamed names (number_of parent)) slot
    (of-packed (packed_at es slot) (sym (ap (λ o. option_map_or (λ c. has_parent parent (left_by c)) o false) (unpacked-found slots es slot)) ∙ is))
  where
    of-parent : (p : Option ℕ) → option_map_or (λ (k : SlotKey). number_of k == number_of parent) (option_map (λ m. numbered_key (renamed slots m)) p) false
        ≡ true → has_name (renamed names (number_of parent)) p ≡ true
    of-parent None is = is
    of-parent (Some m) is =
        let here : renamed slots m ≡ number_of parent = sym (number-back (renamed slots m))
        ∙ eqb-true (number_of (numbered_key (renamed slots m))) (number_of parent) is in
        eq-eqb m (renamed names (number_of parent)) (sym (inverse m).1 ∙ ap (renamed names) here)

    of-packed : (o : Option PackedChange) → option_map_or (λ c. has_parent parent (left_by c)) (option_map (unpacked_change slots slot) o) false ≡ true →
        is_named (renamed names (number_of parent)) o ≡ true
    of-packed None is = is
    of-packed (Some p) is =
        let c : NotedSlot = unpacked_change slots slot p in
        of-parent p.parent (elim (is_empty c.capability) as (λ b. has_parent parent (if b then None else Some c) ≡ true →
        option_map_or (λ (k : SlotKey). number_of k == number_of parent) c.parent false ≡ true) [
          | true ↦ λ clash. absurd (let no : false ≡ true = clash in cc)
          | false ↦ λ here. here
        ] is)

-- links are kept where a change is put, and its own is there
pub put-linked : (es new : List (ℕ × PackedChange)) (n : ℕ) (packed : PackedChange) (before after : List (ℕ × ℕ))
    → ((m : ℕ) → packed_at new m ≡ cond (is_eq (nat_cmp n m)) (Some packed) (packed_at es m)) → AreLinked es before → KeepsLinks before after
    → ((name : ℕ) → has_name name packed.parent ≡ true → has_link after name (n / 16 * 16) ≡ true) → AreLinked new after
put-linked es new n packed before after put linked kept own name slot is = elim (eqb_tells slot n) [
  | inl same ↦
      let here : is_named name (Some packed) ≡ true = sym (ap (λ b. is_named name (cond b (Some packed) (packed_at es slot))) (eq-test n slot ∙ same.0))
      ∙ sym (ap (is_named name) (put slot)) ∙ is in
      subst (λ k. has_link after name (k / 16 * 16) ≡ true) (sym same.1) (own name here)
  | inr other ↦
      let there : is_named name (packed_at es slot) ≡ true = sym (ap (λ b. is_named name (cond b (Some packed) (packed_at es slot))) (eq-test n slot ∙ other.0))
      ∙ sym (ap (is_named name) (put slot)) ∙ is in
      kept name (slot / 16 * 16) (linked name slot there)
]

-- ---- the changes to slots of a block

abbrev are_in : ℕ → ℕ × PackedChange → Bool
are_in block e = e.0 / 16 * 16 == block

-- a number, and none before it
abbrev AllAfter : ℕ → List (ℕ × PackedChange) → Type 0
AllAfter least [] = Unit {0}
AllAfter least (e ∷ rest) = (least ≤ e.0) × AllAfter (e.0 + 1) rest

all-behind : (first : ℕ) (rest : List (ℕ × PackedChange)) → IsStrictlySortedBy nat_cmp (first ∷ keys_of rest) → AllAfter (first + 1) rest
unfolding IsStrictlySortedBy
all-behind first [] sorted = tt
all-behind first (e ∷ rest) sorted = (next first e.0 sorted.0.0, all-behind e.0 rest sorted.1)
  where
    next : (a b : ℕ) → nat_cmp a b ≡ Less → a + 1 ≤ b
    next a b less = grind (arith, nat_tests)

all-after : (es : List (ℕ × PackedChange)) → IsStrictlySortedBy nat_cmp (keys_of es) → AllAfter 0 es
all-after [] sorted = tt
all-after (e ∷ rest) sorted = (omega arith, all-behind e.0 rest sorted)

-- behind the block there is none
none-left : (block past least : ℕ) (es : List (ℕ × PackedChange)) → AllAfter least es → block ≤ past → past < least → (past / 16 * 16 == block) ≡ false →
    filter (are_in block) es ≡ []
none-left block past least [] after from less out = refl
none-left block past least (e ∷ rest) after from less out =
    ap (λ b. if b then e ∷ filter (are_in block) rest else filter (are_in block) rest)
    (ne_eqb (e.0 / 16 * 16) block (λ same. ne-past block past e.0 same from (omega (arith, less, after.0)) out))
    ∙ none-left block past (e.0 + 1) rest after.1 from (omega (arith, less, after.0)) out
  where
    ne-past : (block past n : ℕ) → n / 16 * 16 ≡ block → block ≤ past → past < n → (past / 16 * 16 == block) ≡ false → ⊥
    ne-past block past n same from less out =
        let here : past / 16 * 16 ≡ block = omega (arith, same, from, less) in
        let clash : false ≡ true = sym out ∙ eq-eqb (past / 16 * 16) block here in cc

abbrev from_block : ℕ → List (ℕ × PackedChange) → List (ℕ × PackedChange)
from_block block es = filter (λ (e : ℕ × PackedChange). is_le (nat_cmp block e.0) && true) es

begin-after : (block least : ℕ) (es : List (ℕ × PackedChange)) → AllAfter least es → begin_in block (from_block block es) ≡ filter (are_in block) es
begin-after block least [] after = refl
begin-after block least (e ∷ rest) after =
    let more = begin-after block (e.0 + 1) rest after.1 in
    elim (is_le (nat_cmp block e.0)) as (λ b. is_le (nat_cmp block e.0) ≡ b
    → begin_in block (if b && true then e ∷ from_block block rest else from_block block rest) ≡ filter (are_in block) (e ∷ rest)) [
      | true ↦ λ from. elim (are_in block e) as (λ b. are_in block e ≡ b
          → (if b then e ∷ begin_in block (from_block block rest) else []) ≡ (if b then e ∷ filter (are_in block) rest else filter (are_in block) rest)) [
            | true ↦ λ _. ap (λ (l : List (ℕ × PackedChange)). e ∷ l) more
            | false ↦ λ out. sym (none-left block e.0 (e.0 + 1) rest after.1 (at-least block e.0 from) (omega arith) out)
          ] refl
      | false ↦ λ low.
          more ∙ sym (ap (λ b. if b then e ∷ filter (are_in block) rest else filter (are_in block) rest)
          (ne_eqb (e.0 / 16 * 16) block (λ same. ne-below block e.0 low same)))
    ] refl
  where
    at-least : (a b : ℕ) → is_le (nat_cmp a b) ≡ true → a ≤ b
    at-least a b is = grind (arith, nat_tests)

    above : (a b : ℕ) → is_le (nat_cmp a b) ≡ false → b < a
    above a b is = grind (arith, nat_tests)

    ne-below : (block n : ℕ) → is_le (nat_cmp block n) ≡ false → n / 16 * 16 ≡ block → ⊥
    ne-below block n low same = omega (arith, above block n low, same)

-- the first ones of those from a block on are all of the block
pub begin-block : (block : ℕ) (es : List (ℕ × PackedChange)) → IsStrictlySortedBy nat_cmp (keys_of es) →
    begin_in block (from_block block es) ≡ filter (are_in block) es
begin-block block es sorted = begin-after block 0 es (all-after es sorted)

pub block-changes : (slots : List (ℕ × ℕ)) (block : ℕ) (es : List (ℕ × PackedChange)) →
    map (unpacked_entry slots) (filter (are_in block) es) ≡ in_block (map (unpacked_entry slots) es) block
block-changes slots block [] = refl
block-changes slots block (e ∷ rest) =
    let more = block-changes slots block rest in
    (elim (are_in block e) as (λ b. map (unpacked_entry slots) (if b then e ∷ filter (are_in block) rest else filter (are_in block) rest)
    ≡ (if b then unpacked_entry slots e ∷ in_block (map (unpacked_entry slots) rest) block else in_block (map (unpacked_entry slots) rest) block)) [
      | true ↦ ap (λ (l : List NotedSlot). unpacked_entry slots e ∷ l) more
      | false ↦ more
    ])
    ∙ sym (ap (λ n. if n / 16 * 16 == block then unpacked_entry slots e ∷ in_block (map (unpacked_entry slots) rest) block
    else in_block (map (unpacked_entry slots) rest) block) (number-back e.0))

-- where no change to a slot of a block has a name, none of its slots has it
pub none-named : (name block : ℕ) (es : List (ℕ × PackedChange)) → list_any (λ (e : ℕ × PackedChange). has_name name e.1.parent) (filter (are_in block) es)
    ≡ false
    → (slot : ℕ) → slot / 16 * 16 ≡ block → is_named name (packed_at es slot) ≡ false
none-named name block [] none slot inside = refl
none-named name block (e ∷ rest) none slot inside =
    let any : List (ℕ × PackedChange) → Bool = list_any (λ (e : ℕ × PackedChange). has_name name e.1.parent) in
    elim (eqb_tells e.0 slot) [
      | inl same ↦
          let ours : are_in block e ≡ true = eq-eqb (e.0 / 16 * 16) block (ap (λ k. k / 16 * 16) same.1 ∙ inside) in
          ap (λ b. is_named name (cond b (Some e.1) (packed_at rest slot))) (eq-test slot e.0 ∙ same.0)
          ∙ first-off (has_name name e.1.parent) (any (filter (are_in block) rest))
          (sym (ap (λ b. any (if b then e ∷ filter (are_in block) rest else filter (are_in block) rest)) ours) ∙ none)
      | inr other ↦
          ap (λ b. is_named name (cond b (Some e.1) (packed_at rest slot))) (eq-test slot e.0 ∙ other.0)
          ∙ none-named name block rest (elim (are_in block e) as (λ b. any (if b then e ∷ filter (are_in block) rest else filter (are_in block) rest) ≡ false →
          any (filter (are_in block) rest) ≡ false) [
            | true ↦ λ off. rest-off (has_name name e.1.parent) (any (filter (are_in block) rest)) off
            | false ↦ λ off. off
          ] none) slot inside
    ]
  where
    first-off : (a b : Bool) → (a || b) ≡ false → a ≡ false
    first-off true b off = off
    first-off false b off = refl

    rest-off : (a b : Bool) → (a || b) ≡ false → b ≡ false
    rest-off true b off = absurd (let clash : true ≡ false = off in cc)
    rest-off false b off = off
