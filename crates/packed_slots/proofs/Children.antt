-- What the neighbours of a slot show of its parent's children.
use Rattle.std.proofs.Common.{ℕ, zero, suc, ◌≡◌, ◌≢◌, ◌∙◌, ◌&&◌, ◌+◌, ◌<◌, ◌≤◌, ◌⊎◌, nat_lt, inl, inr, Bool, true, false, if◌then◌else◌, Option, Some, None}
use Rattle.std.proofs.Common.{List, [], ◌∷◌, length, refl, sym, ap, subst, arith}
use Rattle.std.proofs.lemmas.Bool.Decides.{eqb_tells}
use Rattle.std.proofs.lemmas.Bool.{cases_lt, le-ltb, lt-ltb}
use Rattle.model.proofs.Ancestors.{depth-child, test-from_descendant}
use Rattle.model.specs.Capabilities.Orders.{descendants, first_of, next_in}
use Rattle.model.specs.Capabilities.Slots.{IsFull, Slots, child, is_descendant, parent_at}
use Rattle.model.specs.Shared.Lists.{times_in}
use Rattle.slots.proofs.Laws.{leaves-one, leaves-other, next-another, previous-another}
use Rattle.slots.specs.Kin.{LeavesChildless, no_parent}
use Rattle.slots.specs.preorder.Chains.{IsChain, Links, back_above, if_deeper}
use Rattle.slots.specs.preorder.Preorder.{rows_of, slots_of}
use Rattle.packed_slots.specs.Packing.{IsPacked, Packed, is_open_in, packed_order, packed_rows, packed_slots}
use Rattle.packed_slots.specs.Words.{is_one, words_in}
use Rattle.packed_slots.proofs.Below.{below, found_known}
use Rattle.packed_slots.proofs.Changing.{depth-full}
use Rattle.packed_slots.proofs.PackedFacts.{full-row, open-full, open-near, parent-as, row-full, row-open}
use Rattle.packed_slots.proofs.Reading.{descent-found, parent-found}

-- ---- walks back

back-nothing : (previous : Links) (depths : ℕ → ℕ) (n d : ℕ) → back_above previous depths n d None ≡ None
back-nothing previous depths zero d = refl
back-nothing previous depths (suc n) d = refl

-- a longer walk finds what a shorter one does
one-longer : (previous : Links) (depths : ℕ → ℕ) (n d p : ℕ) (o : Option ℕ) → is_one p (back_above previous depths n d o) ≡ true →
    is_one p (back_above previous depths (suc n) d o) ≡ true
one-longer previous depths zero d p o is = absurd (let clash : false ≡ true = is in cc)
one-longer previous depths (suc n) d p None is = absurd (let clash : false ≡ true = is in cc)
one-longer previous depths (suc n) d p (Some s) is = elim (cases_lt (depths s) d) [
  | inl less ↦
      ap (λ b. is_one p (if b then Some s else back_above previous depths (suc n) d (previous s))) (lt-ltb (depths s) d less)
      ∙ sym (ap (λ b. is_one p (if b then Some s else back_above previous depths n d (previous s))) (lt-ltb (depths s) d less)) ∙ is
  | inr most ↦
      ap (λ b. is_one p (if b then Some s else back_above previous depths (suc n) d (previous s))) (le-ltb (depths s) d most)
      ∙ one-longer previous depths n d p (previous s)
      (sym (ap (λ b. is_one p (if b then Some s else back_above previous depths n d (previous s))) (le-ltb (depths s) d most)) ∙ is)
]

-- from a slot as deep on, the walk goes on after it
one-back : (previous : Links) (depths : ℕ → ℕ) (n d p s : ℕ) → d ≤ depths s → is_one p (back_above previous depths n d (Some s)) ≡ true →
    is_one p (back_above previous depths n d (previous s)) ≡ true
one-back previous depths zero d p s most is = absurd (let clash : false ≡ true = is in cc)
one-back previous depths (suc n) d p s most is =
    one-longer previous depths n d p (previous s)
    (sym (ap (λ b. is_one p (if b then Some s else back_above previous depths n d (previous s))) (le-ltb (depths s) d most)) ∙ is)

both-parts : (a b : Bool) → (a && b) ≡ true → (a ≡ true) × (b ≡ true)
both-parts true b is = (refl, is)
both-parts false b is = absurd (let clash : false ≡ true = is in cc)

-- the link from the slot before another leads to that
next-back : (xs : List ℕ) (next previous : Links) (before : Option ℕ) (s b : ℕ) → IsChain next previous before xs → 0 < times_in xs s → previous s ≡ Some b
    → ((before ≡ Some b) × (first_of xs ≡ Some s)) ⊎ (next b ≡ Some s)
next-back [] next previous before s b chain there is = absurd (omega (arith, there))
next-back (x ∷ rest) next previous before s b chain there is = elim (eqb_tells x s) [
  | inl here ↦ inl (sym chain.0 ∙ ap previous here.1 ∙ is, ap Some here.1)
  | inr off ↦ elim (next-back rest next previous (Some x) s b chain.2 (omega (arith, there, ap (λ t. if t then times_in rest s + 1 else times_in rest s) off.0))
      is) [
        | inl first ↦ (let same : x ≡ b = (let e : Some x ≡ Some b = first.0 in cc) in inr (ap next (sym same) ∙ chain.1 ∙ first.1))
        | inr found ↦ inr found
      ]
]

module _ (p : Packed) (slot : ℕ) (is : IsPacked p) (full : IsFull (packed_slots p) slot) where
  abbrev slots : Slots
  slots = packed_slots p

  abbrev previous : Links
  previous = (words_in p.memory).previous

  abbrev next : Links
  next = (words_in p.memory).next

  abbrev deep : ℕ → ℕ
  deep = (words_in p.memory).depth

  there : 0 < rows_of (packed_rows p) slot
  there = omega (arith, full-row (words_in p.memory) p.open_slots p.first (packed_rows p) slot is.packed full)

  opened : is_open_in p.open_slots slot ≡ true
  opened = open-full (words_in p.memory) p.open_slots (packed_rows p) slot full

  parent-is : parent_at slots slot ≡ back_above previous deep (length p.open_slots) (deep slot) (previous slot)
  parent-is = parent-as (words_in p.memory) p.open_slots p.first (packed_rows p) slot is.packed ∙ parent-found p slot is opened

  -- the first slot of all has no parent
  pub first-none : previous slot ≡ None → LeavesChildless slots slot None
  first-none none = no_parent (parent-is ∙ ap (back_above previous deep (length p.open_slots) (deep slot)) none
      ∙ back-nothing previous deep (length p.open_slots) (deep slot))

  module _ (before : ℕ) (back : previous slot ≡ Some before) where
    other : (0 < rows_of (packed_rows p) before) × (before ≢ slot)
    other = previous-another (slots_of (packed_rows p)) next previous slot before is.packed.linked.chain is.packed.linked.once there back

    -- the slot before is an earlier brother, or descends from one
    brother : (parent : ℕ) → parent_at slots slot ≡ Some parent → deep slot ≤ deep before → LeavesChildless slots slot None
    brother parent up most =
        let tree = is.packed.derivation in
        let own : is_descendant slots parent slot ≡ true = test-from_descendant slots parent slot tree (child slot up) in
        let parts = both-parts (nat_lt (deep parent) (deep slot))
        (is_one parent (back_above previous deep (length p.open_slots) (deep parent + 1) (previous slot)))
        (sym (descent-found p parent slot is opened) ∙ own) in
        let lower : deep parent < deep slot = elim (cases_lt (deep parent) (deep slot)) [
          | inl less ↦ less
          | inr end ↦ absurd (let clash : false ≡ true = sym (le-ltb (deep parent) (deep slot) end) ∙ parts.0 in cc)
        ] in
        let behind = one-back previous deep (length p.open_slots) (deep parent + 1) parent before (omega (arith, lower, most))
        (ap (λ o. is_one parent (back_above previous deep (length p.open_slots) (deep parent + 1) o)) (sym back) ∙ parts.1) in
        let below_it : is_descendant slots parent before ≡ true =
        descent-found p parent before is (row-open (words_in p.memory) p.open_slots p.first (packed_rows p) before is.packed other.0)
        ∙ ap (λ b. b && is_one parent (back_above previous deep (length p.open_slots) (deep parent + 1) (previous before)))
        (lt-ltb (deep parent) (deep before) (omega (arith, lower, most)))
        ∙ behind in
        leaves-other slots slot parent tree up before other.1 below_it

    pub beside-brother : deep slot ≤ deep before → LeavesChildless slots slot None
    beside-brother most = elim (parent_at slots slot) as (λ o. parent_at slots slot ≡ o → LeavesChildless slots slot None) [
      | None ↦ λ none. no_parent none
      | Some parent ↦ λ some. brother parent some most
    ] refl

    module _ (less : deep before < deep slot) where
      up : parent_at slots slot ≡ Some before
      up =
          parent-is ∙ ap (back_above previous deep (length p.open_slots) (deep slot)) back
          ∙ elim (length p.open_slots) as (λ n. length p.open_slots ≡ n → back_above previous deep n (deep slot) (Some before) ≡ Some before) [
            | zero ↦ λ none. absurd (omega (arith, none, some-open))
            | suc n ↦ λ some. ap (λ b. if b then Some before else back_above previous deep n (deep slot) (previous before))
                (lt-ltb (deep before) (deep slot) less)
          ] refl
        where
          some-open : 0 < length p.open_slots
          some-open = omega (arith, open-near p.open_slots slot opened)

      parent-full : IsFull slots before
      parent-full = row-full (words_in p.memory) p.open_slots p.first (packed_rows p) before is.packed other.0

      -- a slot is one deeper than its parent
      pub one-deeper : deep slot ≤ deep before + 1
      one-deeper =
          omega (arith, depth-child slots slot before is.packed.derivation up, depth-full p slot is full, depth-full p before is parent-full)

      own-below : is_descendant slots before slot ≡ true
      own-below = test-from_descendant slots before slot is.packed.derivation (child slot up)

      behind-is : next_in (descendants (packed_order p) slots before) (Some slot) ≡ if_deeper deep (deep before) (next slot)
      behind-is = below p before (Some slot) is parent-full (λ s same. let e : slot ≡ s = cc in subst (λ y. is_descendant slots before y ≡ true) e own-below)

      -- the next slot descends from the parent too
      pub beside-next : (after : ℕ) → next slot ≡ Some after → deep slot ≤ deep after → LeavesChildless slots slot None
      beside-next after on most =
          let found : Some after ≡ next_in (descendants (packed_order p) slots before) (Some slot) =
          sym (behind-is ∙ ap (if_deeper deep (deep before)) on
          ∙ ap (λ b. if b then Some after else None) (lt-ltb (deep before) (deep after) (omega (arith, less, most)))) in
          let apart = next-another (slots_of (packed_rows p)) next previous None slot after is.packed.linked.chain is.packed.linked.once there on in
          leaves-other slots slot before is.packed.derivation up after apart.1 (found_known p before (Some slot) (Some after) is found)

      -- and no slot after it does
      pub beside-none : if_deeper deep (deep before) (next slot) ≡ None → LeavesChildless slots slot (Some before)
      beside-none none =
          let link : next before ≡ Some slot = elim (next-back (slots_of (packed_rows p)) next previous None slot before is.packed.linked.chain there back) [
            | inl clash ↦ absurd (let e : None ≡ Some before = clash.0 in cc)
            | inr found ↦ found
          ] in
          let first : Some slot ≡ next_in (descendants (packed_order p) slots before) None =
          sym (below p before None is parent-full (λ s same. absurd (let e : None ≡ Some s = same in cc)) ∙ ap (if_deeper deep (deep before)) link
          ∙ ap (λ b. if b then Some slot else None) (lt-ltb (deep before) (deep slot) less)) in
          leaves-one slots slot before is.packed.derivation up (packed_order p) is.packed.listed (Some slot) first (behind-is ∙ none)
