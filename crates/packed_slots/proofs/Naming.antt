-- The slots that name one object are side by side: the next one, the first one, and another one.
use Rattle.std.proofs.Common.{ℕ, suc, ◌≡◌, ◌≢◌, ◌∙◌, ◌==◌, ◌+◌, ◌<◌, ◌≤◌, ◌⊎◌, inl, inr, not, Bool, true, false, IfSome, if◌then◌else◌, Option, Some, None}
use Rattle.std.proofs.Common.{List, [], ◌∷◌, filter, cond, refl, sym, ap, subst, arith}
use Rattle.std.proofs.lemmas.Bool.{ne_eqb}
use Rattle.std.proofs.lemmas.Bool.Decides.{eqb_tells}
use Rattle.model.proofs.Orders.{after-behind, after-filter, behind, behind_slot, first-some, times-behind, times-filter, times-first}
use Rattle.model.specs.Capabilities.Orders.{first_of, next_in}
use Rattle.model.specs.Capabilities.Slots.{IsFull, Slots, capability_at, is_full}
use Rattle.model.specs.Shared.Lists.{times_in}
use Rattle.slots.proofs.Laws.{another-beside, next-another, previous-another}
use Rattle.slots.specs.Kin.{object_at}
use Rattle.slots.specs.Listed.{is_naming, naming}
use Rattle.slots.specs.preorder.Chains.{IsChain, Links}
use Rattle.slots.specs.preorder.Preorder.{rows_of}
use Rattle.slots.specs.preorder.Runs.{AreRuns, HasKey, NoneHas}
use Rattle.packed_slots.specs.Packing.{IsPacked, Packed, packed_order, packed_rows, packed_slots}
use Rattle.packed_slots.specs.Sharing.{IsOther, if_naming}
use Rattle.packed_slots.specs.Words.{words_in}
use Rattle.packed_slots.proofs.PackedFacts.{full-row}
use Rattle.packed_slots.proofs.Sharing.{found-at, named-full, named-so, so-named}

rest-of : (x : ℕ) (rest : List ℕ) (s : ℕ) → x ≢ s → 0 < times_in (x ∷ rest) s → 0 < times_in rest s
rest-of x rest s apart there = omega (arith, there, ap (λ b. if b then times_in rest s + 1 else times_in rest s) (ne_eqb x s apart))

within-all : (x : ℕ) (rest : List ℕ) (s : ℕ) → 0 < times_in rest s → 0 < times_in (x ∷ rest) s
within-all x rest s there = elim (x == s) as (λ b. 0 < (if b then times_in rest s + 1 else times_in rest s)) [ true ↦ omega (arith, there) | false ↦ there ]

module _ (slots : Slots) (offset : ℕ) where
  abbrev test : ℕ → Bool
  test = is_naming slots offset

  fails : (s : ℕ) → object_at slots s ≢ Some offset → test s ≡ false
  fails s other = elim (test s) as (λ b. test s ≡ b → b ≡ false) [
    | true ↦ λ is. absurd (other (named-so (object_at slots s) offset is))
    | false ↦ λ is. refl
  ] refl

  pub none-naming : (xs : List ℕ) → NoneHas (object_at slots) offset xs → filter test xs ≡ []
  none-naming [] none = refl
  none-naming (x ∷ rest) none =
      ap (λ b. cond b (x ∷ filter test rest) (filter test rest)) (fails x (none x (omega (arith, times-first x rest))))
      ∙ none-naming rest (λ s there. none s (within-all x rest s there))

  first-has : (xs : List ℕ) → HasKey (object_at slots) offset (first_of xs) → first_of (filter test xs) ≡ first_of xs
  first-has [] has = absurd has
  first-has (x ∷ rest) has = ap (λ b. first_of (cond b (x ∷ filter test rest) (filter test rest))) (so-named (object_at slots x) offset has)

  naming-has : (found : Option ℕ) → HasKey (object_at slots) offset found → if_naming slots offset found ≡ found
  naming-has found has = ap (λ b. if b then found else None) (found-at slots offset found has)

  naming-none : (xs : List ℕ) → NoneHas (object_at slots) offset xs → if_naming slots offset (first_of xs) ≡ None
  naming-none [] none = refl
  naming-none (x ∷ rest) none = ap (λ b. if b then Some x else None) (fails x (none x (omega (arith, times-first x rest))))

  -- the next one in the links, if it has the key
  next-run : (xs : List ℕ) (next previous : Links) (before : Option ℕ) (s : ℕ) → IsChain next previous before xs → AreRuns (object_at slots) xs →
      0 < times_in xs s
      → object_at slots s ≡ Some offset → first_of (filter test (behind_slot xs s)) ≡ if_naming slots offset (next s)
  next-run [] next previous before s chain runs there is = absurd (omega (arith, there))
  next-run (x ∷ rest) next previous before s chain runs there is = elim (eqb_tells x s) [
    | inl here ↦
        let behind_is : first_of (filter test (behind_slot (x ∷ rest) s)) ≡ first_of (filter test rest) =
        ap (λ b. first_of (filter test (if b then rest else behind_slot rest s))) here.0 in
        let link : next s ≡ first_of rest = sym (ap next here.1) ∙ chain.1 in
        elim (runs.0 offset (ap (object_at slots) here.1 ∙ is)) [
          | inl has ↦ behind_is ∙ first-has rest has ∙ sym (ap (if_naming slots offset) link ∙ naming-has (first_of rest) has)
          | inr none ↦ behind_is ∙ ap first_of (none-naming rest none) ∙ sym (ap (if_naming slots offset) link ∙ naming-none rest none)
        ]
    | inr apart ↦
        ap (λ b. first_of (filter test (if b then rest else behind_slot rest s))) apart.0
        ∙ next-run rest next previous (Some x) s chain.2 runs.1 (rest-of x rest s apart.1 there) is
  ]

  -- the first one back, before which there is another slot
  first-run : (xs : List ℕ) (next previous : Links) (before : Option ℕ) (s : ℕ) → IsChain next previous before xs → AreRuns (object_at slots) xs →
      0 < times_in xs s
      → object_at slots s ≡ Some offset → (HasKey (object_at slots) offset (previous s) → ⊥) → first_of (filter test xs) ≡ Some s
  first-run [] next previous before s chain runs there is none = absurd (omega (arith, there))
  first-run (x ∷ rest) next previous before s chain runs there is none = elim (eqb_tells x s) [
    | inl here ↦ ap (λ b. first_of (cond b (x ∷ filter test rest) (filter test rest))) (so-named (object_at slots x) offset (ap (object_at slots) here.1 ∙ is))
        ∙ ap Some here.1
    | inr apart ↦
        let later : 0 < times_in rest s = rest-of x rest s apart.1 there in
        let inner = first-run rest next previous (Some x) s chain.2 runs.1 later is none in
        elim (test x) as (λ b. test x ≡ b → first_of (cond b (x ∷ filter test rest) (filter test rest)) ≡ Some s) [
          | true ↦ λ own.
              let key : object_at slots x ≡ Some offset = named-so (object_at slots x) offset own in
              elim (runs.0 offset key) [
                | inl has ↦
                    let head : first_of rest ≡ Some s = sym (first-has rest has) ∙ inner in
                    absurd (none (subst (HasKey (object_at slots) offset) (sym (head-previous rest next previous (Some x) s chain.2 head)) key))
                | inr nobody ↦ absurd (nobody s later is)
              ]
          | false ↦ λ _. inner
        ] refl
  ]
    where
      head-previous : (ys : List ℕ) (n p : Links) (b : Option ℕ) (t : ℕ) → IsChain n p b ys → first_of ys ≡ Some t → p t ≡ b
      head-previous [] n p b t linked head = absurd (let clash : None ≡ Some t = head in cc)
      head-previous (y ∷ more) n p b t linked head = ap p (let same : t ≡ y = cc in same) ∙ linked.0

-- ---- how far from the front a slot is

abbrev pub place_of : List ℕ → ℕ → ℕ
place_of [] s = 0
place_of (x ∷ rest) s = if x == s then 0 else suc (place_of rest s)

place-most : (x : ℕ) (rest : List ℕ) (s : ℕ) → place_of (x ∷ rest) s ≤ suc (place_of rest s)
place-most x rest s = elim (x == s) as (λ b. (if b then 0 else suc (place_of rest s)) ≤ suc (place_of rest s)) [ true ↦ omega arith | false ↦ omega arith ]

place-back : (xs : List ℕ) (next previous : Links) (before : Option ℕ) (s b : ℕ) → IsChain next previous before xs → 0 < times_in xs s → previous s ≡ Some b
    → (before ≡ Some b) ⊎ (place_of xs b < place_of xs s)
place-back [] next previous before s b chain there is = absurd (omega (arith, there))
place-back (x ∷ rest) next previous before s b chain there is = elim (eqb_tells x s) [
  | inl here ↦ inl (sym chain.0 ∙ ap previous here.1 ∙ is)
  | inr apart ↦
      let own : place_of (x ∷ rest) s ≡ suc (place_of rest s) = ap (λ c. if c then 0 else suc (place_of rest s)) apart.0 in
      elim (place-back rest next previous (Some x) s b chain.2 (rest-of x rest s apart.1 there) is) [
        | inl same ↦
            let at : x ≡ b = cc in
            let zero_is : place_of (x ∷ rest) b ≡ 0 = elim (eqb_tells x b)
            [ inl here ↦ ap (λ c. if c then 0 else suc (place_of rest b)) here.0 | inr apart ↦ absurd (apart.1 at) ] in
            inr (omega (arith, own, zero_is))
        | inr less ↦ inr (omega (arith, own, less, place-most x rest b))
      ]
]

-- ---- the same of a packed store

module _ (p : Packed) (offset : ℕ) (is : IsPacked p) where
  abbrev own : Slots
  own = packed_slots p

  pub known-object : (s : ℕ) → is_naming own offset s ≡ true → object_at own s ≡ Some offset
  known-object s known = named-so (object_at own s) offset known

  there-row : (s : ℕ) → object_at own s ≡ Some offset → 0 < rows_of (packed_rows p) s
  there-row s has =
      let full : is_full own s ≡ true = ap not (named-full (capability_at own s) offset has) in
      omega (arith, full-row (words_in p.memory) p.open_slots p.first (packed_rows p) s is.packed full)

  pub next-naming : (s : ℕ) → is_naming own offset s ≡ true →
      if_naming own offset ((words_in p.memory).next s) ≡ next_in (naming (packed_order p) own offset) (Some s)
  next-naming s known =
      let w = words_in p.memory in
      let has = known-object s known in
      sym (after-filter (is_naming own offset) (packed_order p) (Some s)
      (λ t same. subst (λ n. is_naming own offset n ≡ true) (let at : s ≡ t = cc in at) known)
      ∙ next-run own offset (packed_order p) w.next w.previous None s is.packed.linked.chain is.packed.runs (there-row s has) has)

  pub first-naming : (s : ℕ) → is_naming own offset s ≡ true → if_naming own offset ((words_in p.memory).previous s) ≡ None
      → Some s ≡ next_in (naming (packed_order p) own offset) None
  first-naming s known none =
      let w = words_in p.memory in
      let has = known-object s known in
      sym (first-run own offset (packed_order p) w.next w.previous None s is.packed.linked.chain is.packed.runs (there-row s has) has
      (λ key. none-naming-at (w.previous s) key none))
    where
      none-naming-at : (found : Option ℕ) → HasKey (object_at own) offset found → if_naming own offset found ≡ None → ⊥
      none-naming-at None key nothing = key
      none-naming-at (Some t) key nothing = absurd (let clash : Some t ≡ None = sym (naming-has own offset (Some t) key) ∙ nothing in cc)

  -- one step back
  pub naming-some : (found : Option ℕ) (s : ℕ) → if_naming own offset found ≡ Some s → (found ≡ Some s) × (is_naming own offset s ≡ true)
  naming-some None s found_is = absurd (let clash : None ≡ Some s = found_is in cc)
  naming-some (Some t) s found_is = elim (is_naming own offset t)
      as (λ b. is_naming own offset t ≡ b → (if b then Some t else None) ≡ Some s → (Some t ≡ Some s) × (is_naming own offset s ≡ true)) [
        | true ↦ λ does same. (same, subst (λ n. is_naming own offset n ≡ true) (let at : t ≡ s = cc in at) does)
        | false ↦ λ _ none. absurd (let clash : None ≡ Some s = none in cc)
      ] refl found_is

  pub step-back : (s b : ℕ) → is_naming own offset s ≡ true → Some b ≡ if_naming own offset ((words_in p.memory).previous s)
      → place_of (packed_order p) b < place_of (packed_order p) s
  step-back s b known found =
      let w = words_in p.memory in
      elim (place-back (packed_order p) w.next w.previous None s b is.packed.linked.chain (there-row s (known-object s known))
      (naming-some (w.previous s) b (sym found)).0) [
        | inl none ↦ absurd (let clash : None ≡ Some b = none in cc)
        | inr less ↦ less
      ]

  -- another slot with the same object
  pub beside-some : (s b : ℕ) → is_naming own offset s ≡ true → if_naming own offset ((words_in p.memory).previous s) ≡ Some b → IsOther own offset s (Some b)
  beside-some s b known found =
      let w = words_in p.memory in
      let before = naming-some (w.previous s) b found in
      record {
        some = λ t same. subst (λ n. (n ≢ s) × (object_at own n ≡ Some offset)) (let at : b ≡ t = cc in at) (
          (previous-another (packed_order p) w.next w.previous s b is.packed.linked.chain is.packed.linked.once (there-row s (known-object s known))
              before.0).1,
          known-object b before.1,
        );
        none = λ nothing. absurd (let clash : Some b ≡ None = nothing in cc);
      }

  pub beside-next : (s : ℕ) → is_naming own offset s ≡ true → if_naming own offset ((words_in p.memory).previous s) ≡ None
      → IsOther own offset s (if_naming own offset ((words_in p.memory).next s))
  beside-next s known nothing =
      let w = words_in p.memory in
      let has = known-object s known in
      let there = there-row s has in
      record {
        some = λ t found.
            let behind_it = naming-some (w.next s) t found in (
              (next-another (packed_order p) w.next w.previous None s t is.packed.linked.chain is.packed.linked.once there behind_it.0).1,
              known-object t behind_it.1,
            );
        none = λ none t named. elim (eqb_tells t s) [
          | inl same ↦ same.1
          | inr apart ↦ absurd (elim (another-beside (object_at own) offset (packed_order p) w.next w.previous None s t is.packed.linked.chain is.packed.runs
              there has (there-row t named) apart.1 named) [
                | inl key ↦ no-key (w.previous s) key nothing
                | inr key ↦ no-key (w.next s) key none
              ])
        ];
      }
    where
      no-key : (found : Option ℕ) → HasKey (object_at own) offset found → if_naming own offset found ≡ None → ⊥
      no-key None key empty = key
      no-key (Some t) key empty = absurd (let clash : Some t ≡ None = sym (naming-has own offset (Some t) key) ∙ empty in cc)

  -- what is found names the object, and is full
  pub found-naming : (last found : Option ℕ) → found ≡ next_in (naming (packed_order p) own offset) last → IfSome found (λ s. is_naming own offset s ≡ true)
  found-naming last None same = tt
  found-naming last (Some s) same =
      let list = naming (packed_order p) own offset in
      let rest = first-some (behind list last) s (sym (after-behind list last) ∙ sym same) in
      let there = times-behind list last s rest.0 rest.1 in
      elim (is_naming own offset s) as (λ b. is_naming own offset s ≡ b → b ≡ true) [
        | true ↦ λ does. refl
        | false ↦ λ lacks. absurd
            (omega (arith, there, times-filter (is_naming own offset) (packed_order p) s ∙ ap (λ b. if b then times_in (packed_order p) s else 0) lacks))
      ] refl

-- where none is known nobody names it
pub none-alike : (p : Packed) (offset : ℕ) → ((s : ℕ) → is_naming (packed_slots p) offset s ≡ false) →
    None ≡ next_in (naming (packed_order p) (packed_slots p) offset) None
none-alike p offset nobody =
    sym (ap first_of (none-naming (packed_slots p) offset (packed_order p) (λ s _ names.
    absurd (let clash : false ≡ true = sym (nobody s) ∙ so-named (object_at (packed_slots p) s) offset names in cc))))

-- what names an object is full
pub naming-full : (p : Packed) (offset : ℕ) (found : Option ℕ) → IfSome found (λ s. is_naming (packed_slots p) offset s ≡ true) →
    IfSome found (IsFull (packed_slots p))
naming-full p offset None names = tt
naming-full p offset (Some s) names = ap not (named-full (capability_at (packed_slots p) s) offset (named-so (object_at (packed_slots p) s) offset names))
