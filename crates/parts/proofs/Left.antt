-- Loops by what is left: sets that get what passes of a list, and tests of all items.
use Rattle.std.proofs.Common.{ℕ, zero, suc, ◌≡◌, ◌∙◌, ◌+◌, ◌-◌, ◌<◌, ◌≤◌, ◌==◌, ◌&&◌, ◌||◌, Bool, true, false, List, [], ◌∷◌, ◌++◌, length, drop, take}
use Rattle.std.proofs.Common.{Some, get_or, ap, append-nil, append_assoc, arith, add-one, drop-cons, refl, sym, take_all}
use Rattle.std.specs.Prelude.{slice_get}
use Rattle.std.specs.List.{enumerate_from, list_all, list_any, range_with_len}
use Rattle.std.proofs.Math.Bool.{or-false, or_assoc}
use Rattle.std.proofs.lemmas.Bool.{eq-eqb}
use Rattle.std.proofs.lemmas.List.{drop_all}
use Rattle.std.proofs.lemmas.List.Folds.{list_all_at, list_all_more, list_any_at, list_any_more}
use Rattle.std.proofs.lemmas.Option.{get_or_from_slice_get, slice_get_within}
use Rattle.image_reading.specs.image_entries.Keys.{AreListedIn}
use Rattle.model.specs.declared.entries.CapabilityEntry.{CapabilityEntry}
use Rattle.model.specs.Acceptance.ThreadRules.{is_member}

-- ---- sets

module _ {A : Type 0} (p : A → ℕ → Bool) where
  -- what is in the set, and what passes of the rest, is what was in it before, and what passes of all
  abbrev pub AreLeft : List A → List A → List ℕ → List ℕ → Type 0
  AreLeft all rest before now = (n : ℕ) → (is_member n now || list_any (λ x. p x n) rest) ≡ (is_member n before || list_any (λ x. p x n) all)

  pub left-next : (all xs ys : List A) (x : A) (before old new : List ℕ) → xs ≡ x ∷ ys → ((n : ℕ) → is_member n new ≡ (is_member n old || p x n))
      → AreLeft all xs before old → AreLeft all ys before new
  left-next all xs ys x before old new parts put so_far n =
      ap (λ b. b || list_any (λ z. p z n) ys) (put n) ∙ or_assoc (is_member n old) (p x n) (list_any (λ z. p z n) ys)
      ∙ ap (λ (l : List A). is_member n old || list_any (λ z. p z n) l) (sym parts) ∙ so_far n

  pub left-none : (all xs : List A) (before now : List ℕ) → xs ≡ [] → AreLeft all xs before now
      → (n : ℕ) → is_member n now ≡ (is_member n before || list_any (λ x. p x n) all)
  left-none all xs before now none so_far n =
      sym (or-false (is_member n now)) ∙ ap (λ (l : List A). is_member n now || list_any (λ z. p z n) l) (sym none) ∙ so_far n

-- ---- from one place of a list on, to another

module _ {A : Type 0} where
  skipped : (p : A → Bool) (xs : List A) (n : ℕ) → ((k : ℕ) (x : A) → k < n → slice_get xs k ≡ Some x → p x ≡ false)
      → list_any p (drop n xs) ≡ list_any p xs
  skipped p xs zero fail = refl
  skipped p [] (suc n) fail = refl
  skipped p (x ∷ xs) (suc n) fail =
      skipped p xs n (λ k y lt at. fail (suc k) y (omega (arith, lt)) at) ∙ ap (λ b. b || list_any p xs) (sym (fail 0 x (omega arith) refl))

  none-left : (p : A → Bool) (xs : List A) (n : ℕ) → ((k : ℕ) (x : A) → n ≤ k → slice_get xs k ≡ Some x → p x ≡ false) → list_any p (drop n xs) ≡ false
  none-left p [] zero fail = refl
  none-left p (x ∷ xs) zero fail =
      ap (λ b. b || list_any p xs) (fail 0 x (omega arith) refl) ∙ none-left p xs zero (λ k y le at. fail (suc k) y (omega arith) at)
  none-left p [] (suc n) fail = refl
  none-left p (x ∷ xs) (suc n) fail = none-left p xs n (λ k y le at. fail (suc k) y (omega (arith, le)) at)

  pub drop-next : (xs : List A) (n : ℕ) (x : A) → slice_get xs n ≡ Some x → drop n xs ≡ x ∷ drop (n + 1) xs
  drop-next xs n x is =
      let at : get_or xs n x ≡ x = get_or_from_slice_get xs n x x is in
      rw (add-one n) (drop-cons xs n x (slice_get_within xs n x is) ∙ ap (λ y. y ∷ drop (suc n) xs) at)

  pub drop-item : (xs : List A) (n : ℕ) (x : A) → n < length xs → x ≡ get_or xs n x → drop n xs ≡ x ∷ drop (n + 1) xs
  drop-item xs n x lt is = rw (add-one n) (drop-cons xs n x lt ∙ ap (λ y. y ∷ drop (suc n) xs) (sym is))

  -- what was read of a list, with what is left
  pub read-next : (all xs ys : List A) (x : A) (old new : List A) → xs ≡ x ∷ ys → new ≡ old ++ x ∷ [] → old ++ xs ≡ all → new ++ ys ≡ all
  read-next all xs ys x old new parts put so_far =
      ap (λ (l : List A). l ++ ys) put ∙ append_assoc old (x ∷ []) ys ∙ ap (λ (l : List A). old ++ l) (sym parts) ∙ so_far

  pub read-all : (all xs made : List A) → xs ≡ [] → made ++ xs ≡ all → made ≡ all
  read-all all xs made none so_far = sym (append-nil made) ∙ ap (λ (l : List A). made ++ l) (sym none) ∙ so_far

module _ (cnode : ℕ) (capabilities : List CapabilityEntry) (first end : ℕ) (listed : AreListedIn cnode capabilities first end)
    (test : CapabilityEntry → ℕ → Bool) where
  -- a capability of the CNode that passes
  abbrev pub passes_in : CapabilityEntry → ℕ → Bool
  passes_in c n = c.cnode == cnode && test c n

  pub listed-first : (before : List ℕ) → AreLeft passes_in capabilities (drop first capabilities) before before
  listed-first before n =
      ap (λ b. is_member n before || b)
      (skipped (λ c. passes_in c n) capabilities first (λ k c lt at. ap (λ b. b && test c n) (listed.before k c lt at)))

  pub listed-next : (k : ℕ) (c : CapabilityEntry) (before old new : List ℕ) → first ≤ k → k < end → slice_get capabilities k ≡ Some c
      → ((n : ℕ) → is_member n new ≡ (is_member n old || test c n)) → AreLeft passes_in capabilities (drop k capabilities) before old
      → AreLeft passes_in capabilities (drop (k + 1) capabilities) before new
  listed-next k c before old new le lt at put so_far =
      left-next passes_in capabilities (drop k capabilities) (drop (k + 1) capabilities) c before old new (drop-next capabilities k c at)
      (λ n. put n ∙ ap (λ b. is_member n old || (b && test c n)) (sym (eq-eqb c.cnode cnode (listed.there k c le lt at)))) so_far

  pub listed-end : (k : ℕ) (before now : List ℕ) → end ≤ k → AreLeft passes_in capabilities (drop k capabilities) before now
      → (n : ℕ) → is_member n now ≡ (is_member n before || list_any (λ c. passes_in c n) capabilities)
  listed-end k before now past so_far n =
      sym (or-false (is_member n now))
      ∙ ap (λ b. is_member n now || b) (sym (none-left (λ c. passes_in c n) capabilities k
      (λ m c le at. ap (λ b. b && test c n) (listed.behind m c (omega (arith, past, le)) at))))
      ∙ so_far n

-- ---- one CNode after the other

nothing : {A : Type 0} (xs : List A) → list_any (λ x. false) xs ≡ false
nothing [] = refl
nothing (x ∷ xs) = nothing xs

or-four : (a b c d : Bool) → ((a || b) || (c || d)) ≡ ((a || c) || (b || d))
or-four true b c d = refl
or-four false true true d = refl
or-four false true false d = refl
or-four false false c d = refl

either : {A : Type 0} (p q : A → Bool) (xs : List A) → (list_any p xs || list_any q xs) ≡ list_any (λ x. p x || q x) xs
either p q [] = refl
either p q (x ∷ xs) = or-four (p x) (list_any p xs) (q x) (list_any q xs) ∙ ap (λ b. (p x || q x) || b) (either p q xs)

or-and : (a b c : Bool) → ((a && c) || (b && c)) ≡ ((a || b) && c)
or-and true true true = refl
or-and true true false = refl
or-and true false true = refl
or-and true false false = refl
or-and false b c = refl

module _ (capabilities : List CapabilityEntry) (test : CapabilityEntry → ℕ → Bool) where
  -- a capability of the CNode passes
  abbrev pub some_in : ℕ → ℕ → Bool
  some_in cnode n = list_any (λ c. c.cnode == cnode && test c n) capabilities

  in-all : (cnodes : List ℕ) (n : ℕ) → list_any (λ cnode. some_in cnode n) cnodes ≡ list_any (λ c. is_member c.cnode cnodes && test c n) capabilities
  in-all [] n = sym (nothing capabilities)
  in-all (m ∷ cnodes) n =
      ap (λ b. some_in m n || b) (in-all cnodes n)
      ∙ either (λ c. c.cnode == m && test c n) (λ c. is_member c.cnode cnodes && test c n) capabilities
      ∙ (λ i. list_any (λ c. or-and (c.cnode == m) (is_member c.cnode cnodes) (test c n) i) capabilities)

  pub cnode-next : (cnodes : List ℕ) (k m : ℕ) (before old new : List ℕ) → slice_get cnodes k ≡ Some m
      → ((n : ℕ) → is_member n new ≡ (is_member n old || some_in m n)) → AreLeft some_in cnodes (drop k cnodes) before old
      → AreLeft some_in cnodes (drop (k + 1) cnodes) before new
  cnode-next cnodes k m before old new at put so_far =
      left-next some_in cnodes (drop k cnodes) (drop (k + 1) cnodes) m before old new (drop-next cnodes k m at) put so_far

  pub cnodes-end : (cnodes : List ℕ) (k : ℕ) (before now : List ℕ) → length cnodes ≤ k → AreLeft some_in cnodes (drop k cnodes) before now
      → (n : ℕ) → is_member n now ≡ (is_member n before || list_any (λ c. is_member c.cnode cnodes && test c n) capabilities)
  cnodes-end cnodes k before now past so_far n =
      left-none some_in cnodes (drop k cnodes) before now (drop_all k cnodes past) so_far n ∙ ap (λ b. is_member n before || b) (in-all cnodes n)

-- ---- items by their numbers

module _ {A : Type 0} (xs : List A) (n : ℕ) where
  pub numbered-next : (x : A) → slice_get xs n ≡ Some x → enumerate_from n (drop n xs) ≡ (n, x) ∷ enumerate_from (n + 1) (drop (n + 1) xs)
  numbered-next x is =
      ap (enumerate_from n) (drop-next xs n x is)

  pub numbered-none : length xs ≤ n → enumerate_from n (drop n xs) ≡ []
  numbered-none le = ap (enumerate_from n) (drop_all n xs le)

-- ---- items of a slice

module _ {A : Type 0} (p : A → Bool) (xs : List A) (i : ℕ) where
  pub all-fails : (x : A) → i < length xs → x ≡ get_or xs i x → p x ≡ false → false ≡ list_all p xs
  all-fails x lt is fails = sym (list_all_at p xs i x lt (ap p (sym is) ∙ fails))

  pub all-more : (x : A) → i < length xs → x ≡ get_or xs i x → p x ≡ true → list_all p (take i xs) ≡ true → list_all p (take (i + 1) xs) ≡ true
  all-more x lt is passes so_far = list_all_more p xs i x lt ∙ ap (λ b. b && p (get_or xs i x)) so_far ∙ ap p (sym is) ∙ passes

  pub all-end : length xs ≤ i → list_all p (take i xs) ≡ true → true ≡ list_all p xs
  all-end le so_far = sym so_far ∙ ap (λ (l : List A). list_all p l) (take_all i xs le)

  pub any-found : (x : A) → i < length xs → x ≡ get_or xs i x → p x ≡ true → true ≡ list_any p xs
  any-found x lt is passes = sym (list_any_at p xs i x lt (ap p (sym is) ∙ passes))

  pub any-more : (x : A) → i < length xs → x ≡ get_or xs i x → p x ≡ false → list_any p (take i xs) ≡ false → list_any p (take (i + 1) xs) ≡ false
  any-more x lt is fails so_far = list_any_more p xs i x lt ∙ ap (λ b. b || p (get_or xs i x)) so_far ∙ ap p (sym is) ∙ fails

  pub any-end : length xs ≤ i → list_any p (take i xs) ≡ false → false ≡ list_any p xs
  any-end le so_far = sym so_far ∙ ap (λ (l : List A). list_any p l) (take_all i xs le)

-- ---- numbers

module _ (p : ℕ → Bool) (count n : ℕ) where
  pub numbers-next : n < count → range_with_len n (count - n) ≡ n ∷ range_with_len (n + 1) (count - (n + 1))
  numbers-next lt = let k : count - n ≡ suc (count - (n + 1)) = omega arith in ap (range_with_len n) k

  abbrev numbers_left : ℕ → Bool
  numbers_left k = list_all p (range_with_len k (count - k))

  pub number-later : (total : Bool) → n < count → p n ≡ true → numbers_left n ≡ total → numbers_left (n + 1) ≡ total
  number-later total lt passes so_far = sym (ap (λ b. b && numbers_left (n + 1)) passes) ∙ sym (ap (list_all p) (numbers-next lt)) ∙ so_far

  pub number-fails : (total : Bool) → n < count → p n ≡ false → numbers_left n ≡ total → false ≡ total
  number-fails total lt fails so_far = sym (ap (λ b. b && numbers_left (n + 1)) fails) ∙ sym (ap (list_all p) (numbers-next lt)) ∙ so_far

  pub number-none : (total : Bool) → count ≤ n → numbers_left n ≡ total → true ≡ total
  number-none total le so_far = let k : count - n ≡ 0 = omega arith in sym (ap (λ (m : ℕ). list_all p (range_with_len n m)) k) ∙ so_far
