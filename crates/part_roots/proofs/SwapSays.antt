-- A state in which two slots change places as parents says what the slots are then.
use Rattle.std.proofs.Common.{ℕ, ◌≡◌, ◌∙◌, ◌==◌, ◌+◌, ◌*◌, inl, inr, true, false, if◌then◌else◌, List, Option, None, Some, option_map, map, refl, sym, ap}
use Rattle.std.proofs.Common.{subst, arith}
use Rattle.std.specs.Option.{option_map_or}
use Rattle.std.proofs.lemmas.Bool.Decides.{eqb_tells}
use Rattle.model.specs.Acceptance.NotedStates.{NotedSlot, SlotKey, is_same_key, number_of}
use Rattle.model.specs.Capabilities.CapabilityWords.{words_of}
use Rattle.part_roots.specs.Looks.{Look, Says, look_of, name_of, put_in, said_by, seen, slot_named, words_in}
use Rattle.part_roots.proofs.HeldPuts.{put_apart, put_same}
use Rattle.part_roots.proofs.SetSays.{key_at, number_at}
use Rattle.typestate.specs.Families.{found}
use Rattle.typestate.specs.Names.{turned_number}
use Rattle.typestate.specs.Replays.{exchanged, turned}
use Rattle.typestate.specs.Unlinked.{AreUnlinked}
use Rattle.typestate.proofs.Laws.{listed-alone, map-at, still-inverse, turned-there}

-- ---- by keys, and by numbers

turned_is : (from to key : SlotKey) → number_of (turned from to key) ≡ turned_number (number_of from) (number_of to) (number_of key)
turned_is from to key = elim (is_same_key key from) as (λ b. number_of (if b then to else if is_same_key key to then from else key)
    ≡ (if b then number_of to else if is_same_key key to then number_of from else number_of key)) [
      | true ↦ refl
      | false ↦ elim (is_same_key key to) as (λ b. number_of (if b then from else key) ≡ (if b then number_of from else number_of key)) [
        | true ↦ refl
        | false ↦ refl
      ]
    ]

abbrev turned_look : ℕ → ℕ → Look → Look
turned_look one other l = record { words = l.words; parent = option_map (turned_number one other) l.parent }

look_turned : (from to : SlotKey) (o : Option NotedSlot)
    → option_map look_of (option_map (exchanged from to) o) ≡ option_map (turned_look (number_of from) (number_of to)) (option_map look_of o)
look_turned from to None = refl
look_turned from to (Some s) = by_parent (words_of s.capability) s.parent
  where
    by_parent : (words : List ℕ) (p : Option SlotKey) → Some (let l : Look = record {
      words = words;
      parent = option_map number_of (option_map
          (turned from to) p);
    } in l)
        ≡ Some (let l : Look = record { words = words; parent = option_map (turned_number (number_of from) (number_of to)) (option_map number_of p) } in l)
    by_parent words None = refl
    by_parent words (Some key) = ap (λ k. Some (let l : Look = record { words = words; parent = Some k } in l)) (turned_is from to key)

-- what is said of a slot, where names stand for the slots that changed places
said_turned : (named : ℕ → ℕ) (image : List NotedSlot) (one other m : ℕ) (words parent : Option ℕ)
    → option_map (turned_look one other) (seen image m) ≡ seen image m
    → option_map (turned_look one other) (said_by named image m words parent) ≡ said_by (λ x. turned_number one other (named x)) image m words parent
said_turned named image one other m None parent alone = alone
said_turned named image one other m (Some code) parent alone =
    elim (code == 0) as (λ b. option_map (turned_look one other) (if b then None else Some
    (let l : Look = record { words = words_in code; parent = option_map named parent } in l))
    ≡ (if b then None else Some (let l : Look = record { words = words_in code; parent = option_map (λ x. turned_number one other (named x)) parent } in l))) [
      | true ↦ refl
      | false ↦ by_parent parent
    ]
  where
    by_parent : (p : Option ℕ) → Some (let l : Look = record { words = words_in code; parent = option_map (turned_number one other) (option_map named p) } in l)
        ≡ Some (let l : Look = record { words = words_in code; parent = option_map (λ x. turned_number one other (named x)) p } in l)
    by_parent None = refl
    by_parent (Some x) = refl

module _ (held names parents : ℕ → Option ℕ) (image slots : List NotedSlot) (from to : SlotKey) (unlinked : AreUnlinked image) (one other first second : ℕ)
    (at_first at_second at_one at_other : Option ℕ) (is_one : number_of from ≡ one) (is_other : number_of to ≡ other)
    (is_first : first ≡ name_of names one) (is_second : second ≡ name_of names other)
    (put_first : option_map_or (λ m. m) at_first first ≡ other) (put_second : option_map_or (λ m. m) at_second second ≡ one)
    (put_one : option_map_or (λ m. m) at_one one ≡ second) (put_other : option_map_or (λ m. m) at_other other ≡ first)
    (says : Says held names parents image slots) where
  abbrev h1 : ℕ → Option ℕ
  h1 = put_in names (2 * first) at_first

  abbrev h2 : ℕ → Option ℕ
  h2 = put_in h1 (2 * second) at_second

  abbrev h3 : ℕ → Option ℕ
  h3 = put_in h2 (2 * one + 1) at_one

  abbrev after : ℕ → Option ℕ
  after = put_in h3 (2 * other + 1) at_other

  abbrev or_else : Option ℕ → ℕ → ℕ
  or_else o x = option_map_or (λ m. m) o x

  slots_after : (x : ℕ) → after (2 * x) ≡ h2 (2 * x)
  slots_after x =
      put_apart h3 (2 * other + 1) at_other (2 * x) (λ e. omega (arith, e)) ∙ put_apart h2 (2 * one + 1) at_one (2 * x) (λ e. omega (arith, e))

  names_before : (x : ℕ) → h2 (2 * x + 1) ≡ names (2 * x + 1)
  names_before x =
      put_apart h1 (2 * second) at_second (2 * x + 1) (λ e. omega (arith, e)) ∙ put_apart names (2 * first) at_first (2 * x + 1) (λ e. omega (arith, e))

  set : (x : ℕ) → slot_named after x ≡ (if second == x then one else if first == x then other else slot_named names x)
  set x = ap (λ o. or_else o x) (slots_after x) ∙ (elim (eqb_tells second x) [
    | inl same ↦
        ap (λ o. or_else o x) (put_same h1 (2 * second) at_second (2 * x) (ap (λ k. 2 * k) same.1)) ∙ ap (or_else at_second) (sym same.1) ∙ put_second
        ∙ sym (ap (λ b. if b then one else if first == x then other else slot_named names x) same.0)
    | inr off ↦
        ap (λ o. or_else o x) (put_apart h1 (2 * second) at_second (2 * x) (λ e. off.1 (omega (arith, e)))) ∙ (elim (eqb_tells first x) [
          | inl same ↦
              ap (λ o. or_else o x) (put_same names (2 * first) at_first (2 * x) (ap (λ k. 2 * k) same.1)) ∙ ap (or_else at_first) (sym same.1) ∙ put_first
              ∙ sym (ap (λ b. if b then other else slot_named names x) same.0)
          | inr away ↦
              ap (λ o. or_else o x) (put_apart names (2 * first) at_first (2 * x) (λ e. away.1 (omega (arith, e))))
              ∙ sym (ap (λ b. if b then other else slot_named names x) away.0)
        ])
        ∙ sym (ap (λ b. if b then one else if first == x then other else slot_named names x) off.0)
  ])

  put : (x : ℕ) → name_of after x ≡ (if other == x then first else if one == x then second else name_of names x)
  put x = elim (eqb_tells other x) [
    | inl same ↦
        ap (λ o. or_else o x) (put_same h3 (2 * other + 1) at_other (2 * x + 1) (ap (λ k. 2 * k + 1) same.1)) ∙ ap (or_else at_other) (sym same.1)
        ∙ put_other ∙ sym (ap (λ b. if b then first else if one == x then second else name_of names x) same.0)
    | inr off ↦
        ap (λ o. or_else o x) (put_apart h3 (2 * other + 1) at_other (2 * x + 1) (λ e. off.1 (omega (arith, e)))) ∙ (elim (eqb_tells one x) [
          | inl same ↦
              ap (λ o. or_else o x) (put_same h2 (2 * one + 1) at_one (2 * x + 1) (ap (λ k. 2 * k + 1) same.1)) ∙ ap (or_else at_one) (sym same.1) ∙ put_one
              ∙ sym (ap (λ b. if b then second else name_of names x) same.0)
          | inr away ↦
              ap (λ o. or_else o x) (put_apart h2 (2 * one + 1) at_one (2 * x + 1) (λ e. away.1 (omega (arith, e))) ∙ names_before x)
              ∙ sym (ap (λ b. if b then second else name_of names x) away.0)
        ])
        ∙ sym (ap (λ b. if b then first else if one == x then second else name_of names x) off.0)
  ]

  set_names : (x : ℕ) → slot_named after x ≡ (if name_of names other == x then one else if name_of names one == x then other else slot_named names x)
  set_names x = set x ∙ ap (λ k. if k == x then one else if first == x then other else slot_named names x) is_second
      ∙ ap (λ k. if name_of names other == x then one else if k == x then other else slot_named names x) is_first

  put_names : (x : ℕ) → name_of after x ≡ (if other == x then name_of names one else if one == x then name_of names other else name_of names x)
  put_names x = put x ∙ ap (λ k. if other == x then k else if one == x then second else name_of names x) is_first
      ∙ ap (λ k. if other == x then name_of names one else if one == x then k else name_of names x) is_second

  there : (x : ℕ) → slot_named names (name_of names x) ≡ x
  there x = (says.names_back x).0

  back : (x : ℕ) → name_of names (slot_named names x) ≡ x
  back x = (says.names_back x).1

  stand_turned : (x : ℕ) → slot_named after x ≡ turned_number one other (slot_named names x)
  stand_turned = turned-there (slot_named names) (name_of names) (slot_named after) (name_of after) one other there back set_names put_names

  numbered_look : (o : Option Look) → option_map (turned_look (number_of from) (number_of to)) o ≡ option_map (turned_look one other) o
  numbered_look o = ap (λ k. option_map (turned_look k (number_of to)) o) is_one ∙ ap (λ k. option_map (turned_look one k) o) is_other

  found_turned : (m : ℕ) → found (map (exchanged from to) slots) m ≡ option_map (exchanged from to) (found slots m)
  found_turned m =
      let P : ℕ → Type 0 = λ k. found (map (exchanged from to) slots) k ≡ option_map (exchanged from to) (found slots k) in
      subst P (number_at m) (map-at (exchanged from to) (λ s. refl) slots (key_at m))

  found_alone : (m : ℕ) → option_map (exchanged from to) (found image m) ≡ found image m
  found_alone m =
      let P : ℕ → Type 0 = λ k. option_map (exchanged from to) (found image k) ≡ found image k in
      subst P (number_at m) (listed-alone from to image (key_at m) unlinked)

  image_alone : (m : ℕ) → option_map (turned_look one other) (seen image m) ≡ seen image m
  image_alone m = sym (numbered_look (seen image m)) ∙ sym (look_turned from to (found image m)) ∙ ap (option_map look_of) (found_alone m)

  pub swap_says : Says held after parents image (map (exchanged from to) slots)
  swap_says = record {
    looks = λ m.
        ap (option_map look_of) (found_turned m) ∙ look_turned from to (found slots m) ∙ numbered_look (seen slots m)
        ∙ ap (option_map (turned_look one other)) (says.looks m)
        ∙ said_turned (slot_named names) image one other m (held (2 * m)) (held (2 * m + 1)) (image_alone m)
        ∙ ap (λ (f : ℕ → ℕ). said_by f image m (held (2 * m)) (held (2 * m + 1))) (λ i x. sym (stand_turned x) i);
    names_back = still-inverse (slot_named names) (name_of names) (slot_named after) (name_of after) one other there back set_names put_names;
    noted = says.noted;
  }

-- what is put one after another
pub four_puts : (held f1 f2 f3 f4 : ℕ → Option ℕ) (k1 k2 k3 k4 p1 p2 p3 p4 : ℕ) (v1 v2 v3 v4 : Option ℕ) → p1 ≡ k1 → p2 ≡ k2 → p3 ≡ k3 → p4 ≡ k4
    → ((m : ℕ) → f1 m ≡ put_in held p1 v1 m) → ((m : ℕ) → f2 m ≡ put_in f1 p2 v2 m) → ((m : ℕ) → f3 m ≡ put_in f2 p3 v3 m)
    → ((m : ℕ) → f4 m ≡ put_in f3 p4 v4 m) → (m : ℕ) → put_in (put_in (put_in (put_in held k1 v1) k2 v2) k3 v3) k4 v4 m ≡ f4 m
four_puts held f1 f2 f3 f4 k1 k2 k3 k4 p1 p2 p3 p4 v1 v2 v3 v4 e1 e2 e3 e4 one two three four m =
    sym (four m ∙ ap (λ (h : ℕ → Option ℕ). put_in h p4 v4 m) (λ i x. three x i) ∙ ap (λ (h : ℕ → Option ℕ). put_in (put_in h p3 v3) p4 v4 m) (λ i x. two x i)
    ∙ ap (λ (h : ℕ → Option ℕ). put_in (put_in (put_in h p2 v2) p3 v3) p4 v4 m) (λ i x. one x i)
    ∙ ap (λ k. put_in (put_in (put_in (put_in held k v1) p2 v2) p3 v3) p4 v4 m) e1
    ∙ ap (λ k. put_in (put_in (put_in (put_in held k1 v1) k v2) p3 v3) p4 v4 m) e2
    ∙ ap (λ k. put_in (put_in (put_in (put_in held k1 v1) k2 v2) k v3) p4 v4 m) e3
    ∙ ap (λ k. put_in (put_in (put_in (put_in held k1 v1) k2 v2) k3 v3) k v4 m) e4)
