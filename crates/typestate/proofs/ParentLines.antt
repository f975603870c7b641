-- Lines of parents: so many steps as there are slots are enough.
use Rattle.std.proofs.Common.{ℕ, zero, suc, ◌≡◌, ◌∙◌, ◌⊎◌, ◌+◌, ◌-◌, ◌<◌, ◌≤◌, ◌||◌, inl, inr, Bool, true, false, not, nat_lt, if◌then◌else◌}
use Rattle.std.proofs.Common.{Option, Some, None, List, [], ◌∷◌, length, is_some, refl, sym, ap, subst, arith}
use Rattle.std.specs.List.{list_any}
use Rattle.std.specs.Option.{option_map_or}
use Rattle.std.proofs.lemmas.Bool.{eqb-true}
use Rattle.model.specs.Acceptance.NotedStates.{NotedSlot, SlotKey, is_same_key, leads_to_boot, number_of, put_in, slot_at, with_noted, without_key}
use Rattle.model.specs.Capabilities.CapabilityKinds.{frame_mapping}
use Rattle.model.specs.Capabilities.Slots.{is_empty}
use Rattle.typestate.specs.Differences.{changed}
use Rattle.typestate.specs.Unlinked.{AreUnlinked, is_linked}
use Rattle.typestate.proofs.Compared.{decided, same-place}
use Rattle.typestate.proofs.SlotLists.{without-at}

-- ---- without one slot

abbrev pub on : ℕ → List NotedSlot → Option NotedSlot → Bool
on n slots found = option_map_or (λ s. leads_to_boot n slots s.parent) found false

-- a line leads on where more slots stand
leads-with : (n : ℕ) (slots : List NotedSlot) (gone : SlotKey) (p : Option SlotKey) → leads_to_boot n (without_key gone slots) p ≡ true →
    leads_to_boot n slots p ≡ true
unfolding leads_to_boot
leads-with n slots gone None leads = refl
leads-with zero slots gone (Some key) leads = leads
leads-with (suc n) slots gone (Some key) leads =
    elim (is_same_key gone key)
    as (λ b. (on n (without_key gone slots) (if b then None else slot_at slots key) ≡ true) → on n slots (slot_at slots key) ≡ true) [
      | true ↦ λ clash. absurd (let no : false ≡ true = clash in cc)
      | false ↦ λ more. elim (slot_at slots key) as (λ found. on n (without_key gone slots) found ≡ true → on n slots found ≡ true) [
        | None ↦ λ clash. clash
        | Some s ↦ λ behind. leads-with n slots gone s.parent behind
      ] more
    ] (sym (ap (on n (without_key gone slots)) (without-at slots gone key)) ∙ leads)

-- a line that comes to a slot in so many steps or fewer
record ComesTo (n : ℕ) (slots : List NotedSlot) (key : SlotKey) : Type 0 where
  steps : ℕ
  few : steps ≤ n
  leads : leads_to_boot steps slots (Some key) ≡ true

-- A line either does without a slot, or comes to it.
around : (n : ℕ) (slots : List NotedSlot) (gone : SlotKey) (p : Option SlotKey) → leads_to_boot n slots p ≡ true
    → (leads_to_boot n (without_key gone slots) p ≡ true) ⊎ ComesTo n slots gone
unfolding leads_to_boot
around n slots gone None leads = inl refl
around zero slots gone (Some key) leads = absurd (let no : false ≡ true = leads in cc)
around (suc n) slots gone (Some key) leads =
    elim (is_same_key gone key) as (λ b. is_same_key gone key ≡ b →
    (leads_to_boot (suc n) (without_key gone slots) (Some key) ≡ true) ⊎ ComesTo (suc n) slots gone) [
      | true ↦ λ same.
          let here = same-place slots gone key (eqb-true (number_of gone) (number_of key) same) in
          inr (record { steps = suc n; few = omega arith; leads = ap (on n slots) here ∙ leads })
      | false ↦ λ other.
          let there : slot_at (without_key gone slots) key ≡ slot_at slots key = without-at slots gone key
          ∙ ap (λ b. if b then None else slot_at slots key) other in
          elim (slot_at slots key) as (λ found. slot_at slots key ≡ found → on n slots found ≡ true →
          (leads_to_boot (suc n) (without_key gone slots) (Some key) ≡ true) ⊎ ComesTo (suc n) slots gone) [
            | None ↦ λ _ clash. absurd (let no : false ≡ true = clash in cc)
            | Some s ↦ λ is behind. elim (around n slots gone s.parent behind) [
              | inl without ↦ inl (ap (on n (without_key gone slots)) (there ∙ is) ∙ without)
              | inr comes ↦ inr (record { steps = comes.steps; few = omega (arith, comes.few); leads = comes.leads })
            ]
          ] refl leads
    ] refl

-- ---- fewer slots

fewer : (slots : List NotedSlot) (gone : SlotKey) → length (without_key gone slots) ≤ length slots
fewer [] gone = omega arith
fewer (s ∷ rest) gone = elim (is_same_key s.key gone)
    as (λ b. length (if not b then s ∷ without_key gone rest else without_key gone rest) ≤ length (s ∷ rest)) [
      | true ↦ omega (arith, fewer rest gone)
      | false ↦ omega (arith, fewer rest gone)
    ]

one-less : (slots : List NotedSlot) (gone : SlotKey) (s : NotedSlot) → slot_at slots gone ≡ Some s → length (without_key gone slots) < length slots
one-less [] gone s is = absurd (let no : None ≡ Some s = is in cc)
one-less (o ∷ rest) gone s is = elim (is_same_key o.key gone) as (λ b. (if b then Some o else slot_at rest gone) ≡ Some s →
    length (if not b then o ∷ without_key gone rest else without_key gone rest) < length (o ∷ rest)) [
      | true ↦ λ _. omega (arith, fewer rest gone)
      | false ↦ λ later. omega (arith, one-less rest gone s later)
    ] is

-- ---- so many steps as there are slots are enough

abbrev pub Suffices : ℕ → Type 0
Suffices m = (slots : List NotedSlot) (n : ℕ) (p : Option SlotKey) → length slots ≤ m → leads_to_boot n slots p ≡ true → leads_to_boot m slots p ≡ true

one-more : (m : ℕ) → Suffices m → (bound : ℕ) (slots : List NotedSlot) (n : ℕ) (p : Option SlotKey) → n ≤ bound → length slots ≤ suc m →
    leads_to_boot n slots p ≡ true → leads_to_boot (suc m) slots p ≡ true
unfolding leads_to_boot
one-more m enough bound slots n None below most leads = refl
one-more m enough bound slots zero (Some key) below most leads = absurd (let no : false ≡ true = leads in cc)
one-more m enough zero slots (suc n) (Some key) below most leads = absurd (omega (arith, below))
one-more m enough (suc bound) slots (suc n) (Some key) below most leads =
    elim (slot_at slots key) as (λ found. slot_at slots key ≡ found → on n slots found ≡ true → on m slots (slot_at slots key) ≡ true) [
      | None ↦ λ _ clash. absurd (let no : false ≡ true = clash in cc)
      | Some s ↦ λ is behind. elim (around n slots key s.parent behind) [
        | inl without ↦
            let less = one-less slots key s is in
            ap (on m slots) is ∙ leads-with m slots key s.parent (enough (without_key key slots) n s.parent (omega (arith, less, most)) without)
        | inr comes ↦ one-more m enough bound slots comes.steps (Some key) (omega (arith, comes.few, below)) most comes.leads
      ]
    ] refl leads

pub suffices : (m : ℕ) → Suffices m
unfolding leads_to_boot
suffices zero slots n None most leads = refl
suffices zero [] zero (Some key) most leads = leads
suffices zero [] (suc n) (Some key) most leads = absurd (let no : false ≡ true = leads in cc)
suffices zero (s ∷ rest) n (Some key) most leads = absurd (omega (arith, most))
suffices (suc m) slots n p most leads = one-more m (suffices m) n slots n p (omega arith) most leads

-- ---- how many slots were derived from others

-- how many of a slot and those after it have a parent
abbrev with-parent : Bool → ℕ → ℕ
with-parent derived more = if derived then suc more else more

links : List NotedSlot → ℕ
links [] = 0
links (s ∷ rest) = with-parent (is_some s.parent) (links rest)

more-links : (derived : Bool) (a b : ℕ) → a ≤ b → with-parent derived a ≤ with-parent derived b
more-links true a b most = omega (arith, most)
more-links false a b most = most

most-links : (derived : Bool) (a b : ℕ) → a ≤ b → a ≤ with-parent derived b
most-links true a b most = omega (arith, most)
most-links false a b most = most

less-links : (derived : Bool) (a b : ℕ) → a < b → with-parent derived a < with-parent derived b
less-links true a b less = omega (arith, less)
less-links false a b less = less

-- one more slot is at most one more with a parent
next-links : (derived : Bool) (a b : ℕ) → a ≤ b → with-parent derived a ≤ b + 1
next-links true a b most = omega (arith, most)
next-links false a b most = omega (arith, most)

fewer-links : (slots : List NotedSlot) (gone : SlotKey) → links (without_key gone slots) ≤ links slots
unfolding links
fewer-links [] gone = omega arith
fewer-links (s ∷ rest) gone = elim (is_same_key s.key gone)
    as (λ b. links (if not b then s ∷ without_key gone rest else without_key gone rest) ≤ links (s ∷ rest)) [
      | true ↦ most-links (is_some s.parent) (links (without_key gone rest)) (links rest) (fewer-links rest gone)
      | false ↦ more-links (is_some s.parent) (links (without_key gone rest)) (links rest) (fewer-links rest gone)
    ]

one-link-less : (slots : List NotedSlot) (gone : SlotKey) (s : NotedSlot) → is_some s.parent ≡ true → slot_at slots gone ≡ Some s →
    links (without_key gone slots) < links slots
unfolding links
one-link-less [] gone s derived is = absurd (let no : None ≡ Some s = is in cc)
one-link-less (o ∷ rest) gone s derived is = elim (is_same_key o.key gone) as (λ b. (if b then Some o else slot_at rest gone) ≡ Some s →
    links (if not b then o ∷ without_key gone rest else without_key gone rest) < links (o ∷ rest)) [
      | true ↦ λ here.
          let same : is_some o.parent ≡ true = ap (λ found. option_map_or (λ (x : NotedSlot). is_some x.parent) found true) here ∙ derived in
          let less : links (without_key gone rest) < with-parent true (links rest) = omega (arith, fewer-links rest gone) in
          subst (λ b. links (without_key gone rest) < with-parent b (links rest)) (sym same) less
      | false ↦ λ later. less-links (is_some o.parent) (links (without_key gone rest)) (links rest) (one-link-less rest gone s derived later)
    ] is

no-link-at : (slots : List NotedSlot) (key : SlotKey) (s : NotedSlot) → links slots ≤ 0 → slot_at slots key ≡ Some s → s.parent ≡ None
no-link-at slots key s none is = elim s.parent as (λ p. s.parent ≡ p → s.parent ≡ None) [
  | None ↦ λ without. without
  | Some other ↦ λ derived.
      let less = one-link-less slots key s (ap (λ (p : Option SlotKey). is_some p) derived) is in
      absurd (omega (arith, less, none))
] refl

put-behind : (derived : Bool) (a b : ℕ) → a ≤ b + 1 → with-parent derived a ≤ with-parent derived b + 1
put-behind true a b most = omega (arith, most)
put-behind false a b most = most

put-links : (slot : NotedSlot) (others : List NotedSlot) → links (put_in slot others) ≤ links others + 1
unfolding links put_in
put-links slot [] = next-links (is_some slot.parent) 0 0 (omega arith)
put-links slot (o ∷ rest) = elim (nat_lt (number_of slot.key) (number_of o.key))
    as (λ b. links (if b then slot ∷ o ∷ rest else o ∷ put_in slot rest) ≤ links (o ∷ rest) + 1) [
      | true ↦ next-links (is_some slot.parent) (links (o ∷ rest)) (links (o ∷ rest)) (omega arith)
      | false ↦ put-behind (is_some o.parent) (links (put_in slot rest)) (links rest) (put-links slot rest)
    ]

noted-links : (slots : List NotedSlot) (change : NotedSlot) → links (with_noted slots change) ≤ links slots + 1
noted-links slots change =
    let others = without_key change.key slots in
    let less = fewer-links slots change.key in
    elim (is_empty change.capability) as (λ b. links (if b then others else put_in change others) ≤ links slots + 1) [
      | true ↦ omega (arith, less)
      | false ↦ omega (arith, less, put-links change others)
    ]

changed-links : (slots changes : List NotedSlot) → links (changed slots changes) ≤ links slots + length changes
changed-links slots [] = omega arith
changed-links slots (c ∷ rest) = omega (arith, noted-links slots c, changed-links (with_noted slots c) rest)

not-derived : (derived mapped more : Bool) (n : ℕ) → (derived || mapped || more) ≡ false → (more ≡ false → n ≡ 0) → with-parent derived n ≡ 0
not-derived false false more n none behind = behind none
not-derived false true more n none behind = absurd (let no : true ≡ false = none in cc)
not-derived true mapped more n none behind = absurd (let no : true ≡ false = none in cc)

none-linked : (slots : List NotedSlot) → AreUnlinked slots → links slots ≡ 0
unfolding links
none-linked [] none = refl
none-linked (s ∷ rest) none =
    not-derived (is_some s.parent) (is_some (frame_mapping s.capability)) (list_any is_linked rest) (links rest) none (none-linked rest)

-- ---- one step more than there are slots with a parent is enough

abbrev LinksSuffice : ℕ → Type 0
LinksSuffice m = (slots : List NotedSlot) (n : ℕ) (p : Option SlotKey) → links slots ≤ m → leads_to_boot n slots p ≡ true
    → leads_to_boot (suc m) slots p ≡ true

one-more-link : (m : ℕ) → LinksSuffice m → (bound : ℕ) (slots : List NotedSlot) (n : ℕ) (p : Option SlotKey) → n ≤ bound → links slots ≤ suc m →
    leads_to_boot n slots p ≡ true → leads_to_boot (suc (suc m)) slots p ≡ true
unfolding leads_to_boot
one-more-link m enough bound slots n None below most leads = refl
one-more-link m enough bound slots zero (Some key) below most leads = absurd (let no : false ≡ true = leads in cc)
one-more-link m enough zero slots (suc n) (Some key) below most leads = absurd (omega (arith, below))
one-more-link m enough (suc bound) slots (suc n) (Some key) below most leads =
    elim (slot_at slots key) as (λ found. slot_at slots key ≡ found → on n slots found ≡ true → on (suc m) slots (slot_at slots key) ≡ true) [
      | None ↦ λ _ clash. absurd (let no : false ≡ true = clash in cc)
      | Some s ↦ λ is behind. ap (on (suc m) slots) is ∙ elim s.parent
          as (λ p. s.parent ≡ p → leads_to_boot (suc m) slots s.parent ≡ true) [
            | None ↦ λ ends. ap (leads_to_boot (suc m) slots) ends
            | Some other ↦ λ derived. elim (around n slots key s.parent behind) [
              | inl without ↦
                  let less = one-link-less slots key s (ap (λ (p : Option SlotKey). is_some p) derived) is in
                  leads-with (suc m) slots key s.parent (enough (without_key key slots) n s.parent (omega (arith, less, most)) without)
              | inr comes ↦
                  let again = one-more-link m enough bound slots comes.steps (Some key) (omega (arith, comes.few, below)) most comes.leads in
                  sym (ap (on (suc m) slots) is) ∙ again
            ]
          ] refl
    ] refl leads

links-suffice : (m : ℕ) → LinksSuffice m
unfolding leads_to_boot
links-suffice zero slots n None most leads = refl
links-suffice zero slots zero (Some key) most leads = absurd (let no : false ≡ true = leads in cc)
links-suffice zero slots (suc n) (Some key) most leads =
    elim (slot_at slots key) as (λ found. slot_at slots key ≡ found → on n slots found ≡ true → on zero slots (slot_at slots key) ≡ true) [
      | None ↦ λ _ clash. absurd (let no : false ≡ true = clash in cc)
      | Some s ↦ λ is behind. ap (on zero slots) is ∙ ap (leads_to_boot zero slots) (no-link-at slots key s most is)
    ] refl leads
links-suffice (suc m) slots n p most leads = one-more-link m (links-suffice m) n slots n p (omega arith) most leads

-- ---- one step after another

module _ (image changes : List NotedSlot) (unlinked : AreUnlinked image) (parent : Option SlotKey) where
  abbrev all : List NotedSlot
  all = changed image changes

  abbrev bound : ℕ
  bound = length changes + 1

  few-links : links all ≤ length changes
  few-links = omega (arith, changed-links image changes, none-linked image unlinked)

  whole : leads_to_boot bound all parent ≡ leads_to_boot (length all) all parent
  whole = decided (leads_to_boot bound all parent) (leads_to_boot (length all) all parent) (suffices (length all) all bound parent (omega arith))
      (λ leads. ap (λ n. leads_to_boot n all parent) (omega arith) ∙ links-suffice (length changes) all (length all) parent few-links leads)

  one-step : (n : ℕ) (key : SlotKey) (found : Option NotedSlot) → slot_at all key ≡ found → leads_to_boot (suc n) all (Some key) ≡ on n all found
  unfolding leads_to_boot
  one-step n key found is = ap (on n all) is

  -- with more steps left
  steps-left : (i : ℕ) → i < bound → bound - i ≡ suc (bound - (i + 1))
  steps-left i less = omega (arith, less)

  abbrev pub Leaves : ℕ → Option SlotKey → Type 0
  Leaves i place = leads_to_boot (bound - i) all place ≡ leads_to_boot bound all parent

  pub line-ends : (i : ℕ) (place : Option SlotKey) → place ≡ None → Leaves i place → true ≡ leads_to_boot (length all) all parent
  unfolding leads_to_boot
  line-ends i place none leaves = sym (sym whole ∙ sym leaves ∙ ap (leads_to_boot (bound - i) all) none)

  pub line-breaks : (i : ℕ) (place : Option SlotKey) (key : SlotKey) → i < bound → place ≡ Some key → slot_at all key ≡ None → Leaves i place →
      false ≡ leads_to_boot (length all) all parent
  line-breaks i place key less at none leaves =
      sym (one-step (bound - (i + 1)) key None none) ∙ ap (λ n. leads_to_boot n all (Some key)) (sym (steps-left i less))
      ∙ ap (leads_to_boot (bound - i) all) (sym at) ∙ leaves ∙ whole

  pub line-goes-on : (i : ℕ) (place : Option SlotKey) (key : SlotKey) (s : NotedSlot) → i < bound → place ≡ Some key → slot_at all key ≡ Some s →
      Leaves i place → Leaves (i + 1) s.parent
  line-goes-on i place key s less at is leaves =
      sym (one-step (bound - (i + 1)) key (Some s) is) ∙ ap (λ n. leads_to_boot n all (Some key)) (sym (steps-left i less))
      ∙ ap (leads_to_boot (bound - i) all) (sym at) ∙ leaves

  no-steps : (place : Option SlotKey) → leads_to_boot 0 all place ≡ option_map_or (λ _. false) place true
  unfolding leads_to_boot
  no-steps None = refl
  no-steps (Some key) = refl

  pub line-left : (i : ℕ) (place : Option SlotKey) (b : Bool) → bound ≤ i → b ≡ option_map_or (λ _. false) place true → Leaves i place →
      b ≡ leads_to_boot (length all) all parent
  line-left i place b most is leaves =
      let none : bound - i ≡ 0 = omega (arith, most) in
      is ∙ sym (no-steps place) ∙ ap (λ n. leads_to_boot n all place) (sym none) ∙ leaves ∙ whole
