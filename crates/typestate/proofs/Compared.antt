-- Slots that differ from the image's in changes are compared at the keys of changes alone.
use Rattle.std.proofs.Common.{ℕ, ◌≡◌, ◌∙◌, ◌==◌, ◌+◌, ◌≤◌, ◌&&◌, ◌||◌, Bool, true, false, if◌then◌else◌, Option, Some, None, List, [], ◌∷◌, refl}
use Rattle.std.proofs.Common.{sym, ap, subst, arith}
use Rattle.std.specs.Prelude.{nat_eq}
use Rattle.std.specs.List.{find, list_any}
use Rattle.std.proofs.lemmas.Bool.{and_parts, eqb-true}
use Rattle.std.proofs.lemmas.Bool.Decides.{nat_tests}
use lib.Pointwise.{pointwise}
use Rattle.model.specs.Acceptance.NotedStates.{NotedSlot, SlotKey, are_same_slots, is_same_key, is_same_parent, number_of, slot_at, with_noted}
use Rattle.model.specs.Capabilities.CapabilityFields.{same_words}
use Rattle.model.specs.Capabilities.CapabilityWords.{words_of}
use Rattle.typestate.specs.Differences.{are_left_at, are_same_at, changed, is_same_held, left_by}
use Rattle.typestate.specs.Orders.{Rise}
use Rattle.typestate.proofs.OrderedChanges.{changed-at, found_or}
use Rattle.typestate.proofs.Rising.{RiseFrom, changes-rise, first-found, from-first, looks-same, same-itself, same-looks}
use Rattle.typestate.proofs.SlotLists.{noted-at}

abbrev pub is_changed : List NotedSlot → SlotKey → Bool
is_changed changes key = list_any (λ c. is_same_key c.key key) changes

-- what no change names is as it was
pub unchanged : (slots changes : List NotedSlot) (key : SlotKey) → is_changed changes key ≡ false → slot_at (changed slots changes) key ≡ slot_at slots key
unchanged slots [] key none = refl
unchanged slots (c ∷ rest) key none =
    elim (is_same_key c.key key) as (λ b. (b || is_changed rest key) ≡ false → (is_same_key c.key key ≡ b) →
    slot_at (changed (with_noted slots c) rest) key ≡ slot_at slots key) [
      | true ↦ λ clash _. absurd (let no : true ≡ false = clash in cc)
      | false ↦ λ later is. unchanged (with_noted slots c) rest key later ∙ noted-at slots c key ∙ ap (λ b. if b then left_by c else slot_at slots key) is
    ] none refl

pub same-place : (slots : List NotedSlot) (a b : SlotKey) → number_of a ≡ number_of b → slot_at slots a ≡ slot_at slots b
same-place slots a b same = ap (λ n. find (λ (s : NotedSlot). number_of s.key == n) slots) same

-- what a change names was compared
compared-at : (slots others keys : List NotedSlot) (key : SlotKey) → is_changed keys key ≡ true → are_same_at slots others keys ≡ true →
    is_same_held (slot_at slots key) (slot_at others key) ≡ true
compared-at slots others [] key some same = absurd (let clash : false ≡ true = some in cc)
compared-at slots others (k ∷ rest) key some same =
    let parts = and_parts (is_same_held (slot_at slots k.key) (slot_at others k.key)) (are_same_at slots others rest) same in
    elim (is_same_key k.key key) as (λ b. (b || is_changed rest key) ≡ true → is_same_key k.key key ≡ b →
    is_same_held (slot_at slots key) (slot_at others key) ≡ true) [
      | true ↦ λ _ is.
          let e = eqb-true (number_of k.key) (number_of key) is in
          ap (λ found. is_same_held found (slot_at others key)) (sym (same-place slots k.key key e))
          ∙ ap (is_same_held (slot_at slots k.key)) (sym (same-place others k.key key e)) ∙ parts.0
      | false ↦ λ later _. compared-at slots others rest key later parts.1
    ] some refl

pub decided : (a b : Bool) → (a ≡ true → b ≡ true) → (b ≡ true → a ≡ true) → a ≡ b
decided true b forth back = sym (forth refl)
decided false true forth back = back refl
decided false false forth back = refl

module _ (image changes more : List NotedSlot) where
  abbrev mine : List NotedSlot
  mine = changed image changes

  abbrev theirs : List NotedSlot
  theirs = changed image more

  held-at : are_same_at mine theirs changes ≡ true → are_same_at mine theirs more ≡ true → (key : SlotKey) →
      is_same_held (slot_at mine key) (slot_at theirs key) ≡ true
  held-at first second key =
      elim (is_changed changes key) as (λ b. is_changed changes key ≡ b → is_same_held (slot_at mine key) (slot_at theirs key) ≡ true) [
        | true ↦ λ is. compared-at mine theirs changes key is first
        | false ↦ λ none. elim (is_changed more key) as (λ b. is_changed more key ≡ b → is_same_held (slot_at mine key) (slot_at theirs key) ≡ true) [
          | true ↦ λ is. compared-at mine theirs more key is second
          | false ↦ λ nothing.
              ap (λ found. is_same_held found (slot_at theirs key)) (unchanged image changes key none)
              ∙ ap (is_same_held (slot_at image key)) (unchanged image more key nothing) ∙ same-itself (slot_at image key)
        ] refl
      ] refl

  all-held : ((key : SlotKey) → is_same_held (slot_at mine key) (slot_at theirs key) ≡ true) → (keys : List NotedSlot) → are_same_at mine theirs keys ≡ true
  all-held held [] = refl
  all-held held (k ∷ rest) = ap (λ b. b && are_same_at mine theirs rest) (held k.key) ∙ all-held held rest

  pub compared : RiseFrom 0 image → (are_same_at mine theirs changes && are_same_at mine theirs more) ≡ are_same_slots mine theirs
  compared rises =
      decided (are_same_at mine theirs changes && are_same_at mine theirs more) (are_same_slots mine theirs)
      (λ both.
      let parts = and_parts (are_same_at mine theirs changes) (are_same_at mine theirs more) both in
      looks-same mine theirs 0 0 (changes-rise image changes rises) (changes-rise image more rises) (held-at parts.0 parts.1))
      (λ same.
      let held : (key : SlotKey) → is_same_held (slot_at mine key) (slot_at theirs key) ≡ true = λ key. same-looks mine theirs key same in
      ap (λ b. b && are_same_at mine theirs more) (all-held held changes) ∙ all-held held more)

pub compared-with : (image other changes more : List NotedSlot) → other ≡ image → RiseFrom 0 image
    → (are_same_at (changed image changes) (changed other more) changes && are_same_at (changed image changes) (changed other more) more) ≡ are_same_slots
    (changed image changes) (changed other more)
compared-with image other changes more same rises =
    subst (λ (o : List NotedSlot). (are_same_at (changed image changes) (changed o more) changes && are_same_at (changed image changes) (changed o more) more)
    ≡ are_same_slots (changed image changes) (changed o more)) (sym same)
    (compared image changes more rises)

-- ---- at the keys of changes, by what these leave

turned-number : (a b : ℕ) → (a == b) ≡ (b == a)
turned-number a b = grind (arith, nat_tests)

turned-words : (first second : List ℕ) → pointwise nat_eq first second ≡ pointwise nat_eq second first
turned-words [] [] = refl
turned-words [] (b ∷ bs) = refl
turned-words (a ∷ as_) [] = refl
turned-words (a ∷ as_) (b ∷ bs) = ap (λ t. t && pointwise nat_eq as_ bs) (turned-number a b) ∙ ap (λ t. (b == a) && t) (turned-words as_ bs)

turned-parent : (p q : Option SlotKey) → is_same_parent p q ≡ is_same_parent q p
turned-parent None None = refl
turned-parent None (Some b) = refl
turned-parent (Some a) None = refl
turned-parent (Some a) (Some b) = turned-number (number_of a) (number_of b)

turned-held : (a b : Option NotedSlot) → is_same_held a b ≡ is_same_held b a
turned-held None None = refl
turned-held None (Some b) = refl
turned-held (Some a) None = refl
turned-held (Some a) (Some b) =
    ap (λ t. t && same_words (words_of a.capability) (words_of b.capability) && is_same_parent a.parent b.parent)
    (turned-number (number_of a.key) (number_of b.key))
    ∙ ap (λ t. is_same_key b.key a.key && t && is_same_parent a.parent b.parent) (turned-words (words_of a.capability) (words_of b.capability))
    ∙ ap (λ t. is_same_key b.key a.key && same_words (words_of b.capability) (words_of a.capability) && t) (turned-parent a.parent b.parent)

pub turned-same : (slots others keys : List NotedSlot) → are_same_at slots others keys ≡ are_same_at others slots keys
turned-same slots others [] = refl
turned-same slots others (k ∷ rest) =
    ap (λ t. t && are_same_at slots others rest) (turned-held (slot_at slots k.key) (slot_at others k.key))
    ∙ ap (λ t. is_same_held (slot_at others k.key) (slot_at slots k.key) && t) (turned-same slots others rest)

behind-apart : (a b : ℕ) → a + 1 ≤ b → (a == b) ≡ false
behind-apart a b more = grind (arith, nat_tests)

left-same : (slots others image rest : List NotedSlot) (least : ℕ) → RiseFrom least rest
    → ((key : SlotKey) → least ≤ number_of key → slot_at slots key ≡ found_or (slot_at rest key) (slot_at image key))
    → are_left_at others rest ≡ are_same_at slots others rest
left-same slots others image [] least rises held = refl
left-same slots others image (c ∷ rest) least rises held =
    let here : slot_at slots c.key ≡ left_by c =
    held c.key rises.0 ∙ ap (λ (o : Option NotedSlot). found_or o (slot_at image c.key)) (first-found c rest c.key refl) in
    ap (λ (o : Option NotedSlot). is_same_held o (slot_at others c.key) && are_left_at others rest) (sym here)
    ∙ ap (λ t. is_same_held (slot_at slots c.key) (slot_at others c.key) && t)
    (left-same slots others image rest (number_of c.key + 1) rises.1 (λ key more.
    held key (let first = rises.0 in omega (arith, first, more))
    ∙ ap (λ b. found_or (if b then Some c else slot_at rest key) (slot_at image key)) (behind-apart (number_of c.key) (number_of key) more)))

-- what changes leave is what the changed slots hold at their keys
pub changes-left : (image changes others : List NotedSlot) → Rise changes → are_left_at others changes ≡ are_same_at (changed image changes) others changes
changes-left image changes others rises =
    left-same (changed image changes) others image changes 0 (from-first changes rises)
    (λ key more. changed-at changes image 0 key (from-first changes rises))
