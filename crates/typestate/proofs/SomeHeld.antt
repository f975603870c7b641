-- A slot of some kind is found at the keys of the image's slots and of the changes.
use Rattle.std.proofs.Common.{◌≡◌, ◌∙◌, ◌||◌, ℕ, ◌+◌, ◌≤◌, Bool, true, false, if◌then◌else◌, Option, Some, List, [], ◌∷◌, refl, sym, ap, arith}
use Rattle.std.specs.List.{list_any}
use Rattle.std.specs.Option.{option_map_or}
use Rattle.std.proofs.lemmas.Bool.{eqb-true, ne_eqb}
use Rattle.model.specs.Acceptance.NotedStates.{NotedSlot, SlotKey, is_same_key, number_of, slot_at}
use Rattle.typestate.specs.Differences.{changed}
use Rattle.typestate.proofs.Compared.{decided, is_changed, same-place, unchanged}
use Rattle.typestate.proofs.Rising.{RiseFrom, changes-rise, first-found}

or-second : (a b : Bool) → b ≡ true → (a || b) ≡ true
or-second true b is = refl
or-second false b is = is

module _ (test : NotedSlot → Bool) where
  abbrev pub holds : Option NotedSlot → Bool
  holds found = option_map_or test found false

  abbrev pub holds_at : List NotedSlot → NotedSlot → Bool
  holds_at slots k = holds (slot_at slots k.key)

  pub held-any : (slots : List NotedSlot) (key : SlotKey) → holds (slot_at slots key) ≡ true → list_any test slots ≡ true
  held-any [] key is = absurd (let clash : false ≡ true = is in cc)
  held-any (s ∷ rest) key is = elim (is_same_key s.key key) as (λ b. holds (if b then Some s else slot_at rest key) ≡ true →
      (test s || list_any test rest) ≡ true) [
        | true ↦ λ here. ap (λ b. b || list_any test rest) here
        | false ↦ λ later. or-second (test s) (list_any test rest) (held-any rest key later)
      ] is

  pub record HeldFrom (least : ℕ) (slots : List NotedSlot) : Type 0 where
    pub key : SlotKey
    pub from : least ≤ number_of key
    pub holding : holds (slot_at slots key) ≡ true

  pub any-held : (slots : List NotedSlot) (least : ℕ) → RiseFrom least slots → list_any test slots ≡ true → HeldFrom least slots
  any-held [] least rises some = absurd (let clash : false ≡ true = some in cc)
  any-held (s ∷ rest) least rises some = elim (test s) as (λ b. test s ≡ b → (b || list_any test rest) ≡ true → HeldFrom least (s ∷ rest)) [
    | true ↦ λ is _. record { key = s.key; from = rises.0; holding = ap holds (first-found s rest s.key refl) ∙ is }
    | false ↦ λ _ later.
        let found = any-held rest (number_of s.key + 1) rises.1 later in
        record {
          key = found.key;
          from = omega (arith, rises.0, found.from);
          holding = ap (λ b. holds (if b then Some s else slot_at rest found.key))
              (ne_eqb (number_of s.key) (number_of found.key) (λ same. omega (arith, same, found.from))) ∙ found.holding;
        }
  ] refl some

  any-at : (slots keys : List NotedSlot) (key : SlotKey) → is_changed keys key ≡ true → holds (slot_at slots key) ≡ true → list_any (holds_at slots) keys ≡ true
  any-at slots [] key some is = absurd (let clash : false ≡ true = some in cc)
  any-at slots (k ∷ rest) key some is =
      elim (is_same_key k.key key) as (λ b. (b || is_changed rest key) ≡ true → is_same_key k.key key ≡ b →
      (holds_at slots k || list_any (holds_at slots) rest) ≡ true) [
        | true ↦ λ _ same.
            ap (λ b. b || list_any (holds_at slots) rest) (ap holds (same-place slots k.key key (eqb-true (number_of k.key) (number_of key) same)) ∙ is)
        | false ↦ λ later _. or-second (holds_at slots k) (list_any (holds_at slots) rest) (any-at slots rest key later is)
      ] some refl

  found-among : (slots : List NotedSlot) (key : SlotKey) → holds (slot_at slots key) ≡ true → is_changed slots key ≡ true
  found-among [] key is = absurd (let clash : false ≡ true = is in cc)
  found-among (s ∷ rest) key is = elim (is_same_key s.key key) as (λ b. holds (if b then Some s else slot_at rest key) ≡ true →
      (b || is_changed rest key) ≡ true) [
        | true ↦ λ here. refl
        | false ↦ λ later. found-among rest key later
      ] is

  back : (slots keys : List NotedSlot) → list_any (holds_at slots) keys ≡ true → list_any test slots ≡ true
  back slots [] some = absurd (let clash : false ≡ true = some in cc)
  back slots (k ∷ rest) some = elim (holds_at slots k) as (λ b. holds_at slots k ≡ b → (b || list_any (holds_at slots) rest) ≡ true →
      list_any test slots ≡ true) [
        | true ↦ λ is _. held-any slots k.key is
        | false ↦ λ _ later. back slots rest later
      ] refl some

  either : (a b c : Bool) → (a ≡ true → c ≡ true) → (b ≡ true → c ≡ true) → (a || b) ≡ true → c ≡ true
  either true b c first second is = first refl
  either false b c first second is = second is

  pub some-held : (image changes : List NotedSlot) → RiseFrom 0 image
      → (list_any (holds_at (changed image changes)) image || list_any (holds_at (changed image changes)) changes) ≡ list_any test (changed image changes)
  some-held image changes rises =
      let slots = changed image changes in
      let listed = list_any (holds_at slots) image in
      let more = list_any (holds_at slots) changes in
      decided (listed || more) (list_any test slots) (either listed more (list_any test slots) (back slots image) (back slots changes))
      (λ some.
      let found = any-held slots 0 (changes-rise image changes rises) some in
      elim (is_changed changes found.key) as (λ b. is_changed changes found.key ≡ b → (listed || more) ≡ true) [
        | true ↦ λ is. or-second listed more (any-at slots changes found.key is found.holding)
        | false ↦ λ none.
            let here = ap holds (sym (unchanged image changes found.key none)) ∙ found.holding in
            ap (λ b. b || more) (any-at slots image found.key (found-among image found.key here) found.holding)
      ] refl)

  -- where the image lists none, the changes are enough
  pub changes-held : (image changes : List NotedSlot) → RiseFrom 0 image → list_any test image ≡ false
      → list_any (holds_at (changed image changes)) changes ≡ list_any test (changed image changes)
  changes-held image changes rises none =
      let slots = changed image changes in
      decided (list_any (holds_at slots) changes) (list_any test slots) (back slots changes)
      (λ some.
      let found = any-held slots 0 (changes-rise image changes rises) some in
      elim (is_changed changes found.key) as (λ b. is_changed changes found.key ≡ b → list_any (holds_at slots) changes ≡ true) [
        | true ↦ λ is. any-at slots changes found.key is found.holding
        | false ↦ λ unmade.
            let here = ap holds (sym (unchanged image changes found.key unmade)) ∙ found.holding in
            absurd (let clash : true ≡ false = sym (held-any image found.key here) ∙ none in cc)
      ] refl)

pub first-of : (a b c : Bool) → (a || b) ≡ c → a ≡ true → a ≡ c
first-of true b c both is = both
first-of false b c both is = absurd (let clash : false ≡ true = is in cc)

pub second-of : (a b c : Bool) → (a || b) ≡ c → a ≡ false → b ≡ c
second-of true b c both isnt = absurd (let clash : true ≡ false = isnt in cc)
second-of false b c both isnt = both
