-- What is noted of slots of the kernel, at the key of an own slot.
use Rattle.std.proofs.Common.{ℕ, ◌≡◌, ◌∙◌, ◌^◌, ◌<◌, ◌||◌, Bool, true, false, if◌then◌else◌, Option, Some, None, option_and_then, List, [], ◌∷◌, refl, sym, ap}
use Rattle.std.specs.List.{cons_option, filter_map}
use Rattle.std.proofs.lemmas.Bool.{eq-eqb, eqb-true}
use Rattle.std.proofs.lemmas.Option.{none-some, same_Some}
use Rattle.headline.proofs.facts.Laws.{same-low-key}
use Rattle.model.specs.Acceptance.NotedKernel.{key_of, keys_of, noted_after, noted_of, slot_of_key}
use Rattle.model.specs.Acceptance.NotedStates.{NotedSlot, SlotKey, is_same_key, number_of, slot_at}
use Rattle.model.specs.Acceptance.ThreadRules.{reached}
use Rattle.model.specs.Capabilities.Slots.{Slots, capability_at, is_full, parent_at}
use Rattle.model.specs.Images.Image.{Image, Thread}
use Rattle.typestate.specs.Spaces.{StandsApart}
use Rattle.typestate.proofs.Laws.{is_among}
use Rattle.headline.proofs.lookups.ThreadKeys.{AreLow, HasKey, key-among, key-low, keys-low}

-- ---- a look-up among what a function notes at keys

module _ (note : SlotKey → Option NotedSlot) (keeps : (k : SlotKey) (s : NotedSlot) → note k ≡ Some s → s.key ≡ k) (key : SlotKey)
    (low : key.index < 2 ^ 32) where
  abbrev Looks : List SlotKey → Type 0
  Looks keys = slot_at (filter_map note keys) key ≡ (if is_among key keys then note key else None)

  -- where the first key is the one that is looked for
  here : (k : SlotKey) (rest : List SlotKey) → k ≡ key → Looks rest → slot_at (filter_map note (k ∷ rest)) key ≡ note key
  here k rest same others = elim (note k) as (λ o. note k ≡ o → slot_at (cons_option o (filter_map note rest)) key ≡ note key) [
    | None ↦ λ none.
        let nothing : note key ≡ None = ap note (sym same) ∙ none in
        others ∙ ap (λ o. if is_among key rest then o else None) nothing ∙ never (is_among key rest) ∙ sym nothing
    | Some s ↦ λ some.
        ap (λ b. if b then Some s else slot_at (filter_map note rest) key) (eq-eqb (number_of s.key) (number_of key) (ap number_of (keeps k s some ∙ same)))
        ∙ sym (ap note (sym same) ∙ some)
  ] refl
    where
      never : (b : Bool) → ◌≡◌ {A = Option NotedSlot} (if b then None else None) None
      never true = refl
      never false = refl

  -- where it is another
  later : (k : SlotKey) (rest : List SlotKey) → is_same_key k key ≡ false → Looks rest →
      slot_at (filter_map note (k ∷ rest)) key ≡ (if is_among key rest then note key else None)
  later k rest other others = elim (note k) as (λ o. note k ≡ o →
      slot_at (cons_option o (filter_map note rest)) key ≡ (if is_among key rest then note key else None)) [
        | None ↦ λ _. others
        | Some s ↦ λ some.
            ap (λ b. if b then Some s else slot_at (filter_map note rest) key) (ap (λ (k : SlotKey). is_same_key k key) (keeps k s some) ∙ other) ∙ others
      ] refl

  pub looks : (keys : List SlotKey) → AreLow keys → Looks keys
  looks [] are = refl
  looks (k ∷ rest) are =
      let others = looks rest are.1 in
      elim (is_same_key k key)
      as (λ b. is_same_key k key ≡ b → slot_at (filter_map note (k ∷ rest)) key ≡ (if b || is_among key rest then note key else None)) [
        | true ↦ λ same. here k rest (same-low-key k key are.0 low (eqb-true (number_of k) (number_of key) same)) others
        | false ↦ λ other. later k rest other others
      ] refl

-- ---- what is noted after the kernel's

abbrev noted_full : Image → List ℕ → Slots → SlotKey → NotedSlot
noted_full image cnodes after key =
    let slot = slot_of_key image key in
    record { key = key; capability = capability_at after slot; parent = option_and_then (key_of image cnodes) (parent_at after slot) }

noted-keeps : (image : Image) (cnodes : List ℕ) (after : Slots) (k : SlotKey) (s : NotedSlot) → noted_of image cnodes after k ≡ Some s → s.key ≡ k
noted-keeps image cnodes after k s is =
    let held = noted_full image cnodes after k in
    elim (is_full after (slot_of_key image k)) as (λ b. (if b then Some held else None) ≡ Some s → s.key ≡ k) [
      | true ↦ λ some. ap (λ (x : NotedSlot). x.key) (sym (same_Some held s some))
      | false ↦ λ clash. absurd (none-some s clash)
    ] is

pub noted-at : (image : Image) (t : Thread) → StandsApart image t → (after : Slots) (slot : ℕ) → (of : HasKey image (reached image t) slot)
    → slot_at (noted_after image t after) of.key ≡ noted_of image (reached image t) after of.key
unfolding noted_after
noted-at image t stand after slot of =
    let cnodes = reached image t in
    let note = noted_of image cnodes after in
    looks note (noted-keeps image cnodes after) of.key (key-low image t stand slot of) (keys_of image cnodes) (keys-low image t stand)
    ∙ ap (λ b. if b then note of.key else None) (key-among image t stand slot of)
