-- Slots that are compared as the image's, and are no stray ones, are the image's.
use Rattle.std.proofs.Common.{ℕ, suc, ◌≡◌, ◌∙◌, ◌&&◌, ◌||◌, Bool, true, false, not, List, [], ◌∷◌, length, filter, map, if◌then◌else◌, Option, Some, None, refl}
use Rattle.std.proofs.Common.{sym, ap}
use Rattle.std.specs.Prelude.{slice_get}
use Rattle.std.specs.Option.{option_map_or}
use Rattle.std.specs.List.{list_any}
use Rattle.std.proofs.lemmas.Bool.{and_parts, eqb-true, false≢true, or_parts, not-false}
use Rattle.headline.proofs.facts.Laws.{capabilities-equal}
use Rattle.model.specs.declared.entries.CapabilityEntry.{CapabilityEntry}
use Rattle.model.specs.Acceptance.Accepted.{IsWellFormed}
use Rattle.model.specs.Acceptance.NotedStates.{NotedSlot, PointState, SlotKey, are_same_slots, has_stray_slots, image_slots, is_foreign, is_own, is_same_key}
use Rattle.model.specs.Acceptance.NotedStates.{is_same_parent, is_same_slot, is_stray, leads_to_boot, listed_slot, notes_outside, number_of, record_of}
use Rattle.model.specs.Acceptance.ThreadRules.{is_member, reached}
use Rattle.model.specs.Capabilities.CapabilityFields.{is_capability, same_words}
use Rattle.model.specs.Capabilities.CapabilityWords.{IsCapability, words_of}
use Rattle.model.specs.Images.Image.{Image, Thread, whole_image}
use Rattle.image_reading.proofs.Laws.{test-decides}
use Rattle.typestate.proofs.Laws.{same-own-key}
use Rattle.thread_spaces.specs.Given.{IsListed}
use Rattle.thread_spaces.proofs.Laws.{listed-valid, slots_in}
use Rattle.headline.proofs.starts.GivenSlots.{listed-own, stand}

-- ---- words

no-parent : (p : Option SlotKey) → is_same_parent p None ≡ true → p ≡ None
no-parent None same = refl
no-parent (Some key) same = absurd (false≢true same)

-- ---- slots that are what they may be

-- a capability in an own slot
pub record IsHeld (image : Image) (cnodes : List ℕ) (s : NotedSlot) : Type 0 where
  pub own : is_own image cnodes s.key ≡ true
  pub valid : IsCapability s.capability

abbrev AllHeld : Image → List ℕ → List NotedSlot → Type 0
AllHeld image cnodes [] = Unit {0}
AllHeld image cnodes (s ∷ rest) = IsHeld image cnodes s × AllHeld image cnodes rest

abbrev AllFirst : List NotedSlot → Type 0
AllFirst [] = Unit {0}
AllFirst (s ∷ rest) = (s.parent ≡ None) × AllFirst rest

held-if : (image : Image) (t : Thread) (cnodes : List ℕ) (slots : List NotedSlot) (s : NotedSlot) → is_stray image t cnodes slots s ≡ false →
    IsHeld image cnodes s
held-if image t cnodes slots s is =
    let a = or_parts (not (is_own image cnodes s.key) || is_foreign image t cnodes s.capability || not (is_capability s.capability))
    (not (leads_to_boot (length slots) slots s.parent)) is in
    let b = or_parts (not (is_own image cnodes s.key) || is_foreign image t cnodes s.capability) (not (is_capability s.capability)) a.0 in
    let c = or_parts (not (is_own image cnodes s.key)) (is_foreign image t cnodes s.capability) b.0 in
    record { own = not-false _ c.0; valid = test-decides s.capability (not-false _ b.1) }

all-held : (image : Image) (t : Thread) (cnodes : List ℕ) (slots rest : List NotedSlot) → list_any (is_stray image t cnodes slots) rest ≡ false →
    AllHeld image cnodes rest
all-held image t cnodes slots [] none = tt
all-held image t cnodes slots (s ∷ rest) none =
    let parts = or_parts (is_stray image t cnodes slots s) (list_any (is_stray image t cnodes slots) rest) none in
    (held-if image t cnodes slots s parts.0, all-held image t cnodes slots rest parts.1)

slots-held : (image : Image) (t : Thread) (point : ℕ) (state : PointState) → has_stray_slots image t point state ≡ false →
    AllHeld image (reached image t) state.slots
unfolding has_stray_slots
slots-held image t point state none =
    let cnodes = reached image t in
    all-held image t cnodes state.slots state.slots
    (or_parts (list_any (is_stray image t cnodes state.slots) state.slots) (option_map_or (notes_outside image cnodes) (record_of t point) false) none).0

module _ (image : Image) (t : Thread) (fits : whole_image.fits image ≡ true) (well : IsWellFormed image) (listed : IsListed image t) where
  abbrev cnodes : List ℕ
  cnodes = reached image t

  abbrev Given : List NotedSlot → Type 0
  Given slots = AllHeld image cnodes slots × AllFirst slots

  given-more : (c : CapabilityEntry) (rest : List CapabilityEntry) → IsHeld image cnodes (listed_slot image c) → Given (slots_in image cnodes rest) → (b : Bool)
      → Given (map (listed_slot image) (if b then c ∷ filter (λ d. is_member d.cnode cnodes) rest else filter (λ d. is_member d.cnode cnodes) rest))
  given-more c rest held others true = ((held, others.0), (refl, others.1))
  given-more c rest held others false = others

  given-all : (rest : List CapabilityEntry) →
      ((k : ℕ) (c : CapabilityEntry) → slice_get rest k ≡ Some c → is_member c.cnode cnodes ≡ true → IsHeld image cnodes (listed_slot image c)) →
      Given (slots_in image cnodes rest)
  given-all [] each = (tt, tt)
  given-all (c ∷ rest) each =
      let others = given-all rest (λ k d at. each (suc k) d at) in
      elim (is_member c.cnode cnodes) as (λ b. is_member c.cnode cnodes ≡ b
      → Given (map (listed_slot image) (if b then c ∷ filter (λ d. is_member d.cnode cnodes) rest else filter (λ d. is_member d.cnode cnodes) rest))) [
        | true ↦ λ among. given-more c rest (each 0 c refl among) others true
        | false ↦ λ _. others
      ] refl

  pub image-given : Given (image_slots image t)
  unfolding image_slots
  image-given = given-all image.capabilities (λ k c at among. record {
    own = listed-own image t fits well listed k c at among;
    valid = listed-valid image fits well c (record { number = k; listed = at });
  })

  one-same : (a b : NotedSlot) → IsHeld image cnodes a → IsHeld image cnodes b → b.parent ≡ None → is_same_slot a b ≡ true → a ≡ b
  one-same a b held other first same =
      let outer = and_parts (is_same_key a.key b.key && same_words (words_of a.capability) (words_of b.capability)) (is_same_parent a.parent b.parent) same in
      let inner = and_parts (is_same_key a.key b.key) (same_words (words_of a.capability) (words_of b.capability)) outer.0 in
      let key : a.key ≡ b.key = same-own-key image t (stand image t fits well listed) a.key b.key held.own other.own
      (eqb-true (number_of a.key) (number_of b.key) inner.0) in
      let capability : a.capability ≡ b.capability = capabilities-equal a.capability b.capability held.valid other.valid inner.1 in
      let none : is_same_parent a.parent None ≡ true = ap (is_same_parent a.parent) (sym first) ∙ outer.1 in
      let parent : a.parent ≡ b.parent = no-parent a.parent none ∙ sym first in
      λ i. record { key = key i; capability = capability i; parent = parent i }

  all-same : (as_ bs : List NotedSlot) → AllHeld image cnodes as_ → AllHeld image cnodes bs → AllFirst bs → are_same_slots as_ bs ≡ true → as_ ≡ bs
  all-same [] [] held others first same = refl
  all-same [] (b ∷ bs) held others first same = absurd (false≢true same)
  all-same (a ∷ as_) [] held others first same = absurd (false≢true same)
  all-same (a ∷ as_) (b ∷ bs) held others first same =
      let parts = and_parts (is_same_slot a b) (are_same_slots as_ bs) same in
      ap (λ (s : NotedSlot). s ∷ as_) (one-same a b held.0 others.0 first.0 parts.0)
      ∙ ap (λ (rest : List NotedSlot). b ∷ rest) (all-same as_ bs held.1 others.1 first.1 parts.1)

  pub slots-same : (point : ℕ) (state : PointState) → has_stray_slots image t point state ≡ false → are_same_slots state.slots (image_slots image t) ≡ true →
      state.slots ≡ image_slots image t
  slots-same point state none same =
      let given = image-given in
      all-same state.slots (image_slots image t) (slots-held image t point state none) given.0 given.1 same
