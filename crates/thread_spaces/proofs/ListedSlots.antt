-- The slots that listed capabilities fill: their keys rise.
use Rattle.std.proofs.Common.{ℕ, zero, suc, ◌≡◌, ◌∙◌, ◌+◌, ◌<◌, ◌≤◌, true, false, if◌then◌else◌, Some, List, [], ◌∷◌, ◌++◌, length, map, filter, drop, refl}
use Rattle.std.proofs.Common.{sym, ap, subst, append-nil, append_assoc, arith}
use Rattle.std.proofs.lemmas.List.{drop_all}
use Rattle.std.specs.Prelude.{slice_get, slice_index}
use Rattle.format_laws.specs.Fitting.{IsFitting}
use Rattle.model.specs.declared.entries.CapabilityEntry.{CapabilityEntry}
use Rattle.model.specs.Acceptance.NotedStates.{NotedSlot, image_slots, listed_slot, number_of}
use Rattle.model.specs.Acceptance.ThreadRules.{is_member, reached}
use Rattle.model.specs.Images.Image.{Image, Thread, pair_key}
use Rattle.typestate.specs.Orders.{Rise}
use Rattle.typestate.proofs.Laws.{RiseFrom}
use Rattle.thread_spaces.proofs.Rounds.{drop-next}

abbrev pub slots_in : Image → List ℕ → List CapabilityEntry → List NotedSlot
slots_in image cnodes capabilities = map (listed_slot image) (filter (λ c. is_member c.cnode cnodes) capabilities)

abbrev pub slot_in : Image → List ℕ → CapabilityEntry → List NotedSlot
slot_in image cnodes c = if is_member c.cnode cnodes then listed_slot image c ∷ [] else []

-- one capability after another
pub one-more : (image : Image) (cnodes : List ℕ) (c : CapabilityEntry) (rest : List CapabilityEntry) → slots_in image cnodes (c ∷ rest) ≡ slot_in image cnodes c
    ++ slots_in image cnodes rest
one-more image cnodes c rest = elim (is_member c.cnode cnodes)
    as (λ b. map (listed_slot image) (if b then c ∷ filter (λ d. is_member d.cnode cnodes) rest else filter (λ d. is_member d.cnode cnodes) rest)
    ≡ (if b then listed_slot image c ∷ [] else []) ++ slots_in image cnodes rest) [
      | true ↦ refl
      | false ↦ refl
    ]

pub all-in : (image : Image) (t : Thread) (cnodes : List ℕ) → cnodes ≡ reached image t → slots_in image cnodes image.capabilities ≡ image_slots image t
unfolding image_slots
all-in image t cnodes same = ap (λ (found : List ℕ). slots_in image found image.capabilities) same

-- ---- keys rise

abbrev key_of : CapabilityEntry → ℕ
key_of c = pair_key c.cnode c.index

rise-from : (image : Image) (cnodes : List ℕ) (capabilities : List CapabilityEntry) (least : ℕ)
    → ((j : ℕ) (c : CapabilityEntry) → slice_get capabilities j ≡ Some c → least ≤ key_of c)
    → ((i j : ℕ) (c d : CapabilityEntry) → i < j → slice_get capabilities i ≡ Some c → slice_get capabilities j ≡ Some d → key_of c < key_of d)
    → RiseFrom least (slots_in image cnodes capabilities)
rise-from image cnodes [] least low rises = tt
rise-from image cnodes (c ∷ rest) least low rises =
    let later = λ (i j : ℕ) (d e : CapabilityEntry) (less : i < j) (one : slice_get rest i ≡ Some d) (two : slice_get rest j ≡ Some e).
    rises (suc i) (suc j) d e (omega (arith, less)) one two in
    elim (is_member c.cnode cnodes)
    as (λ b. RiseFrom least
    (map (listed_slot image) (if b then c ∷ filter (λ d. is_member d.cnode cnodes) rest else filter (λ d. is_member d.cnode cnodes) rest))) [
      | true ↦ (
        low 0 c refl,
        rise-from image cnodes rest (key_of c + 1) (λ j d at. let less = rises 0 (suc j) c d (omega arith) refl at in omega (arith, less))
            later,
      )
      | false ↦ rise-from image cnodes rest least (λ j d at. low (suc j) d at) later
    ]

first-least : (s : NotedSlot) (rest : List NotedSlot) (least : ℕ) → RiseFrom least (s ∷ rest) → least ≤ number_of s.key
first-least s rest least rises = rises.0

-- from the recursion to all places
pub to-rise : (slots : List NotedSlot) (least : ℕ) → RiseFrom least slots → Rise slots
to-rise [] least rises k below = absurd (omega (arith, below))
to-rise (s ∷ []) least rises k below = absurd (omega (arith, below))
to-rise (s ∷ r ∷ rest) least rises zero below = omega (arith, first-least r rest (number_of s.key + 1) rises.1)
to-rise (s ∷ r ∷ rest) least rises (suc k) below =
    let numbers = map (λ (o : NotedSlot). number_of o.key) (s ∷ r ∷ rest) in
    let next : suc (k + 1) ≡ suc k + 1 = omega arith in
    subst (λ (i : ℕ). slice_index numbers (suc k) < slice_index numbers i) next (to-rise (r ∷ rest) (number_of s.key + 1) rises.1 k (omega (arith, below)))

pub slots-rise : (image : Image) (t : Thread) → IsFitting image → Rise (image_slots image t)
unfolding image_slots
slots-rise image t fitting = to-rise (slots_in image (reached image t) image.capabilities) 0
    (rise-from image (reached image t) image.capabilities 0 (λ j c at. omega arith) fitting.slots_rise)

-- ---- one after another

pub listed-next : (image : Image) (cnodes : List ℕ) (number : ℕ) (c : CapabilityEntry) (slots after whole : List NotedSlot) →
    slice_get image.capabilities number ≡ Some c → after ≡ slots ++ slot_in image cnodes c
    → slots ++ slots_in image cnodes (drop number image.capabilities) ≡ whole → after ++ slots_in image cnodes (drop (number + 1) image.capabilities) ≡ whole
listed-next image cnodes number c slots after whole at is so_far =
    let rest = slots_in image cnodes (drop (number + 1) image.capabilities) in
    ap (λ (xs : List NotedSlot). xs ++ rest) is ∙ append_assoc slots (slot_in image cnodes c) rest
    ∙ ap (λ (xs : List NotedSlot). slots ++ xs)
    (sym (ap (slots_in image cnodes) (drop-next image.capabilities number c at) ∙ one-more image cnodes c (drop (number + 1) image.capabilities)))
    ∙ so_far

pub listed-end : (image : Image) (t : Thread) (cnodes : List ℕ) (number : ℕ) (slots : List NotedSlot) → cnodes ≡ reached image t →
    length image.capabilities ≤ number
    → slots ++ slots_in image cnodes (drop number image.capabilities) ≡ slots_in image cnodes image.capabilities → slots ≡ image_slots image t
listed-end image t cnodes number slots same most so_far =
    sym (append-nil slots) ∙ ap (λ (cs : List CapabilityEntry). slots ++ slots_in image cnodes cs) (sym (drop_all number image.capabilities most)) ∙ so_far
    ∙ all-in image t cnodes same
