-- Among changes whose keys rise, each is the last one to its slot.
use Rattle.std.proofs.Common.{ℕ, ◌≡◌, ◌∙◌, ◌==◌, ◌<◌, ◌+◌, ◌||◌, Bool, true, false, if◌then◌else◌, Option, Some, None, is_some, List, [], ◌∷◌, refl, sym, ap}
use Rattle.std.proofs.Common.{arith}
use Rattle.std.specs.List.{list_any}
use Rattle.std.specs.Option.{option_map_or}
use Rattle.std.proofs.lemmas.Bool.Decides.{nat_tests}
use Rattle.std.proofs.lemmas.Bool.{eq-eqb}
use Rattle.model.specs.Capabilities.CapabilityKinds.{frame_mapping}
use Rattle.model.specs.Acceptance.NotedStates.{NotedSlot, SlotKey, number_of, slot_at, with_noted}
use Rattle.typestate.specs.Differences.{changed, left_by, slots_of}
use Rattle.typestate.specs.Unlinked.{is_linked}
use Rattle.typestate.specs.declared.points.NotedSlots.{NotedSlots}
use Rattle.typestate.proofs.Compared.{is_changed, unchanged}
use Rattle.typestate.proofs.Rising.{RiseFrom}
use Rattle.typestate.proofs.SlotLists.{noted-at}
use Rattle.typestate.proofs.SomeHeld.{held-any}

other-number : (a b : ℕ) → b < a → (a == b) ≡ false
other-number a b less = grind (arith, nat_tests)

not-named : (changes : List NotedSlot) (least : ℕ) (key : SlotKey) → RiseFrom least changes → number_of key < least → is_changed changes key ≡ false
not-named [] least key rises less = refl
not-named (c ∷ rest) least key rises less =
    let most : number_of key < number_of c.key = omega (arith, rises.0, less) in
    ap (λ b. b || is_changed rest key) (other-number (number_of c.key) (number_of key) most)
    ∙ not-named rest (number_of c.key + 1) key rises.1 (omega (arith, most))

-- each slot holds what its change leaves
abbrev pub HoldOwn : List NotedSlot → List NotedSlot → Type 0
HoldOwn slots [] = Unit {0}
HoldOwn slots (c ∷ rest) = (slot_at slots c.key ≡ left_by c) × HoldOwn slots rest

pub hold-own : (slots changes : List NotedSlot) (least : ℕ) → RiseFrom least changes → HoldOwn (changed slots changes) changes
hold-own slots [] least rises = tt
hold-own slots (c ∷ rest) least rises = (
  unchanged (with_noted slots c) rest c.key (not-named rest (number_of c.key + 1) c.key rises.1 (omega arith))
      ∙ noted-at slots c c.key ∙ ap (λ b. if b then left_by c else slot_at slots c.key) (eq-eqb (number_of c.key) (number_of c.key) refl),
  hold-own (with_noted slots c) rest (number_of c.key + 1) rises.1,
)

pub any-own : (test : NotedSlot → Bool) (slots changes : List NotedSlot) → HoldOwn slots changes
    → list_any (λ c. option_map_or test (left_by c) false) changes ≡ list_any (λ k. option_map_or test (slot_at slots k.key) false) changes
any-own test slots [] own = refl
any-own test slots (c ∷ rest) own =
    ap (λ (o : Option NotedSlot). option_map_or test o false || list_any (λ c. option_map_or test (left_by c) false) rest) (sym own.0)
    ∙ ap (λ b. option_map_or test (slot_at slots c.key) false || b) (any-own test slots rest own.1)

-- what no change names is the image's, and was derived from none of the thread's slots
pub unnamed-parent : (n : NotedSlots) (key : SlotKey) (s : NotedSlot) → slot_at (slots_of n) key ≡ Some s → is_changed n.changes.now key ≡ false →
    s.parent ≡ None
unnamed-parent n key s at none =
    let here : slot_at n.image.now key ≡ Some s = sym (unchanged n.image.now n.changes.now key none) ∙ at in
    elim s.parent as (λ p. s.parent ≡ p → p ≡ None) [
      | None ↦ λ _. refl
      | Some p ↦ λ is.
          let linked : is_linked s ≡ true = ap (λ (o : Option SlotKey). is_some o || is_some (frame_mapping s.capability)) is in
          absurd (let clash : true ≡ false =
          sym (held-any is_linked n.image.now key (ap (λ (o : Option NotedSlot). option_map_or is_linked o false) here ∙ linked)) ∙ n.unlinked in
          cc)
    ] refl
