-- Where all changes that are touched are of slots that go, each is emptied, and no child stays.
use Rattle.std.proofs.Common.{◌≡◌, ◌∙◌, ◌&&◌, ◌||◌, ◌++◌, Bool, true, false, not, if◌then◌else◌, Some, None, List, [], ◌∷◌, refl, sym, ap}
use Rattle.std.specs.List.{filter, flat_map, list_any}
use Rattle.std.specs.Option.{option_map_or}
use Rattle.model.specs.Acceptance.NotedStates.{NotedSlot, SlotKey}
use Rattle.model.specs.Capabilities.CapabilityKinds.{is_untyped}
use Rattle.model.specs.Capabilities.Slots.{is_empty}
use Rattle.typestate.specs.ChangeLists.{kept_child, removal_change, told_of}
use Rattle.typestate.specs.Differences.{left_by, slots_of}
use Rattle.typestate.specs.Levels.{all_below}
use Rattle.typestate.specs.Removals.{emptied_by}
use Rattle.typestate.specs.SlotChanges.{emptied, heir, is_parent, is_removed, slot_left}
use Rattle.typestate.specs.declared.points.NotedSlots.{NotedSlots}
use Rattle.typestate.specs.declared.slot_changes.Removed.{Removed}
use Rattle.typestate.specs.declared.slot_changes.Removed.TheVariants.{One, Below}

module _ (gone : SlotKey → Bool) (slots : List NotedSlot) where
  told-emptied : (c : NotedSlot) → gone c.key ≡ true → told_of (removal_change gone slots) c ≡ emptied_by c
  told-emptied c goes = elim (is_empty c.capability)
      as (λ b. option_map_or (removal_change gone slots) (if b then None else Some c) [] ≡ option_map_or (λ s. emptied s.key ∷ []) (if b then None else Some c)
      []) [
        | true ↦ refl
        | false ↦ ap (λ b. if b then emptied c.key ∷ []
            else if option_map_or gone c.parent false || is_untyped c.capability then slot_left gone slots c ∷ [] else []) goes
      ]

  all-told-emptied : (cs : List NotedSlot) →
      flat_map (told_of (removal_change gone slots)) (filter (λ c. gone c.key) cs) ≡ flat_map emptied_by (filter (λ c. gone c.key) cs)
  all-told-emptied [] = refl
  all-told-emptied (c ∷ rest) =
      let going = filter (λ (s : NotedSlot). gone s.key) rest in
      let tell : NotedSlot → List NotedSlot = told_of (removal_change gone slots) in
      elim (gone c.key) as (λ b. gone c.key ≡ b → flat_map tell (if b then c ∷ going else going) ≡ flat_map emptied_by (if b then c ∷ going else going)) [
        | true ↦ λ goes. ap (λ l. l ++ flat_map tell going) (told-emptied c goes) ∙ ap (λ l. emptied_by c ++ l) (all-told-emptied rest)
        | false ↦ λ _. all-told-emptied rest
      ] refl

pub all-emptied : (n : NotedSlots) (which : Removed) →
    flat_map emptied_by (all_below n which) ≡ flat_map (told_of (removal_change (is_removed (slots_of n) which) (slots_of n))) (all_below n which)
all-emptied n (One gone) = refl
all-emptied n (Below root) = sym (all-told-emptied (is_removed (slots_of n) (Below root)) (slots_of n) n.changes.now)

abbrev kept_left : List NotedSlot → Removed → SlotKey → NotedSlot → Bool
kept_left slots which key c = option_map_or (kept_child slots which key) (left_by c) false

gone-not-kept : (slots : List NotedSlot) (which : Removed) (key : SlotKey) (c : NotedSlot) → is_removed slots which c.key ≡ true →
    kept_left slots which key c ≡ false
unfolding kept_child
gone-not-kept slots which key c goes = elim (is_empty c.capability)
    as (λ b. option_map_or (kept_child slots which key) (if b then None else Some c) false ≡ false) [
      | true ↦ refl
      | false ↦ ap (λ b. not b && is_parent key (heir (is_removed slots which) slots c)) goes
    ]

none-kept : (slots : List NotedSlot) (which : Removed) (key : SlotKey) (cs : List NotedSlot) →
    list_any (kept_left slots which key) (filter (λ c. is_removed slots which c.key) cs) ≡ false
none-kept slots which key [] = refl
none-kept slots which key (c ∷ rest) =
    let going = filter (λ (s : NotedSlot). is_removed slots which s.key) rest in
    elim (is_removed slots which c.key) as (λ b. is_removed slots which c.key ≡ b →
    list_any (kept_left slots which key) (if b then c ∷ going else going) ≡ false) [
      | true ↦ λ goes. ap (λ b. b || list_any (kept_left slots which key) going) (gone-not-kept slots which key c goes) ∙ none-kept slots which key rest
      | false ↦ λ _. none-kept slots which key rest
    ] refl

pub none-stays-below : (n : NotedSlots) (which : Removed) (key : SlotKey) →
    list_any (λ c. option_map_or (kept_child (slots_of n) which key) (left_by c) false) (all_below n which) ≡ false
none-stays-below n (One gone) key = refl
none-stays-below n (Below root) key = none-kept (slots_of n) (Below root) key n.changes.now
