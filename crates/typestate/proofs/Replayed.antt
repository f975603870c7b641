-- What entries of a log make of slots.
use Rattle.std.proofs.Common.{ℕ, ◌≡◌, ◌∙◌, ◌==◌, ◌||◌, Bool, true, false, if◌then◌else◌, Option, Some, None, is_some, option_and_then, option_map, List, []}
use Rattle.std.proofs.Common.{◌∷◌, ◌++◌, map, refl, sym, ap, subst}
use Rattle.std.specs.Option.{option_map_or}
use Rattle.model.specs.Acceptance.NotedStates.{NotedSlot, SlotKey, number_of, slot_at, with_noted}
use Rattle.model.specs.Capabilities.CapabilityKinds.{frame_mapping}
use Rattle.model.specs.Capabilities.Slots.{is_empty}
use Rattle.typestate.specs.declared.log_entries.LogEntry.{LogEntry}
use Rattle.typestate.specs.declared.log_entries.LogEntry.TheVariants.{Sets}
use Rattle.typestate.specs.Differences.{changed, left_by}
use Rattle.typestate.specs.Families.{found}
use Rattle.typestate.specs.Orders.{Rise}
use Rattle.typestate.specs.Pages.{ArePaged, leaves_at}
use Rattle.typestate.specs.Replays.{exchanged, replayed, turned, with_entry}
use Rattle.typestate.specs.Unlinked.{AreUnlinked, is_linked}
use Rattle.typestate.proofs.MoveCalls.{map-at, map-rises}
use Rattle.typestate.proofs.OrderedChanges.{changed-at, found_or}
use Rattle.typestate.proofs.PutPlaces.{rise-of}
use Rattle.typestate.proofs.Rising.{changes-rise, from-first, looks-equal}
use Rattle.typestate.proofs.SomeHeld.{held-any}

-- entries that set slots change them
pub sets-made : (changes slots : List NotedSlot) → replayed slots (map (λ (c : NotedSlot). Sets c) changes) ≡ changed slots changes
sets-made [] slots = refl
sets-made (c ∷ rest) slots = sets-made rest (with_noted slots c)

pub replayed-more : (first second : List LogEntry) (slots : List NotedSlot) → replayed slots (first ++ second) ≡ replayed (replayed slots first) second
replayed-more [] second slots = refl
replayed-more (e ∷ first) second slots = replayed-more first second (with_entry slots e)

-- ---- where two slots change places as parents

pub exchanged-left : (one other : SlotKey) (c : NotedSlot) → left_by (exchanged one other c) ≡ option_map (exchanged one other) (left_by c)
exchanged-left one other c = elim (is_empty c.capability)
    as (λ b. (if b then None else Some (exchanged one other c)) ≡ option_map (exchanged one other) (if b then None else Some c)) [ true ↦ refl | false ↦ refl ]

exchanged-rise : (one other : SlotKey) (changes : List NotedSlot) → Rise changes → Rise (map (exchanged one other) changes)
exchanged-rise one other changes rises = rise-of (map (exchanged one other) changes) 0
    (map-rises (exchanged one other) (λ s. refl) changes 0 (from-first changes rises))

module _ (one other : SlotKey) where
  abbrev turns : NotedSlot → NotedSlot
  turns = exchanged one other

  -- what was derived from no slot stays as it is
  alone : (s : NotedSlot) → is_some s.parent ≡ false → turns s ≡ s
  alone s none = by-parent s.parent none
    where
      by-parent : (p : Option SlotKey) → is_some p ≡ false →
          (let r : NotedSlot = record { key = s.key; capability = s.capability; parent = option_map (turned one other) p } in r)
          ≡ (let r : NotedSlot = record { key = s.key; capability = s.capability; parent = p } in r)
      by-parent None none = refl
      by-parent (Some p) none = absurd (let clash : true ≡ false = none in cc)

  pub listed-alone : (slots : List NotedSlot) (key : SlotKey) → AreUnlinked slots → option_map turns (slot_at slots key) ≡ slot_at slots key
  listed-alone slots key unlinked = by-held (slot_at slots key) refl
    where
      never : (a : Bool) → (a ≡ true → true ≡ false) → a ≡ false
      never true clash = clash refl
      never false clash = refl

      by-held : (o : Option NotedSlot) → slot_at slots key ≡ o → option_map turns o ≡ o
      by-held None is = refl
      by-held (Some s) is =
          let none : is_some s.parent ≡ false = never (is_some s.parent) (λ has.
          let linked : is_linked s ≡ true = ap (λ b. b || is_some (frame_mapping s.capability)) has in
          sym (held-any is_linked slots key (ap (λ (o : Option NotedSlot). option_map_or is_linked o false) is ∙ linked)) ∙ unlinked) in
          ap (λ (r : NotedSlot). Some r) (alone s none)

  -- changes in which they change places change slots of an image so
  pub swapped-changes : (slots old : List NotedSlot) → Rise slots → AreUnlinked slots → Rise old → changed slots (map turns old) ≡ map turns (changed slots old)
  swapped-changes slots old rises unlinked before =
      let first = from-first slots rises in
      let ordered = from-first old before in
      looks-equal (changed slots (map turns old)) (map turns (changed slots old)) 0 0 (changes-rise slots (map turns old) first)
      (map-rises turns (λ s. refl) (changed slots old) 0 (changes-rise slots old first)) (λ key.
      changed-at (map turns old) slots 0 key (map-rises turns (λ s. refl) old 0 ordered)
      ∙ ap (λ o. found_or o (slot_at slots key)) (map-at turns (λ s. refl) old key)
      ∙ either (slot_at old key) (slot_at slots key) (listed-alone slots key unlinked)
      ∙ ap (option_map turns) (sym (changed-at old slots 0 key ordered))
      ∙ sym (map-at turns (λ s. refl) (changed slots old) key))
    where
      either : (o held : Option NotedSlot) → option_map turns held ≡ held → found_or (option_map turns o) held ≡ option_map turns (found_or o held)
      either None held same = sym same
      either (Some c) held same = exchanged-left one other c

  pub swapped-rise : (old new : List NotedSlot) → new ≡ map turns old → Rise old → Rise new
  swapped-rise old new is rises = subst Rise (sym is) (exchanged-rise one other old rises)

  -- and what maps pages maps them still
  pub swapped-paged : (old new : List NotedSlot) (pages : List (ℕ × ℕ)) → new ≡ map turns old → ArePaged old pages → ArePaged new pages
  swapped-paged old new pages is paged page slot holds =
      paged page slot (sym (by-held (found old slot)) ∙ ap (λ o. option_map_or (leaves_at page) o false)
      (sym (ap (λ (l : List NotedSlot). found l slot) is ∙ found-turned old)) ∙ holds)
    where
      found-turned : (cs : List NotedSlot) → found (map turns cs) slot ≡ option_map turns (found cs slot)
      found-turned [] = refl
      found-turned (c ∷ rest) = elim (number_of c.key == slot)
          as (λ b. (if b then Some (turns c) else found (map turns rest) slot) ≡ option_map turns (if b then Some c else found rest slot)) [
            | true ↦ refl
            | false ↦ found-turned rest
          ]

      by-held : (o : Option NotedSlot) → option_map_or (leaves_at page) (option_map turns o) false ≡ option_map_or (leaves_at page) o false
      by-held None = refl
      by-held (Some c) = elim (is_empty c.capability)
          as (λ b. option_map_or (λ p. p == page)
          (option_and_then (λ s. option_map (λ m. m.page) (frame_mapping s.capability)) (if b then None else Some (turns c))) false
          ≡ option_map_or (λ p. p == page) (option_and_then (λ s. option_map (λ m. m.page) (frame_mapping s.capability)) (if b then None else Some c)) false) [
            | true ↦ refl
            | false ↦ refl
          ]
