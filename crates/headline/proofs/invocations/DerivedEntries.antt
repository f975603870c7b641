-- What some slots hold derives from something still, after each change of slots that a call makes.
use Rattle.std.proofs.Common.{ℕ, ◌≡◌, ◌-◌, ◌==◌, true, false, not, if◌then◌else◌, Option, Some, None, option_map, refl}
use Rattle.std.specs.Option.{option_map_or}
use Rattle.std.proofs.lemmas.Bool.{false≢true}
use Rattle.model.specs.declared.capabilities.Cap.{Cap}
use Rattle.model.specs.declared.capabilities.Cap.TheVariants.{Empty}
use Rattle.model.specs.declared.slot_entries.Entry.{Entry}
use Rattle.model.specs.Capabilities.Slots.{Slots, adopted, empty_entry, inserted, is_empty, is_within, parent_at, recapped, relocated, with_parent}
use Rattle.model.specs.Kernel.Removal.{slot_count}
use Rattle.model.specs.Kernel.Retype.{NewObjects, first_capability, object, place_of_new, some_new, with_first_capabilities, with_new_slots}
use Rattle.model.specs.Kernel.State.{slot_of}

-- what is there has a parent, if it is a capability
abbrev pub Hangs : Option Entry → Type 0
Hangs o =
    not (is_empty (option_map_or (λ (held : Entry). held.capability) o Empty)) ≡ true
    → (parent : ℕ) × (option_map_or (λ (held : Entry). held.parent) o None ≡ Some parent)

pub empty-hangs : Hangs (Some empty_entry)
empty-hangs full = absurd (false≢true full)

pub closed-hangs : Hangs None
closed-hangs full = absurd (false≢true full)

adopted-hangs : (gone parent : ℕ) (o : Option Entry) → Hangs o → Hangs (option_map (adopted gone (Some parent)) o)
adopted-hangs gone parent None hangs = closed-hangs
adopted-hangs gone parent (Some held) hangs =
    elim (option_map_or (λ p. p == gone) held.parent false) as (λ b. Hangs (Some (if b then record held { parent = Some parent } else held))) [
      | true ↦ λ full. (parent, refl)
      | false ↦ hangs
    ]

module _ (own : ℕ → Type 0) where
  abbrev pub AllHang : Slots → Type 0
  AllHang slots = (slot : ℕ) → own slot → Hangs (slots slot)

  pub inserted-hang : (slots : Slots) (at parent : ℕ) (c : Cap) → AllHang slots → AllHang (inserted slots at c (Some parent))
  inserted-hang slots at parent c hang slot mine =
      elim (slot == at) as (λ b. Hangs (if b then Some (record { capability = c; parent = Some parent }) else slots slot)) [
        | true ↦ λ full. (parent, refl)
        | false ↦ hang slot mine
      ]

  pub recapped-hang : (slots : Slots) (at parent : ℕ) (c : Cap) → parent_at slots at ≡ Some parent → AllHang slots → AllHang (recapped slots at c)
  recapped-hang slots at parent c is hang slot mine =
      elim (slot == at) as (λ b. Hangs (if b then Some (record { capability = c; parent = parent_at slots at }) else slots slot)) [
        | true ↦ λ full. (parent, is)
        | false ↦ hang slot mine
      ]

  pub relocated-hang : (slots : Slots) (from to : ℕ) → own from → AllHang slots → AllHang (relocated slots from to)
  relocated-hang slots from to own_from hang slot mine =
      elim (slot == from) as (λ b. Hangs (if b then Some empty_entry else (if slot == to then slots from else with_parent slots from (Some to) slot))) [
        | true ↦ empty-hangs
        | false ↦ elim (slot == to) as (λ b. Hangs (if b then slots from else with_parent slots from (Some to) slot)) [
          | true ↦ hang from own_from
          | false ↦ adopted-hangs from to (slots slot) (hang slot mine)
        ]
      ]

  pub new-hang : (new : NewObjects) (window parent : ℕ) (slots : Slots) → AllHang slots
      → AllHang (with_first_capabilities new window parent (with_new_slots new slots))
  new-hang new window parent slots hang slot mine =
      elim (is_within window new.count slot) as (λ b. Hangs (if b
      then Some (record { capability = first_capability new.kind (place_of_new new (slot - window)); parent = Some parent })
      else with_new_slots new slots slot)) [
        | true ↦ λ full. (parent, refl)
        | false ↦ elim (some_new new (λ at. is_within (slot_of at 0) (slot_count (object new.kind)) slot)) as
            (λ b. Hangs (if b then Some empty_entry else slots slot)) [
              | true ↦ empty-hangs
              | false ↦ hang slot mine
            ]
      ]
