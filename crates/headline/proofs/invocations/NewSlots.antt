-- The slots after a Retype that opens none: those of the window hold the first capabilities below the pool, the pool has another
-- watermark, and all others are as they were.
use Rattle.std.proofs.Common.{get_or, ℕ, ◌≡◌, ◌∙◌, ◌==◌, ◌-◌, ◌<◌, ◌≤◌, inl, inr, true, false, if◌then◌else◌, Some, map, refl, sym, ap, arith}
use Rattle.std.specs.List.{range_with_len}
use Rattle.std.proofs.lemmas.Bool.{eq-eqb}
use Rattle.std.proofs.lemmas.Bool.Decides.{eqb_tells, nat_tests}
use Rattle.std.proofs.lemmas.List.Folds.{list_any_none}
use Rattle.model.specs.declared.capabilities.Cap.{Cap}
use Rattle.model.specs.declared.slot_entries.Entry.{Entry}
use Rattle.model.specs.Capabilities.Slots.{Slots, empty_entry, is_within, parent_at, recapped}
use Rattle.model.specs.Kernel.Removal.{slot_count}
use Rattle.model.specs.Kernel.Retype.{NewObjects, first_capability, object, place_of_new, with_first_capabilities, with_new_slots}
use Rattle.model.specs.Kernel.State.{slot_of}
use Rattle.soundness.proofs.Laws.{entry}

-- where a slot is: in the window, as the pool, or elsewhere
pub data Stands (window count pool x : ℕ) : Type 0 where
  as_new : is_within window count x ≡ true → Stands window count pool x
  as_pool : is_within window count x ≡ false → x ≡ pool → Stands window count pool x
  as_before : is_within window count x ≡ false → (x == pool) ≡ false → Stands window count pool x

pub stands : (window count pool x : ℕ) → Stands window count pool x
stands window count pool x = elim (is_within window count x) as (λ b. is_within window count x ≡ b → Stands window count pool x) [
  | true ↦ λ inside. as_new inside
  | false ↦ λ outside. elim (eqb_tells x pool) [ inl same ↦ as_pool outside same.1 | inr other ↦ as_before outside other.0 ]
] refl

pub index-of : (window count x : ℕ) → is_within window count x ≡ true → (window ≤ x) × (x - window < count)
index-of window count x is = (grind (arith, nat_tests), grind (arith, nat_tests))

nowhere : (first slot : ℕ) → is_within first 0 slot ≡ false
nowhere first slot = grind (arith, nat_tests)

module _ (new : NewObjects) (window pool : ℕ) (slots : Slots) (capability : Cap) (no_slots : slot_count (object new.kind) ≡ 0) where
  abbrev used : Slots
  used = recapped slots pool capability

  abbrev pub slots_behind : Slots
  slots_behind = with_first_capabilities new window pool (with_new_slots new used)

  none-opened : (x : ℕ) → with_new_slots new used x ≡ used x
  none-opened x = ap (λ b. if b then Some empty_entry else used x)
      (list_any_none (λ at. is_within (slot_of at 0) (slot_count (object new.kind)) x) (map (place_of_new new) (range_with_len 0 new.count))
      (λ k d less. ap (λ n. is_within (slot_of (get_or (map (place_of_new new) (range_with_len 0 new.count)) k d) 0) n x) no_slots ∙ nowhere _ x))

  abbrev first : ℕ → Entry
  first x = entry (first_capability new.kind (place_of_new new (x - window))) (Some pool)

  pub at-new : (x : ℕ) → is_within window new.count x ≡ true → slots_behind x ≡ Some (first x)
  at-new x inside = ap (λ b. if b then Some (first x) else with_new_slots new used x) inside

  at-used : (x : ℕ) → is_within window new.count x ≡ false → slots_behind x ≡ used x
  at-used x outside = ap (λ b. if b then Some (first x) else with_new_slots new used x) outside ∙ none-opened x

  pub at-pool : (x : ℕ) → is_within window new.count x ≡ false → x ≡ pool → slots_behind x ≡ Some (entry capability (parent_at slots x))
  at-pool x outside same =
      at-used x outside ∙ ap (λ b. if b then Some (entry capability (parent_at slots pool)) else slots x) (eq-eqb x pool same)
      ∙ ap (λ (y : ℕ). Some (entry capability (parent_at slots y))) (sym same)

  pub at-before : (x : ℕ) → is_within window new.count x ≡ false → (x == pool) ≡ false → slots_behind x ≡ slots x
  at-before x outside other = at-used x outside ∙ ap (λ b. if b then Some (entry capability (parent_at slots pool)) else slots x) other
