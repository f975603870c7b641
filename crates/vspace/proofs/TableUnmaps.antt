-- A page table is unmapped once its region has no frames.
use Rattle.std.proofs.Common.{◌≡◌, ◌≢◌, ◌∙◌, ℕ, ◌+◌, ◌*◌, ◌/◌, ◌^◌, inl, inr, true, false, Option, Some, None, List, refl, sym, ap, subst}
use Rattle.std.specs.Option.{option_map, option_map_or}
use Rattle.std.proofs.lemmas.Bool.{eq-eqb}
use Rattle.std.proofs.lemmas.Bool.Decides.{eqb_tells}
use Rattle.model.specs.Capabilities.CapabilityWords.{IsCapability}
use Rattle.model.specs.Capabilities.CapabilityKinds.{table_mapping, unmapped}
use Rattle.model.specs.Kernel.Arguments.{Call}
use Rattle.model.specs.Kernel.MappingCalls.{lies_in_region, unmap_table, without_region, without_table}
use Rattle.model.specs.Kernel.State.{State, with_slots}
use Rattle.model.specs.Capabilities.Slots.{Slots, capability_at, parent_at, recapped}
use Rattle.model.specs.declared.capabilities.Cap.{Cap}
use Rattle.model.specs.declared.capabilities.Cap.TheVariants.{Empty, Frame, PageTable}
use Rattle.model.specs.declared.capabilities.FrameMapping.{FrameMapping}
use Rattle.model.specs.declared.capabilities.TableMapping.{TableMapping}
use Rattle.model.specs.declared.rights.Rights.{Rights}
use Rattle.model.specs.declared.slot_entries.Entry.{Entry}
use Rattle.model.proofs.SlotChanges.{capability_of, entry-other, entry-same, parent_of}
use Rattle.removal_laws.specs.Steps.{slots_unmapped}
use Rattle.vspace.specs.Regions.{IsDroppable}
use Rattle.vspace.specs.Tables.{TablesAgree}
use Rattle.vspace.proofs.TableRemovals.{TableRemoval, agree-table_unmapped}
use Rattle.vspace.proofs.Writes.{Written, same-outside}

pub region-empty : (now : Slots) (m : TableMapping) → ((y : ℕ) → lies_in_region m (capability_at now y) ≡ false) → (y f : ℕ) (r : Rights) (n : FrameMapping) →
    capability_at now y ≡ Frame f r (Some n) → n.root ≡ m.root → n.page / 2 ^ 10 ≡ m.region → ⊥
region-empty now m none y f r n held root region =
    let inside : lies_in_region m (Frame f r (Some n)) ≡ true = rw (eq-eqb n.root m.root root, eq-eqb (n.page / 2 ^ 10) m.region region) refl in
    let there : lies_in_region m (capability_at now y) ≡ true = ap (lies_in_region m) held ∙ inside in
    let outside = none y in
    cc

-- ---- the write

table-open : (slots : Slots) (x t : ℕ) (o : Option TableMapping) → capability_at slots x ≡ PageTable t o → slots x ≢ None
table-open slots x t o held = λ none. let e : PageTable t o ≡ Empty = sym held ∙ ap capability_of none in absurd (cc e)

pub unmap_table-done : (slots0 slots1 slots2 : Slots) (memory0 memory1 memory2 : List ℕ) (x t : ℕ) (m : TableMapping) → IsDroppable slots0 memory0 x t m →
    Written slots0 slots1 slots2 memory0 memory1 memory2 x (m.root + 4 * m.region) 0 (PageTable t None) → TablesAgree slots2 memory2
unmap_table-done slots0 slots1 slots2 memory0 memory1 memory2 x t m may done =
    let fine : IsCapability (PageTable t (Some m)) = subst (λ (c : Cap). IsCapability c) may.held (may.agree.valid x) in
    let step : TableRemoval slots0 memory0 memory2 x t m = record {
      agree = may.agree;
      was = may.held;
      is_open = table-open slots0 x t (Some m) may.held;
      fine = (fine.0, tt);
      empty = region-empty slots0 m may.none;
      same = same-outside slots0 slots1 slots2 memory0 memory1 memory2 x (m.root + 4 * m.region) 0 _ (m.root + 4 * m.region) 0 done refl refl;
    } in
    let new : slots2 ≡ recapped slots0 x (PageTable t None) = done.changed ∙ ap (λ (s : Slots). recapped s x (PageTable t None)) done.kept in
    subst (λ (s : Slots). TablesAgree s memory2) (sym new) (agree-table_unmapped slots0 memory0 memory2 x t m step)

-- ---- the slots

-- the frames are unmapped first and then the page table, or the other way round
module _ (old now : Slots) (x t : ℕ) (m : TableMapping) (cleared : (y : ℕ) → now y ≡ without_region old m y) (untouched : now x ≡ old x) where
  abbrev without : ℕ → Option ℕ → Option Entry
  without table parent = Some (record { capability = PageTable table None; parent = parent })

  own-unmapped : recapped now x (PageTable t None) x ≡ without_region (recapped old x (PageTable t None)) m x
  own-unmapped =
      entry-same now x (without t (parent_at now x))
      ∙ ap (λ (held : Option Entry). without t (parent_of held)) untouched
      ∙ sym (ap (option_map (without_table m)) (entry-same old x (without t (parent_at old x))))

  unmapped-at : (y : ℕ) → recapped now x (PageTable t None) y ≡ without_region (recapped old x (PageTable t None)) m y
  unmapped-at y = elim (eqb_tells y x) [
    | inl same ↦ subst (λ (n : ℕ). recapped now x (PageTable t None) n ≡ without_region (recapped old x (PageTable t None)) m n) (sym same.1) own-unmapped
    | inr other ↦
        entry-other now x (without t (parent_at now x)) y other.1
        ∙ cleared y
        ∙ sym (ap (option_map (without_table m)) (entry-other old x (without t (parent_at old x)) y other.1))
  ]

  pub unmapped-slots : recapped now x (PageTable t None) ≡ without_region (recapped old x (PageTable t None)) m
  unmapped-slots = λ i y. unmapped-at y i

-- the same as what the definition says of the slots, and of the call
module _ (old after : Slots) (x t : ℕ) (o : Option TableMapping) (m : TableMapping) (is : o ≡ Some m)
    (gone : after ≡ without_region (recapped old x (PageTable t None)) m) where
  pub unmapped-all : after ≡ slots_unmapped old x (PageTable t o)
  unmapped-all = gone ∙ sym (ap (λ (n : Option TableMapping). slots_unmapped old x (PageTable t n)) is)

  pub unmapped-call : (s : State) (call : Call) → call.slot ≡ x → call.capability ≡ PageTable t o → unmap_table (with_slots s old) call ≡ with_slots s after
  unmapped-call s call at held =
      ap (λ (c : Cap). option_map_or (λ (n : TableMapping). with_slots s (without_region (recapped old call.slot (unmapped c)) n)) (table_mapping c)
      (with_slots s old)) (held ∙ ap (PageTable t) is)
      ∙ ap (λ (y : ℕ). with_slots s (without_region (recapped old y (PageTable t None)) m)) at
      ∙ ap (λ (n : Slots). with_slots s n) (sym gone)
