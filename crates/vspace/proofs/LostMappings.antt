-- Slots that have lost mappings, and nothing else.
use Rattle.std.proofs.Common.{◌≡◌, ◌∙◌, ℕ, ◌==◌, ◌⊎◌, inl, inr, false, Option, Some, None, refl, sym, ap}
use Rattle.std.specs.Option.{option_map, option_map_or}
use Rattle.model.specs.Capabilities.CapabilityKinds.{object_of, unmapped}
use Rattle.model.specs.Capabilities.Slots.{Slots, capability_at}
use Rattle.model.specs.declared.capabilities.Cap.{Cap}
use Rattle.model.specs.declared.capabilities.Cap.TheVariants.{Empty, Untyped, Endpoint, Notification, CNode, Frame, PageTable, Tcb, RootTable, InterruptControl}
use Rattle.model.specs.declared.capabilities.Cap.TheVariants.{InterruptHandler}
use Rattle.model.specs.declared.capabilities.FrameMapping.{FrameMapping}
use Rattle.model.specs.declared.capabilities.TableMapping.{TableMapping}
use Rattle.model.specs.declared.rights.Rights.{Rights}
use Rattle.model.specs.declared.slot_entries.Entry.{Entry}
use Rattle.model.proofs.SlotChanges.{capability_of}
use Rattle.slots.specs.Listed.{is_naming}
use Rattle.vspace.specs.Regions.{unmapped_entry}
use Rattle.vspace.specs.Tables.{MapsTable}
use Rattle.vspace.proofs.EndedTables.{entry-unmapped, not_frame, not_table}

-- some slots have lost their mapping, and nothing else has changed
abbrev pub IsLess : Slots → Slots → Type 0
IsLess old now = (y : ℕ) → (now y ≡ option_map unmapped_entry (old y)) ⊎ (now y ≡ old y)

-- ---- capabilities

unmapped-twice : (c : Cap) → unmapped (unmapped c) ≡ unmapped c
unmapped-twice Empty = refl
unmapped-twice (Untyped _ _ _) = refl
unmapped-twice (Endpoint _ _ _) = refl
unmapped-twice (Notification _ _ _) = refl
unmapped-twice (CNode _ _ _) = refl
unmapped-twice (Frame _ _ _) = refl
unmapped-twice (PageTable _ _) = refl
unmapped-twice (Tcb _) = refl
unmapped-twice (RootTable _) = refl
unmapped-twice InterruptControl = refl
unmapped-twice (InterruptHandler _) = refl

pub entry-twice : (held : Option Entry) → option_map unmapped_entry (option_map unmapped_entry held) ≡ option_map unmapped_entry held
entry-twice None = refl
entry-twice (Some held) = ap (λ (c : Cap). Some (record { capability = c; parent = held.parent })) (unmapped-twice held.capability)

-- without its mapping a capability names the same object
pub object-unmapped : (c : Cap) → object_of (unmapped c) ≡ object_of c
object-unmapped Empty = refl
object-unmapped (Untyped _ _ _) = refl
object-unmapped (Endpoint _ _ _) = refl
object-unmapped (Notification _ _ _) = refl
object-unmapped (CNode _ _ _) = refl
object-unmapped (Frame _ _ _) = refl
object-unmapped (PageTable _ _) = refl
object-unmapped (Tcb _) = refl
object-unmapped (RootTable _) = refl
object-unmapped InterruptControl = refl
object-unmapped (InterruptHandler _) = refl

-- ---- slots that have lost mappings

pub less-then : (old now next : Slots) → IsLess old now → IsLess now next → IsLess old next
less-then old now next before after y = elim (after y) [
  | inr same ↦ elim (before y) [
    | inl less ↦ inl (same ∙ less)
    | inr kept ↦ inr (same ∙ kept)
  ]
  | inl gone ↦ elim (before y) [
    | inl less ↦ inl (gone ∙ ap (option_map unmapped_entry) less ∙ entry-twice (old y))
    | inr kept ↦ inl (gone ∙ ap (option_map unmapped_entry) kept)
  ]
]

module _ (old now : Slots) (less : IsLess old now) where
  pub less-names : (object y : ℕ) → is_naming now object y ≡ is_naming old object y
  less-names object y = ap (λ (o : Option ℕ). option_map_or (λ (named : ℕ). named == object) o false) (elim (less y) [
    | inl gone ↦ ap (λ (held : Option Entry). object_of (capability_of held)) gone ∙ ap object_of (entry-unmapped (old y))
        ∙ object-unmapped (capability_at old y)
    | inr same ↦ ap (λ (held : Option Entry). object_of (capability_of held)) same
  ])

  -- a page table that is mapped was mapped there before
  pub less-table : (y t : ℕ) (m : TableMapping) → capability_at now y ≡ PageTable t (Some m) → capability_at old y ≡ PageTable t (Some m)
  less-table y t m held = elim (less y) [
    | inl gone ↦ absurd (not_table (now y) (old y) t m gone held)
    | inr same ↦ sym (ap capability_of same) ∙ held
  ]

  -- and a frame too
  pub less-frame : (y f : ℕ) (r : Rights) (m : FrameMapping) → capability_at now y ≡ Frame f r (Some m) → capability_at old y ≡ Frame f r (Some m)
  less-frame y f r m held = elim (less y) [
    | inl gone ↦ absurd (not_frame (now y) (old y) f r m gone held)
    | inr same ↦ sym (ap capability_of same) ∙ held
  ]

  pub less-maps : (root region t : ℕ) → MapsTable now root region t → MapsTable old root region t
  less-maps root region t maps = record { slot = maps.slot; held = less-table maps.slot t _ maps.held }
