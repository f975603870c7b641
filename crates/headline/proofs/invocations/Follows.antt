-- What a slot holds after a call follows from what one of the thread's slots held before.
use Rattle.std.proofs.Common.{ℕ, ◌≡◌, ◌∙◌, ◌⊎◌, inl, inr, false, Option, Some, None, refl, sym, ap}
use Rattle.std.specs.Option.{option_map_or}
use Rattle.std.proofs.lemmas.Option.{none-some}
use Rattle.model.specs.declared.capabilities.Cap.{Cap}
use Rattle.model.specs.declared.capabilities.Cap.TheVariants.{Empty}
use Rattle.model.specs.declared.capabilities.FrameMapping.{FrameMapping}
use Rattle.model.specs.declared.slot_entries.Entry.{Entry}
use Rattle.model.specs.Acceptance.Authority.{IsOwnSlot}
use Rattle.model.specs.Acceptance.ThreadInvariants.{root_table_of}
use Rattle.model.specs.Capabilities.CapabilityKinds.{frame_mapping, is_untyped}
use Rattle.model.specs.Capabilities.Slots.{capability_at, empty_entry, parent_at}
use Rattle.model.specs.Images.Described.{Numbered}
use Rattle.model.specs.Images.Image.{Image}
use Rattle.model.specs.Kernel.Kinds.{Names, object_named}
use Rattle.model.specs.Kernel.Retype.{NewFrame}
use Rattle.model.specs.Kernel.State.{State}

abbrev pub held_capability : Option Entry → Cap
held_capability held = option_map_or (λ h. h.capability) held Empty

abbrev pub held_parent : Option Entry → Option ℕ
held_parent held = option_map_or (λ h. h.parent) held None

module _ (image : Image) (t : Numbered) (s : State) where
  -- it derives from what that did, and is a pool if that is one, or it derives from a slot of the thread's and is none
  abbrev pub ParentFollows : ℕ → Cap → ℕ → Type 0
  ParentFollows from capability parent =
      ((parent_at s.slots from ≡ Some parent) × (is_untyped capability ≡ is_untyped (capability_at s.slots from)))
      ⊎ (IsOwnSlot image t.thread parent × (is_untyped capability ≡ false))

  pub record Follows (held : Option Entry) : Type 0 where
    pub from : ℕ
    pub own : IsOwnSlot image t.thread from
    pub frames : (frame : ℕ) → Names NewFrame frame (held_capability held) → Names NewFrame frame (capability_at s.slots from)
    pub maps : (mapping : FrameMapping) → frame_mapping (held_capability held) ≡ Some mapping
        → (frame_mapping (capability_at s.slots from) ≡ Some mapping) ⊎ (mapping.root ≡ root_table_of image t)
    pub parents : (parent : ℕ) → held_parent held ≡ Some parent → ParentFollows from (held_capability held) parent

  -- the same capability, below what it hung below or below a slot of the thread's
  pub follows-kept : (held : Option Entry) (from : ℕ) → IsOwnSlot image t.thread from → held_capability held ≡ capability_at s.slots from
      → ((parent : ℕ) → held_parent held ≡ Some parent
      → (parent_at s.slots from ≡ Some parent) ⊎ (IsOwnSlot image t.thread parent × (is_untyped (capability_at s.slots from) ≡ false)))
      → Follows held
  follows-kept held from own same above = record {
    from = from;
    own = own;
    frames = λ frame names. ap (λ (c : Cap). object_named c) (sym same) ∙ names;
    maps = λ mapping is. inl (ap frame_mapping (sym same) ∙ is);
    parents = λ parent is. elim (above parent is) [
      | inl there ↦ inl (there, ap is_untyped same)
      | inr own ↦ inr (own.0, ap is_untyped same ∙ own.1)
    ];
  }

  pub follows-same : (slot : ℕ) → IsOwnSlot image t.thread slot → Follows (s.slots slot)
  follows-same slot own = follows-kept (s.slots slot) slot own refl (λ parent is. inl is)

  -- nothing
  pub follows-empty : (slot : ℕ) → IsOwnSlot image t.thread slot → Follows (Some empty_entry)
  follows-empty slot own = record {
    from = slot;
    own = own;
    frames = λ frame clash. absurd (none-some _ clash);
    maps = λ mapping clash. absurd (none-some mapping clash);
    parents = λ parent clash. absurd (none-some parent clash);
  }
