-- What slots hold, and derive from, after a removal.
use Rattle.std.proofs.Common.{ℕ, ◌≡◌, ◌∙◌, Bool, true, false, if◌then◌else◌, Option, Some, None, option_map, refl, sym, ap}
use Rattle.std.specs.Option.{option_map_or}
use Rattle.model.specs.Capabilities.CapabilityKinds.{frame_mapping, is_untyped}
use Rattle.model.specs.Capabilities.Slots.{capability_at, empty_entry, parent_at}
use Rattle.model.specs.Kernel.Removal.{SlotSet, ancestor_outside, kept, kept_entry, new_parent, slots_emptied}
use Rattle.model.specs.Kernel.State.{State}
use Rattle.model.specs.declared.capabilities.Cap.{Cap}
use Rattle.model.specs.declared.capabilities.Cap.TheVariants.{Empty, Untyped, Endpoint, Notification, CNode, Frame, PageTable, Tcb, RootTable, InterruptControl}
use Rattle.model.specs.declared.capabilities.Cap.TheVariants.{InterruptHandler}
use Rattle.model.specs.declared.capabilities.FrameMapping.{FrameMapping}
use Rattle.model.specs.declared.rights.Rights.{Rights}
use Rattle.model.specs.declared.slot_entries.Entry.{Entry}
use Rattle.removal_laws.proofs.Laws.{outside-none}
use Rattle.typestate.proofs.Laws.{reset}

module _ (s : State) (set : SlotSet) (slot : ℕ) where
  pub capability-left : capability_at (slots_emptied s set) slot ≡ (if set slot then Empty else kept s set slot (capability_at s.slots slot))
  capability-left = by-entry (set slot) (s.slots slot)
    where
      by-entry : (b : Bool) (o : Option Entry)
          → option_map_or (λ h. h.capability) (if b then Some empty_entry else option_map (kept_entry s set slot) o) Empty
          ≡ (if b then Empty else kept s set slot (option_map_or (λ h. h.capability) o Empty))
      by-entry true o = refl
      by-entry false None = refl
      by-entry false (Some held) = refl

  pub parent-left : parent_at (slots_emptied s set) slot ≡ (if set slot then None else new_parent s set slot)
  parent-left = by-set (set slot)
    where
      by-entry : (o : Option Entry) → s.slots slot ≡ o → option_map_or (λ h. h.parent) (option_map (kept_entry s set slot) o) None ≡ new_parent s set slot
      by-entry None none =
          sym (ap (λ (o : Option Entry). ancestor_outside 256 set s.slots (option_map_or (λ h. h.parent) o None)) none ∙ outside-none 256 set s.slots)
      by-entry (Some held) some = refl

      by-set : (b : Bool)
          → option_map_or (λ h. h.parent) (if b then Some empty_entry else option_map (kept_entry s set slot) (s.slots slot)) None
          ≡ (if b then None else new_parent s set slot)
      by-set true = refl
      by-set false = by-entry (s.slots slot) refl

-- ---- untyped memory that is unused again is still what it was

pub reset-none : (c : Cap) → reset false c ≡ c
reset-none Empty = refl
reset-none (Untyped _ _ _) = refl
reset-none (Endpoint _ _ _) = refl
reset-none (Notification _ _ _) = refl
reset-none (CNode _ _ _) = refl
reset-none (Frame _ _ _) = refl
reset-none (PageTable _ _) = refl
reset-none (Tcb _) = refl
reset-none (RootTable _) = refl
reset-none InterruptControl = refl
reset-none (InterruptHandler _) = refl

pub reset-untyped : (b : Bool) (c : Cap) → is_untyped (reset b c) ≡ is_untyped c
reset-untyped b Empty = refl
reset-untyped b (Untyped _ _ _) = refl
reset-untyped b (Endpoint _ _ _) = refl
reset-untyped b (Notification _ _ _) = refl
reset-untyped b (CNode _ _ _) = refl
reset-untyped b (Frame _ _ _) = refl
reset-untyped b (PageTable _ _) = refl
reset-untyped b (Tcb _) = refl
reset-untyped b (RootTable _) = refl
reset-untyped b InterruptControl = refl
reset-untyped b (InterruptHandler _) = refl

pub reset-frame : (b : Bool) (c : Cap) (frame : ℕ) (held : Rights) (mapping : Option FrameMapping) → reset b c ≡ Frame frame held mapping
    → c ≡ Frame frame held mapping
reset-frame b Empty frame held mapping is = is
reset-frame b (Untyped _ _ _) frame held mapping is = absurd cc
reset-frame b (Endpoint _ _ _) frame held mapping is = is
reset-frame b (Notification _ _ _) frame held mapping is = is
reset-frame b (CNode _ _ _) frame held mapping is = is
reset-frame b (Frame _ _ _) frame held mapping is = is
reset-frame b (PageTable _ _) frame held mapping is = is
reset-frame b (Tcb _) frame held mapping is = is
reset-frame b (RootTable _) frame held mapping is = is
reset-frame b InterruptControl frame held mapping is = is
reset-frame b (InterruptHandler _) frame held mapping is = is

pub reset-mapping : (b : Bool) (c : Cap) → frame_mapping (reset b c) ≡ frame_mapping c
reset-mapping b Empty = refl
reset-mapping b (Untyped _ _ _) = refl
reset-mapping b (Endpoint _ _ _) = refl
reset-mapping b (Notification _ _ _) = refl
reset-mapping b (CNode _ _ _) = refl
reset-mapping b (Frame _ _ _) = refl
reset-mapping b (PageTable _ _) = refl
reset-mapping b (Tcb _) = refl
reset-mapping b (RootTable _) = refl
reset-mapping b InterruptControl = refl
reset-mapping b (InterruptHandler _) = refl
