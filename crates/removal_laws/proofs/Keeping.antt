-- What a removal keeps of a capability: all but a mapping, or the watermark of untyped memory.
use Rattle.std.proofs.Common.{ℕ, ◌≡◌, ◌∙◌, true, false, if◌then◌else◌, Option, Some, None, option_map, refl, sym, ap}
use Rattle.model.specs.declared.capabilities.Cap.{Cap}
use Rattle.model.specs.declared.capabilities.Cap.TheVariants.{Empty, Untyped, Endpoint, Notification, CNode, Frame, PageTable, Tcb, RootTable, InterruptControl}
use Rattle.model.specs.declared.capabilities.Cap.TheVariants.{InterruptHandler}
use Rattle.model.specs.declared.capabilities.FrameMapping.{FrameMapping}
use Rattle.model.specs.declared.capabilities.TableMapping.{TableMapping}
use Rattle.model.specs.declared.rights.Rights.{Rights}
use Rattle.model.specs.declared.slot_entries.Entry.{Entry}
use Rattle.model.specs.Capabilities.Slots.{capability_at, empty_entry, parent_at}
use Rattle.model.specs.Kernel.Removal.{SlotSet, ancestor_outside, emptied, frame_loses, kept, kept_entry, new_parent, table_loses}
use Rattle.model.specs.Kernel.State.{State}
use Rattle.model.proofs.SlotChanges.{capability_of, parent_of}
use Rattle.removal_laws.proofs.Parents.{outside-none}

-- what a watermark and a mapping do not change
pub kept-test : {A : Type 0} (of : Cap → A) → ((o b v w : ℕ) → of (Untyped o b v) ≡ of (Untyped o b w)) →
    ((f : ℕ) (r : Rights) (m n : Option FrameMapping) → of (Frame f r m) ≡ of (Frame f r n)) →
    ((t : ℕ) (m n : Option TableMapping) → of (PageTable t m) ≡ of (PageTable t n))
    → (s : State) (set : SlotSet) (slot : ℕ) (c : Cap) → of (kept s set slot c) ≡ of c
kept-test of untyped frame table s set slot Empty = refl
kept-test of untyped frame table s set slot (Untyped o b w) = untyped o b _ w
kept-test of untyped frame table s set slot (Endpoint o r b) = refl
kept-test of untyped frame table s set slot (Notification o r b) = refl
kept-test of untyped frame table s set slot (CNode o r g) = refl
kept-test of untyped frame table s set slot (Frame f r None) = refl
kept-test of untyped frame table s set slot (Frame f r (Some m)) =
    elim (frame_loses s set m) as (λ b. of (if b then Frame f r None else Frame f r (Some m)) ≡ of (Frame f r (Some m))) [
      | true ↦ frame f r None (Some m)
      | false ↦ refl
    ]
kept-test of untyped frame table s set slot (PageTable t None) = refl
kept-test of untyped frame table s set slot (PageTable t (Some m)) =
    elim (table_loses s set m) as (λ b. of (if b then PageTable t None else PageTable t (Some m)) ≡ of (PageTable t (Some m))) [
      | true ↦ table t None (Some m)
      | false ↦ refl
    ]
kept-test of untyped frame table s set slot (Tcb o) = refl
kept-test of untyped frame table s set slot (RootTable o) = refl
kept-test of untyped frame table s set slot InterruptControl = refl
kept-test of untyped frame table s set slot (InterruptHandler line) = refl

-- ---- slots that stay, and slots of the set

abbrev pub there : State → SlotSet → ℕ → Option Entry
there s set slot = (emptied s set).slots slot

pub there-in : (s : State) (set : SlotSet) (slot : ℕ) → set slot ≡ true → there s set slot ≡ Some empty_entry
there-in s set slot member = ap (λ b. if b then Some empty_entry else option_map (kept_entry s set slot) (s.slots slot)) member

pub there-out : (s : State) (set : SlotSet) (slot : ℕ) → set slot ≡ false → there s set slot ≡ option_map (kept_entry s set slot) (s.slots slot)
there-out s set slot stays = ap (λ b. if b then Some empty_entry else option_map (kept_entry s set slot) (s.slots slot)) stays

entry-capability : (s : State) (set : SlotSet) (slot : ℕ) (o : Option Entry) →
    capability_of (option_map (kept_entry s set slot) o) ≡ kept s set slot (capability_of o)
entry-capability s set slot None = refl
entry-capability s set slot (Some held) = refl

pub capability-out : (s : State) (set : SlotSet) (slot : ℕ) → set slot ≡ false →
    capability_at (emptied s set).slots slot ≡ kept s set slot (capability_at s.slots slot)
capability-out s set slot stays = ap capability_of (there-out s set slot stays) ∙ entry-capability s set slot (s.slots slot)

entry-parent : (s : State) (set : SlotSet) (slot : ℕ) (o : Option Entry) → s.slots slot ≡ o →
    parent_of (option_map (kept_entry s set slot) o) ≡ new_parent s set slot
entry-parent s set slot None is = sym (ap (λ (e : Option Entry). ancestor_outside 256 set s.slots (parent_of e)) is ∙ outside-none 256 set s.slots)
entry-parent s set slot (Some held) is = refl

pub parent-out : (s : State) (set : SlotSet) (slot : ℕ) → set slot ≡ false → parent_at (emptied s set).slots slot ≡ new_parent s set slot
parent-out s set slot stays = ap parent_of (there-out s set slot stays) ∙ entry-parent s set slot (s.slots slot) refl
