-- Copies come into the slots of a thread, one after the other.
use Rattle.std.proofs.Common.{ℕ, ◌≡◌, ◌∙◌, ◌==◌, ◌/◌, ◌<◌, inl, inr, true, if◌then◌else◌, is_some, Option, Some, None, refl, sym, ap, arith}
use Rattle.std.proofs.lemmas.Bool.Decides.{eqb_tells}
use Rattle.model.proofs.Depths.{depth-leaf}
use Rattle.model.proofs.SlotChanges.{capability_of, full-not-empty, parent_of}
use Rattle.model.specs.Capabilities.CapabilityKinds.{cnode_of, object_of}
use Rattle.model.specs.Capabilities.CapabilityWords.{IsCapability}
use Rattle.model.specs.Capabilities.Slots.{IsDerivation, IsFull, Slots, depth_of, empty_entry, inserted, parent_at}
use Rattle.model.specs.Kernel.State.{cspace_slot}
use Rattle.model.specs.Kernel.ThreadCalls.{given_guard_fits, with_guard}
use Rattle.model.specs.declared.capabilities.Cap.{Cap}
use Rattle.model.specs.declared.capabilities.Cap.TheVariants.{Empty, Untyped, Endpoint, Notification, CNode, Frame, PageTable, Tcb, RootTable, InterruptControl}
use Rattle.model.specs.declared.capabilities.Cap.TheVariants.{InterruptHandler}
use Rattle.model.specs.declared.slot_entries.Entry.{Entry}
use Rattle.slots.specs.Kin.{object_at}
use Rattle.soundness.proofs.Laws.{IsQuiet, cnode-quiet, no-badge, payload-valid}

-- ---- the copy of the CNode's capability

pub quiet : (c : Cap) → is_some (cnode_of c) ≡ true → IsQuiet c
quiet c some = elim (cnode_of c) as (λ o. cnode_of c ≡ o → is_some o ≡ true → IsQuiet c) [
  | Some n ↦ λ is there. cnode-quiet c n is
  | None ↦ λ is there. absurd cc
] refl some

pub guarded-valid : (c : Cap) (guard : Option ℕ) → IsCapability c → is_some (cnode_of c) ≡ true → given_guard_fits c guard ≡ true →
    IsCapability (with_guard c guard)
guarded-valid c None valid node fits = valid
guarded-valid c (Some word) valid node fits = payload-valid c word valid (no-badge c word (quiet c node).silent) fits

-- it names the CNode that it named
pub guarded-object : (c : Cap) (guard : Option ℕ) → object_of (with_guard c guard) ≡ object_of c
guarded-object c None = refl
guarded-object Empty (Some word) = refl
guarded-object (Untyped o b w) (Some word) = refl
guarded-object (Endpoint o r b) (Some word) = refl
guarded-object (Notification o r b) (Some word) = refl
guarded-object (CNode o r g) (Some word) = refl
guarded-object (Frame f r m) (Some word) = refl
guarded-object (PageTable t m) (Some word) = refl
guarded-object (Tcb o) (Some word) = refl
guarded-object (RootTable o) (Some word) = refl
guarded-object InterruptControl (Some word) = refl
guarded-object (InterruptHandler line) (Some word) = refl

-- ---- the other slots

abbrev held : Option Entry → Slots → ℕ → ℕ → Option Entry
held e slots slot other = if other == slot then e else slots other

pub still : (slots : Slots) (slot : ℕ) (made : Cap) (parent : Option ℕ) (other : ℕ) → (other ≡ slot → ⊥) → inserted slots slot made parent other ≡ slots other
still slots slot made parent other differs = elim (eqb_tells other slot) [
  | inl here ↦ absurd (differs here.1)
  | inr apart ↦ ap (λ b. if b then Some (record { capability = made; parent = parent }) else slots other) apart.0
]

pub same-depth : (slots : Slots) (slot : ℕ) (made : Cap) (parent : Option ℕ) (other : ℕ) → IsDerivation slots → slots slot ≡ Some empty_entry →
    (other ≡ slot → ⊥)
    → depth_of (inserted slots slot made parent) other ≡ depth_of slots other
same-depth slots slot made parent other derivation empty differs =
    depth-leaf 256 (parent_at slots) (parent_at (inserted slots slot made parent)) slot (λ y apart. ap parent_of (still slots slot made parent y apart))
    (λ y p is. full-not-empty slots p slot (derivation.parent_full y p is) empty) other differs

pub room-still : (slots now : Slots) (slot : ℕ) (made : Cap) (parent : Option ℕ) (thread other : ℕ) → IsDerivation slots →
    slots (cspace_slot thread) ≡ Some empty_entry
    → slot ≡ thread / 16 → IsFull slots other → depth_of slots other < 255 → now ≡ inserted slots slot made parent → depth_of now other < 255
room-still slots now slot made parent thread other derivation empty at full room is =
    let own : cspace_slot thread ≡ slot = omega (arith, at) in
    let free : slots slot ≡ Some empty_entry = ap slots (sym own) ∙ empty in
    let deep = ap (λ (n : Slots). depth_of n other) is ∙ same-depth slots slot made parent other derivation free (full-not-empty slots other slot full free) in
    omega (arith, deep, room)

-- another slot names what it named
pub object-still : (slots now : Slots) (slot : ℕ) (made : Cap) (parent : Option ℕ) (thread other : ℕ) → slots (cspace_slot thread) ≡ Some empty_entry
    → slot ≡ thread / 16 → IsFull slots other → now ≡ inserted slots slot made parent → object_at now other ≡ object_at slots other
object-still slots now slot made parent thread other empty at full is =
    let own : cspace_slot thread ≡ slot = omega (arith, at) in
    let free : slots slot ≡ Some empty_entry = ap slots (sym own) ∙ empty in
    ap (λ (n : Slots). object_at n other) is ∙ ap (λ e. object_of (capability_of e))
    (still slots slot made parent other (full-not-empty slots other slot full free))
