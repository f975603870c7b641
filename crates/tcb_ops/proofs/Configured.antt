-- What Configure leaves agrees as before.
use Rattle.std.proofs.Common.{ℕ, ◌≡◌, ◌∙◌, Option, Some, None, IsSome, List, refl, sym, ap, subst, arith}
use Rattle.kernel_invariant.proofs.Laws.{agrees-less, copy-agrees, follows-law, is-open, less-same, put-closes}
use Rattle.kernel_invariant.specs.Agreement.{Agrees}
use Rattle.kernel_invariant.specs.Wholeness.{Agreed}
use Rattle.model.proofs.SlotChanges.{capability_of, full-not-empty}
use Rattle.model.specs.Capabilities.CapabilityKinds.{frame_mapping, root_of}
use Rattle.model.specs.Capabilities.Slots.{SameOutside, Slots, capability_at, empty_entry}
use Rattle.model.specs.Kernel.Kinds.{kind_at, object_named}
use Rattle.model.specs.Kernel.Retype.{NewThread}
use Rattle.model.specs.Kernel.State.{State, ThreadState, cspace_slot, thread_at, vspace_slot, with_slots, with_thread}
use Rattle.model.specs.Kernel.ThreadCalls.{with_guard}
use Rattle.model.specs.declared.capabilities.Cap.{Cap}
use Rattle.objects.specs.Frames.{SameObjects}
use Rattle.objects.specs.Tables.{Tables, state_of}
use Rattle.soundness.proofs.Laws.{IsAlike, IsQuiet, alike-same, payload-alike, payload-mapping, root-quiet}
use Rattle.tcb_ops.proofs.Checks.{configured}
use Rattle.tcb_ops.proofs.Putting.{guarded-valid, quiet, still}
use Rattle.tcb_ops.specs.Configuring.{MayConfigure, cspace_put, spaces_put}
use Rattle.tcb_ops.specs.declared.spaces.Sources.{Sources}
use Rattle.vspace.proofs.Laws.{agree-beside}

-- ---- the copies

guarded-alike : (c : Cap) (guard : Option ℕ) → IsAlike c (with_guard c guard)
guarded-alike c None = alike-same c
guarded-alike c (Some word) = payload-alike c word

guarded-plain : (c : Cap) (guard : Option ℕ) → IsQuiet c → frame_mapping (with_guard c guard) ≡ None
guarded-plain c None plain = plain.unmapped
guarded-plain c (Some word) plain = payload-mapping c word ∙ plain.unmapped

root-plain : (c : Cap) → IsSome (root_of c) → IsQuiet c
root-plain c some = elim (root_of c) as (λ o. root_of c ≡ o → IsSome o → IsQuiet c) [
  | Some n ↦ λ is there. root-quiet c n is
  | None ↦ λ is there. absurd cc
] refl some

module _ (o : Tables) (slots : Slots) (old new : List ℕ) (thread : ℕ) (guard : Option ℕ) (from : Sources) (agreed : Agreed o slots old)
    (same : SameOutside slots old new) (may : MayConfigure slots thread guard from.cspace from.vspace) where
  table : Cap
  table = capability_at slots from.vspace

  one : Slots
  one = cspace_put slots thread guard from.cspace

  first-open : (slot : ℕ) → slots slot ≡ None → one slot ≡ None
  unfolding one
  first-open = put-closes slots (cspace_slot thread) (with_guard (capability_at slots from.cspace) guard) (Some from.cspace)
      (is-open slots (cspace_slot thread) empty_entry may.first)

  differs : vspace_slot thread ≡ cspace_slot thread → ⊥
  differs e = omega (arith, e)

  second-empty : one (vspace_slot thread) ≡ Some empty_entry
  unfolding one
  second-empty = still slots (cspace_slot thread) (with_guard (capability_at slots from.cspace) guard) (Some from.cspace) (vspace_slot thread) differs
      ∙ may.second

  table-still : capability_at one from.vspace ≡ table
  unfolding one table
  table-still =
      ap capability_of (still slots (cspace_slot thread) (with_guard (capability_at slots from.cspace) guard) (Some from.cspace) from.vspace
      (full-not-empty slots from.vspace (cspace_slot thread) may.vspace_full may.first))

  first-agrees : Agreed o one new
  unfolding one
  first-agrees =
      let held = capability_at slots from.cspace in
      let plain = quiet held may.is_cnode in
      let alike = guarded-alike held guard in
      copy-agrees o slots old new (cspace_slot thread) from.cspace (with_guard held guard) agreed same may.first
      (guarded-valid held guard (may.derivation.valid from.cspace) may.is_cnode may.fits) (alike.single ∙ plain.single) (guarded-plain held guard plain)
      alike.object

  second-agrees : Agreed o (spaces_put slots thread guard from.cspace from.vspace) new
  unfolding one table
  second-agrees =
      let plain = root-plain (capability_at slots from.vspace) may.is_root in
      copy-agrees o one new new (vspace_slot thread) from.vspace (capability_at slots from.vspace) first-agrees
      (record { size = refl; bytes = λ place none. refl }) second-empty
      (may.derivation.valid from.vspace) plain.single plain.unmapped (ap object_named (sym table-still))

  pub put-agrees : (now : Slots) → now ≡ spaces_put slots thread guard from.cspace from.vspace → Agreed o now new
  put-agrees now is = subst (λ (n : Slots). Agreed o n new) (sym is) second-agrees

  both-closed : (slot : ℕ) → slots slot ≡ None → spaces_put slots thread guard from.cspace from.vspace slot ≡ None
  unfolding one
  both-closed slot none =
      put-closes one (vspace_slot thread) (capability_at slots from.vspace) (Some from.vspace) (is-open one (vspace_slot thread) empty_entry second-empty) slot
      (first-open slot none)

  pub put-state : (now : Slots) → now ≡ spaces_put slots thread guard from.cspace from.vspace
      → state_of o now new ≡ with_slots (state_of o slots old) (spaces_put slots thread guard from.cspace from.vspace)
  put-state now is = ap (λ (n : Slots). state_of o n new) is
      ∙ follows-law o slots (spaces_put slots thread guard from.cspace from.vspace) old new agreed same both-closed

  pub thread-still : (now : Slots) → now ≡ spaces_put slots thread guard from.cspace from.vspace → kind_at (state_of o slots old) thread ≡ Some NewThread
      → kind_at (state_of o now new) thread ≡ Some NewThread
  thread-still now is there = ap (λ (s : State). kind_at s thread) (put-state now is) ∙ there

  -- the state, once the thread has its fault address
  pub configured-state : (now : Slots) (t : State) (fault_address : ℕ) → now ≡ spaces_put slots thread guard from.cspace from.vspace
      → t ≡ with_thread (state_of o now new) thread (record (thread_at (state_of o now new) thread) { fault_address = fault_address })
      → configured (state_of o slots old) thread guard fault_address from ≡ t
  unfolding state_of
  configured-state now t fault_address is set =
      sym (set ∙ ap (λ (s : State). with_thread s thread (record (thread_at s thread) { fault_address = fault_address })) (put-state now is))

-- ---- a thread changes

pub thread-agrees : (s t : State) (thread : ℕ) (after : ThreadState) (old new : List ℕ) → Agrees s old → SameObjects s t old new →
    t ≡ with_thread s thread after → Agrees t new
thread-agrees s t thread after old new agrees same is =
    subst (λ (u : State). Agrees u new) (sym is)
    (agrees-less s (with_thread s thread after) old new agrees
    (agree-beside s.slots old new agrees.tables (record {
      size = same.bytes.size;
      bytes = λ table place named low high.
          same.bytes.bytes place (agrees.frames table place named low high)
          (λ offset kind there kept. agrees.records table place offset kind named low high there kept);
    }))
    refl same.bytes.size (less-same s.slots) (λ place none. none) (λ offset kind at. sym (same.kinds offset) ∙ ap (λ (u : State). kind_at u offset) is ∙ at))
