-- A call on objects by its definition leaves what is consistent consistent.
use Rattle.std.proofs.Common.{ℕ, ◌≡◌, ◌∙◌, List, sym, ap, subst}
use Rattle.cnode_ops.specs.object_lifetimes.Kernels.{IsConsistent}
use Rattle.kernel_invariant.proofs.Laws.{agrees-kept}
use Rattle.kernel_invariant.specs.Agreement.{Agrees}
use Rattle.kernel_invariant.specs.Wholeness.{IsWhole}
use Rattle.model.specs.Capabilities.Slots.{Slots}
use Rattle.model.specs.Kernel.Soundness.{IsSound}
use Rattle.model.specs.Kernel.State.{State}
use Rattle.objects.specs.Lives.{Parts, SameBeside, state_in}
use Rattle.objects.specs.Standing.{Standing}
use Rattle.objects.specs.Tables.{Tables, state_of}
use Rattle.soundness.specs.Machines.{SameBase}

pub kept : {S : Type 0} {held : S → Slots} {memory full : S → List ℕ} {old new : Parts S} (u : State) →
    IsConsistent (state_in held memory old) (memory old.store)
    → SameBeside held memory full old new → state_in held memory new ≡ u → IsSound u → SameBase (state_in held memory old) u
    → IsConsistent (state_in held memory new) (memory new.store)
kept {held = held} {memory = memory} {old = old} {new = new} u before beside is sound base = record {
  sound = subst IsSound (sym is) sound;
  agrees = agrees-kept (state_in held memory old) (state_in held memory new) _ _ before.agrees (ap (λ (x : State). x.slots) is ∙ base.slots)
      (ap (λ (x : State). x.memory_bits) is ∙ base.memory_bits) beside.bytes;
}

-- objects that fit their store are whole in a state that is consistent
pub whole-of : {S : Type 0} (held : S → Slots) (memory : S → List ℕ) {live : Parts S} (o : Tables) (store : S) →
    IsConsistent (state_in held memory live) (memory live.store)
    → record { store = store; tables = o } ≡ live → Standing o (held store) (memory store) → IsWhole o (held store) (memory store)
whole-of {S} held memory {live} o store now is stands = record {
  sound = subst (λ (k : Parts S). IsSound (state_in held memory k)) (sym is) now.sound;
  agrees = subst (λ (k : Parts S). Agrees (state_in held memory k) (memory k.store)) (sym is) now.agrees;
  stands = stands;
}

pub consistent-of : {o : Tables} {slots : Slots} {memory : List ℕ} → IsWhole o slots memory → IsConsistent (state_of o slots memory) memory
consistent-of whole = record { sound = whole.sound; agrees = whole.agrees }
