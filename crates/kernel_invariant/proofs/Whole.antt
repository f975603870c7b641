-- A call on objects leaves what is whole whole: slots and kinds of objects stay, and only bytes of records change.
use Rattle.std.proofs.Common.{ℕ, ◌≡◌, ◌∙◌, List, sym, subst}
use Rattle.kernel_invariant.proofs.Agreeing.{agrees-less}
use Rattle.kernel_invariant.proofs.Lessened.{Lessened, less-same}
use Rattle.kernel_invariant.proofs.Steps.{tables-beside}
use Rattle.kernel_invariant.specs.Agreement.{Agrees}
use Rattle.kernel_invariant.specs.Wholeness.{IsWhole}
use Rattle.model.specs.Capabilities.Slots.{Slots}
use Rattle.model.specs.Kernel.Soundness.{IsSound}
use Rattle.model.specs.Kernel.State.{State}
use Rattle.objects.specs.Frames.{SameObjects}
use Rattle.objects.specs.Standing.{Standing}
use Rattle.objects.specs.Tables.{Tables, state_of}
use Rattle.vspace.specs.Tables.{TablesAgree}

pub whole-kept : (o n : Tables) (slots now : Slots) (old new : List ℕ) → IsWhole o slots old → IsSound (state_of n now new) → now ≡ slots
    → (state_of n now new).memory_bits ≡ (state_of o slots old).memory_bits → SameObjects (state_of o slots old) (state_of n now new) old new →
    Standing n now new → IsWhole n now new
unfolding state_of
whole-kept o n slots now old new whole after same_slots bits same stands =
    let s = state_of o slots old in
    let t = state_of n now new in
    record {
      sound = after;
      agrees = agrees-less s t old new whole.agrees
          (subst (λ (f : Slots). TablesAgree f new) (sym same_slots) (tables-beside s old new whole.agrees same.bytes)) bits same.bytes.size
          (subst (λ (f : Slots). Lessened s.slots f) (sym same_slots) (less-same s.slots))
          same.frames
          (λ offset kind is. sym (same.kinds offset) ∙ is);
      stands = stands;
    }

-- the same of a state and its bytes, whatever it is made of
pub agrees-kept : (s t : State) (old new : List ℕ) → Agrees s old → t.slots ≡ s.slots → t.memory_bits ≡ s.memory_bits → SameObjects s t old new → Agrees t new
agrees-kept s t old new agrees same_slots bits same =
    agrees-less s t old new agrees (subst (λ (f : Slots). TablesAgree f new) (sym same_slots) (tables-beside s old new agrees same.bytes)) bits same.bytes.size
    (subst (λ (f : Slots). Lessened s.slots f) (sym same_slots) (less-same s.slots)) same.frames (λ offset kind is. sym (same.kinds offset) ∙ is)
