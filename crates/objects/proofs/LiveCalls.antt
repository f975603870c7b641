-- One call after another, and the objects beside the store.
use Rattle.std.proofs.Common.{ℕ, ◌≡◌, ◌∙◌, None, Option, Some, List, ap, sym}
use Rattle.std.specs.Option.{option_map_or}
use Rattle.model.specs.Capabilities.Slots.{Slots}
use Rattle.model.specs.Kernel.State.{ThreadState, new_thread}
use Rattle.objects.proofs.Frames.{objects-then}
use Rattle.objects.specs.Lives.{Parts, SameBeside}
use Rattle.objects.specs.declared.thread_records.reads.ThreadRecord.{ThreadRecord}
use Rattle.objects.specs.thread_records.Threads.{record_state}

pub beside-then : {S : Type 0} {held : S → Slots} {memory full : S → List ℕ} {old mid new : Parts S} → SameBeside held memory full old mid
    → SameBeside held memory full mid new → SameBeside held memory full old new
beside-then one two = record {
  slots = two.slots ∙ one.slots;
  order = two.order ∙ one.order;
  bytes = objects-then _ _ _ _ _ _ one.bytes two.bytes;
}

-- the thread that is read, if one is there
module _ (found : Option ThreadRecord) (t : ThreadState) (is : option_map_or record_state found new_thread ≡ t) where
  pub read-some : (r : ThreadRecord) → found ≡ Some r → record_state r ≡ t
  read-some r some = ap (λ (o : Option ThreadRecord). option_map_or record_state o new_thread) (sym some) ∙ is

  pub read-nobody : found ≡ None → new_thread ≡ t
  read-nobody none = ap (λ (o : Option ThreadRecord). option_map_or record_state o new_thread) (sym none) ∙ is
