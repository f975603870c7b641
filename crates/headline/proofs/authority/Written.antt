-- What the world outside writes stays within authority, in every state.
use Rattle.std.proofs.Common.{ℕ, ◌≢◌, ◌+◌, ◌<◌, ◌≤◌, inl, inr, Bool, List, Option, sym, ap}
use Rattle.std.specs.Prelude.{IsSome}
use Rattle.headline.specs.authority.Events.{WithinWrite}
use Rattle.model.specs.Capabilities.Slots.{Slots}
use Rattle.model.specs.Kernel.State.{Object, State}
use Rattle.model.specs.Kernel.World.{world_writes}
use Rattle.soundness.specs.Machines.{SameBase, SameBesideBytes}
use Rattle.soundness.proofs.Laws.{IsWritten, written-beside, written-byte}

one-byte : (place other : ℕ) (old new : Option ℕ) → IsWritten place other old new → old ≢ new
    → (place ≤ other) × (other < place + 4) × IsSome old × IsSome new
one-byte place other old new (inl same) differs = absurd (differs (sym same))
one-byte place other old new (inr (first, last, was, is)) differs = (first, last, was, is)

pub write-within : (s : State) (place word : ℕ) → WithinWrite place s (world_writes s place word)
write-within s place word =
    let beside = written-beside s place word in
    let base = SameBesideBytes.base beside in
    record {
      memory_bits = SameBase.memory_bits base;
      boot_radix = SameBase.boot_radix base;
      slots = λ slot. ap (λ (slots : Slots). slots slot) (SameBase.slots base);
      objects = λ offset. ap (λ (objects : ℕ → Option Object). objects offset) (SameBesideBytes.objects beside);
      ready = λ priority. ap (λ (ready : ℕ → List ℕ). ready priority) (SameBesideBytes.ready beside);
      masked = λ number. ap (λ (masked : ℕ → Bool). masked number) (SameBesideBytes.masked beside);
      pending = λ number. ap (λ (pending : ℕ → Bool). pending number) (SameBesideBytes.pending beside);
      bytes = λ other. one-byte place other (s.bytes other) ((world_writes s place word).bytes other) (written-byte s place word other);
    }
