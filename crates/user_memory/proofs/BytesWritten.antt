-- Bytes that are written where frames are change the state's bytes alone.
use Rattle.std.proofs.Common.{ℕ, ◌≡◌, ◌∙◌, ◌+◌, ◌-◌, ◌<◌, ◌≤◌, Bool, true, false, if◌then◌else◌, Option, None, IsSome, option_map, List, length, refl}
use Rattle.std.proofs.Common.{ap, subst}
use Rattle.std.specs.Prelude.{slice_index}
use Rattle.kernel_invariant.specs.Agreement.{Agrees}
use Rattle.model.proofs.SlotChanges.{within-bounds}
use Rattle.model.specs.Capabilities.Slots.{Slots, is_within}
use Rattle.model.specs.Kernel.Setup.{with_first_bytes}
use Rattle.model.specs.Kernel.State.{State}
use Rattle.objects.specs.Frames.{SameBesideFrames}
use Rattle.objects.specs.Standing.{Standing}
use Rattle.objects.specs.Tables.{Tables, state_of}
use Rattle.user_memory.proofs.Stored.{own-bytes, stored-agrees, stored-stands, stored-state}
use Rattle.user_memory.specs.Fills.{AreWritten}

filled-byte : (within : Bool) (b : Option ℕ) (byte old : ℕ) → option_map (λ _. old) b ≡ b
    → option_map (λ _. if within then byte else old) b ≡ (if within then option_map (λ _. byte) b else b)
filled-byte true b byte old own = refl
filled-byte false b byte old own = own

module _ (o : Tables) (slots : Slots) (old new : List ℕ) (offset : ℕ) (bytes : List ℕ) (written : AreWritten old new offset (length bytes) bytes)
    (stood : Standing o slots old)
    (some : (place : ℕ) → offset ≤ place → place < offset + length bytes → IsSome ((state_of o slots old).bytes place)) where
  abbrev before : State
  before = state_of o slots old

  -- where no frame is, nothing is written
  none-same : (place : ℕ) → before.bytes place ≡ None → slice_index new place ≡ slice_index old place
  none-same place none =
      written.bytes place ∙ elim (is_within offset (length bytes) place) as (λ b. is_within offset (length bytes) place ≡ b
      → (if b then slice_index bytes (place - offset) else slice_index old place) ≡ slice_index old place) [
        | true ↦ λ is.
            let bounds = within-bounds offset (length bytes) place is in
            let clash : IsSome {T = ℕ} None = subst (λ (b : Option ℕ). IsSome b) none (some place bounds.0 bounds.1) in
            absurd cc
        | false ↦ λ is. refl
      ] refl

  same-frames : SameBesideFrames before old new
  same-frames = record { size = written.size; bytes = none-same }

  pub written-state : state_of o slots new ≡ with_first_bytes before offset bytes
  written-state = stored-state o slots old new stood same-frames ∙ (λ i. record before {
    bytes = λ place. (ap (λ (byte : ℕ). option_map (λ _. byte) (before.bytes place)) (written.bytes place)
        ∙ filled-byte (is_within offset (length bytes) place) (before.bytes place) (slice_index bytes (place - offset)) (slice_index old place)
        (own-bytes o slots old place)) i;
  })

  pub written-agrees : Agrees before old → Agrees (state_of o slots new) new
  written-agrees agrees = stored-agrees o slots old new stood same-frames agrees

  pub written-stands : Standing o slots new
  written-stands = stored-stands o slots old new stood same-frames
