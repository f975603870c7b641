-- What filling a frame leaves is whole.
use Rattle.std.proofs.Common.{ℕ, suc, [], ◌∷◌, ◌≡◌, ◌^◌, ◌<◌, true, List, length}
use Rattle.std.specs.Prelude.{All, slice_index}
use Rattle.std.proofs.lemmas.List.Elements.{All-cons, All-nil}
use Rattle.kernel_invariant.specs.Wholeness.{IsWhole}
use Rattle.model.specs.Capabilities.Slots.{Slots}
use Rattle.objects.specs.Tables.{Tables, state_of}
use Rattle.soundness.proofs.Laws.{fill-whole}
use Rattle.user_memory.proofs.FilledFrames.{fill-agrees, fill-done, fill-stands, may_fill}
use Rattle.user_memory.specs.Fills.{AreWritten}

-- bytes one after another, and all of them
pub all-small : (bytes : List ℕ) → ((i : ℕ) → slice_index bytes i < 2 ^ 8) → All (λ byte. byte < 2 ^ 8) bytes
all-small [] each = All-nil (λ (n : ℕ). n < 2 ^ 8)
all-small (byte ∷ others) each = All-cons (λ (n : ℕ). n < 2 ^ 8) byte others (each 0) (all-small others (λ i. each (suc i)))

pub filled-whole : (o : Tables) (slots : Slots) (old new : List ℕ) (offset : ℕ) (bytes : List ℕ) → AreWritten old new offset (length bytes) bytes →
    IsWhole o slots old
    → All (λ byte. byte < 2 ^ 8) bytes → may_fill (state_of o slots old) offset (length bytes) ≡ true → IsWhole o slots new
filled-whole o slots old new offset bytes written whole small may = record {
  sound = fill-whole (state_of o slots old) (state_of o slots new) offset bytes whole.sound small
      (fill-done o slots old new offset bytes written whole.agrees whole.sound whole.stands may);
  agrees = fill-agrees o slots old new offset bytes written whole.agrees whole.sound whole.stands may;
  stands = fill-stands o slots old new offset bytes written whole.agrees whole.sound whole.stands may;
}
