-- A word that the world outside stores lies in a frame.
use Rattle.std.proofs.Common.{ℕ, ◌≡◌, ◌∙◌, ◌+◌, ◌%◌, ◌^◌, ◌<◌, ◌≤◌, true, false, if◌then◌else◌, Some, IsSome, List, length, sym, ap, subst, arith}
use Rattle.std.specs.Prelude.{nat_le}
use Rattle.std.proofs.lemmas.Bool.{and_parts, leb-true}
use Rattle.std.proofs.Math.Pow.{pow_mono}
use Rattle.kernel_invariant.specs.Agreement.{Agrees}
use Rattle.kernel_invariant.specs.Wholeness.{IsWhole}
use Rattle.model.specs.Capabilities.Slots.{OutsideSlots, Slots}
use Rattle.model.specs.Kernel.AddressSpaces.{page_size}
use Rattle.model.specs.Kernel.Kinds.{frame_around, kind_at}
use Rattle.model.specs.Kernel.Retype.{NewFrame}
use Rattle.model.specs.Kernel.Setup.{is_frame_object, with_first_bytes}
use Rattle.model.specs.Kernel.Soundness.{IsSound}
use Rattle.model.specs.Kernel.State.{State}
use Rattle.model.specs.Kernel.World.{is_word_of_frame, world_writes}
use Rattle.model.specs.Shared.Bytes.{word_bytes}
use Rattle.objects.specs.Tables.{Tables, state_of}
use Rattle.soundness.proofs.Laws.{object-inside, written-whole}
use Rattle.user_memory.proofs.BytesWritten.{written-agrees, written-stands, written-state}
use Rattle.user_memory.proofs.FilledFrames.{frame-kind}
use Rattle.user_memory.proofs.Named.{place-outside}
use Rattle.user_memory.specs.Fills.{AreWritten}

pub nothing-written : (s : State) (place word : ℕ) → is_word_of_frame s place ≡ false → s ≡ world_writes s place word
unfolding world_writes
nothing-written s place word none = sym (ap (λ b. if b then with_first_bytes s place (word_bytes word) else s) none)

module _ (s : State) (memory bytes : List ℕ) (place word : ℕ) (is : bytes ≡ word_bytes word) (agrees : Agrees s memory) (sound : IsSound s)
    (may : is_word_of_frame s place ≡ true) where
  four : length bytes ≡ 4
  four = ap (λ (l : List ℕ). length l) is

  kind : kind_at s (frame_around place) ≡ Some NewFrame
  kind =
      frame-kind (s.objects (frame_around place))
      ((and_parts (is_frame_object (s.objects (frame_around place))) (nat_le (place % page_size + 4) page_size) may).0)

  few : place % page_size + 4 ≤ page_size
  few =
      leb-true (place % page_size + 4) page_size
      ((and_parts (is_frame_object (s.objects (frame_around place))) (nat_le (place % page_size + 4) page_size) may).1)

  pub word-within : place + length bytes ≤ length memory
  word-within =
      let whole = (object-inside s sound.memory (frame_around place) NewFrame kind).1 in
      omega (arith, whole, few, agrees.size, four)

  pub word-most : length memory ≤ 2 ^ 24
  word-most =
      let most : 2 ^ s.memory_bits ≤ 2 ^ 24 = pow_mono sound.shape.most_bits in
      omega (arith, most, agrees.size)

  pub word-some : (other : ℕ) → place ≤ other → other < place + length bytes → IsSome (s.bytes other)
  word-some other low high =
      let around : frame_around other ≡ frame_around place = omega (arith, few, low, high, four) in
      (sound.memory.bytes other).1 (ap (kind_at s) around ∙ kind)

  pub word-outside : OutsideSlots s.slots place (length bytes)
  word-outside other low high = place-outside s memory other agrees (word-some other low high) other (omega arith) (omega arith)

module _ (o : Tables) (slots : Slots) (old new bytes : List ℕ) (place word : ℕ) (is : bytes ≡ word_bytes word)
    (written : AreWritten old new place (length bytes) bytes) (whole : IsWhole o slots old) (may : is_word_of_frame (state_of o slots old) place ≡ true) where
  abbrev before : State
  before = state_of o slots old

  some : (other : ℕ) → place ≤ other → other < place + length bytes → IsSome (before.bytes other)
  some other low high = word-some before old bytes place word is whole.agrees whole.sound may other low high

  pub word-done : state_of o slots new ≡ world_writes before place word
  unfolding world_writes
  word-done =
      written-state o slots old new place bytes written whole.stands some ∙ ap (with_first_bytes before place) is
      ∙ sym (ap (λ b. if b then with_first_bytes before place (word_bytes word) else before) may)

  pub word-whole : IsWhole o slots new
  word-whole = record {
    sound = subst IsSound (sym word-done) (written-whole before place word whole.sound);
    agrees = written-agrees o slots old new place bytes written whole.stands some whole.agrees;
    stands = written-stands o slots old new place bytes written whole.stands some;
  }
