-- The bytes that deliveries change, and a message that is the same in two states.
use Rattle.std.proofs.Common.{ℕ, ◌≡◌, ◌+◌, ◌*◌, ◌%◌, ◌^◌, ◌<◌, ◌≤◌, ◌⊎◌, inl, inr, if◌then◌else◌, Option, sym, ◌∙◌, ap, subst, arith}
use Rattle.std.specs.Prelude.{IsSome, is_some, map, min, take}
use Rattle.model.specs.Kernel.Deliveries.{Arrives}
use Rattle.model.specs.Acceptance.Authority.{ByteChange, Delivers}
use Rattle.model.specs.Capabilities.CapabilityKinds.{frame_of}
use Rattle.model.specs.Capabilities.Slots.{Slots, capability_at}
use Rattle.model.specs.Images.Image.{Image, Thread}
use Rattle.model.specs.Kernel.Messages.{Message, a1, bytes_between, label_of, length_between, length_of, message_between, register_words, word_registers}
use Rattle.model.specs.Kernel.Soundness.{IsSound}
use Rattle.model.specs.Kernel.State.{State, buffer_slot, thread_at}
use Rattle.model.specs.Machine.ProgramMemory.{RegisterFile, read}
use Rattle.headline.proofs.kept.Laws.{IsCopied, buffer-bytes, copied-at, copied-here, length-few}

-- a delivery of the step changes the byte, which stays there
pub record ByDelivery (image : Image) (t : Thread) (s after : State) (place : ℕ) : Type 0 where
  pub from : ℕ
  pub to : ℕ
  pub delivers : Delivers image t s after from to
  pub copied : IsCopied s from to (length_between s from to) place (after.bytes place)
  pub there : IsSome (s.bytes place)
  pub still : IsSome (after.bytes place)

-- a byte stays, or a delivery changes it
abbrev pub StaysOrDelivered : Image → Thread → State → State → ℕ → Type 0
StaysOrDelivered image t s after place = (after.bytes place ≡ s.bytes place) ⊎ ByDelivery image t s after place

index-less : (index count : ℕ) → index < 4 * count → count ≤ 127 → index < 2 ^ 12
index-less index count less few = omega (arith, less, few)

module _ (image : Image) (t : Thread) (s after : State) where
  pub by-delivery : IsSound s → (from to place : ℕ) → Delivers image t s after from to
      → IsCopied s from to (length_between s from to) place (after.bytes place) → ByDelivery image t s after place
  by-delivery sound from to place delivers c =
      let less = index-less c.index (length_between s from to) c.last (length-few s from to) in
      record {
        from = from;
        to = to;
        delivers = delivers;
        copied = c;
        there = subst (λ (p : ℕ). IsSome (s.bytes p)) (sym c.at) (buffer-bytes s sound to c.target c.index c.of_receiver less);
        still = subst (λ (o : Option ℕ). IsSome o) (sym c.is) (buffer-bytes s sound from c.source c.index c.of_sender less);
      }

  -- the bytes are those after this delivery
  pub bytes-delivered : IsSound s → (from to : ℕ) → Delivers image t s after from to → after.bytes ≡ bytes_between s from to (length_between s from to)
      → (place : ℕ) → StaysOrDelivered image t s after place
  bytes-delivered sound from to delivers bytes place =
      let at = ap (λ (all : ℕ → Option ℕ). all place) bytes in
      elim (copied-at s from to (length_between s from to) place) [
        | inl same ↦ inl (at ∙ same)
        | inr c ↦ inr (by-delivery sound from to place delivers (subst (IsCopied s from to (length_between s from to) place) (sym at) c))
      ]

  pub within-delivery : (place : ℕ) → ByDelivery image t s after place → ByteChange image t s after place
  within-delivery place d =
      let c = d.copied in
      ByteChange.delivered d.there d.still d.from d.to c.index c.source c.target d.delivers c.of_sender c.of_receiver c.first c.last c.at c.is

-- all bytes of the message come where the bytes are those after it
pub arrives-so : (s after : State) (from to : ℕ) → after.bytes ≡ bytes_between s from to (length_between s from to) → Arrives s after from to
arrives-so s after from to bytes source target index one other first last =
    ap (λ (all : ℕ → Option ℕ). all (target + index)) bytes
    ∙ copied-here s from to (length_between s from to) source target index one other first last

-- ---- messages

abbrev longest : Slots → ℕ → ℕ
longest slots thread = if is_some (frame_of (capability_at slots (buffer_slot thread))) then 120 else register_words

abbrev message_in : RegisterFile → Slots → ℕ → ℕ → Message
message_in r slots from to =
    let info = read r a1 in record {
      label = label_of info;
      count = min (info % 2 ^ 7) (min (longest slots from) (longest slots to));
      words = map (read r) (take (length_of info) word_registers);
    }

-- where the sender's registers and all slots are the same
pub between-same : (s after : State) (from to : ℕ) → after.slots ≡ s.slots → (thread_at after from).registers ≡ (thread_at s from).registers
    → message_between after from to ≡ message_between s from to
between-same s after from to slots registers = λ i. message_in (registers i) (slots i) from to

pub length-same : (s after : State) (from to : ℕ) → after.slots ≡ s.slots → (thread_at after from).registers ≡ (thread_at s from).registers
    → length_between after from to ≡ length_between s from to
length-same s after from to slots registers = ap (λ (m : Message). m.count) (between-same s after from to slots registers)
