-- The bytes after a delivery are where they were, and below 2^8: words are copied between frames that are there.
use Rattle.std.proofs.Common.{ℕ, ◌≡◌, ◌∙◌, ◌+◌, ◌-◌, ◌*◌, ◌%◌, ◌^◌, ◌<◌, ◌≤◌, min, true, false, is_some, if◌then◌else◌, Option, Some, None, refl, sym, ap}
use Rattle.std.proofs.Common.{subst, arith}
use Rattle.std.specs.Option.{option_map_or}
use Rattle.model.proofs.SlotChanges.{within-bounds}
use Rattle.model.specs.Capabilities.CapabilityWords.{IsCapability}
use Rattle.model.specs.Capabilities.Slots.{capability_at, is_within}
use Rattle.model.specs.Kernel.Kinds.{frame_around, kind_at, object_named}
use Rattle.model.specs.Kernel.Messages.{a1, buffer_of, bytes_between, bytes_sent, greatest_length, length_between, register_words, with_copied}
use Rattle.model.specs.Kernel.Retype.{NewFrame}
use Rattle.model.specs.Kernel.State.{State, Sender, Sent, BySend, ByCall, ByFault, buffer_slot, thread_at}
use Rattle.model.specs.Machine.ProgramMemory.{read}
use Rattle.soundness.proofs.Bytes.{AreBytes}
use Rattle.soundness.proofs.Copies.{frame-is}
use Rattle.soundness.proofs.Rest.{RestIsSound}

-- a message has at most 127 words
field-less : (info most : ℕ) → min (info % 2 ^ 7) most ≤ 127
field-less info most = omega arith

pub length-less : (s : State) (from to : ℕ) → length_between s from to ≤ 127
length-less s from to = field-less (read (thread_at s from).registers a1) (min (greatest_length s from) (greatest_length s to))

-- the frame of a place is the one that it lies in
around-frame : (offset place : ℕ) → offset % 2 ^ 12 ≡ 0 → offset ≤ place → place < offset + 2 ^ 12 → place - place % 2 ^ 12 ≡ offset
around-frame offset place aligned low high = omega (arith, aligned, low, high)

module _ (s : State) (rest : RestIsSound s) where
  same-bytes : AreBytes s s.bytes
  same-bytes = record { there = λ _. refl; small = rest.memory.small }

  -- a frame is there, at a multiple of its size
  record IsFrameAt (offset : ℕ) : Type 0 where
    aligned : offset % 2 ^ 12 ≡ 0
    kind : kind_at s offset ≡ Some NewFrame

  buffer-frame : (thread offset : ℕ) → buffer_of s thread ≡ Some offset → IsFrameAt offset
  buffer-frame thread offset is =
      let slot = buffer_slot thread in
      let held = frame-is (capability_at s.slots slot) offset is in
      let valid = subst IsCapability held.2 (rest.slots.derivation.valid slot) in
      record { aligned = valid.0.0; kind = rest.memory.named slot NewFrame offset (ap object_named held.2) }

  byte-there : (offset place : ℕ) → IsFrameAt offset → offset ≤ place → place < offset + 2 ^ 12 → is_some (s.bytes place) ≡ true
  byte-there offset place frame low high =
      let at : frame_around place ≡ offset = around-frame offset place (IsFrameAt.aligned frame) low high in
      (rest.memory.bytes place).1 (ap (kind_at s) at ∙ IsFrameAt.kind frame)

  copied-there : (source target count place : ℕ) → IsFrameAt source → IsFrameAt target → count ≤ 119
      → is_some (with_copied s.bytes source target count place) ≡ is_some (s.bytes place)
  copied-there source target count place from to few =
      let first : ℕ = target + 4 * register_words in
      elim (is_within first (4 * count) place) as (λ b. is_within first (4 * count) place ≡ b
      → is_some (if b then s.bytes (source + (place - target)) else s.bytes place) ≡ is_some (s.bytes place)) [
        | true ↦ λ inside.
            let bounds = within-bounds first (4 * count) place inside in
            let low : target ≤ place = omega (arith, bounds.0) in
            let high : place < target + 2 ^ 12 = omega (arith, bounds.1, few) in
            byte-there source (source + (place - target)) from (omega arith) (omega (arith, low, high)) ∙ sym (byte-there target place to low high)
        | false ↦ λ _. refl
      ] refl

  copied-small : (source target count place byte : ℕ) → with_copied s.bytes source target count place ≡ Some byte → byte < 2 ^ 8
  copied-small source target count place byte =
      elim (is_within (target + 4 * register_words) (4 * count) place)
      as (λ b. (if b then s.bytes (source + (place - target)) else s.bytes place) ≡ Some byte → byte < 2 ^ 8) [
        | true ↦ rest.memory.small (source + (place - target)) byte
        | false ↦ rest.memory.small place byte
      ]

  by-buffers : (from to count : ℕ) (source target : Option ℕ) → buffer_of s from ≡ source → buffer_of s to ≡ target → count ≤ 127
      → AreBytes s (option_map_or (λ a. option_map_or (λ b. with_copied s.bytes a b (count - register_words)) target s.bytes) source s.bytes)
  by-buffers from to count None target one other few = same-bytes
  by-buffers from to count (Some source) None one other few = same-bytes
  by-buffers from to count (Some source) (Some target) one other few = record {
    there = λ place.
        copied-there source target (count - register_words) place (buffer-frame from source one) (buffer-frame to target other) (omega (arith, few));
    small = λ place byte is. copied-small source target (count - register_words) place byte is;
  }

  pub between-bytes : (from to count : ℕ) → count ≤ 127 → AreBytes s (bytes_between s from to count)
  between-bytes from to count few = by-buffers from to count (buffer_of s from) (buffer_of s to) refl refl few

  pub sent-bytes : (sender : Sender) (sent : Sent) (receiver : ℕ) → AreBytes s (bytes_sent s sender sent receiver)
  sent-bytes sender BySend receiver =
      between-bytes sender.thread receiver (length_between s sender.thread receiver) (length-less s sender.thread receiver)
  sent-bytes sender ByCall receiver =
      between-bytes sender.thread receiver (length_between s sender.thread receiver) (length-less s sender.thread receiver)
  sent-bytes sender (ByFault fault) receiver = same-bytes
