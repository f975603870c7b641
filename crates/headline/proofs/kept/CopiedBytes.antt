-- The bytes that a delivery changes: those of the message's words from the eighth on, in the receiver's buffer.
use Rattle.std.proofs.Common.{ℕ, ◌≡◌, ◌+◌, ◌-◌, ◌*◌, ◌%◌, ◌^◌, ◌<◌, ◌≤◌, ◌⊎◌, inl, inr, min, Bool, true}
use Rattle.std.proofs.Common.{false, if◌then◌else◌, Option, Some, None, refl, ◌∙◌, ap}
use Rattle.std.proofs.Common.{subst}
use Rattle.std.proofs.Common.{arith}
use Rattle.std.specs.Prelude.{IsSome}
use Rattle.std.specs.Option.{option_map_or}
use Rattle.model.proofs.SlotChanges.{bounds-within, within-bounds}
use Rattle.model.specs.declared.capabilities.Cap.{Cap}
use Rattle.model.specs.declared.capabilities.Cap.TheVariants.{Empty, Untyped, Tcb, Endpoint, Notification, CNode, Frame, PageTable, RootTable}
use Rattle.model.specs.declared.capabilities.Cap.TheVariants.{InterruptControl, InterruptHandler}
use Rattle.model.specs.Capabilities.CapabilityKinds.{frame_of}
use Rattle.model.specs.Capabilities.CapabilityWords.{IsCapability}
use Rattle.model.specs.Capabilities.Slots.{capability_at, is_within}
use Rattle.model.specs.Kernel.Kinds.{frame_around, kind_at, object_named}
use Rattle.model.specs.Kernel.Messages.{a1, buffer_of, bytes_between, greatest_length, length_between, register_words, with_copied}
use Rattle.model.specs.Kernel.Retype.{NewFrame}
use Rattle.model.specs.Kernel.Soundness.{IsSound}
use Rattle.model.specs.Kernel.State.{State, buffer_slot, thread_at}
use Rattle.model.specs.Machine.ProgramMemory.{read}

-- a byte of a word that no register holds, of a message of so many words from one thread to another: where it is, and what it becomes
pub record IsCopied (s : State) (from to count place : ℕ) (value : Option ℕ) : Type 0 where
  pub index : ℕ
  pub source : ℕ
  pub target : ℕ
  pub of_sender : buffer_of s from ≡ Some source
  pub of_receiver : buffer_of s to ≡ Some target
  pub first : 4 * register_words ≤ index
  pub last : index < 4 * count
  pub at : place ≡ target + index
  pub is : value ≡ s.bytes (source + index)

record IsIndex (target count place : ℕ) : Type 0 where
  first : 4 * register_words ≤ place - target
  last : place - target < 4 * count
  at : place ≡ target + (place - target)

index-of : (target count place : ℕ) → target + 4 * register_words ≤ place → place < target + 4 * register_words + 4 * (count - register_words)
    → IsIndex target count place
index-of target count place low high = record { first = omega (arith, low); last = omega (arith, low, high); at = omega (arith, low) }

-- by the buffers of both
abbrev bytes_by : State → ℕ → Option ℕ → Option ℕ → ℕ → Option ℕ
bytes_by s count from to =
    option_map_or (λ source. option_map_or (λ target. with_copied s.bytes source target (count - register_words)) to s.bytes) from s.bytes

module _ (s : State) (from to count place : ℕ) where
  by-buffers : (a b : Option ℕ) → buffer_of s from ≡ a → buffer_of s to ≡ b
      → (bytes_by s count a b place ≡ s.bytes place) ⊎ IsCopied s from to count place (bytes_by s count a b place)
  by-buffers None b one other = inl refl
  by-buffers (Some source) None one other = inl refl
  by-buffers (Some source) (Some target) one other =
      elim (is_within (target + 4 * register_words) (4 * (count - register_words)) place)
      as (λ b. is_within (target + 4 * register_words) (4 * (count - register_words)) place ≡ b
      → ((if b then s.bytes (source + (place - target)) else s.bytes place) ≡ s.bytes place)
      ⊎ IsCopied s from to count place (if b then s.bytes (source + (place - target)) else s.bytes place)) [
        | true ↦ λ inside.
            let bounds = within-bounds (target + 4 * register_words) (4 * (count - register_words)) place inside in
            let here = index-of target count place bounds.0 bounds.1 in
            inr (record {
              index = place - target;
              source = source;
              target = target;
              of_sender = one;
              of_receiver = other;
              first = IsIndex.first here;
              last = IsIndex.last here;
              at = IsIndex.at here;
              is = refl;
            })
        | false ↦ λ _. inl refl
      ] refl

  -- each other byte stays
  pub copied-at : (bytes_between s from to count place ≡ s.bytes place) ⊎ IsCopied s from to count place (bytes_between s from to count place)
  copied-at = by-buffers (buffer_of s from) (buffer_of s to) refl refl

-- ---- where the words are

field-few : (info most : ℕ) → min (info % 2 ^ 7) most ≤ 127
field-few info most = omega arith

pub length-few : (s : State) (from to : ℕ) → length_between s from to ≤ 127
length-few s from to = field-few (read (thread_at s from).registers a1) (min (greatest_length s from) (greatest_length s to))

-- a frame lies at a multiple of its size, and the capability names it
record IsFrame (c : Cap) (offset : ℕ) : Type 0 where
  aligned : offset % 2 ^ 12 ≡ 0
  named : object_named c ≡ Some (NewFrame, offset)

is-frame : (c : Cap) (offset : ℕ) → frame_of c ≡ Some offset → IsCapability c → IsFrame c offset
is-frame (Frame frame r mapping) offset is valid =
    let same : frame ≡ offset = cc in
    record { aligned = subst (λ (n : ℕ). n % 2 ^ 12 ≡ 0) same valid.0.0; named = ap (λ (n : ℕ). Some (NewFrame, n)) same }
is-frame Empty offset is valid = absurd (let clash : None ≡ Some offset = is in cc)
is-frame (Untyped first bits used) offset is valid = absurd (let clash : None ≡ Some offset = is in cc)
is-frame (Tcb thread) offset is valid = absurd (let clash : None ≡ Some offset = is in cc)
is-frame (Endpoint endpoint r badge) offset is valid = absurd (let clash : None ≡ Some offset = is in cc)
is-frame (Notification notification r badge) offset is valid = absurd (let clash : None ≡ Some offset = is in cc)
is-frame (CNode cnode radix guard) offset is valid = absurd (let clash : None ≡ Some offset = is in cc)
is-frame (PageTable table mapping) offset is valid = absurd (let clash : None ≡ Some offset = is in cc)
is-frame (RootTable table) offset is valid = absurd (let clash : None ≡ Some offset = is in cc)
is-frame InterruptControl offset is valid = absurd (let clash : None ≡ Some offset = is in cc)
is-frame (InterruptHandler line) offset is valid = absurd (let clash : None ≡ Some offset = is in cc)

one-page : (a b i j : ℕ) → a % 2 ^ 12 ≡ 0 → b % 2 ^ 12 ≡ 0 → a + i ≡ b + j → i < 2 ^ 12 → j < 2 ^ 12 → a ≡ b
one-page a b i j first second same less few = omega (arith, first, second, same, less, few)

around-it : (offset index : ℕ) → offset % 2 ^ 12 ≡ 0 → index < 2 ^ 12 → offset + index - (offset + index) % 2 ^ 12 ≡ offset
around-it offset index aligned less = omega (arith, aligned, less)

module _ (s : State) (sound : IsSound s) where
  buffer-frame : (thread offset : ℕ) → buffer_of s thread ≡ Some offset → IsFrame (capability_at s.slots (buffer_slot thread)) offset
  buffer-frame thread offset is = is-frame (capability_at s.slots (buffer_slot thread)) offset is (sound.slots.derivation.valid (buffer_slot thread))

  -- buffers with a byte in common are one frame
  pub one-buffer : (x y a b i j : ℕ) → buffer_of s x ≡ Some a → buffer_of s y ≡ Some b → a + i ≡ b + j → i < 2 ^ 12 → j < 2 ^ 12 → a ≡ b
  one-buffer x y a b i j first second same less few =
      one-page a b i j (IsFrame.aligned (buffer-frame x a first)) (IsFrame.aligned (buffer-frame y b second)) same less few

  -- all bytes of a buffer are there
  pub buffer-bytes : (thread offset index : ℕ) → buffer_of s thread ≡ Some offset → index < 2 ^ 12 → IsSome (s.bytes (offset + index))
  buffer-bytes thread offset index is less =
      let frame = buffer-frame thread offset is in
      let around : frame_around (offset + index) ≡ offset = around-it offset index (IsFrame.aligned frame) less in
      (sound.memory.bytes (offset + index)).1
      (ap (kind_at s) around ∙ sound.memory.named (buffer_slot thread) NewFrame offset (IsFrame.named frame))

-- ---- where the words come

-- such a byte is what the sender's buffer holds
pub copied-here : (s : State) (from to count source target index : ℕ) → buffer_of s from ≡ Some source → buffer_of s to ≡ Some target
    → 4 * register_words ≤ index → index < 4 * count → bytes_between s from to count (target + index) ≡ s.bytes (source + index)
copied-here s from to count source target index one other first last =
    ap (λ (o : Option ℕ). bytes_by s count o (buffer_of s to) (target + index)) one
    ∙ ap (λ (o : Option ℕ). bytes_by s count (Some source) o (target + index)) other
    ∙ ap (λ (b : Bool). if b then s.bytes (source + (target + index - target)) else s.bytes (target + index))
    (bounds-within (target + 4 * register_words) (4 * (count - register_words)) (target + index) (omega (arith, first)) (omega (arith, first, last)))
    ∙ ap (λ (n : ℕ). s.bytes (source + n)) (omega arith)
