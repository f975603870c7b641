-- The message buffers of an accepted image's threads, while all stand: each is the frame that the image gives the thread, which no earlier
-- thread has, and which is no code. So what one of them receives changes no byte of code.
use Rattle.std.proofs.Common.{ℕ, ◌≡◌, ◌∙◌, ◌==◌, ◌+◌, ◌*◌, ◌^◌, ◌<◌, ◌≤◌, ◌⊎◌, inl, inr, true, false, Option, Some, None, List, refl, sym, ap}
use Rattle.std.proofs.Common.{arith, subst}
use Rattle.std.specs.Prelude.{Contains, find, slice_get}
use Rattle.std.specs.Option.{option_map_or}
use Rattle.std.proofs.lemmas.Bool.{cases_order, eq-eqb}
use Rattle.format_laws.proofs.Laws.{is-fitting}
use Rattle.soundness.proofs.Laws.{BufferKept, are-formed, buffer-kept, buffer-slot, first_of_type, frame-listed, frame-type, mapped_by}
use Rattle.soundness.proofs.Laws.{stand-apart}
use Rattle.model.specs.declared.capabilities.Cap.TheVariants.{Empty}
use Rattle.model.specs.declared.entries.TableEntry.{TableEntry}
use Rattle.model.specs.declared.labels.Label.{Label}
use Rattle.model.specs.declared.slot_entries.Entry.{Entry}
use Rattle.model.specs.Acceptance.Accepted.{IsAccepted}
use Rattle.model.specs.Acceptance.ThreadInvariants.{IsCode, tcb_of}
use Rattle.model.specs.Acceptance.WellFormed.{is_frame_type}
use Rattle.model.specs.Capabilities.CapabilityKinds.{frame_of}
use Rattle.model.specs.Images.Described.{Numbered, described, numbered_threads, original}
use Rattle.model.specs.Images.Image.{Image, no_buffer}
use Rattle.model.specs.Images.Places.{offset_of, type_at}
use Rattle.model.specs.Kernel.AddressSpaces.{page_size}
use Rattle.model.specs.Kernel.Messages.{buffer_of, bytes_between}
use Rattle.model.specs.Kernel.Retype.{NewObject, NewFrame}
use Rattle.model.specs.Kernel.State.{State, buffer_slot}
use Rattle.thread_spaces.proofs.Laws.{buffer-shown, no_buffer-shown}
use Rattle.headline.specs.facts.Standing.{AllStand}
use Rattle.headline.proofs.kept.BlockSlots.{block-apart, block-thread}
use Rattle.headline.proofs.kept.CopiedBytes.{IsCopied, copied-at}
use Rattle.headline.proofs.kept.UnexecutedFrames.{unexecuted-apart}
use Rattle.headline.proofs.kept.OwnBlocks.{before-fails, one-object, one-thread, thread-entry}

-- a frame's original names the frame
frame-by : (image : Image) (found : Option TableEntry) (offset : ℕ) → frame_of (mapped_by image found (first_of_type (Some NewFrame) offset)) ≡ Some offset
frame-by image None offset = refl
frame-by image (Some t) offset = refl

original-frame : (image : Image) (number : ℕ) → is_frame_type (type_at image number) ≡ true → frame_of (original image number) ≡ Some (offset_of image number)
original-frame image number is =
    let found = find (λ t. t.table == number) image.tables in
    ap (λ (kind : Option NewObject). frame_of (mapped_by image found (first_of_type kind (offset_of image number)))) (frame-type (type_at image number) is)
    ∙ frame-by image found (offset_of image number)

-- the frame of a thread's buffer, as the image gives it
pub record IsOwnBuffer (image : Image) (t : Numbered) (frame : ℕ) : Type 0 where
  pub kept : BufferKept image t.number t.thread.header.buffer
  pub less : t.thread.header.buffer < image.header.objects
  pub place : frame ≡ offset_of image t.thread.header.buffer

module _ (bytes : List ℕ) (image : Image) (s : State) (labels : List Label) (accepted : IsAccepted bytes image) (all : AllStand image s labels)
    (t : Numbered) (listed : Contains (numbered_threads image) t) where
  entry-is : slice_get image.threads t.number ≡ Some t.thread
  entry-is = thread-entry image t listed

  -- the slot is as described
  slot-is : s.slots (buffer_slot (tcb_of image t)) ≡ (described image).slots (buffer_slot (tcb_of image t))
  slot-is =
      let slot = buffer_slot (tcb_of image t) in
      let fits = accepted.spelled.fits in
      let there = buffer-slot image t.thread.header.tcb (block-thread image fits accepted.formed t listed) in
      all.apart slot (block-apart image fits accepted.formed t listed slot there)

  shown : (held : Entry) → (described image).slots (buffer_slot (tcb_of image t)) ≡ Some held → buffer_of s (tcb_of image t) ≡ frame_of held.capability
  shown held is = ap (λ (o : Option Entry). frame_of (option_map_or (λ held. held.capability) o Empty)) (slot-is ∙ is)

  pub own-buffer : (frame : ℕ) → buffer_of s (tcb_of image t) ≡ Some frame → IsOwnBuffer image t frame
  own-buffer frame has =
      elim (t.thread.header.buffer == no_buffer) as (λ b. (t.thread.header.buffer == no_buffer) ≡ b → IsOwnBuffer image t frame) [
        | true ↦ λ none.
            let empty = shown _ (no_buffer-shown image accepted.spelled.fits accepted.formed t.number t.thread entry-is none) in
            absurd (let clash : None ≡ Some frame = sym empty ∙ has in cc)
        | false ↦ λ some.
            let formed = are-formed image accepted.formed in
            let kept = buffer-kept image t.number t.thread (formed.thread t.number t.thread entry-is) some in
            let is =
            shown _ (buffer-shown image accepted.spelled.fits accepted.formed t.number t.thread entry-is some)
            ∙ original-frame image t.thread.header.buffer kept.frame in
            record {
              kept = kept;
              less = frame-listed image t.thread.header.buffer (is-fitting image accepted.spelled.fits) kept.frame;
              place = let both : Some frame ≡ Some (offset_of image t.thread.header.buffer) = sym has ∙ is in cc;
            }
      ] refl

-- ---- the buffers of two threads

-- a thread has no earlier thread's buffer
not-earlier : (image : Image) (a b : Numbered) (frame : ℕ) → Contains (numbered_threads image) a → IsOwnBuffer image b frame
    → a.thread.header.buffer ≡ b.thread.header.buffer → a.number < b.number → ⊥
not-earlier image a b frame first own same less =
    let buffer = b.thread.header.buffer in
    let other = before-fails (λ v. v.header.buffer == buffer) image.threads b.number a.number a.thread own.kept.once less (thread-entry image a first) in
    let clash : false ≡ true = sym other ∙ eq-eqb a.thread.header.buffer buffer same in cc

pub own-buffers : (bytes : List ℕ) (image : Image) (a b : Numbered) (frame : ℕ) → IsAccepted bytes image → Contains (numbered_threads image) a
    → Contains (numbered_threads image) b → IsOwnBuffer image a frame → IsOwnBuffer image b frame → a ≡ b
own-buffers bytes image a b frame accepted first second one two =
    let apart = stand-apart image accepted.spelled.fits accepted.formed in
    let same : a.thread.header.buffer ≡ b.thread.header.buffer =
    one-object image a.thread.header.buffer b.thread.header.buffer apart one.less two.less (sym one.place ∙ two.place) in
    elim (cases_order a.number b.number) [
      | inl here ↦
          let both : Some a.thread ≡ Some b.thread =
          sym (thread-entry image a first) ∙ ap (slice_get image.threads) here ∙ thread-entry image b second in
          one-thread a b here (let thread : a.thread ≡ b.thread = cc in thread)
      | inr (inl below) ↦ absurd (not-earlier image a b frame first two same below)
      | inr (inr above) ↦ absurd (not-earlier image b a frame second one (sym same) above)
    ]

-- ---- code

-- the buffer is another frame than one of code, and they lie apart
module _ (bytes : List ℕ) (image : Image) (accepted : IsAccepted bytes image) (t : Numbered) (frame : ℕ) (own : IsOwnBuffer image t frame) (code : ℕ)
    (is : IsCode image code) where
  pub code-apart : (frame + 2 ^ 12 ≤ code) ⊎ (code + 2 ^ 12 ≤ frame)
  code-apart =
      subst (λ (n : ℕ). (n + 2 ^ 12 ≤ code) ⊎ (code + 2 ^ 12 ≤ n)) (sym own.place)
      (unexecuted-apart bytes image accepted t.thread.header.buffer own.less own.kept.frame own.kept.no_code code is)

  outside : (index place count : ℕ) → place ≡ frame + index → index < 4 * count → count ≤ 127 → code ≤ place → place < code + page_size → ⊥
  outside index place count at less few low high = elim code-apart [
    | inl before ↦ omega (arith, before, at, less, few, low)
    | inr behind ↦ omega (arith, behind, at, high)
  ]

module _ (bytes : List ℕ) (image : Image) (s : State) (labels : List Label) (accepted : IsAccepted bytes image) (all : AllStand image s labels)
    (t : Numbered) (listed : Contains (numbered_threads image) t) where
  -- a message to the thread changes no byte of code
  pub code-stays : (from count : ℕ) → count ≤ 127 → (frame place : ℕ) → IsCode image frame → frame ≤ place → place < frame + page_size
      → bytes_between s from (tcb_of image t) count place ≡ s.bytes place
  code-stays from count few frame place code low high = elim (copied-at s from (tcb_of image t) count place) [
    | inl same ↦ same
    | inr c ↦
        absurd (outside bytes image accepted t (IsCopied.target c) (own-buffer bytes image s labels accepted all t listed (IsCopied.target c)
        (IsCopied.of_receiver c)) frame code (IsCopied.index c) place count (IsCopied.at c) (IsCopied.last c) few low high)
  ]
