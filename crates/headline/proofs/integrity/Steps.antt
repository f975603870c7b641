-- What the step of a thread changes, it may change by the image, or who gets its message may: a thread that has run.
use Rattle.std.proofs.Common.{ℕ, ◌≡◌, ◌≢◌, ◌∙◌, ◌+◌, ◌^◌, ◌<◌, ◌≤◌, ◌++◌, ◌⊎◌, inl, inr, Bool, true, List, [], ◌∷◌, Some, option_map, pow_pos, refl, sym}
use Rattle.std.proofs.Common.{ap, append_assoc, arith}
use Rattle.std.specs.Prelude.{Contains}
use Rattle.std.proofs.lemmas.Bool.{or_right}
use Rattle.std.proofs.lemmas.Option.{none-some, same_Some}
use Rattle.soundness.proofs.Laws.{endpoint-kind}
use Rattle.model.specs.declared.capabilities.Cap.TheVariants.{Empty, Untyped}
use Rattle.model.specs.declared.events.Event.{Event}
use Rattle.model.specs.declared.events.Event.TheVariants.{Step, Write}
use Rattle.model.specs.declared.labels.Label.{Label}
use Rattle.model.specs.Acceptance.Accepted.{IsAccepted}
use Rattle.model.specs.Acceptance.Authority.{ByteChange, written, comes_with_frame, goes_with_frame, delivered, Delivers, sends, receives, replies, Holds}
use Rattle.model.specs.Acceptance.Authority.{IsUntypedAround, ObjectChange, appears, ends, WithinAuthority}
use Rattle.model.specs.Acceptance.ThreadInvariants.{tcb_of}
use Rattle.model.specs.Images.Described.{Numbered, numbered_threads}
use Rattle.model.specs.Images.Image.{Image, Thread}
use Rattle.model.specs.Kernel.Kinds.{frame_around, kind_at, kind_of}
use Rattle.model.specs.Kernel.Retype.{NewObject, NewUntyped, NewThread, NewEndpoint, NewNotification, NewCNode, NewFrame, NewPageTable, NewRootTable, object}
use Rattle.model.specs.Kernel.Messages.{buffer_of}
use Rattle.model.specs.Kernel.Retype.{object_bits}
use Rattle.model.specs.Kernel.Scheduling.{current}
use Rattle.model.specs.Kernel.State.{State, Blocked, EndpointState, endpoint_at}
use Rattle.headline.specs.facts.Standing.{AllStand}
use Rattle.headline.specs.integrity.Mapped.{AllMapAsHeld}
use Rattle.headline.specs.integrity.Runs.{HasRun, SomeRan, WorldWrote, has_frame_at, has_memory_at, last_of, may_write_at}
use Rattle.headline.specs.parts.Given.{AllHoldGiven}
use Rattle.headline.proofs.authority.Laws.{receiver-waits}
use Rattle.headline.proofs.integrity.Given.{memory-given}
use Rattle.headline.proofs.integrity.Stores.{buffer-at, stores-at}
use Rattle.headline.proofs.integrity.Unmoved.{HasNotBegun, IsThere, begun, replied-there, waits-there}
use Rattle.headline.proofs.kept.Laws.{length-few, thread-entry}
use Rattle.headline.proofs.moves.Laws.{at-endpoint}
use Rattle.headline.proofs.starts.Laws.{contains}

-- ---- longer runs

-- who has run, has run after one event more
pub ran-before : (image : Image) (front : List Event) (event : Event) (u : Thread) → HasRun image front u → HasRun image (front ++ event ∷ []) u
ran-before image front event u r = record {
  before = r.before;
  later = r.later ++ event ∷ [];
  is = ap (λ (l : List Event). l ++ event ∷ []) r.is ∙ append_assoc r.before (Step ∷ r.later) (event ∷ []);
  runs = r.runs;
}

pub some-before : (image : Image) (front : List Event) (event : Event) (test : Thread → Bool) → SomeRan image front test
    → SomeRan image (front ++ event ∷ []) test
some-before image front event test r =
    record { thread = r.thread; listed = r.listed; ran = ran-before image front event r.thread r.ran; passes = r.passes }

pub wrote-before : (front : List Event) (event : Event) (place : ℕ) → WorldWrote front place → WorldWrote (front ++ event ∷ []) place
wrote-before front event place w = record {
  before = w.before;
  later = w.later ++ event ∷ [];
  address = w.address;
  word = w.word;
  is = ap (λ (l : List Event). l ++ event ∷ []) w.is ∙ append_assoc w.before (Write w.address w.word ∷ w.later) (event ∷ []);
  begins = w.begins;
  ends = w.ends;
}

pub among-threads : (image : Image) (u : Numbered) → Contains (numbered_threads image) u → Contains image.threads u.thread
among-threads image u listed = contains image.threads u.number u.thread (thread-entry image u listed)

-- ---- frames that come and go

object-frame : (kind : NewObject) → option_map kind_of (object kind) ≡ Some NewFrame → kind ≡ NewFrame
object-frame (NewUntyped bits) is = absurd (none-some NewFrame is)
object-frame NewThread is = same_Some NewThread NewFrame is
object-frame NewEndpoint is = same_Some NewEndpoint NewFrame is
object-frame NewNotification is = same_Some NewNotification NewFrame is
object-frame (NewCNode radix) is = same_Some (NewCNode radix) NewFrame is
object-frame NewFrame is = refl
object-frame NewPageTable is = same_Some NewPageTable NewFrame is
object-frame NewRootTable is = same_Some NewRootTable NewFrame is

-- ---- a step

module _ (bytes : List ℕ) (image : Image) (accepted : IsAccepted bytes image) (front : List Event) (labels : List Label)
    (all : AllStand image (last_of image front) labels) (held : AllHoldGiven image (last_of image front)) (mapped : AllMapAsHeld image (last_of image front))
    (rest : (u : Numbered) → Contains (numbered_threads image) u → HasRun image front u.thread ⊎ HasNotBegun image u (last_of image front))
    (t : Numbered) (listed : Contains (numbered_threads image) t) (now : current (last_of image front) ≡ Some (tcb_of image t)) (after : State)
    (within : WithinAuthority image t.thread (last_of image front) after) where
  abbrev s : State
  s = last_of image front

  abbrev events : List Event
  events = front ++ Step ∷ []

  runs-now : HasRun image (front ++ Step ∷ []) t.thread
  runs-now = record { before = front; later = []; is = refl; runs = now }

  by-self : (test : Thread → Bool) → test t.thread ≡ true → SomeRan image (front ++ Step ∷ []) test
  by-self test passes = record { thread = t.thread; listed = among-threads image t listed; ran = runs-now; passes = passes }

  -- who waits has run
  has-run : (offset : ℕ) → (there : IsThere image (last_of image front) offset) → HasRun image (front ++ Step ∷ []) there.block.thread.thread
  has-run offset there = elim (rest there.block.thread there.block.listed) [
    | inl ran ↦ ran-before image front Step there.block.thread.thread ran
    | inr not_begun ↦ absurd (begun image there.block.thread s there.own there.is there.rests not_begun)
  ]

  -- ---- untyped memory

  holds-memory : (first size place : ℕ) → Holds image t.thread (last_of image front) (IsUntypedAround first size) → first ≤ place → place < first + size
      → has_memory_at image t.thread place ≡ true
  holds-memory first size place h low high =
      memory-given image t.thread _ first size place
      (held t h.slot listed h.own (λ empty. let e : Empty ≡ Untyped h.such.offset h.such.bits h.such.watermark = sym empty ∙ h.such.is in cc)) h.such low high

  in-memory : (offset : ℕ) → ObjectChange image t.thread (last_of image front) after offset → has_memory_at image t.thread offset ≡ true
  in-memory offset (appears kind none new holds) =
      let size = pow_pos (object_bits kind) in holds-memory offset (2 ^ object_bits kind) offset holds (omega arith) (omega (arith, size))
  in-memory offset (ends kind was gone holds) =
      let size = pow_pos (object_bits kind) in holds-memory offset (2 ^ object_bits kind) offset holds (omega arith) (omega (arith, size))

  pub object-changed : (offset : ℕ) → kind_at (last_of image front) offset ≢ kind_at after offset
      → SomeRan image (front ++ Step ∷ []) (λ u. has_memory_at image u offset)
  object-changed offset differs = by-self (λ u. has_memory_at image u offset) (in-memory offset (within.objects offset differs))

  -- ---- bytes

  module _ (place : ℕ) where
    in-frame : (kind : NewObject) → kind ≡ NewFrame → Holds image t.thread (last_of image front) (IsUntypedAround (frame_around place) (2 ^ object_bits kind))
        → may_write_at image t.thread place ≡ true
    in-frame kind is holds =
        let size : 2 ^ object_bits kind ≡ 4096 = ap (λ (k : NewObject). 2 ^ object_bits k) is in
        or_right (has_frame_at image t.thread place) (has_memory_at image t.thread place)
        (holds-memory (frame_around place) (2 ^ object_bits kind) place holds (omega arith) (omega (arith, size)))

    comes : kind_at after (frame_around place) ≡ Some NewFrame → ObjectChange image t.thread (last_of image front) after (frame_around place)
        → may_write_at image t.thread place ≡ true
    comes is (appears kind none new holds) = in-frame kind (object-frame kind (sym (ap (option_map kind_of) new) ∙ is)) holds
    comes is (ends kind was gone holds) = absurd (none-some NewFrame (sym (ap (option_map kind_of) gone) ∙ is))

    goes : kind_at (last_of image front) (frame_around place) ≡ Some NewFrame
        → ObjectChange image t.thread (last_of image front) after (frame_around place) → may_write_at image t.thread place ≡ true
    goes was (appears kind none new holds) = absurd (none-some NewFrame (sym (ap (option_map kind_of) none) ∙ was))
    goes was (ends kind there gone holds) = in-frame kind (same_Some kind NewFrame (sym there ∙ was)) holds

    -- the buffer of a thread that has run
    by-there : (to target index : ℕ) → IsThere image (last_of image front) to → buffer_of (last_of image front) to ≡ Some target → index < 2 ^ 12
        → place ≡ target + index → SomeRan image (front ++ Step ∷ []) (λ u. may_write_at image u place)
    by-there to target index there buffer less at =
        let u = there.block.thread in
        record {
          thread = u.thread;
          listed = among-threads image u there.block.listed;
          ran = has-run to there;
          passes = ap (may_write_at image u.thread) at
              ∙ buffer-at bytes image s labels accepted all u there.block.listed target index (ap (buffer_of s) (sym there.block.is) ∙ buffer) less;
        }

    by-delivery : (from to target index : ℕ) → Delivers image t.thread (last_of image front) after from to → buffer_of (last_of image front) to ≡ Some target
        → index < 2 ^ 12 → place ≡ target + index → SomeRan image (front ++ Step ∷ []) (λ u. may_write_at image u place)
    by-delivery from to target index (sends endpoint badge is named takes) buffer less at =
        let e = endpoint-kind (s.objects endpoint) takes.was in
        let w = receiver-waits s all.sound endpoint e.0 e.1 to (endpoint_at after endpoint).receivers
        (ap (λ (x : EndpointState). x.receivers) (sym (at-endpoint s endpoint e.0 e.1)) ∙ takes.leaves) in
        by-there to target index (waits-there image s labels all to w.own (Blocked endpoint) w.is w.blocked refl refl) buffer less at
    by-delivery from to target index (receives endpoint first is named takes who sent) buffer less at =
        by-self (λ u. may_write_at image u place)
        (ap (may_write_at image t.thread) at
        ∙ buffer-at bytes image s labels accepted all t listed target index (ap (buffer_of s) (sym is) ∙ buffer) less)
    by-delivery from to target index (replies is right awaits runs) buffer less at =
        by-there to target index (replied-there image s labels all to awaits) buffer less at

    byte-cause : ByteChange image t.thread (last_of image front) after place → SomeRan image (front ++ Step ∷ []) (λ u. may_write_at image u place)
    byte-cause (written some still address is) =
        by-self (λ u. may_write_at image u place) (stores-at bytes image s labels accepted all t listed held mapped place address is)
    byte-cause (comes_with_frame was is new) =
        by-self (λ u. may_write_at image u place) (comes is (within.objects (frame_around place) (λ same. was (same ∙ is))))
    byte-cause (goes_with_frame was is none) =
        by-self (λ u. may_write_at image u place) (goes was (within.objects (frame_around place) (λ same. is (sym same ∙ was))))
    byte-cause (delivered some still from to index source target delivers one other low high at is) =
        let few = length-few s from to in by-delivery from to target index delivers other (omega (arith, high, few)) at

    pub byte-changed : (last_of image front).bytes place ≢ after.bytes place → SomeRan image (front ++ Step ∷ []) (λ u. may_write_at image u place)
    byte-changed differs = byte-cause (within.bytes place differs)
