-- SetBuffer makes all its checks first, and what it leaves agrees as before.
use Rattle.std.proofs.Common.{ℕ, ◌≡◌, ◌∙◌, ◌==◌, ◌<◌, Bool, true, false, not, if◌then◌else◌, Option, Some, None, Result, Ok, Err, List, refl, sym, ap, subst}
use Rattle.std.proofs.Common.{arith}
use Rattle.std.proofs.lemmas.Bool.{not-true}
use Rattle.kernel_invariant.proofs.Laws.{copy-agrees, follows-law, is-open, put-closes}
use Rattle.kernel_invariant.specs.Wholeness.{Agreed, IsWhole}
use Rattle.model.specs.Capabilities.CapabilityKinds.{object_of}
use Rattle.model.specs.Capabilities.CapabilityWords.{IsCapability}
use Rattle.model.specs.Capabilities.Rights.{frame_rights}
use Rattle.model.specs.Capabilities.Slots.{IsFull, SameOutside, Slots, capability_at, depth_of, empty_entry, inserted, is_full}
use Rattle.model.specs.Kernel.Arguments.{◌>>=◌, check, may_have_child, source_slot, wanted}
use Rattle.model.specs.Kernel.Kinds.{kind_at, object_named}
use Rattle.model.specs.Kernel.Retype.{NewFrame, NewThread}
use Rattle.model.specs.Kernel.Soundness.{IsSound}
use Rattle.model.specs.Kernel.State.{State, buffer_slot, with_slots}
use Rattle.model.specs.Kernel.ThreadCalls.{buffer_frame, set_buffer}
use Rattle.model.specs.declared.capabilities.Cap.{Cap}
use Rattle.model.specs.declared.capabilities.Cap.TheVariants.{Empty, Untyped, Endpoint, Notification, CNode, Frame, PageTable, Tcb, RootTable, InterruptControl}
use Rattle.model.specs.declared.capabilities.Cap.TheVariants.{InterruptHandler}
use Rattle.model.specs.declared.capabilities.FrameMapping.{FrameMapping}
use Rattle.model.specs.declared.errors.KError.{KError}
use Rattle.model.specs.declared.errors.KError.TheVariants.{DeleteFirst, InvalidCapability}
use Rattle.model.specs.declared.invocations.SlotName.{SlotName}
use Rattle.model.specs.declared.rights.Rights.{Rights}
use Rattle.objects.specs.Tables.{Tables, state_of}
use Rattle.soundness.proofs.Laws.{check-passes, passes-both, room-below, source-full, wanted-some}
use Rattle.tcb_ops.proofs.Checks.{own-empty}
use Rattle.tcb_ops.proofs.ThreadsNear.{thread-there}
use Rattle.tcb_ops.specs.Buffers.{buffer_source}
use Rattle.tcb_ops.specs.declared.buffers.BufferSource.{BufferSource}
use Rattle.vspace.specs.Tables.{Holds}

-- ---- what passes all checks

abbrev pub buffer_put : Slots → ℕ → BufferSource → Slots
buffer_put slots thread from = inserted slots (buffer_slot thread) (Frame from.frame frame_rights None) (Some from.slot)

abbrev pub buffered : State → ℕ → BufferSource → State
buffered s thread from = with_slots s (buffer_put s.slots thread from)

abbrev source : ℕ → ℕ → BufferSource
source slot frame = record { slot = slot; frame = frame }

rest-first : (found : Result ℕ KError) (free room : Result (Unit {0}) KError) (slot : ℕ) (next : BufferSource → Result State KError)
    → ((found >>= λ frame. free >>= λ _. room >>= λ _. Ok (source slot frame)) >>= next)
    ≡ (found >>= λ frame. free >>= λ _. room >>= λ _. next (source slot frame))
rest-first (Err e) free room slot next = refl
rest-first (Ok frame) (Err e) room slot next = refl
rest-first (Ok frame) (Ok a) (Err e) slot next = refl
rest-first (Ok frame) (Ok a) (Ok b) slot next = refl

slot-first : (found : Result ℕ KError) (rest : ℕ → Result BufferSource KError) (after : ℕ → Result State KError) (next : BufferSource → Result State KError)
    → ((slot : ℕ) → (rest slot >>= next) ≡ after slot) → ((found >>= rest) >>= next) ≡ (found >>= after)
slot-first (Err e) rest after next same = refl
slot-first (Ok slot) rest after next same = same slot

as-source : (s : State) (root : Cap) (thread : ℕ) (name : SlotName)
    → (buffer_source s.slots root (buffer_slot thread) name >>= λ from. Ok (buffered s thread from)) ≡ set_buffer s root thread name
as-source s root thread name =
    let next : BufferSource → Result State KError = λ from. Ok (buffered s thread from) in
    slot-first (source_slot s.slots root name) _ _ next
    (λ slot. rest-first (wanted (buffer_frame (capability_at s.slots slot)) InvalidCapability)
    (check (not (is_full s.slots (buffer_slot thread))) DeleteFirst) (may_have_child s.slots slot) slot next)

pub buffer-refused : (s : State) (root : Cap) (thread : ℕ) (name : SlotName) (e : KError)
    → Err e ≡ buffer_source s.slots root (buffer_slot thread) name → set_buffer s root thread name ≡ Err e
buffer-refused s root thread name e is =
    sym (as-source s root thread name) ∙ ap (λ (r : Result BufferSource KError). r >>= λ from. Ok (buffered s thread from)) (sym is)

pub buffer-passes : (s : State) (root : Cap) (thread : ℕ) (name : SlotName) (from : BufferSource)
    → Ok from ≡ buffer_source s.slots root (buffer_slot thread) name → set_buffer s root thread name ≡ Ok (buffered s thread from)
buffer-passes s root thread name from is =
    sym (as-source s root thread name) ∙ ap (λ (r : Result BufferSource KError). r >>= λ from. Ok (buffered s thread from)) (sym is)

-- ---- the copy

-- it names the frame that its source names
pub record IsCopy (c : Cap) (frame : ℕ) : Type 0 where
  pub valid : IsCapability (Frame frame frame_rights None)
  pub named : object_named (Frame frame frame_rights None) ≡ object_named c
  pub object : object_of (Frame frame frame_rights None) ≡ object_of c

some-chosen : (b : Bool) (offset frame : ℕ) → (if b then Some offset else None) ≡ Some frame → offset ≡ frame
some-chosen true offset frame is = let e : Some offset ≡ Some frame = is in cc
some-chosen false offset frame is = absurd (let clash : None ≡ Some frame = is in cc)

none-chosen : (c : Cap) (frame : ℕ) → None ≡ Some frame → IsCopy c frame
none-chosen c frame is = absurd (let clash : None ≡ Some frame = is in cc)

frame-copy : (offset frame : ℕ) (r : Rights) (mapping : Option FrameMapping) → IsCapability (Frame offset r mapping) → offset ≡ frame
    → IsCopy (Frame offset r mapping) frame
frame-copy offset frame r mapping valid is = record {
  valid = subst (λ (n : ℕ). IsCapability (Frame n frame_rights None)) is (valid.0, omega arith, tt);
  named = ap (λ (n : ℕ). Some (NewFrame, n)) (sym is);
  object = ap (λ (n : ℕ). Some n) (sym is);
}

pub buffer-copy : (c : Cap) (frame : ℕ) → IsCapability c → buffer_frame c ≡ Some frame → IsCopy c frame
buffer-copy (Frame offset r mapping) frame valid is =
    frame-copy offset frame r mapping valid (some-chosen (r.0 == frame_rights.0) offset frame is)
buffer-copy Empty frame valid is = none-chosen Empty frame is
buffer-copy (Untyped o b w) frame valid is = none-chosen (Untyped o b w) frame is
buffer-copy (Endpoint o r b) frame valid is = none-chosen (Endpoint o r b) frame is
buffer-copy (Notification o r b) frame valid is = none-chosen (Notification o r b) frame is
buffer-copy (CNode o r g) frame valid is = none-chosen (CNode o r g) frame is
buffer-copy (PageTable o m) frame valid is = none-chosen (PageTable o m) frame is
buffer-copy (Tcb o) frame valid is = none-chosen (Tcb o) frame is
buffer-copy (RootTable o) frame valid is = none-chosen (RootTable o) frame is
buffer-copy InterruptControl frame valid is = none-chosen InterruptControl frame is
buffer-copy (InterruptHandler line) frame valid is = none-chosen (InterruptHandler line) frame is

-- ---- what the checks say

pub record MayBuffer (slots : Slots) (thread : ℕ) (from : BufferSource) : Type 0 where
  pub empty : slots (buffer_slot thread) ≡ Some empty_entry
  pub full : IsFull slots from.slot
  pub copy : IsCopy (capability_at slots from.slot) from.frame
  pub room : depth_of slots from.slot < 255

pub may-buffer : (s : State) (thread : ℕ) → IsSound s → kind_at s thread ≡ Some NewThread → (root : Cap) (name : SlotName) (from : BufferSource)
    → Ok from ≡ buffer_source s.slots root (buffer_slot thread) name → MayBuffer s.slots thread from
may-buffer s thread sound there root name from is =
    let one = passes-both (source_slot s.slots root name) _ from (sym is) in
    let two = passes-both (wanted (buffer_frame (capability_at s.slots one.value)) InvalidCapability) _ from one.rest in
    let three = passes-both (check (not (is_full s.slots (buffer_slot thread))) DeleteFirst) _ from two.rest in
    let four = passes-both (may_have_child s.slots one.value) _ from three.rest in
    let free = check-passes (not (is_full s.slots (buffer_slot thread))) DeleteFirst three.value three.first in
    let frame = wanted-some (buffer_frame (capability_at s.slots one.value)) InvalidCapability two.value two.first in
    let e : source one.value two.value ≡ from = cc four.rest in
    subst (λ (f : BufferSource). MayBuffer s.slots thread f) e (record {
      empty = own-empty s thread sound there 2 (buffer_slot thread) (omega arith) refl (not-true (is_full s.slots (buffer_slot thread)) free);
      full = source-full s.slots root name one.value one.first;
      copy = buffer-copy (capability_at s.slots one.value) two.value (sound.slots.derivation.valid one.value) frame;
      room = room-below s one.value four.value four.first;
    })

-- the same of what the kernel keeps
pub asked-buffer : (o : Tables) (slots : Slots) (memory : List ℕ) (root : Cap) (thread : ℕ) (name : SlotName) (from : BufferSource) → IsWhole o slots memory
    → Holds slots (Tcb thread) → Ok from ≡ buffer_source slots root (buffer_slot thread) name → MayBuffer slots thread from
unfolding state_of
asked-buffer o slots memory root thread name from whole held is =
    may-buffer (state_of o slots memory) thread whole.sound (thread-there o slots memory thread whole.sound held) root name from is

-- ---- what is left

module _ (o : Tables) (slots now : Slots) (old new : List ℕ) (thread : ℕ) (from : BufferSource) (agreed : Agreed o slots old)
    (same : SameOutside slots old new) (may : MayBuffer slots thread from) (is : now ≡ buffer_put slots thread from) where
  pub buffer-agrees : Agreed o now new
  buffer-agrees =
      subst (λ (n : Slots). Agreed o n new) (sym is)
      (copy-agrees o slots old new (buffer_slot thread) from.slot (Frame from.frame frame_rights None) agreed same may.empty may.copy.valid refl refl
      may.copy.named)

  pub buffer-state : buffered (state_of o slots old) thread from ≡ state_of o now new
  unfolding state_of
  buffer-state =
      sym (ap (λ (n : Slots). state_of o n new) is
      ∙ follows-law o slots (buffer_put slots thread from) old new agreed same
      (put-closes slots (buffer_slot thread) (Frame from.frame frame_rights None) (Some from.slot)
      (is-open slots (buffer_slot thread) empty_entry may.empty)))
