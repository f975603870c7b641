-- Calls that put copies into slots: Configure, SetBuffer, Get, and SetNotification where nothing was bound.
use Rattle.std.proofs.Common.{ℕ, ◌≡◌, ◌≢◌, ◌∙◌, ◌&&◌, ◌^◌, ◌<◌, true, false, not, is_some, nat_le, Option, Some, None, Ok, refl, sym, ap, subst, arith}
use Rattle.std.proofs.lemmas.Bool.{and_parts, leb-true, not-true}
use Rattle.model.specs.declared.capabilities.Cap.{Cap}
use Rattle.model.specs.declared.capabilities.Cap.TheVariants.{Frame, InterruptControl, InterruptHandler}
use Rattle.model.specs.declared.errors.KError.TheVariants.{DeleteFirst, IllegalOperation, InvalidCapability, RangeError, RevokeFirst}
use Rattle.model.specs.declared.invocations.SlotName.{SlotName}
use Rattle.model.proofs.SlotChanges.{capability_of}
use Rattle.model.specs.Capabilities.CapabilityKinds.{cnode_of, frame_mapping, frame_of, is_handler_of, root_of, Node}
use Rattle.model.specs.Capabilities.CapabilityWords.{IsCapability}
use Rattle.model.specs.Capabilities.Rights.{frame_rights}
use Rattle.model.specs.Capabilities.Slots.{IsFull, Slots, capability_at, depth_of, inserted, is_empty, is_full}
use Rattle.model.specs.Images.Boot.{boot_root}
use Rattle.model.specs.Kernel.Arguments.{Call, check, destination_slot, may_have_child, source_slot, wanted}
use Rattle.model.specs.Kernel.InterruptCalls.{get_handler, may_be_bound}
use Rattle.model.specs.Kernel.Kinds.{kind_at}
use Rattle.model.specs.Kernel.Retype.{NewThread}
use Rattle.model.specs.Kernel.Soundness.{IsSound, ThreadIsSound}
use Rattle.model.specs.Kernel.State.{State, ThreadObject, ThreadState, binding_slot, buffer_slot, cspace_slot, holds_some, thread_at, vspace_slot, with_slots}
use Rattle.model.specs.Kernel.State.{with_thread}
use Rattle.model.specs.Kernel.ThreadCalls.{buffer_frame, configure, given_guard_fits, set_buffer, with_guard}
use Rattle.soundness.specs.Calls.{IsCall, IsInvoked, held, boot}
use Rattle.soundness.proofs.CNodeCalls.{room-below}
use Rattle.soundness.proofs.Copies.{IsAlike, IsQuiet, alike-same, bindable, cnode-quiet, frame-alike, frame-is, no-badge, payload-alike, payload-cnode}
use Rattle.soundness.proofs.Copies.{payload-mapping, payload-valid, root-quiet, whole-frame}
use Rattle.soundness.proofs.Inserted.{Inserts, empty-open, inserted-depth, inserted-other, inserted-sound}
use Rattle.soundness.proofs.Lookups.{check-passes, destination-plain, passes-both, source-full, wanted-some}
use Rattle.soundness.proofs.Places.{StandsIn, buffer-may_hold, cspace-may_hold, line-may_hold, line-open, may-still, own-slot_open, plain-may_hold, plain-open}
use Rattle.soundness.proofs.Places.{thread-slot, vspace-may_hold}
use Rattle.soundness.proofs.Rest.{thread-kind}
use Rattle.soundness.proofs.ThreadCalls.{fine-of, same-whole}

-- ---- Get

control-held : (s : State) (call : Call) → IsInvoked s call → call.capability ≡ InterruptControl → capability_at s.slots call.slot ≡ InterruptControl
control-held s call (held is full) control = is ∙ control
control-held s call (boot is) control = let e : InterruptControl ≡ boot_root s.boot_radix = sym control ∙ is in absurd cc

pub get-sound : (s t : State) (call : Call) (number : ℕ) (name : SlotName) → IsSound s → IsCall s call → call.capability ≡ InterruptControl
    → get_handler s call number name ≡ Ok t → IsSound t
get-sound s t call number name sound is_call control is =
    let one = passes-both (check (nat_le number 63) RangeError) _ t is in
    let two = passes-both (check (not (holds_some s (is_handler_of number))) RevokeFirst) _ t one.rest in
    let three = passes-both (destination_slot s.slots call.root name) _ t two.rest in
    let four = passes-both (may_have_child s.slots call.slot) _ t three.rest in
    let less = leb-true number 63 (check-passes (nat_le number 63) RangeError one.value one.first) in
    let there = destination-plain s sound.memory call.root name three.value is_call.root three.first in
    let source = control-held s call is_call.invoked control in
    let alike : IsAlike InterruptControl (InterruptHandler number) =
    record { object = refl; single = refl; empty = refl; piece = refl; used = refl; table = refl } in
    let e : with_slots s (inserted s.slots three.value (InterruptHandler number) (Some call.slot)) ≡ t = cc four.rest in
    subst IsSound e (inserted-sound s three.value call.slot (InterruptHandler number) sound (record {
      empty = empty-open s.slots three.value sound.slots.derivation (plain-open s sound.slots three.value there.0) there.1;
      full = ap (λ (c : Cap). not (is_empty c)) source;
      room = room-below s call.slot four.value four.first;
      valid = omega (arith, less);
      alike = subst (λ (c : Cap). IsAlike c (InterruptHandler number)) (sym source) alike;
      shared = refl;
      unmapped = refl;
      may = plain-may_hold s sound.memory three.value (InterruptHandler number) there.0;
    }))

-- ---- SetNotification, once nothing is bound to the line (any more)

pub bound-sound : (s : State) (number source : ℕ) → IsSound s → number < 64 → IsFull s.slots source → is_full s.slots (binding_slot s number) ≡ false
    → depth_of s.slots source < 255 → may_be_bound (capability_at s.slots source) ≡ true
    → IsSound (with_slots s (inserted s.slots (binding_slot s number) (capability_at s.slots source) (Some source)))
bound-sound s number source sound less full free room may =
    let c = capability_at s.slots source in
    let facts = bindable c may in
    inserted-sound s (binding_slot s number) source c sound (record {
      empty = empty-open s.slots (binding_slot s number) sound.slots.derivation (line-open s sound.slots number less) free;
      full = full;
      room = room;
      valid = sound.slots.derivation.valid source;
      alike = alike-same c;
      shared = facts.single;
      unmapped = facts.unmapped;
      may = line-may_hold s sound.memory number c less facts.signal;
    })

-- ---- Configure

guarded-alike : (c : Cap) (guard : Option ℕ) → IsAlike c (with_guard c guard)
guarded-alike c None = alike-same c
guarded-alike c (Some payload) = payload-alike c payload

guarded-mapping : (c : Cap) (guard : Option ℕ) → frame_mapping (with_guard c guard) ≡ frame_mapping c
guarded-mapping c None = refl
guarded-mapping c (Some payload) = payload-mapping c payload

guarded-cnode : (c : Cap) (guard : Option ℕ) → cnode_of (with_guard c guard) ≡ cnode_of c
guarded-cnode c None = refl
guarded-cnode c (Some payload) = payload-cnode c payload

guarded-valid : (c : Cap) (guard : Option ℕ) → IsCapability c → IsQuiet c → given_guard_fits c guard ≡ true → IsCapability (with_guard c guard)
guarded-valid c None valid quiet fits = valid
guarded-valid c (Some payload) valid quiet fits = payload-valid c payload valid (no-badge c payload quiet.silent) fits

-- what is known before the copies come
record Configures (s : State) (thread cspace vspace : ℕ) (guard : Option ℕ) : Type 0 where
  own : ThreadState
  is : s.objects thread ≡ Some (ThreadObject own)
  cnode : Node
  is_cnode : cnode_of (capability_at s.slots cspace) ≡ Some cnode
  root : ℕ
  is_root : root_of (capability_at s.slots vspace) ≡ Some root
  first_full : IsFull s.slots cspace
  second_full : IsFull s.slots vspace
  first_free : is_full s.slots (cspace_slot thread) ≡ false
  second_free : is_full s.slots (vspace_slot thread) ≡ false
  fits : given_guard_fits (capability_at s.slots cspace) guard ≡ true
  first_room : depth_of s.slots cspace < 255
  second_room : depth_of s.slots vspace < 255

module _ (s : State) (thread cspace vspace : ℕ) (guard : Option ℕ) (sound : IsSound s) (known : Configures s thread cspace vspace guard) where
  first : Cap
  first = with_guard (capability_at s.slots cspace) guard

  first-stands : StandsIn s thread (cspace_slot thread)
  first-stands = thread-slot s thread (cspace_slot thread) 0 (Configures.own known) (Configures.is known) (omega arith) refl

  second-stands : StandsIn s thread (vspace_slot thread)
  second-stands = thread-slot s thread (vspace_slot thread) 1 (Configures.own known) (Configures.is known) (omega arith) refl

  first-inserts : Inserts s (cspace_slot thread) cspace first
  unfolding first
  first-inserts =
      let c = capability_at s.slots cspace in
      let quiet = cnode-quiet c (Configures.cnode known) (Configures.is_cnode known) in
      record {
        empty = empty-open s.slots (cspace_slot thread) sound.slots.derivation (own-slot_open s sound.slots thread (cspace_slot thread) first-stands)
            (Configures.first_free known);
        full = Configures.first_full known;
        room = Configures.first_room known;
        valid = guarded-valid c guard (sound.slots.derivation.valid cspace) quiet (Configures.fits known);
        alike = guarded-alike c guard;
        shared = (guarded-alike c guard).single ∙ quiet.single;
        unmapped = guarded-mapping c guard ∙ quiet.unmapped;
        may = cspace-may_hold s sound.memory thread (Configures.own known) first (Configures.is known)
            (ap is_some (guarded-cnode c guard ∙ Configures.is_cnode known));
      }

  one : Slots
  one = inserted s.slots (cspace_slot thread) first (Some cspace)

  one-sound : IsSound (with_slots s one)
  unfolding one
  one-sound = inserted-sound s (cspace_slot thread) cspace first sound first-inserts

  slots-differ : vspace_slot thread ≢ cspace_slot thread
  slots-differ e = omega (arith, e)

  source-differs : vspace ≢ cspace_slot thread
  source-differs e = let clash : true ≡ false = sym (Configures.second_full known) ∙ ap (is_full s.slots) e ∙ Configures.first_free known in cc

  still : (x : ℕ) → x ≢ cspace_slot thread → one x ≡ s.slots x
  unfolding one
  still x other = inserted-other s (cspace_slot thread) cspace first sound first-inserts x other

  second-inserts : Inserts (with_slots s one) (vspace_slot thread) vspace (capability_at s.slots vspace)
  unfolding one
  second-inserts =
      let c = capability_at s.slots vspace in
      let quiet = root-quiet c (Configures.root known) (Configures.is_root known) in
      let same : capability_at one vspace ≡ c = ap capability_of (still vspace source-differs) in
      let depth = inserted-depth s (cspace_slot thread) cspace first sound first-inserts vspace source-differs in
      let room = Configures.second_room known in
      record {
        empty = still (vspace_slot thread) slots-differ
            ∙ empty-open s.slots (vspace_slot thread) sound.slots.derivation (own-slot_open s sound.slots thread (vspace_slot thread) second-stands)
            (Configures.second_free known);
        full = ap (λ (c : Cap). not (is_empty c)) same ∙ Configures.second_full known;
        room = omega (arith, depth, room);
        valid = sound.slots.derivation.valid vspace;
        alike = subst (λ (d : Cap). IsAlike d c) (sym same) (alike-same c);
        shared = quiet.single;
        unmapped = quiet.unmapped;
        may = may-still s one (vspace_slot thread) c
            (vspace-may_hold s sound.memory thread (Configures.own known) c (Configures.is known) (ap is_some (Configures.is_root known)));
      }

  both-sound : IsSound (with_slots s (inserted (inserted s.slots (cspace_slot thread) (with_guard (capability_at s.slots cspace) guard) (Some cspace))
      (vspace_slot thread) (capability_at s.slots vspace) (Some vspace)))
  unfolding one first
  both-sound = inserted-sound (with_slots s one) (vspace_slot thread) vspace (capability_at s.slots vspace) one-sound second-inserts

address-fine : (t : ThreadState) (address : ℕ) → ThreadIsSound t → address < 2 ^ 32 → ThreadIsSound (record t { fault_address = address })
address-fine t address fine less = record {
  registers = fine.registers;
  words = fine.words;
  pc = fine.pc;
  priority = fine.priority;
  fault_address = less;
  slice = fine.slice;
}

pub configure-whole : (s t : State) (root : Cap) (thread : ℕ) (guard : Option ℕ) (address : ℕ) (cspace_name vspace_name : SlotName)
    → IsSound s → kind_at s thread ≡ Some NewThread → address < 2 ^ 32 → configure s root thread guard address cspace_name vspace_name ≡ Ok t → IsSound t
configure-whole s t root thread guard address cspace_name vspace_name whole is_thread less is =
    let one = passes-both (source_slot s.slots root cspace_name) _ t is in
    let cspace = one.value in
    let two = passes-both (wanted (cnode_of (capability_at s.slots cspace)) InvalidCapability) _ t one.rest in
    let three = passes-both (source_slot s.slots root vspace_name) _ t two.rest in
    let vspace = three.value in
    let four = passes-both (wanted (root_of (capability_at s.slots vspace)) InvalidCapability) _ t three.rest in
    let five = passes-both (check (not (is_full s.slots (cspace_slot thread)) && not (is_full s.slots (vspace_slot thread))) DeleteFirst) _ t four.rest in
    let six = passes-both (check (given_guard_fits (capability_at s.slots cspace) guard) IllegalOperation) _ t five.rest in
    let seven = passes-both (may_have_child s.slots cspace) _ t six.rest in
    let eight = passes-both (may_have_child s.slots vspace) _ t seven.rest in
    let own = thread-kind (s.objects thread) is_thread in
    let free = and_parts (not (is_full s.slots (cspace_slot thread))) (not (is_full s.slots (vspace_slot thread)))
    (check-passes (not (is_full s.slots (cspace_slot thread)) && not (is_full s.slots (vspace_slot thread))) DeleteFirst five.value five.first) in
    let known : Configures s thread cspace vspace guard = record {
      own = own.0;
      is = own.1;
      cnode = two.value;
      is_cnode = wanted-some (cnode_of (capability_at s.slots cspace)) InvalidCapability two.value two.first;
      root = four.value;
      is_root = wanted-some (root_of (capability_at s.slots vspace)) InvalidCapability four.value four.first;
      first_full = source-full s.slots root cspace_name cspace one.first;
      second_full = source-full s.slots root vspace_name vspace three.first;
      first_free = not-true (is_full s.slots (cspace_slot thread)) free.0;
      second_free = not-true (is_full s.slots (vspace_slot thread)) free.1;
      fits = check-passes (given_guard_fits (capability_at s.slots cspace) guard) IllegalOperation six.value six.first;
      first_room = room-below s cspace seven.value seven.first;
      second_room = room-below s vspace eight.value eight.first;
    } in
    let slots = inserted (inserted s.slots (cspace_slot thread) (with_guard (capability_at s.slots cspace) guard) (Some cspace)) (vspace_slot thread)
    (capability_at s.slots vspace) (Some vspace) in
    let s2 = with_slots s slots in
    let whole2 : IsSound s2 = both-sound s thread cspace vspace guard whole known in
    let e : with_thread s2 thread (record (thread_at s thread) { fault_address = address }) ≡ t = cc eight.rest in
    subst IsSound e (same-whole s2 whole2 thread is_thread (record (thread_at s thread) { fault_address = address })
    (address-fine (thread_at s thread) address (fine-of s whole thread is_thread) less) (λ _ f. f) refl refl)

-- ---- SetBuffer

copy-valid : (c : Cap) (frame : ℕ) → frame_of c ≡ Some frame → IsCapability c → IsCapability (Frame frame frame_rights None)
copy-valid c frame is valid =
    let held = frame-is c frame is in
    let whole : IsCapability (Frame frame held.0 held.1) = subst IsCapability held.2 valid in
    (whole.0, omega arith, tt)

pub set_buffer-sound : (s t : State) (root : Cap) (thread : ℕ) (name : SlotName) → IsSound s → kind_at s thread ≡ Some NewThread
    → set_buffer s root thread name ≡ Ok t → IsSound t
set_buffer-sound s t root thread name sound is_thread is =
    let one = passes-both (source_slot s.slots root name) _ t is in
    let source = one.value in
    let two = passes-both (wanted (buffer_frame (capability_at s.slots source)) InvalidCapability) _ t one.rest in
    let three = passes-both (check (not (is_full s.slots (buffer_slot thread))) DeleteFirst) _ t two.rest in
    let four = passes-both (may_have_child s.slots source) _ t three.rest in
    let c = capability_at s.slots source in
    let frame = two.value in
    let named = whole-frame c frame (wanted-some (buffer_frame c) InvalidCapability frame two.first) in
    let own = thread-kind (s.objects thread) is_thread in
    let stands = thread-slot s thread (buffer_slot thread) 2 own.0 own.1 (omega arith) refl in
    let own_full = is_full s.slots (buffer_slot thread) in
    let free = not-true own_full (check-passes (not own_full) DeleteFirst three.value three.first) in
    let e : with_slots s (inserted s.slots (buffer_slot thread) (Frame frame frame_rights None) (Some source)) ≡ t = cc four.rest in
    subst IsSound e (inserted-sound s (buffer_slot thread) source (Frame frame frame_rights None) sound (record {
      empty = empty-open s.slots (buffer_slot thread) sound.slots.derivation (own-slot_open s sound.slots thread (buffer_slot thread) stands) free;
      full = source-full s.slots root name source one.first;
      room = room-below s source four.value four.first;
      valid = copy-valid c frame named (sound.slots.derivation.valid source);
      alike = frame-alike c frame frame_rights None named;
      shared = refl;
      unmapped = refl;
      may = buffer-may_hold s sound.memory thread own.0 (Frame frame frame_rights None) own.1 refl;
    }))
