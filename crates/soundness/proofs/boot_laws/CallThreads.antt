-- Calls on threads by the loader: Configure with a guard word, SetBuffer, SetPriority, SetRegister and Resume, on a thread that does not run.
use Rattle.std.proofs.Common.{ℕ, ◌≡◌, ◌∙◌, ◌==◌, ◌%◌, ◌^◌, ◌<◌, ◌≤◌, ◌&&◌, ◌||◌, true, false, not, nat_le, nat_lt, if◌then◌else◌, Some, None, Result, Ok, []}
use Rattle.std.proofs.Common.{◌∷◌, refl, ap}
use Rattle.std.proofs.lemmas.Bool.{and_from, le-leb, lt-ltb}
use Rattle.model.specs.Capabilities.CapabilityKinds.{cnode_of, is_guard_word, root_of}
use Rattle.model.specs.Capabilities.Rights.{frame_rights}
use Rattle.model.specs.Capabilities.Slots.{capability_at, depth_of, inserted, is_empty, is_full}
use Rattle.model.specs.Images.Boot.{boot_root, made, performed}
use Rattle.model.specs.Images.BootCalls.{loader_call}
use Rattle.model.specs.Kernel.Arguments.{source_slot, wanted}
use Rattle.model.specs.Kernel.CallForms.{configure_label, decode, resume_label, set_buffer_label, set_priority_label, set_register_label}
use Rattle.model.specs.Kernel.Invocations.{configure_with_guard, invoke}
use Rattle.model.specs.Kernel.Scheduling.{at_tail, is_runnable, leaves, unready, wake}
use Rattle.model.specs.Kernel.Soundness.{HasShape}
use Rattle.model.specs.Kernel.State.{State, buffer_slot, cspace_slot, thread_at, vspace_slot, with_slots, with_thread}
use Rattle.model.specs.Kernel.ThreadCalls.{buffer_frame, configure, given_guard_fits, resume, set_buffer, set_priority, set_register, with_guard}
use Rattle.model.specs.Kernel.ThreadCalls.{with_register}
use Rattle.model.specs.declared.capabilities.Cap.TheVariants.{CNode, Frame, RootTable, Tcb}
use Rattle.model.specs.declared.errors.KError.{KError}
use Rattle.model.specs.declared.errors.KError.TheVariants.{AlignmentError, DeleteFirst, IllegalOperation, InvalidCapability, RangeError}
use Rattle.soundness.proofs.boot_laws.CallLookups.{boot-source, boot_name, goes, made-there, passes, slot_call}

-- what each call comes to
configure-called : (s : State) (slot thread fault cspace vspace guard : ℕ)
    → performed s configure_label (fault ∷ cspace ∷ 32 ∷ vspace ∷ 32 ∷ guard ∷ []) (slot_call s slot (Tcb thread))
    ≡ configure s (boot_root s.boot_radix) thread (Some guard) fault (boot_name cspace) (boot_name vspace)
unfolding configure_with_guard
configure-called s slot thread fault cspace vspace guard = refl

buffer-called : (s : State) (slot thread source : ℕ)
    → performed s set_buffer_label (source ∷ 32 ∷ []) (slot_call s slot (Tcb thread)) ≡ set_buffer s (boot_root s.boot_radix) thread (boot_name source)
unfolding invoke decode
buffer-called s slot thread source = refl

priority-called : (s : State) (slot thread priority : ℕ) → performed s set_priority_label (priority ∷ []) (slot_call s slot (Tcb thread)) ≡ set_priority s
    thread priority
unfolding invoke decode
priority-called s slot thread priority = refl

register-called : (s : State) (slot thread index value : ℕ)
    → performed s set_register_label (index ∷ value ∷ []) (slot_call s slot (Tcb thread)) ≡ set_register s None thread index value
unfolding invoke decode
register-called s slot thread index value = refl

resume-called : (s : State) (slot thread : ℕ) → performed s resume_label [] (slot_call s slot (Tcb thread)) ≡ Ok (resume s thread)
unfolding invoke decode
resume-called s slot thread = refl

-- ---- Configure

pub record IsThreadSlot (s : State) (slot thread : ℕ) : Type 0 where
  pub inside : slot < 2 ^ s.boot_radix
  pub holds : capability_at s.slots slot ≡ Tcb thread

pub record Configures (s : State) (thread cspace cnode radix vspace root guard : ℕ) : Type 0 where
  pub first : cspace < 2 ^ s.boot_radix
  pub first_holds : capability_at s.slots cspace ≡ CNode cnode radix 0
  pub first_shallow : depth_of s.slots cspace < 255
  pub second : vspace < 2 ^ s.boot_radix
  pub second_holds : capability_at s.slots vspace ≡ RootTable root
  pub second_shallow : depth_of s.slots vspace < 255
  pub first_free : is_full s.slots (cspace_slot thread) ≡ false
  pub second_free : is_full s.slots (vspace_slot thread) ≡ false
  pub fits : is_guard_word radix guard ≡ true

-- both slots of a thread filled, and where its faults go
abbrev pub configured : State → ℕ → ℕ → ℕ → ℕ → ℕ → ℕ → ℕ → ℕ → State
configured s thread fault cspace cnode radix guard vspace root =
    let one = inserted s.slots (cspace_slot thread) (CNode cnode radix guard) (Some cspace) in
    let both = inserted one (vspace_slot thread) (RootTable root) (Some vspace) in
    with_thread (with_slots s both) thread (record (thread_at s thread) { fault_address = fault })

pub configure-made : (s : State) (slot thread fault cspace cnode radix vspace root guard : ℕ) → HasShape s → IsThreadSlot s slot thread
    → Configures s thread cspace cnode radix vspace root guard
    → made s (loader_call slot configure_label (fault ∷ cspace ∷ 32 ∷ vspace ∷ 32 ∷ guard ∷ []))
    ≡ Ok (configured s thread fault cspace cnode radix guard vspace root)
configure-made s slot thread fault cspace cnode radix vspace root guard shape is asked =
    let first = capability_at s.slots cspace in
    let second = capability_at s.slots vspace in
    let name = boot_root s.boot_radix in
    let end : Result State KError = Ok (configured s thread fault cspace cnode radix guard vspace root) in
    let free = and_from (not (is_full s.slots (cspace_slot thread))) (not (is_full s.slots (vspace_slot thread))) (ap not asked.first_free)
    (ap not asked.second_free) in
    made-there s shape slot is.inside configure_label (fault ∷ cspace ∷ 32 ∷ vspace ∷ 32 ∷ guard ∷ []) (Tcb thread) is.holds refl
    ∙ configure-called s slot thread fault cspace vspace guard
    ∙ goes (source_slot s.slots name (boot_name cspace)) _ cspace end (boot-source s shape cspace asked.first (ap (λ c. not (is_empty c)) asked.first_holds))
    (goes (wanted (cnode_of first) InvalidCapability) _ (record { offset = cnode; radix = radix }) end
    (ap (λ c. wanted (cnode_of c) InvalidCapability) asked.first_holds)
    (goes (source_slot s.slots name (boot_name vspace)) _ vspace end (boot-source s shape vspace asked.second (ap (λ c. not (is_empty c)) asked.second_holds))
    (goes (wanted (root_of second) InvalidCapability) _ root end (ap (λ c. wanted (root_of c) InvalidCapability) asked.second_holds)
    (passes (not (is_full s.slots (cspace_slot thread)) && not (is_full s.slots (vspace_slot thread))) DeleteFirst _ end free
    (passes (given_guard_fits first (Some guard)) IllegalOperation _ end (ap (λ c. given_guard_fits c (Some guard)) asked.first_holds ∙ asked.fits)
    (passes (nat_lt (depth_of s.slots cspace) 255) IllegalOperation _ end (lt-ltb (depth_of s.slots cspace) 255 asked.first_shallow)
    (passes (nat_lt (depth_of s.slots vspace) 255) IllegalOperation _ end (lt-ltb (depth_of s.slots vspace) 255 asked.second_shallow)
    (ap (λ c. Ok (with_thread
    (with_slots s (inserted (inserted s.slots (cspace_slot thread) (with_guard c (Some guard)) (Some cspace)) (vspace_slot thread) second (Some vspace)))
    thread (record (thread_at s thread) { fault_address = fault }))) asked.first_holds
    ∙ ap (λ c. Ok (with_thread
    (with_slots s (inserted (inserted s.slots (cspace_slot thread) (CNode cnode radix guard) (Some cspace)) (vspace_slot thread) c (Some vspace))) thread
    (record (thread_at s thread) { fault_address = fault }))) asked.second_holds))))))))

-- ---- SetBuffer

-- a frame's original and the thread's slot for its buffer
pub record SetsBuffer (s : State) (thread source frame : ℕ) : Type 0 where
  pub inside : source < 2 ^ s.boot_radix
  pub holds : capability_at s.slots source ≡ Frame frame frame_rights None
  pub shallow : depth_of s.slots source < 255
  pub free : is_full s.slots (buffer_slot thread) ≡ false

pub buffer-made : (s : State) (slot thread source frame : ℕ) → HasShape s → IsThreadSlot s slot thread → SetsBuffer s thread source frame
    → made s (loader_call slot set_buffer_label (source ∷ 32 ∷ []))
    ≡ Ok (with_slots s (inserted s.slots (buffer_slot thread) (Frame frame frame_rights None) (Some source)))
buffer-made s slot thread source frame shape is asked =
    let held = capability_at s.slots source in
    let end : Result State KError = Ok (with_slots s (inserted s.slots (buffer_slot thread) (Frame frame frame_rights None) (Some source))) in
    made-there s shape slot is.inside set_buffer_label (source ∷ 32 ∷ []) (Tcb thread) is.holds refl
    ∙ buffer-called s slot thread source
    ∙ goes (source_slot s.slots (boot_root s.boot_radix) (boot_name source)) _ source end
    (boot-source s shape source asked.inside (ap (λ c. not (is_empty c)) asked.holds))
    (goes (wanted (buffer_frame held) InvalidCapability) _ frame end (ap (λ c. wanted (buffer_frame c) InvalidCapability) asked.holds)
    (passes (not (is_full s.slots (buffer_slot thread))) DeleteFirst _ end (ap not asked.free)
    (passes (nat_lt (depth_of s.slots source) 255) IllegalOperation _ end (lt-ltb (depth_of s.slots source) 255 asked.shallow) refl)))

-- ---- SetPriority, SetRegister, Resume

module _ (s : State) (slot thread : ℕ) (shape : HasShape s) (is : IsThreadSlot s slot thread) where
  pub priority-made : (priority : ℕ) → priority ≤ 255 → is_runnable (thread_at s thread).status ≡ false
      → made s (loader_call slot set_priority_label (priority ∷ [])) ≡ Ok (with_thread s thread (record (thread_at s thread) { priority = priority }))
  priority-made priority small rests =
      let t = record (thread_at s thread) { priority = priority } in
      let end : Result State KError = Ok (with_thread s thread t) in
      made-there s shape slot is.inside set_priority_label (priority ∷ []) (Tcb thread) is.holds refl
      ∙ priority-called s slot thread priority
      ∙ passes (nat_le priority 255) RangeError _ end (le-leb priority 255 small)
      (ap (λ b. Ok (if b then at_tail (with_thread (unready s thread) thread t) thread else with_thread s thread t)) rests)

  pub register-made : (index value : ℕ) → index ≤ 31 → (not (index == 0) || value % 4 == 0) ≡ true
      → made s (loader_call slot set_register_label (index ∷ value ∷ [])) ≡ Ok (with_register s thread index value)
  register-made index value small aligned =
      let end : Result State KError = Ok (with_register s thread index value) in
      made-there s shape slot is.inside set_register_label (index ∷ value ∷ []) (Tcb thread) is.holds refl
      ∙ register-called s slot thread index value
      ∙ passes (nat_le index 31) RangeError _ end (le-leb index 31 small)
      (passes (not (index == 0) || value % 4 == 0) AlignmentError _ end aligned refl)

  pub resume-made : is_runnable (thread_at s thread).status ≡ false → made s (loader_call slot resume_label []) ≡ Ok (wake (leaves s thread) thread)
  resume-made rests =
      made-there s shape slot is.inside resume_label [] (Tcb thread) is.holds refl
      ∙ resume-called s slot thread
      ∙ ap (λ b. Ok (if b then s else wake (leaves s thread) thread)) rests
