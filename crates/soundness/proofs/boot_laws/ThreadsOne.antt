-- The calls that set one thread up lead to the state with one listed thread more.
use Rattle.std.proofs.Common.{ℕ, ◌≡◌, ◌≢◌, ◌∙◌, ◌==◌, ◌<◌, ◌≤◌, ◌^◌, true, false, not, if◌then◌else◌, Option, Some, None, List, [], ◌∷◌, ◌++◌, map, replicate}
use Rattle.std.proofs.Common.{take, option_map, inl, inr, refl, sym, ap, subst, append_assoc, arith, Ok}
use Rattle.std.specs.Prelude.{slice_get}
use Rattle.std.specs.Option.{option_map_or}
use Rattle.std.proofs.lemmas.Bool.{cases_eq, eq-eqb, ne_eqb}
use Rattle.std.proofs.lemmas.List.{map-append}
use Rattle.soundness.specs.boot_laws.Loading.{Progress, bytes_so_far, loaded, objects_so_far}
use Rattle.model.specs.Acceptance.WellFormed.{is_frame_type, is_untyped_type, radix_of}
use Rattle.model.specs.Capabilities.CapabilityKinds.{is_guard_word, is_untyped, with_payload, with_table_mapping}
use Rattle.model.specs.Capabilities.Rights.{frame_rights}
use Rattle.model.specs.Capabilities.Slots.{Slots, capability_at, empty_entry, inserted, is_empty, is_full, parent_at}
use Rattle.model.specs.Images.Boot.{made}
use Rattle.model.specs.Images.BootCalls.{Calls, LoaderCall, Operation, buffer_calls, loader_call, thread_calls}
use Rattle.model.specs.Images.Described.{listed_thread, original, start_of, start_registers}
use Rattle.model.specs.Images.Image.{Image, Thread, no_buffer}
use Rattle.model.specs.Images.Places.{object_at, offset_of, original_slot, type_at}
use Rattle.model.specs.Kernel.CallForms.{configure_label, resume_label, set_buffer_label, set_priority_label, set_register_label}
use Rattle.model.specs.Kernel.Retype.{NewObject, NewThread, NewCNode, NewFrame, NewRootTable, first_capability}
use Rattle.model.specs.Kernel.Scheduling.{without_threads}
use Rattle.model.specs.Kernel.State.{State, ThreadObject, ThreadState, as_thread, boot_area_slots, buffer_slot, cspace_slot, new_thread, put, thread_at}
use Rattle.model.specs.Kernel.State.{vspace_slot, with_slots, with_thread}
use Rattle.model.specs.Shared.Lists.{without}
use Rattle.model.specs.declared.capabilities.Cap.{Cap}
use Rattle.model.specs.declared.capabilities.Cap.TheVariants.{CNode, Empty, Frame, RootTable, Tcb}
use Rattle.model.specs.declared.capabilities.TableMapping.{TableMapping}
use Rattle.model.specs.declared.entries.RegisterEntry.{RegisterEntry}
use Rattle.model.specs.declared.slot_entries.Entry.{Entry}
use Rattle.soundness.proofs.boot_laws.CallCopies.{IsSource}
use Rattle.soundness.proofs.boot_laws.CallDepths.{child-shallow}
use Rattle.soundness.proofs.boot_laws.CallOriginals.{cnode-type, frame-type, original-described, original-loaded, root-type, stays, thread-type}
use Rattle.soundness.proofs.boot_laws.CallThreads.{Configures, SetsBuffer, buffer-made, configure-made}
use Rattle.format_laws.specs.Fitting.{ThreadFits}
use Rattle.soundness.proofs.boot_laws.PhaseHeld.{get-take}
use Rattle.soundness.proofs.boot_laws.PhaseSources.{below-boot, inserted-elsewhere, original-parent, original-source, untyped-below, untyped-root}
use Rattle.soundness.proofs.boot_laws.PhaseStates.{Known, capability-read}
use Rattle.soundness.proofs.boot_laws.PlacesObjects.{offsets-apart}
use Rattle.soundness.proofs.boot_laws.ReadingsRoom.{threads-differ}
use Rattle.soundness.proofs.boot_laws.PlacesRules.{BufferKept, ThreadKept, buffer-kept}
use Rattle.soundness.proofs.boot_laws.PlacesSlots.{cspace-slot, slot-behind-boot}
use Rattle.soundness.proofs.boot_laws.PlacesTypes.{frame-listed}
use Rattle.soundness.proofs.boot_laws.Readings.{one_thread, slots_of_loaded, with_spaces}
use Rattle.soundness.proofs.boot_laws.RunSequences.{Leads, leads-both, leads-call, leads-none, leads-same}
use Rattle.soundness.proofs.boot_laws.ThreadsFit.{guard-radix, start-aligned}
use Rattle.soundness.proofs.boot_laws.ThreadsListed.{without-mapped, object-listed, object-new, objects-other, objects-quiet, ready-listed}
use Rattle.soundness.proofs.boot_laws.ThreadsStanding.{resumes, sets-pc, sets-priority, sets-registers, standing, standing-shape}
use Rattle.soundness.proofs.boot_laws.ThreadsWoken.{rested, woken, woken-is}

-- an original of this type, which no page table's mapping changes, can be copied
kind-source : (image : Image) (p : Progress) (number : ℕ) (kind : NewObject) → Known image p → p.objects ≡ image.header.objects → number < image.header.objects
    → type_at image number ≡ Some kind
    → ((m : Option TableMapping) → with_table_mapping (first_capability kind (offset_of image number)) m ≡ first_capability kind (offset_of image number))
    → is_untyped (first_capability kind (offset_of image number)) ≡ false
    → IsSource (loaded image p) (original_slot image number) (first_capability kind (offset_of image number))
kind-source image p number kind known all less is same other =
    let source = original-source image p number known all less (stays image number kind is same p other) in
    record { inside = source.inside; holds = source.holds ∙ original-loaded image number kind is same p; shallow = source.shallow }

-- what is known before a thread is set up, and of the state with it
pub record ThreadComes (image : Image) (p : Progress) (t : Thread) : Type 0 where
  pub before : Known image p
  pub behind : Known image (one_thread p)
  pub objects : p.objects ≡ image.header.objects
  pub at : slice_get image.threads p.threads ≡ Some t
  pub registers : (j : ℕ) (r : RegisterEntry) → slice_get t.registers j ≡ Some r → (1 ≤ r.register) × (r.register ≤ 31)

module _ (image : Image) (p : Progress) (t : Thread) (comes : ThreadComes image p t) where
  abbrev s : State
  s = loaded image p

  abbrev slots : Slots
  slots = slots_of_loaded image (one_thread p)

  abbrev x : ℕ
  x = offset_of image t.header.tcb

  abbrev slot : ℕ
  slot = original_slot image t.header.tcb

  kept : ThreadKept image p.threads t
  kept = comes.before.formed.thread p.threads t comes.at

  fits : ThreadFits image t.header
  fits = comes.before.fits.thread p.threads t comes.at

  is_thread : type_at image t.header.tcb ≡ Some NewThread
  is_thread = thread-type (type_at image t.header.tcb) kept.tcb

  thread-source : IsSource s slot (Tcb x)
  thread-source = kind-source image p t.header.tcb NewThread comes.before comes.objects fits.tcb is_thread (λ m. refl) refl

  -- ---- the thread before

  object-before : s.objects x ≡ Some (ThreadObject new_thread)
  object-before =
      comes.before.objects.there t.header.tcb (subst (λ (n : ℕ). t.header.tcb < n) (sym comes.objects) fits.tcb) (ap is_untyped_type is_thread)
      ∙ object-new image p t comes.at is_thread kept.once

  -- no thread that is listed before is at its offset
  earlier-apart : (j : ℕ) (u : Thread) → slice_get (take p.threads image.threads) j ≡ Some u → offset_of image u.header.tcb ≢ x
  earlier-apart j u there same =
      let before = get-take p.threads image.threads j u there in
      threads-differ image comes.before.fits comes.before.formed j p.threads u t before.0 before.1 comes.at
      (offsets-apart image u.header.tcb t.header.tcb comes.before.fits comes.before.formed (ThreadFits.tcb (comes.before.fits.thread j u before.1)) fits.tcb
      same)

  rests : (priority : ℕ) → without x (s.ready priority) ≡ s.ready priority
  unfolding loaded
  rests priority =
      without-mapped (λ u. offset_of image u.header.tcb) (λ u. u.header.priority == priority) x (take p.threads image.threads) earlier-apart

  -- ---- the state after

  object-behind : (offset : ℕ) → put (objects_so_far image p) x (Some (ThreadObject (listed_thread t))) offset ≡ objects_so_far image (one_thread p) offset
  unfolding loaded
  object-behind offset =
      elim (cases_eq offset x) [
        | inl same ↦
            ap (λ b. if b then Some (ThreadObject (listed_thread t)) else objects_so_far image p offset) (eq-eqb offset x same)
            ∙ sym (object-listed image p t comes.at kept.once)
            ∙ sym (comes.behind.objects.there t.header.tcb (subst (λ (n : ℕ). t.header.tcb < n) (sym comes.objects) fits.tcb) (ap is_untyped_type is_thread))
            ∙ ap (objects_so_far image (one_thread p)) (sym same)
        | inr other ↦
            ap (λ b. if b then Some (ThreadObject (listed_thread t)) else objects_so_far image p offset) (ne_eqb offset x other)
            ∙ sym (objects-other image p t comes.at offset (λ is. other (sym is)))
      ]

  quiet : (offset : ℕ) → option_map (without_threads (λ other. other == x)) (s.objects offset) ≡ s.objects offset
  unfolding loaded
  quiet offset = objects-quiet (λ other. other == x) image p offset

  abbrev prepared : ThreadState
  prepared = rested (start_registers t) t.header.priority t.header.fault

  state-behind : woken s slots x (start_registers t) t.header.priority t.header.fault quiet rests ≡ loaded image (one_thread p)
  unfolding loaded bytes_so_far
  state-behind = λ i. record (loaded image (one_thread p)) {
    objects = λ offset. object-behind offset i;
    ready = λ priority. ready-listed image p t comes.at priority i;
  }

  -- the thread's original is still there
  thread-named : capability_at slots slot ≡ Tcb x
  thread-named = (kind-source image (one_thread p) t.header.tcb NewThread comes.behind comes.objects fits.tcb is_thread (λ m. refl) refl).holds

  resumed : made (standing s slots x prepared) (loader_call slot resume_label []) ≡ Ok (loaded image (one_thread p))
  resumed =
      resumes s slots x slot comes.before.shape thread-source.inside thread-named prepared refl
      ∙ ap (λ after. Ok after) (woken-is s slots x (start_registers t) t.header.priority t.header.fault quiet rests ∙ state-behind)

  -- ---- Configure

  guard : (radix : ℕ) × (radix_of (type_at image t.header.cnode) ≡ Some radix) × (is_guard_word radix t.header.guard ≡ true)
  guard = guard-radix (radix_of (type_at image t.header.cnode)) t.header.guard kept.guard

  is_cnode : type_at image t.header.cnode ≡ Some (NewCNode guard.0)
  is_cnode = cnode-type (type_at image t.header.cnode) guard.0 guard.1

  is_root : type_at image t.header.root ≡ Some NewRootTable
  is_root = root-type (type_at image t.header.root) kept.root

  cnode-source : IsSource s (original_slot image t.header.cnode) (CNode (offset_of image t.header.cnode) guard.0 0)
  cnode-source = kind-source image p t.header.cnode (NewCNode guard.0) comes.before comes.objects fits.cnode is_cnode (λ m. refl) refl

  root-source : IsSource s (original_slot image t.header.root) (RootTable (offset_of image t.header.root))
  root-source = kind-source image p t.header.root NewRootTable comes.before comes.objects fits.root is_root (λ m. refl) refl

  asked : Configures s x (original_slot image t.header.cnode) (offset_of image t.header.cnode) guard.0 (original_slot image t.header.root)
      (offset_of image t.header.root) t.header.guard
  asked = record {
    first = cnode-source.inside;
    first_holds = cnode-source.holds;
    first_shallow = cnode-source.shallow;
    second = root-source.inside;
    second_holds = root-source.holds;
    second_shallow = root-source.shallow;
    first_free = ap (λ c. not (is_empty c)) (capability-read image p (cspace_slot x) empty_entry (comes.before.room.cspace p.threads t (omega arith) comes.at));
    second_free = ap (λ c. not (is_empty c)) (capability-read image p (vspace_slot x) empty_entry
        (comes.before.room.vspace p.threads t (omega arith) comes.at));
    fits = guard.2;
  }

  abbrev both_in : Cap → Cap → Slots
  both_in first second =
      inserted (inserted s.slots (cspace_slot x) (with_payload first t.header.guard) (Some (original_slot image t.header.cnode)))
      (vspace_slot x) second (Some (original_slot image t.header.root))

  -- the slots once the thread has its spaces
  abbrev spaced : Slots
  spaced = with_spaces image t s.slots

  spaces-in : both_in (CNode (offset_of image t.header.cnode) guard.0 0) (RootTable (offset_of image t.header.root)) ≡ spaced
  spaces-in =
      sym (ap (λ c. both_in c (RootTable (offset_of image t.header.root))) (original-described image t.header.cnode (NewCNode guard.0) is_cnode (λ m. refl)))
      ∙ sym (ap (both_in (original image t.header.cnode)) (original-described image t.header.root NewRootTable is_root (λ m. refl)))

  thread-before : thread_at s x ≡ new_thread
  thread-before = ap (λ o. option_map_or (λ u. u) (as_thread o) new_thread) object-before

  abbrev first_thread : ThreadState
  first_thread = rested (record { pc = 0; words = replicate 32 0 }) 0 t.header.fault

  abbrev second_thread : ThreadState
  second_thread = rested (record { pc = 0; words = replicate 32 0 }) t.header.priority t.header.fault

  abbrev third_thread : ThreadState
  third_thread = rested (record { pc = start_of t; words = replicate 32 0 }) t.header.priority t.header.fault

  abbrev configure_call : LoaderCall
  configure_call =
      loader_call slot configure_label (t.header.fault ∷ original_slot image t.header.cnode ∷ 32 ∷ original_slot image t.header.root ∷ 32 ∷ t.header.guard ∷ [])

  configured-now : made s configure_call ≡ Ok (standing s spaced x first_thread)
  configured-now =
      configure-made s slot x t.header.fault (original_slot image t.header.cnode) (offset_of image t.header.cnode) guard.0 (original_slot image t.header.root)
      (offset_of image t.header.root) t.header.guard comes.before.shape (record { inside = thread-source.inside; holds = thread-source.holds }) asked
      ∙ ap (λ sl. Ok (with_thread (with_slots s sl) x (record (thread_at s x) { fault_address = t.header.fault }))) spaces-in
      ∙ ap (λ (u : ThreadState). Ok (with_thread (with_slots s spaced) x (record u { fault_address = t.header.fault }))) thread-before

  -- ---- SetBuffer

  -- boot slots are as they were
  spaced-boot : (n : ℕ) → n < 2 ^ image.header.boot_radix → spaced n ≡ s.slots n
  spaced-boot n low =
      let behind : boot_area_slots image.header.boot_radix ≤ cspace_slot x =
      slot-behind-boot image comes.before.fits comes.before.formed t.header.tcb (cspace_slot x) fits.tcb (cspace-slot image t.header.tcb kept.tcb) in
      inserted-elsewhere (inserted s.slots (cspace_slot x) _ _) (vspace_slot x) _ _ n (λ same. omega (arith, same, low, behind))
      ∙ inserted-elsewhere s.slots (cspace_slot x) _ _ n (λ same. omega (arith, same, low, behind))

  capability-spaced : (n : ℕ) → n < 2 ^ image.header.boot_radix → capability_at spaced n ≡ capability_at s.slots n
  capability-spaced n low = ap (λ (o : Option Entry). option_map_or (λ held. held.capability) o Empty) (spaced-boot n low)

  parent-spaced : (n : ℕ) → n < 2 ^ image.header.boot_radix → parent_at spaced n ≡ parent_at s.slots n
  parent-spaced n low = ap (λ (o : Option Entry). option_map_or (λ held. held.parent) o None) (spaced-boot n low)

  buffer-free : is_full spaced (buffer_slot x) ≡ false
  buffer-free =
      let same : spaced (buffer_slot x) ≡ s.slots (buffer_slot x) =
      inserted-elsewhere (inserted s.slots (cspace_slot x) _ _) (vspace_slot x) _ _ (buffer_slot x) (λ same. omega (arith, same))
      ∙ inserted-elsewhere s.slots (cspace_slot x) _ _ (buffer_slot x) (λ same. omega (arith, same)) in
      ap (λ (o : Option Entry). not (is_empty (option_map_or (λ held. held.capability) o Empty)))
      (same ∙ comes.before.room.buffer p.threads t (omega arith) comes.at)

  abbrev source : ℕ
  source = original_slot image t.header.buffer

  abbrev buffer_call : LoaderCall
  buffer_call = loader_call slot set_buffer_label (source ∷ 32 ∷ [])

  abbrev buffered : Cap → Slots
  buffered c = inserted spaced (buffer_slot x) c (Some source)

  module _ (some : (t.header.buffer == no_buffer) ≡ false) where
    is_frame : is_frame_type (type_at image t.header.buffer) ≡ true
    is_frame = BufferKept.frame (buffer-kept image p.threads t kept some)

    typed : type_at image t.header.buffer ≡ Some NewFrame
    typed = frame-type (type_at image t.header.buffer) is_frame

    listed : t.header.buffer < image.header.objects
    listed = frame-listed image t.header.buffer comes.before.fits is_frame

    buffer-source : IsSource s source (Frame (offset_of image t.header.buffer) frame_rights None)
    buffer-source = kind-source image p t.header.buffer NewFrame comes.before comes.objects listed typed (λ m. refl) refl

    buffer-asked : SetsBuffer (standing s spaced x first_thread) x source (offset_of image t.header.buffer)
    buffer-asked =
        let untyped = (object_at image t.header.buffer).untyped in
        let low = below-boot image p t.header.buffer comes.before comes.objects listed in
        let root_low = untyped-below image p t.header.buffer comes.before comes.objects listed in
        record {
          inside = buffer-source.inside;
          holds = capability-spaced source low ∙ buffer-source.holds;
          shallow = child-shallow spaced source untyped
              (parent-spaced source low ∙ original-parent image p t.header.buffer comes.before comes.objects listed
              (stays image t.header.buffer NewFrame typed (λ m. refl) p refl))
              (parent-spaced untyped root_low ∙ untyped-root image p t.header.buffer comes.before comes.objects listed);
          free = buffer-free;
        }

    buffer-set : made (standing s spaced x first_thread) buffer_call ≡ Ok (standing s (buffered (original image t.header.buffer)) x first_thread)
    buffer-set =
        let low = below-boot image p t.header.tcb comes.before comes.objects fits.tcb in
        buffer-made (standing s spaced x first_thread) slot x source (offset_of image t.header.buffer)
        (standing-shape s spaced x first_thread comes.before.shape)
        (record { inside = thread-source.inside; holds = capability-spaced slot low ∙ thread-source.holds }) buffer-asked
        ∙ ap (λ c. Ok (standing s (buffered c) x first_thread)) (sym (original-described image t.header.buffer NewFrame typed (λ m. refl)))

  buffer-steps : Leads image (standing s spaced x first_thread) (map Calls (buffer_calls image t)) (standing s slots x first_thread)
  buffer-steps =
      subst (λ (sl : Slots). Leads image (standing s spaced x first_thread) (map Calls (buffer_calls image t)) (standing s sl x first_thread))
      (sym (comes.before.adds_room.thread t comes.at))
      (elim (t.header.buffer == no_buffer) as (λ b. (t.header.buffer == no_buffer) ≡ b
      → Leads image (standing s spaced x first_thread) (map Calls (if b then [] else buffer_call ∷ []))
      (standing s (if b then spaced else buffered (original image t.header.buffer)) x first_thread)) [
        | true ↦ λ _. leads-none image (standing s spaced x first_thread)
        | false ↦ λ some. leads-call image (standing s spaced x first_thread) (standing s (buffered (original image t.header.buffer)) x first_thread)
            buffer_call
            (buffer-set some)
      ] refl)

  -- ---- the whole

  abbrev priority_call : LoaderCall
  priority_call = loader_call slot set_priority_label (t.header.priority ∷ [])

  abbrev pc_call : LoaderCall
  pc_call = loader_call slot set_register_label (0 ∷ start_of t ∷ [])

  abbrev resume_call : LoaderCall
  resume_call = loader_call slot resume_label []

  abbrev register_calls : List LoaderCall
  register_calls = map (λ r. loader_call slot set_register_label (r.register ∷ r.value ∷ [])) t.registers

  last-steps : Leads image (standing s slots x third_thread) (map Calls (register_calls ++ resume_call ∷ [])) (loaded image (one_thread p))
  last-steps =
      leads-same image (standing s slots x third_thread) (loaded image (one_thread p)) (map Calls register_calls ++ Calls resume_call ∷ []) _
      (sym (map-append Calls register_calls (resume_call ∷ [])))
      (leads-both image (standing s slots x third_thread) (standing s slots x prepared) (loaded image (one_thread p)) (map Calls register_calls)
      (Calls resume_call ∷ [])
      (sets-registers s slots x slot comes.before.shape thread-source.inside thread-named image third_thread t.registers comes.registers)
      (leads-call image (standing s slots x prepared) (loaded image (one_thread p)) resume_call resumed))

  -- from the priority on
  abbrev later_operations : List Operation
  later_operations = Calls priority_call ∷ Calls pc_call ∷ map Calls (register_calls ++ resume_call ∷ [])

  later-steps : Leads image (standing s slots x first_thread) later_operations (loaded image (one_thread p))
  later-steps =
      let shape = comes.before.shape in
      let inside = thread-source.inside in
      leads-both image (standing s slots x first_thread) (standing s slots x second_thread) (loaded image (one_thread p)) (Calls priority_call ∷ []) _
      (leads-call image (standing s slots x first_thread) (standing s slots x second_thread) priority_call
      (sets-priority s slots x slot shape inside thread-named first_thread t.header.priority fits.priority refl))
      (leads-both image (standing s slots x second_thread) (standing s slots x third_thread) (loaded image (one_thread p)) (Calls pc_call ∷ []) _
      (leads-call image (standing s slots x second_thread) (standing s slots x third_thread) pc_call
      (sets-pc s slots x slot shape inside thread-named second_thread (start_of t) (start-aligned t kept.base)))
      last-steps)

  in-order : Calls configure_call ∷ (map Calls (buffer_calls image t) ++ later_operations) ≡ map Calls (thread_calls image t)
  in-order =
      let buffers = buffer_calls image t in
      let two : List LoaderCall = priority_call ∷ pc_call ∷ [] in
      let last : List LoaderCall = register_calls ++ resume_call ∷ [] in
      ap (λ (ops : List Operation). Calls configure_call ∷ ops) (sym (map-append Calls buffers (two ++ last)))
      ∙ ap (λ (calls : List LoaderCall). map Calls (configure_call ∷ calls))
      (sym (append_assoc (buffers ++ two) register_calls (resume_call ∷ []) ∙ append_assoc buffers two last))

  pub thread-leads : Leads image (loaded image p) (map Calls (thread_calls image t)) (loaded image (one_thread p))
  thread-leads =
      let end = loaded image (one_thread p) in
      leads-same image s end (Calls configure_call ∷ (map Calls (buffer_calls image t) ++ later_operations)) (map Calls (thread_calls image t)) in-order
      (leads-both image s (standing s spaced x first_thread) end (Calls configure_call ∷ []) (map Calls (buffer_calls image t) ++ later_operations)
      (leads-call image s (standing s spaced x first_thread) configure_call configured-now)
      (leads-both image (standing s spaced x first_thread) (standing s slots x first_thread) end (map Calls (buffer_calls image t)) later_operations
      buffer-steps later-steps))
