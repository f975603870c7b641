-- What booting a well-formed image leaves is sound.
use Rattle.std.proofs.Common.{ℕ, ◌≡◌, ◌∙◌, ◌<◌, true, false, if◌then◌else◌, List, [], ◌∷◌, ◌++◌, map, Some, None, Ok, sym, ap, subst, append_assoc}
use Rattle.std.specs.Prelude.{All, flat_map}
use Rattle.std.specs.List.{range_with_len}
use Rattle.std.proofs.lemmas.List.FromFn.{length-range_with_len}
use Rattle.std.proofs.lemmas.Option.{same_Some, slice_get_within}
use Rattle.std.proofs.lemmas.List.Elements.{All-append, All-cons, All-map, All-nil}
use Rattle.soundness.specs.boot_laws.Loading.{loaded, nothing_loaded}
use Rattle.model.specs.Acceptance.Accepted.{IsWellFormed}
use Rattle.model.specs.Acceptance.WellFormed.{is_frame_type}
use Rattle.model.specs.Images.Boot.{booted, boots_unless, run_from}
use Rattle.model.specs.Images.BootCalls.{LoaderCall, Operation, PutsControl, PutsUntyped, Calls, capability_call, content_operation, first_calls, frame_calls}
use Rattle.model.specs.Images.BootCalls.{has_place, interrupt_call, last_calls, object_call, operations, program_operation, signal_calls, table_call}
use Rattle.model.specs.Images.BootCalls.{thread_calls}
use Rattle.model.specs.Images.Described.{described, numbered, numbered_threads}
use Rattle.model.specs.Images.Fills.{content_fill, program_fills}
use Rattle.model.specs.Images.Image.{Image, whole_image}
use Rattle.model.specs.Images.Places.{control_slot, type_at}
use Rattle.model.specs.Kernel.Setup.{boot_area}
use Rattle.model.specs.Kernel.Soundness.{IsSound}
use Rattle.model.specs.Kernel.State.{State}
use Rattle.soundness.proofs.FreshMachines.{fresh-sound}
use Rattle.format_laws.specs.Fitting.{IsFitting}
use Rattle.format_laws.proofs.Laws.{is-fitting}
use Rattle.soundness.proofs.boot_laws.PlacesRules.{AreFormed, BufferKept, are-formed, buffer-kept, range-at}
use Rattle.soundness.proofs.boot_laws.PlacesTypes.{frame-listed}
use Rattle.soundness.proofs.boot_laws.PutsUntypeds.{puts-sound, puts-lead}
use Rattle.soundness.proofs.boot_laws.SoundRuns.{FillsBytes, HasSmallBytes, HasSmallWords, IsFine, run-sound}
use Rattle.soundness.proofs.boot_laws.SoundWords.{bytes-small, capability-words, each-all, flat-all, frame-words, interrupt-words, object-words, program-bytes}
use Rattle.soundness.proofs.boot_laws.SoundWords.{signal-words, table-words, thread-words}
use Rattle.soundness.proofs.boot_laws.ThreadsFit.{registers-fit, values-fit}
use Rattle.soundness.proofs.boot_laws.WholeLoads.{boots-well, numbered-is, placed}

module _ (image : Image) (fits : whole_image.fits image ≡ true) (well : IsWellFormed image) where
  fitting : IsFitting image
  fitting = is-fitting image fits

  -- ---- the operations after interrupt control

  calls-fine : (calls : List LoaderCall) → All HasSmallWords calls → All IsFine (map Calls calls)
  calls-fine calls small = All-map IsFine Calls calls small

  objects-fine : All HasSmallWords (map (object_call image) (range_with_len 0 image.header.objects))
  objects-fine = All-map HasSmallWords (object_call image) (range_with_len 0 image.header.objects)
      (each-all (λ n. HasSmallWords (object_call image n)) (range_with_len 0 image.header.objects) (λ j n at.
      let few : j < image.header.objects =
      subst (λ (m : ℕ). j < m) (length-range_with_len 0 image.header.objects) (slice_get_within (range_with_len 0 image.header.objects) j n at) in
      let is : j ≡ n = same_Some j n (sym (range-at image.header.objects j few) ∙ at) in
      object-words image fitting n (subst (λ (m : ℕ). m < image.header.objects) is few)))

  handlers-fine : All HasSmallWords (map (interrupt_call image) (numbered image.interrupts))
  handlers-fine = All-map HasSmallWords (interrupt_call image) (numbered image.interrupts)
      (each-all (λ i. HasSmallWords (interrupt_call image i)) (numbered image.interrupts) (λ j i at.
      let is = numbered-is image.interrupts j i at in
      subst (λ y. HasSmallWords (interrupt_call image y)) (sym is.0) (interrupt-words image fitting j i.1 is.1)))

  frames-fine : All HasSmallWords (flat_map (frame_calls image) (numbered image.frames))
  frames-fine = flat-all HasSmallWords (frame_calls image) (numbered image.frames) (λ j f at.
      let is = numbered-is image.frames j f at in
      subst (λ y. All HasSmallWords (frame_calls image y)) (sym is.0) (frame-words image fitting j f.1 is.1))

  signals-fine : All HasSmallWords (flat_map (signal_calls image) (numbered image.interrupts))
  signals-fine = flat-all HasSmallWords (signal_calls image) (numbered image.interrupts) (λ j i at.
      let is = numbered-is image.interrupts j i at in
      subst (λ y. All HasSmallWords (signal_calls image y)) (sym is.0) (signal-words image fitting j i.1 is.1))

  threads-fine : All HasSmallWords (flat_map (thread_calls image) image.threads)
  threads-fine = flat-all HasSmallWords (thread_calls image) image.threads (λ k t at.
      thread-words image fitting k t at
      (λ some. frame-listed image t.header.buffer fitting (BufferKept.frame (buffer-kept image k t (AreFormed.thread (are-formed image well) k t at) some)))
      (λ j r there. ((registers-fit image fits k t at j r there).1, values-fit image fits k t at j r there)))

  first-fine : All HasSmallWords (first_calls image)
  first-fine =
      let xs = map (object_call image) (range_with_len 0 image.header.objects) in
      let ys = map (interrupt_call image) (numbered image.interrupts) in
      let zs = map (capability_call image) image.capabilities in
      let ts = map (table_call image) image.tables in
      let capabilities = All-map HasSmallWords (capability_call image) image.capabilities
      (each-all (λ c. HasSmallWords (capability_call image c)) image.capabilities (λ k c at. capability-words image fitting k c at)) in
      let tables = All-map HasSmallWords (table_call image) image.tables
      (each-all (λ t. HasSmallWords (table_call image t)) image.tables (λ k t at. table-words image fitting k t at)) in
      All-append HasSmallWords (((xs ++ ys) ++ zs) ++ ts) (flat_map (frame_calls image) (numbered image.frames))
      (All-append HasSmallWords ((xs ++ ys) ++ zs) ts
      (All-append HasSmallWords (xs ++ ys) zs (All-append HasSmallWords xs ys objects-fine handlers-fine) capabilities) tables)
      frames-fine

  contents-fine : All IsFine (map (content_operation image) image.contents)
  contents-fine = All-map IsFine (content_operation image) image.contents
      (each-all (λ c. IsFine (content_operation image c)) image.contents (λ k c at.
      elim (is_frame_type (type_at image c.header.frame)) as (λ b. FillsBytes (if b then Some (content_fill image c ∷ []) else None)) [
        | true ↦ All-cons HasSmallBytes (content_fill image c) [] (bytes-small c.words) (All-nil HasSmallBytes)
        | false ↦ tt
      ]))

  programs-fine : All IsFine (map (program_operation image) (numbered_threads image))
  programs-fine = All-map IsFine (program_operation image) (numbered_threads image)
      (each-all (λ t. IsFine (program_operation image t)) (numbered_threads image) (λ k t at.
      elim (has_place image t.thread) as (λ b. FillsBytes (if b then Some (program_fills image t.thread) else None)) [
        | true ↦ program-bytes image t.thread
        | false ↦ tt
      ]))

  abbrev later : List Operation
  later = map Calls (first_calls image) ++ (map (content_operation image) image.contents
      ++ (map (program_operation image) (numbered_threads image) ++ map Calls (last_calls image)))

  later-fine : All IsFine later
  later-fine =
      let firsts = map Calls (first_calls image) in
      let cs = map (content_operation image) image.contents in
      let ps = map (program_operation image) (numbered_threads image) in
      let lasts = map Calls (last_calls image) in
      let last = calls-fine (last_calls image)
      (All-append HasSmallWords (flat_map (signal_calls image) (numbered image.interrupts)) (flat_map (thread_calls image) image.threads) signals-fine
      threads-fine) in
      All-append IsFine firsts (cs ++ (ps ++ lasts)) (calls-fine (first_calls image) first-fine)
      (All-append IsFine cs (ps ++ lasts) contents-fine (All-append IsFine ps lasts programs-fine last))

  -- ---- the run

  abbrev start : State
  start = boot_area image.header.memory_bits image.header.boot_radix

  start-sound : IsSound start
  start-sound =
      let h = fitting.header in
      fresh-sound image.header.memory_bits image.header.boot_radix h.memory_low h.memory_high h.radix_low h.radix_high h.radix_memory

  abbrev us : List Operation
  us = map (λ u. PutsUntyped u.0 u.1) (numbered image.untypeds)

  in-order : operations image ≡ (us ++ PutsControl (control_slot image) ∷ []) ++ later
  unfolding operations
  in-order =
      let control = PutsControl (control_slot image) in
      let firsts = map Calls (first_calls image) in
      let cs = map (content_operation image) image.contents in
      let ps = map (program_operation image) (numbered_threads image) in
      let lasts = map Calls (last_calls image) in
      append_assoc ((us ++ control ∷ firsts) ++ cs) ps lasts
      ∙ append_assoc (us ++ control ∷ firsts) cs (ps ++ lasts)
      ∙ append_assoc us (control ∷ firsts) (cs ++ (ps ++ lasts))
      ∙ sym (append_assoc us (control ∷ []) later)

  pub described-sound : IsSound (described image)
  unfolding booted
  described-sound =
      let formed = are-formed image well in
      let puts = puts-lead image fitting formed in
      let run : run_from image 0 start (operations image) ≡ Ok (described image) =
      sym (ap (λ o. boots_unless o image) (placed image fits well)) ∙ boots-well image fits well in
      run-sound image later (puts.behind 0) (loaded image nothing_loaded) (described image) (puts-sound image fitting formed start-sound) later-fine
      (sym (puts.leads 0 later) ∙ sym (ap (run_from image 0 start) in-order) ∙ run)
