-- A well-formed image boots into the state that it describes: all phases are there.
use Rattle.std.proofs.Common.{ℕ, suc, ◌≡◌, ◌∙◌, ◌<◌, ◌≤◌, true, if◌then◌else◌, List, [], ◌∷◌, map, length, find, option_map, Option, Some, None, Ok, refl, sym}
use Rattle.std.proofs.Common.{ap, subst, arith}
use Rattle.std.specs.Prelude.{slice_get}
use Rattle.std.specs.Option.{option_map_or}
use Rattle.std.proofs.lemmas.Option.{none-some, same_Some, slice_get-map, slice_get_within}
use Rattle.soundness.specs.boot_laws.Loading.{loaded}
use Rattle.model.specs.Acceptance.Accepted.{IsWellFormed}
use Rattle.model.specs.Acceptance.WellFormed.{overlaps, too_few_boot_slots}
use Rattle.model.specs.Images.Boot.{booted, made, misplaced}
use Rattle.model.specs.Images.BootCalls.{Calls, capability_call, frame_calls, interrupt_call, program_operation, signal_calls, table_call, thread_calls}
use Rattle.model.specs.Images.Described.{Numbered, described, numbered, numbered_threads}
use Rattle.model.specs.Images.Image.{Image, Thread, whole_image}
use Rattle.model.specs.declared.entries.CapabilityEntry.{CapabilityEntry}
use Rattle.model.specs.declared.entries.FrameEntry.{FrameEntry}
use Rattle.model.specs.declared.entries.InterruptEntry.{InterruptEntry}
use Rattle.model.specs.declared.entries.TableEntry.{TableEntry}
use Rattle.model.specs.declared.entries.UntypedEntry.{UntypedEntry}
use Rattle.soundness.proofs.boot_laws.ObjectsByOne.{object-by-one}
use Rattle.soundness.proofs.boot_laws.PhaseCapabilities.{capabilities-by-one}
use Rattle.soundness.proofs.boot_laws.PhaseFrames.{frames-by-one}
use Rattle.soundness.proofs.boot_laws.PhaseHandlers.{handlers-by-one}
use Rattle.soundness.proofs.boot_laws.PhaseSignals.{signals-by-one}
use Rattle.soundness.proofs.boot_laws.PhaseTables.{tables-by-one}
use Rattle.format_laws.specs.Fitting.{IsFitting}
use Rattle.format_laws.proofs.Laws.{is-fitting}
use Rattle.soundness.proofs.boot_laws.PlacesRules.{AreFormed, are-formed}
use Rattle.soundness.proofs.boot_laws.PutsUntypeds.{puts-lead}
use Rattle.soundness.proofs.boot_laws.Readings.{IsWithin, one_thread}
use Rattle.soundness.proofs.boot_laws.ReadingsKnown.{known}
use Rattle.soundness.proofs.boot_laws.ReadingsLists.{numbered-back}
use Rattle.soundness.proofs.boot_laws.RunBoots.{LoadsByOne, at_capabilities, at_frames, at_handlers, at_programs, at_signals, at_tables, at_threads}
use Rattle.soundness.proofs.boot_laws.RunBoots.{boots-well-by}
use Rattle.soundness.proofs.boot_laws.RunContents.{contents-by-one, programs-by-one}
use Rattle.soundness.proofs.boot_laws.RunSequences.{Leads}
use Rattle.soundness.proofs.boot_laws.ThreadsKnown.{threads-by-one}
use Rattle.soundness.proofs.boot_laws.WholeFits.{counts-are}
use Rattle.soundness.proofs.boot_laws.WholeFrames.{find-no, frames-there}

-- an entry with its number
pub numbered-is : {A : Type 0} (xs : List A) (i : ℕ) (x : ℕ × A) → slice_get (numbered xs) i ≡ Some x → (x ≡ (i, x.1)) × (slice_get xs i ≡ Some x.1)
numbered-is xs i x at = let back = numbered-back xs i x at in ((λ k. (back.0 k, x.1)), back.1)

abbrev numbered_thread : ℕ × Thread → Numbered
numbered_thread t = record { number = t.0; thread = t.1 }

thread-numbered : (ts : List Thread) (i : ℕ) (x : Numbered) → slice_get (map numbered_thread (numbered ts)) i ≡ Some x → slice_get ts i ≡ Some x.thread
thread-numbered ts i x at =
    elim (slice_get (numbered ts) i) as (λ o. slice_get (numbered ts) i ≡ o → option_map numbered_thread o ≡ Some x → slice_get ts i ≡ Some x.thread) [
      | None ↦ λ none clash. absurd (none-some x clash)
      | Some y ↦ λ there is.
          (numbered-back ts i y there).1 ∙ ap (λ (n : Numbered). Some n.thread) (same_Some (numbered_thread y) x is)
    ] refl (sym (slice_get-map numbered_thread (numbered ts) i) ∙ at)

module _ (image : Image) (fits : whole_image.fits image ≡ true) (well : IsWellFormed image) where
  fitting : IsFitting image
  fitting = is-fitting image fits

  formed : AreFormed image
  formed = are-formed image well

  -- a number of an entry is below the count
  within-count : {A : Type 0} (xs : List A) (count i : ℕ) (x : A) → length xs ≡ count → slice_get xs i ≡ Some x → i < count
  within-count xs count i x long at = subst (λ (n : ℕ). i < n) long (slice_get_within xs i x at)

  -- ---- places

  none-overlaps : find (overlaps image) (numbered image.untypeds) ≡ None
  none-overlaps = find-no (overlaps image) (numbered image.untypeds) (λ j x at.
      let is = numbered-is image.untypeds j x at in ap (overlaps image) is.0 ∙ formed.untyped j x.1 is.1)

  pub placed : misplaced image ≡ None
  placed =
      ap (λ (o : Option (ℕ × UntypedEntry)). option_map_or (λ u. Some u.0) o (if too_few_boot_slots image then Some image.header.untypeds else None))
      none-overlaps
      ∙ ap (λ b. if b then Some image.header.untypeds else None) formed.boot_slots

  -- ---- what is known before each entry

  handlers-within : (i : ℕ) → i ≤ image.header.interrupts → IsWithin image (at_handlers image i)
  handlers-within i less = record {
    objects = omega arith;
    handlers = less;
    capabilities = omega arith;
    tables = omega arith;
    frames = omega arith;
    signals = omega arith;
    threads = omega arith;
  }

  capabilities-within : (i : ℕ) → i ≤ image.header.capabilities → IsWithin image (at_capabilities image i)
  capabilities-within i less = record {
    objects = omega arith;
    handlers = omega arith;
    capabilities = less;
    tables = omega arith;
    frames = omega arith;
    signals = omega arith;
    threads = omega arith;
  }

  tables-within : (i : ℕ) → i ≤ image.header.tables → IsWithin image (at_tables image i)
  tables-within i less = record {
    objects = omega arith;
    handlers = omega arith;
    capabilities = omega arith;
    tables = less;
    frames = omega arith;
    signals = omega arith;
    threads = omega arith;
  }

  frames-within : (i : ℕ) → i ≤ image.header.frames → IsWithin image (at_frames image i)
  frames-within i less = record {
    objects = omega arith;
    handlers = omega arith;
    capabilities = omega arith;
    tables = omega arith;
    frames = less;
    signals = omega arith;
    threads = omega arith;
  }

  signals-within : (i : ℕ) → i ≤ image.header.interrupts → IsWithin image (at_signals image i)
  signals-within i less = record {
    objects = omega arith;
    handlers = omega arith;
    capabilities = omega arith;
    tables = omega arith;
    frames = omega arith;
    signals = less;
    threads = omega arith;
  }

  threads-within : (i : ℕ) → i ≤ image.header.threads → IsWithin image (at_threads image i)
  threads-within i less = record {
    objects = omega arith;
    handlers = omega arith;
    capabilities = omega arith;
    tables = omega arith;
    frames = omega arith;
    signals = omega arith;
    threads = less;
  }

  -- ---- the phases

  handlers : (i : ℕ) (x : ℕ × InterruptEntry) → slice_get (numbered image.interrupts) i ≡ Some x
      → made (loaded image (at_handlers image i)) (interrupt_call image x) ≡ Ok (loaded image (at_handlers image (suc i)))
  handlers i x at =
      let is = numbered-is image.interrupts i x at in
      let less = within-count image.interrupts image.header.interrupts i x.1 fitting.interrupts is.1 in
      let p = at_handlers image i in
      ap (λ y. made (loaded image p) (interrupt_call image y)) is.0
      ∙ handlers-by-one image p x.1 (known image p fitting formed (handlers-within i (omega (arith, less))) refl) less refl refl is.1

  capabilities : (i : ℕ) (x : CapabilityEntry) → slice_get image.capabilities i ≡ Some x
      → made (loaded image (at_capabilities image i)) (capability_call image x) ≡ Ok (loaded image (at_capabilities image (suc i)))
  capabilities i x at =
      let less = within-count image.capabilities image.header.capabilities i x fitting.capabilities at in
      let p = at_capabilities image i in
      capabilities-by-one image p x (known image p fitting formed (capabilities-within i (omega (arith, less))) refl) refl refl at

  tables : (i : ℕ) (x : TableEntry) → slice_get image.tables i ≡ Some x
      → made (loaded image (at_tables image i)) (table_call image x) ≡ Ok (loaded image (at_tables image (suc i)))
  tables i x at =
      let less = within-count image.tables image.header.tables i x fitting.tables at in
      let p = at_tables image i in
      tables-by-one image p x (known image p fitting formed (tables-within i (omega (arith, less))) refl) refl refl refl at

  frames : (i : ℕ) (x : ℕ × FrameEntry) → slice_get (numbered image.frames) i ≡ Some x
      → Leads image (loaded image (at_frames image i)) (map Calls (frame_calls image x)) (loaded image (at_frames image (suc i)))
  frames i x at =
      let is = numbered-is image.frames i x at in
      let less = within-count image.frames image.header.frames i x.1 fitting.frames is.1 in
      let p = at_frames image i in
      subst (λ y. Leads image (loaded image p) (map Calls (frame_calls image y)) (loaded image (at_frames image (suc i)))) (sym is.0)
      (frames-by-one image p x.1 (known image p fitting formed (frames-within i (omega (arith, less))) refl) refl refl refl less is.1)

  signals : (i : ℕ) (x : ℕ × InterruptEntry) → slice_get (numbered image.interrupts) i ≡ Some x
      → Leads image (loaded image (at_signals image i)) (map Calls (signal_calls image x)) (loaded image (at_signals image (suc i)))
  signals i x at =
      let is = numbered-is image.interrupts i x at in
      let less = within-count image.interrupts image.header.interrupts i x.1 fitting.interrupts is.1 in
      let p = at_signals image i in
      subst (λ y. Leads image (loaded image p) (map Calls (signal_calls image y)) (loaded image (at_signals image (suc i)))) (sym is.0)
      (signals-by-one image p x.1 (known image p fitting formed (signals-within i (omega (arith, less))) refl) refl refl less is.1)

  threads : (i : ℕ) (x : Thread) → slice_get image.threads i ≡ Some x
      → Leads image (loaded image (at_threads image i)) (map Calls (thread_calls image x)) (loaded image (at_threads image (suc i)))
  threads i x at =
      let less = within-count image.threads image.header.threads i x fitting.threads at in
      let p = at_threads image i in
      threads-by-one image p x fits (known image p fitting formed (threads-within i (omega (arith, less))) refl)
      (known image (one_thread p) fitting formed (threads-within (suc i) less) refl) refl at

  programs : (i : ℕ) (x : Numbered) → slice_get (numbered_threads image) i ≡ Some x
      → Leads image (loaded image (at_programs image i)) (program_operation image x ∷ []) (loaded image (at_programs image (suc i)))
  programs i x at = programs-by-one image (frames-there image fits fitting formed) i x (thread-numbered image.threads i x at)

  -- ---- the whole

  loads-by-one : LoadsByOne image
  loads-by-one = record {
    placed = placed;
    counts = counts-are image fitting;
    lengths = (fitting.capabilities, fitting.interrupts, fitting.tables, fitting.frames, fitting.threads);
    puts = puts-lead image fitting formed;
    objects = object-by-one image fitting formed;
    handlers = handlers;
    capabilities = capabilities;
    tables = tables;
    frames = frames;
    contents = contents-by-one image (frames-there image fits fitting formed);
    programs = programs;
    signals = signals;
    threads = threads;
  }

  -- a well-formed image boots into the state that it describes
  pub boots-well : booted image ≡ Ok (described image)
  boots-well = boots-well-by image loads-by-one
