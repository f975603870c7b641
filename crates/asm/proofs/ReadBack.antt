-- The lines of an image's listing, read one after the other, give the image.
use Rattle.std.proofs.Common.{ℕ, ◌≡◌, ◌+◌, ◌<◌, ◌≤◌, suc, true, List, [], ◌∷◌, ◌++◌, length, refl, ap, sym, ◌∙◌, subst, arith}
use Rattle.std.specs.Prelude.{map, flat_map}
use Rattle.std.specs.List.{All, AllByRecursion, AllZip}
use Rattle.std.specs.Str.Lines.{lines}
use Rattle.model.specs.Images.Described.{numbered}
use Rattle.model.specs.Images.Image.{Image, Thread, content_format, whole_image}
use Rattle.model.specs.Images.Listing.{listing, listing_lines, version_listed}
use Rattle.asm_line.specs.declared.lines.Line.{Line}
use Rattle.asm_line.specs.Listed.{Lists}
use Rattle.format_laws.specs.Fitting.{IsFitting}
use Rattle.format_laws.proofs.Laws.{is-fitting, many-length}
use Rattle.asm.specs.Drafts.{draft_of, nothing_read}
use Rattle.asm.specs.Labels.{FoundLabels, closed, labels_in, next_number, nothing_searched, searched_from, searched_line}
use Rattle.asm.specs.Reading.{AreInPlace, with_lines}
use Rattle.asm.proofs.Said.{capability_said, content_said, frame_said, interrupt_said, listed_lines, memory_said, object_said, table_said, thread_said}
use Rattle.asm.proofs.Said.{promise_said, untyped_said}
use Rattle.asm.proofs.Joins.{Goes, join, nothing-more, number_behind, one-more, plain-section, section}
use Rattle.asm.proofs.LabelSearch.{all_labels, between_threads, searched-append, silent}
use Rattle.asm.proofs.ListedImages.{image-listed}
use Rattle.asm.proofs.NameLines.{interrupt-adds, object-adds, untyped-adds}
use Rattle.asm.proofs.PlaceLines.{capability-adds, content-adds, frame-adds, promise-adds, table-adds}
use Rattle.asm.proofs.SectionFits.{SectionsFit, sections-fit}
use Rattle.asm.proofs.Stages.{declaring, with_capabilities, with_contents, with_frames, with_interrupts, with_objects, with_promises, with_tables}
use Rattle.asm.proofs.Stages.{with_untypeds}
use Rattle.asm.proofs.TextLines.{all-one-line, lines-back}
use Rattle.asm.proofs.ThreadLines.{IsEntered, after, threads-found, threads-go}

-- ---- the lines before the threads

abbrev untypeds_said : Image → List Line
untypeds_said i = memory_said i ∷ map untyped_said (numbered i.untypeds)

abbrev objects_said : Image → List Line
objects_said i = untypeds_said i ++ map object_said (numbered i.objects)

abbrev interrupts_said : Image → List Line
interrupts_said i = objects_said i ++ map interrupt_said (numbered i.interrupts)

abbrev capabilities_said : Image → List Line
capabilities_said i = interrupts_said i ++ map (capability_said i) i.capabilities

abbrev tables_said : Image → List Line
tables_said i = capabilities_said i ++ map table_said i.tables

abbrev frames_said : Image → List Line
frames_said i = tables_said i ++ map frame_said i.frames

abbrev contents_said : Image → List Line
contents_said i = frames_said i ++ map content_said i.contents

abbrev sections_said : Image → List Line
sections_said i = contents_said i ++ map promise_said i.promises

-- no label stands there
quiet-append : {E : Type 0} (say : E → Line) → ((number : ℕ) (e : E) → searched_line nothing_searched number (say e) ≡ nothing_searched) →
    (front : List Line) (xs : List E)
    → searched_from 0 nothing_searched front ≡ nothing_searched → searched_from 0 nothing_searched (front ++ map say xs) ≡ nothing_searched
quiet-append say quiet front xs before =
    searched-append 0 nothing_searched front (map say xs)
    ∙ (ap (λ s. searched_from (number_behind 0 front) s (map say xs)) before ∙ silent say nothing_searched quiet (number_behind 0 front) xs)

sections-quiet : (i : Image) → searched_from 0 nothing_searched (sections_said i) ≡ nothing_searched
sections-quiet i =
    quiet-append promise_said (λ n e. refl) (contents_said i) i.promises
    (quiet-append content_said (λ n e. refl) (frames_said i) i.contents
    (quiet-append frame_said (λ n e. refl) (tables_said i) i.frames
    (quiet-append table_said (λ n e. refl) (capabilities_said i) i.tables
    (quiet-append (capability_said i) (λ n e. refl) (interrupts_said i) i.capabilities
    (quiet-append interrupt_said (λ n e. refl) (objects_said i) (numbered i.interrupts)
    (quiet-append object_said (λ n e. refl) (untypeds_said i) (numbered i.objects)
    (silent untyped_said nothing_searched (λ n e. refl) (next_number 0) (numbered i.untypeds))))))))

-- ---- the sections

module _ (i : Image) (labels : List FoundLabels) (fits : SectionsFit i) (limits : IsFitting i) where
  few-contents : length i.contents ≤ 4096
  few-contents =
      let long = many-length (content_format i.header.objects) (λ c. c.header.frame + 1) 0 i.header.contents i.contents fits.contents in
      let few = limits.header.contents in
      omega (arith, long, few)

  memory-goes : Goes labels 0 nothing_read (memory_said i ∷ []) (declaring i (with_untypeds []))
  memory-goes =
      one-more labels 0 nothing_read (declaring i (with_untypeds [])) (declaring i (with_untypeds [])) (memory_said i) [] tt refl
      (nothing-more labels (next_number 0) (declaring i (with_untypeds [])) (declaring i (with_untypeds [])) refl)

  sections-go : Goes labels 0 nothing_read (sections_said i) (after i [])
  sections-go =
      let untypeds = join labels 0 nothing_read (declaring i (with_untypeds [])) (declaring i (with_untypeds i.untypeds)) (memory_said i ∷ [])
      (map untyped_said (numbered i.untypeds))
      memory-goes (section labels (λ k e. untyped_said (k, e)) (λ us. declaring i (with_untypeds us)) i.untypeds (untyped-adds i labels fits limits)
      (next_number 0)) in
      let objects = join labels 0 nothing_read (declaring i (with_untypeds i.untypeds)) (declaring i (with_objects i i.objects)) (untypeds_said i)
      (map object_said (numbered i.objects))
      untypeds (section labels (λ k e. object_said (k, e)) (λ os. declaring i (with_objects i os)) i.objects (object-adds i labels fits limits)
      (number_behind 0 (untypeds_said i))) in
      let interrupts = join labels 0 nothing_read (declaring i (with_objects i i.objects)) (declaring i (with_interrupts i i.interrupts)) (objects_said i)
      (map interrupt_said (numbered i.interrupts))
      objects (section labels (λ k e. interrupt_said (k, e)) (λ xs. declaring i (with_interrupts i xs)) i.interrupts (interrupt-adds i labels fits limits)
      (number_behind 0 (objects_said i))) in
      let capabilities = join labels 0 nothing_read (declaring i (with_interrupts i i.interrupts)) (declaring i (with_capabilities i i.capabilities))
      (interrupts_said i) (map (capability_said i) i.capabilities)
      interrupts (plain-section labels (capability_said i) (λ xs. declaring i (with_capabilities i xs)) i.capabilities (capability-adds i labels fits limits)
      (number_behind 0 (interrupts_said i))) in
      let tables = join labels 0 nothing_read (declaring i (with_capabilities i i.capabilities)) (declaring i (with_tables i i.tables)) (capabilities_said i)
      (map table_said i.tables)
      capabilities (plain-section labels table_said (λ xs. declaring i (with_tables i xs)) i.tables (table-adds i labels fits limits)
      (number_behind 0 (capabilities_said i))) in
      let frames = join labels 0 nothing_read (declaring i (with_tables i i.tables)) (declaring i (with_frames i i.frames)) (tables_said i)
      (map frame_said i.frames)
      tables (plain-section labels frame_said (λ xs. declaring i (with_frames i xs)) i.frames (frame-adds i labels fits limits)
      (number_behind 0 (tables_said i))) in
      let contents = join labels 0 nothing_read (declaring i (with_frames i i.frames)) (declaring i (with_contents i i.contents)) (frames_said i)
      (map content_said i.contents)
      frames (plain-section labels content_said (λ xs. declaring i (with_contents i xs)) i.contents (content-adds i labels fits limits few-contents)
      (number_behind 0 (frames_said i))) in
      join labels 0 nothing_read (declaring i (with_contents i i.contents)) (declaring i (with_promises i i.promises)) (contents_said i)
      (map promise_said i.promises)
      contents (plain-section labels promise_said (λ xs. declaring i (with_promises i xs)) i.promises (promise-adds i labels fits limits)
      (number_behind 0 (contents_said i)))

-- ---- the whole

entered-each : (ts : List Thread) → All IsEntered ts → AllByRecursion IsEntered ts
entered-each [] h = tt
entered-each (t ∷ ts) h = (h 0 t (omega arith), entered-each ts (λ k d less. h (suc k) d (omega (arith, less))))

-- the text parts into lines that say this, and reading them gives the image's draft
pub record IsReadBack (image : Image) : Type 0 where
  pub said : List Line
  pub listed : AllZip Lists said (lines (listing image))
  pub placed : AreInPlace (labels_in said) 0 nothing_read said
  pub reads : with_lines (labels_in said) nothing_read said ≡ draft_of image

labels-found : (i : Image) → SectionsFit i → All IsEntered i.threads → labels_in (listed_lines i) ≡ all_labels (number_behind 0 (sections_said i)) i.threads
unfolding listed_lines
labels-found i fits entered =
    let found : searched_from 0 nothing_searched (listed_lines i) ≡ between_threads (all_labels (number_behind 0 (sections_said i)) i.threads) =
    searched-append 0 nothing_searched (sections_said i) (flat_map thread_said i.threads)
    ∙ (ap (λ s. searched_from (number_behind 0 (sections_said i)) s (flat_map thread_said i.threads)) (sections-quiet i)
    ∙ threads-found i.header.version i.header.objects 0 i.header.threads (number_behind 0 (sections_said i)) i.threads [] fits.threads
    (entered-each i.threads entered)) in
    ap (λ s. (closed s).threads) found

whole-goes : (i : Image) → SectionsFit i → IsFitting i → All IsEntered i.threads →
    Goes (labels_in (listed_lines i)) 0 nothing_read (listed_lines i) (draft_of i)
unfolding listed_lines
whole-goes i fits limits entered =
    let labels = labels_in (listed_lines i) in
    let few = limits.header.threads in
    let long = limits.threads in
    join labels 0 nothing_read (after i []) (draft_of i) (sections_said i) (flat_map thread_said i.threads)
    (sections-go i labels fits limits)
    (threads-go i labels limits 0 i.header.threads (number_behind 0 (sections_said i)) [] i.threads [] fits.threads (entered-each i.threads entered)
    (omega (arith, few, long)) refl (labels-found i fits entered))

pub read-back : (image : Image) → whole_image.fits image ≡ true → image.header.version ≡ version_listed image.objects image.promises image.threads
    → All (λ (t : Thread). t.header.entry < t.header.words) image.threads → IsReadBack image
unfolding listing
read-back image is version entered =
    let fits = sections-fit image is version in
    let limits = is-fitting image is in
    let listed = image-listed image fits limits in
    let goes = whole-goes image fits limits entered in
    record {
      said = listed_lines image;
      listed = subst (AllZip Lists (listed_lines image))
          (sym (lines-back (listing_lines image) (all-one-line (listed_lines image) (listing_lines image) listed))) listed;
      placed = goes.placed;
      reads = goes.reads;
    }
