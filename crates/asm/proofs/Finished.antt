-- Behind the last line of a listing, what is read is the image.
use Rattle.std.specs.Prelude.{map, slice_get, slice_index_or, if◌then◌else◌}
use Rattle.std.proofs.Common.{◌≡◌, ℕ, suc, ◌+◌, ◌-◌, ◌<◌, ◌≤◌, Bool, true, false, List, [], ◌∷◌, length, Some, refl, sym, ap, ◌∙◌, arith, eq-eqb, ne_eqb}
use Rattle.std.specs.List.{position_or_len}
use Rattle.std.proofs.lemmas.Bool.{leb-true}
use Rattle.std.proofs.lemmas.Option.{slice_get-get_or, same_Some}
use Rattle.std.proofs.lemmas.List.Sums.{position_or_len_is}
use Rattle.model.specs.declared.entries.CapabilityEntry.{CapabilityEntry}
use Rattle.model.specs.declared.entries.InterruptEntry.{InterruptEntry}
use Rattle.model.specs.Images.Image.{Image, content_format, whole_image}
use Rattle.model.specs.Images.Listing.{version_listed}
use Rattle.model.specs.Images.Places.{is_handler, interrupt_of}
use Rattle.format_laws.specs.Fitting.{IsFitting}
use Rattle.format_laws.proofs.Laws.{is-fitting, many-length}
use Rattle.asm.specs.declared.assembly.Memory.{Memory}
use Rattle.asm.specs.declared.names.Source.{Source}
use Rattle.asm.specs.declared.names.Source.TheVariants.{Object, Handler}
use Rattle.asm.specs.Drafts.{Draft, assembled, capability_of, counted_header, declared_of, draft_of, line_of_interrupt, source_said}
use Rattle.asm.specs.Sections.{HasNumber, entry_of, number_of_source, on_line}
use Rattle.asm.proofs.SectionFits.{SectionsFit, sections-fit}

-- ---- capabilities

abbrev pub no_interrupt : InterruptEntry
no_interrupt = record { line = 0; notification = 0; badge = 0 }

-- lines rise, so each line is found at its own place
found-on-line : (image : Image) → IsFitting image → (j : ℕ) → j < length image.interrupts
    → position_or_len (on_line (line_of_interrupt image j)) image.interrupts ≡ j
found-on-line image fits j inside =
    let xs = image.interrupts in
    position_or_len_is (on_line (line_of_interrupt image j)) xs j no_interrupt (omega arith)
    (λ k less.
    let below = fits.lines_rise k j (slice_index_or xs k no_interrupt) (slice_index_or xs j no_interrupt) less
    (slice_get-get_or xs k no_interrupt (omega arith)) (slice_get-get_or xs j no_interrupt inside) in
    ne_eqb _ _ (λ e. omega (arith, e, below)))
    (λ _. eq-eqb _ _ refl)

abbrev pub IsTold : Image → ℕ → Source → Type 0
IsTold image source said = HasNumber (declared_of image) said × (number_of_source (declared_of image) said ≡ source)

pub source-told : (image : Image) → IsFitting image → (source : ℕ) → source < image.header.objects + image.header.interrupts →
    IsTold image source (source_said image source)
source-told image fits source small = by (is_handler image source) refl
  where
    by : (b : Bool) → is_handler image source ≡ b →
        IsTold image source (if b then Handler (line_of_interrupt image (interrupt_of image source)) else Object source)
    by true q =
        let low : image.header.objects ≤ source = leb-true _ _ q in
        let j = source - image.header.objects in
        let inside : j < length image.interrupts = omega (arith, fits.interrupts, low, small) in
        let found = found-on-line image fits j inside in (
          (omega (arith, found, inside), omega (arith, fits.objects, fits.interrupts, fits.header)),
          ap (λ n. length image.objects + n) found
              ∙ omega (arith, fits.objects, low),
        )
    by false q = (tt, refl)

map-back : {A B : Type 0} (f : A → B) (g : B → A) (xs : List A) → ((k : ℕ) (x : A) → slice_get xs k ≡ Some x → g (f x) ≡ x) → map g (map f xs) ≡ xs
map-back f g [] h = refl
map-back f g (x ∷ xs) h = (λ i. h 0 x refl i ∷ map-back f g xs (λ k y at. h (suc k) y at) i)

pub capabilities-again : (image : Image) → IsFitting image →
    map (entry_of (declared_of image)) (map (capability_of image) image.capabilities) ≡ image.capabilities
capabilities-again image fits = map-back (capability_of image) (entry_of (declared_of image)) image.capabilities
    (λ k c at. ap (λ n. record c { source = n }) (source-told image fits c.source (fits.capability k c at).source).1)

-- ---- the whole

same-header : (image : Image) → IsFitting image → SectionsFit image
    → counted_header (record { bits = image.header.memory_bits; boot_radix = image.header.boot_radix }) (declared_of image) image.capabilities image.threads
    ≡ image.header
same-header image limits fits =
    let contents = many-length (content_format image.header.objects) (λ c. c.header.frame + 1) 0 image.header.contents image.contents fits.contents in
    λ i. record {
      version = sym fits.version i;
      memory_bits = image.header.memory_bits;
      boot_radix = image.header.boot_radix;
      untypeds = limits.untypeds i;
      objects = limits.objects i;
      capabilities = limits.capabilities i;
      interrupts = limits.interrupts i;
      tables = limits.tables i;
      frames = limits.frames i;
      contents = contents i;
      promises = limits.promises i;
      threads = limits.threads i;
    }

-- what stands behind the last line of an image's listing is put together to that image
pub is-listed : (image : Image) → whole_image.fits image ≡ true → image.header.version ≡ version_listed image.objects image.promises image.threads
    → (draft : Draft) → draft ≡ draft_of image → (m : Memory) → draft.memory ≡ Some m
    → (cs : List CapabilityEntry) → cs ≡ map (entry_of draft.declared) draft.declared.capabilities → assembled m draft.declared cs draft.threads ≡ image
is-listed image is version draft same m here cs told =
    let limits = is-fitting image is in
    let memory : m ≡ record { bits = image.header.memory_bits; boot_radix = image.header.boot_radix } =
    same_Some m (record { bits = image.header.memory_bits; boot_radix = image.header.boot_radix }) (sym here ∙ ap (λ (d : Draft). d.memory) same) in
    let entries : cs ≡ image.capabilities =
    told ∙ ap (λ (d : Draft). map (entry_of d.declared) d.declared.capabilities) same ∙ capabilities-again image limits in
    let fits = sections-fit image is version in
    (λ i. assembled (memory i) (same i).declared (entries i) (same i).threads)
    ∙ (λ i. record image { header = same-header image limits fits i })
