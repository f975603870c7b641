-- An image's counts are its lengths.
use Rattle.std.proofs.Common.{refl, ap, subst, sym, ◌∙◌, All, List}
use Rattle.image_copies.specs.Counts.{HasPromiseCount, HasThreadCounts}
use Rattle.image_copies.proofs.Counted.{promises-counted, same-image, threads-counted}
use Rattle.image_copies.proofs.copies.copied.Goals as goal
use Rattle.model.specs.Images.Image.{ImagePromise, Thread}
use Rattle.model.specs.declared.entries.ImageHeader.{ImageHeader}

pub returns : goal.returns
returns c =
    let head = c.header-header.ensures.value in
    let fits = c.header-header.ensures.fits in
    let promises = subst (λ (l : List ImagePromise). All HasPromiseCount l) (sym c.promises.ensures) (promises-counted c.args.image.now fits) in
    let threads = subst (λ (l : List Thread). All HasThreadCounts l) (sym c.threads.ensures) (threads-counted c.args.image.now fits) in
    same-image _ c.args.image.now
    (record {
      untypeds = refl;
      objects = refl;
      capabilities = refl;
      interrupts = refl;
      tables = refl;
      frames = refl;
      contents = refl;
      promises = refl;
      threads = refl;
    })
    c.header-header.ensures.counts (ap (λ (h : ImageHeader). h.version) head) (ap (λ (h : ImageHeader). h.memory_bits) head)
    (ap (λ (h : ImageHeader). h.boot_radix) head) (c.in_ok-untypeds.ensures ∙ c.untypeds.ensures) (c.in_ok-objects.ensures ∙ c.objects.ensures)
    (c.in_ok-capabilities.ensures ∙ c.capabilities.ensures) (c.in_ok-interrupts.ensures ∙ c.interrupts.ensures) (c.in_ok-tables.ensures ∙ c.tables.ensures)
    (c.in_ok-frames.ensures ∙ c.frames.ensures) (c.in_ok-contents.ensures ∙ c.contents.ensures) (c.in_ok-promises.ensures promises ∙ c.promises.ensures)
    (c.in_ok-threads.ensures threads ∙ c.threads.ensures)
