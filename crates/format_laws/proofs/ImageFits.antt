-- An image that fits its format: counts are lengths, numbers lie in their ranges, and keys rise.
use Rattle.std.proofs.Common.{◌≡◌, ◌+◌, true, refl}
use Rattle.std.proofs.lemmas.Bool.{and_parts}
use Rattle.format_laws.proofs.FormatFits.{many-each, many-length, many-rises}
use Rattle.model.specs.Images.Image.{Image, capability_format, frame_format, image_with, interrupt_format, object_format, pair_key, sections_format}
use Rattle.model.specs.Images.Image.{promise_format, slots_format, table_format, thread_format, untyped_format, whole_image}
use Rattle.format_laws.specs.Fitting.{IsFitting}
use Rattle.format_laws.proofs.EntryFits.{capability-fits, frame-fits, header-fits, interrupt-fits, object-fits, promise-fits, table-fits, thread-fits}
use Rattle.format_laws.proofs.EntryFits.{untyped-fits}

pub is-fitting : (image : Image) → whole_image.fits image ≡ true → IsFitting image
unfolding image_with sections_format
is-fitting image is =
    let whole = and_parts _ _ is in
    let a = and_parts _ _ whole.0 in
    let b = and_parts _ _ a.1 in
    let c = and_parts _ _ b.1 in
    let d = and_parts _ _ c.1 in
    let e = and_parts _ _ d.1 in
    let f = and_parts _ _ e.1 in
    let g = and_parts _ _ f.1 in
    let h = image.header in
    let objects = object_format h.version h.untypeds in
    let capabilities = capability_format h.objects h.interrupts in
    let interrupts = interrupt_format h.objects in
    let tables = table_format h.objects in
    let frames = frame_format h.objects in
    let j = and_parts _ _ g.1 in
    let threads = thread_format (slots_format h.objects) h.version h.objects in
    let promises = promise_format h.objects in
    record {
      header = header-fits h a.0;
      untypeds = many-length (λ _. untyped_format) (λ _. 0) 0 h.untypeds image.untypeds b.0;
      objects = many-length objects (λ o. o.untyped) 0 h.objects image.objects c.0;
      capabilities = many-length capabilities (λ x. pair_key x.cnode x.index + 1) 0 h.capabilities image.capabilities d.0;
      interrupts = many-length interrupts (λ x. x.line + 1) 0 h.interrupts image.interrupts e.0;
      tables = many-length tables (λ x. pair_key x.root x.address + 1) 0 h.tables image.tables f.0;
      frames = many-length frames (λ x. pair_key x.root x.address + 1) 0 h.frames image.frames g.0;
      promises = many-length promises (λ p. p.header.endpoint + 1) 0 h.promises image.promises j.1;
      threads = many-length (λ _. threads) (λ _. 0) 0 h.threads image.threads whole.1;
      untyped = λ k u at. untyped-fits u (many-each (λ _. untyped_format) (λ _. 0) 0 h.untypeds image.untypeds b.0 k u at).1;
      object = λ k o at. let one = many-each objects (λ o. o.untyped) 0 h.objects image.objects c.0 k o at in object-fits image one.0 o one.1;
      capability = λ k x at. let one = many-each capabilities (λ x. pair_key x.cnode x.index + 1) 0 h.capabilities image.capabilities d.0 k x at in
          (capability-fits image one.0 x one.1).0;
      interrupt = λ k x at. let one = many-each interrupts (λ x. x.line + 1) 0 h.interrupts image.interrupts e.0 k x at in
          (interrupt-fits image one.0 x one.1).0;
      table = λ k x at. let one = many-each tables (λ x. pair_key x.root x.address + 1) 0 h.tables image.tables f.0 k x at in
          (table-fits image one.0 x one.1).0;
      frame = λ k x at. let one = many-each frames (λ x. pair_key x.root x.address + 1) 0 h.frames image.frames g.0 k x at in
          (frame-fits image one.0 x one.1).0;
      promise = λ k p at. let one = many-each promises (λ p. p.header.endpoint + 1) 0 h.promises image.promises j.1 k p at in
          (promise-fits image one.0 p one.1).0;
      thread = λ k t at. thread-fits image t (many-each (λ _. threads) (λ _. 0) 0 h.threads image.threads whole.1 k t at).1;
      slots_rise = many-rises capabilities (λ x. pair_key x.cnode x.index + 1) (λ x. pair_key x.cnode x.index) (λ l x fits. (capability-fits image l x fits).1)
          (λ x. refl) 0 h.capabilities image.capabilities d.0;
      lines_rise = many-rises interrupts (λ x. x.line + 1) (λ x. x.line) (λ l x fits. (interrupt-fits image l x fits).1) (λ x. refl) 0 h.interrupts
          image.interrupts e.0;
      regions_rise = many-rises tables (λ x. pair_key x.root x.address + 1) (λ x. pair_key x.root x.address) (λ l x fits. (table-fits image l x fits).1)
          (λ x. refl) 0 h.tables image.tables f.0;
      pages_rise = many-rises frames (λ x. pair_key x.root x.address + 1) (λ x. pair_key x.root x.address) (λ l x fits. (frame-fits image l x fits).1)
          (λ x. refl) 0 h.frames image.frames g.0;
      promises_rise = many-rises promises (λ p. p.header.endpoint + 1) (λ p. p.header.endpoint) (λ l p fits. (promise-fits image l p fits).1)
          (λ p. refl) 0 h.promises image.promises j.1;
    }
