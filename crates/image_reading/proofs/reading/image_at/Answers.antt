use Rattle.std.proofs.Common.{refl, sym, arith}
use Rattle.std.proofs.lemmas.Result.{err_from_is_err_and}
use Rattle.model.specs.Images.Image.{image_with, sections_format}
use Rattle.image_reading.proofs.EntryLists.{read_from_end, refused_from_end}
use Rattle.image_reading.specs.Sections.{capabilities_format, contents_format, frames_format, interrupts_format, objects_format, tables_format, threads_format}
use Rattle.image_reading.specs.Sections.{promises_format, untypeds_format}
use Rattle.image_reading.proofs.WholeReading.{all-fit, all-read, ends-well}
use Rattle.image_reading.proofs.reading.image_at.Goals as goal

pub invariant_of-image : goal.invariant_of-image
unfolding untypeds_format objects_format capabilities_format interrupts_format tables_format frames_format contents_format promises_format threads_format
invariant_of-image c =
    let bytes = c.args.bytes.now in
    let h = c.in_ok-header.header in
    record {
      header = sym c.in_ok-header.ensures;
      untypeds_end = sym c.in_ok-objects_at.ensures;
      objects_end = sym c.in_ok-capabilities_at.ensures;
      capabilities_end = sym c.in_ok-interrupts_at.ensures;
      interrupts_end = sym c.in_ok-tables_at.ensures;
      tables_end = sym c.in_ok-frames_at.ensures;
      frames_end = sym c.in_ok-contents_at.ensures;
      contents_end = sym c.in_ok-promises_at.ensures;
      promises_end = sym c.in_ok-threads_at.ensures;
      threads_end = ends-well _ c.in_ok-end.end c.in_ok-end.ensures;
      fits = all-fit bytes h c.in_ok-header.untypeds_at c.in_ok-objects_at.objects_at c.in_ok-capabilities_at.capabilities_at
          c.in_ok-interrupts_at.interrupts_at c.in_ok-tables_at.tables_at c.in_ok-frames_at.frames_at c.in_ok-contents_at.contents_at
          c.in_ok-promises_at.promises_at c.in_ok-threads_at.threads_at c.in_ok-end.end
          c.in_ok-header.ensures c.in_ok-objects_at.ensures c.in_ok-capabilities_at.ensures c.in_ok-interrupts_at.ensures c.in_ok-tables_at.ensures
          c.in_ok-frames_at.ensures c.in_ok-contents_at.ensures c.in_ok-promises_at.ensures c.in_ok-threads_at.ensures c.in_ok-end.ensures
          (λ i. omega (arith, c.type_inv.bytes i));
    }

pub returns : goal.returns
unfolding untypeds_format objects_format capabilities_format interrupts_format tables_format frames_format contents_format promises_format threads_format
returns c =
    sym (all-read c.args.bytes.now c.in_ok-header.header c.in_ok-header.untypeds_at c.in_ok-objects_at.objects_at c.in_ok-capabilities_at.capabilities_at
    c.in_ok-interrupts_at.interrupts_at c.in_ok-tables_at.tables_at c.in_ok-frames_at.frames_at c.in_ok-contents_at.contents_at
    c.in_ok-promises_at.promises_at c.in_ok-threads_at.threads_at c.in_ok-end.end
    c.in_ok-header.ensures c.in_ok-objects_at.ensures c.in_ok-capabilities_at.ensures c.in_ok-interrupts_at.ensures c.in_ok-tables_at.ensures
    c.in_ok-frames_at.ensures c.in_ok-contents_at.ensures c.in_ok-promises_at.ensures c.in_ok-threads_at.ensures c.in_ok-end.ensures)

pub returns-in_err-interrupts_at : goal.returns-in_err-interrupts_at
unfolding image_with sections_format untypeds_format objects_format capabilities_format
returns-in_err-interrupts_at c =
    let bytes = c.args.bytes.now in
    let h = c.in_ok-header.header in
    let p = err_from_is_err_and c.from_residual-in_err-interrupts_at.result c.from_residual-in_err-interrupts_at.ensures.1 in
    let untypeds = read_from_end ((untypeds_format h).reads bytes c.in_ok-header.untypeds_at) c.in_ok-objects_at.objects_at c.in_ok-objects_at.ensures in
    let objects = read_from_end ((objects_format h).reads bytes c.in_ok-objects_at.objects_at) c.in_ok-capabilities_at.capabilities_at
    c.in_ok-capabilities_at.ensures in
    let refused = refused_from_end ((capabilities_format h).reads bytes c.in_ok-capabilities_at.capabilities_at) c.in_err-interrupts_at.field-0.0
    c.in_err-interrupts_at.ensures in
    rw (p.1, p.2, ← c.in_ok-header.ensures, untypeds, objects, refused) refl

pub returns-in_err-tables_at : goal.returns-in_err-tables_at
unfolding image_with sections_format untypeds_format objects_format capabilities_format interrupts_format
returns-in_err-tables_at c =
    let bytes = c.args.bytes.now in
    let h = c.in_ok-header.header in
    let p = err_from_is_err_and c.from_residual-in_err-tables_at.result c.from_residual-in_err-tables_at.ensures.1 in
    let untypeds = read_from_end ((untypeds_format h).reads bytes c.in_ok-header.untypeds_at) c.in_ok-objects_at.objects_at c.in_ok-objects_at.ensures in
    let objects = read_from_end ((objects_format h).reads bytes c.in_ok-objects_at.objects_at) c.in_ok-capabilities_at.capabilities_at
    c.in_ok-capabilities_at.ensures in
    let capabilities = read_from_end ((capabilities_format h).reads bytes c.in_ok-capabilities_at.capabilities_at) c.in_ok-interrupts_at.interrupts_at
    c.in_ok-interrupts_at.ensures in
    let refused = refused_from_end ((interrupts_format h).reads bytes c.in_ok-interrupts_at.interrupts_at) c.in_err-tables_at.field-0.0
    c.in_err-tables_at.ensures in
    rw (p.1, p.2, ← c.in_ok-header.ensures, untypeds, objects, capabilities, refused) refl

pub returns-in_err-frames_at : goal.returns-in_err-frames_at
unfolding image_with sections_format untypeds_format objects_format capabilities_format interrupts_format tables_format
returns-in_err-frames_at c =
    let bytes = c.args.bytes.now in
    let h = c.in_ok-header.header in
    let p = err_from_is_err_and c.from_residual-in_err-frames_at.result c.from_residual-in_err-frames_at.ensures.1 in
    let untypeds = read_from_end ((untypeds_format h).reads bytes c.in_ok-header.untypeds_at) c.in_ok-objects_at.objects_at c.in_ok-objects_at.ensures in
    let objects = read_from_end ((objects_format h).reads bytes c.in_ok-objects_at.objects_at) c.in_ok-capabilities_at.capabilities_at
    c.in_ok-capabilities_at.ensures in
    let capabilities = read_from_end ((capabilities_format h).reads bytes c.in_ok-capabilities_at.capabilities_at) c.in_ok-interrupts_at.interrupts_at
    c.in_ok-interrupts_at.ensures in
    let interrupts = read_from_end ((interrupts_format h).reads bytes c.in_ok-interrupts_at.interrupts_at) c.in_ok-tables_at.tables_at
    c.in_ok-tables_at.ensures in
    let refused = refused_from_end ((tables_format h).reads bytes c.in_ok-tables_at.tables_at) c.in_err-frames_at.field-0.0 c.in_err-frames_at.ensures in
    rw (p.1, p.2, ← c.in_ok-header.ensures, untypeds, objects, capabilities, interrupts, refused) refl

pub returns-in_err-contents_at : goal.returns-in_err-contents_at
unfolding image_with sections_format untypeds_format objects_format capabilities_format interrupts_format tables_format frames_format
returns-in_err-contents_at c =
    let bytes = c.args.bytes.now in
    let h = c.in_ok-header.header in
    let p = err_from_is_err_and c.from_residual-in_err-contents_at.result c.from_residual-in_err-contents_at.ensures.1 in
    let untypeds = read_from_end ((untypeds_format h).reads bytes c.in_ok-header.untypeds_at) c.in_ok-objects_at.objects_at c.in_ok-objects_at.ensures in
    let objects = read_from_end ((objects_format h).reads bytes c.in_ok-objects_at.objects_at) c.in_ok-capabilities_at.capabilities_at
    c.in_ok-capabilities_at.ensures in
    let capabilities = read_from_end ((capabilities_format h).reads bytes c.in_ok-capabilities_at.capabilities_at) c.in_ok-interrupts_at.interrupts_at
    c.in_ok-interrupts_at.ensures in
    let interrupts = read_from_end ((interrupts_format h).reads bytes c.in_ok-interrupts_at.interrupts_at) c.in_ok-tables_at.tables_at
    c.in_ok-tables_at.ensures in
    let tables = read_from_end ((tables_format h).reads bytes c.in_ok-tables_at.tables_at) c.in_ok-frames_at.frames_at c.in_ok-frames_at.ensures in
    let refused = refused_from_end ((frames_format h).reads bytes c.in_ok-frames_at.frames_at) c.in_err-contents_at.field-0.0 c.in_err-contents_at.ensures in
    rw (p.1, p.2, ← c.in_ok-header.ensures, untypeds, objects, capabilities, interrupts, tables, refused) refl

pub returns-in_err-promises_at : goal.returns-in_err-promises_at
unfolding image_with sections_format untypeds_format objects_format capabilities_format interrupts_format tables_format frames_format contents_format
returns-in_err-promises_at c =
    let bytes = c.args.bytes.now in
    let h = c.in_ok-header.header in
    let p = err_from_is_err_and c.from_residual-in_err-promises_at.result c.from_residual-in_err-promises_at.ensures.1 in
    let untypeds = read_from_end ((untypeds_format h).reads bytes c.in_ok-header.untypeds_at) c.in_ok-objects_at.objects_at c.in_ok-objects_at.ensures in
    let objects = read_from_end ((objects_format h).reads bytes c.in_ok-objects_at.objects_at) c.in_ok-capabilities_at.capabilities_at
    c.in_ok-capabilities_at.ensures in
    let capabilities = read_from_end ((capabilities_format h).reads bytes c.in_ok-capabilities_at.capabilities_at) c.in_ok-interrupts_at.interrupts_at
    c.in_ok-interrupts_at.ensures in
    let interrupts = read_from_end ((interrupts_format h).reads bytes c.in_ok-interrupts_at.interrupts_at) c.in_ok-tables_at.tables_at
    c.in_ok-tables_at.ensures in
    let tables = read_from_end ((tables_format h).reads bytes c.in_ok-tables_at.tables_at) c.in_ok-frames_at.frames_at c.in_ok-frames_at.ensures in
    let frames = read_from_end ((frames_format h).reads bytes c.in_ok-frames_at.frames_at) c.in_ok-contents_at.contents_at c.in_ok-contents_at.ensures in
    let refused = refused_from_end ((contents_format h).reads bytes c.in_ok-contents_at.contents_at) c.in_err-promises_at.field-0.0
    c.in_err-promises_at.ensures in
    rw (p.1, p.2, ← c.in_ok-header.ensures, untypeds, objects, capabilities, interrupts, tables, frames, refused) refl

pub returns-in_err-threads_at : goal.returns-in_err-threads_at
unfolding image_with sections_format untypeds_format objects_format capabilities_format interrupts_format tables_format frames_format contents_format
    promises_format
returns-in_err-threads_at c =
    let bytes = c.args.bytes.now in
    let h = c.in_ok-header.header in
    let p = err_from_is_err_and c.from_residual-in_err-threads_at.result c.from_residual-in_err-threads_at.ensures.1 in
    let untypeds = read_from_end ((untypeds_format h).reads bytes c.in_ok-header.untypeds_at) c.in_ok-objects_at.objects_at c.in_ok-objects_at.ensures in
    let objects = read_from_end ((objects_format h).reads bytes c.in_ok-objects_at.objects_at) c.in_ok-capabilities_at.capabilities_at
    c.in_ok-capabilities_at.ensures in
    let capabilities = read_from_end ((capabilities_format h).reads bytes c.in_ok-capabilities_at.capabilities_at) c.in_ok-interrupts_at.interrupts_at
    c.in_ok-interrupts_at.ensures in
    let interrupts = read_from_end ((interrupts_format h).reads bytes c.in_ok-interrupts_at.interrupts_at) c.in_ok-tables_at.tables_at
    c.in_ok-tables_at.ensures in
    let tables = read_from_end ((tables_format h).reads bytes c.in_ok-tables_at.tables_at) c.in_ok-frames_at.frames_at c.in_ok-frames_at.ensures in
    let frames = read_from_end ((frames_format h).reads bytes c.in_ok-frames_at.frames_at) c.in_ok-contents_at.contents_at c.in_ok-contents_at.ensures in
    let contents = read_from_end ((contents_format h).reads bytes c.in_ok-contents_at.contents_at) c.in_ok-promises_at.promises_at
    c.in_ok-promises_at.ensures in
    let refused = refused_from_end ((promises_format h).reads bytes c.in_ok-promises_at.promises_at) c.in_err-threads_at.field-0.0
    c.in_err-threads_at.ensures in
    rw (p.1, p.2, ← c.in_ok-header.ensures, untypeds, objects, capabilities, interrupts, tables, frames, contents, refused) refl

pub returns-in_err-end : goal.returns-in_err-end
unfolding image_with sections_format untypeds_format objects_format capabilities_format interrupts_format tables_format frames_format contents_format
    promises_format threads_format
returns-in_err-end c =
    let bytes = c.args.bytes.now in
    let h = c.in_ok-header.header in
    let p = err_from_is_err_and c.from_residual-in_err-end.result c.from_residual-in_err-end.ensures.1 in
    let untypeds = read_from_end ((untypeds_format h).reads bytes c.in_ok-header.untypeds_at) c.in_ok-objects_at.objects_at c.in_ok-objects_at.ensures in
    let objects = read_from_end ((objects_format h).reads bytes c.in_ok-objects_at.objects_at) c.in_ok-capabilities_at.capabilities_at
    c.in_ok-capabilities_at.ensures in
    let capabilities = read_from_end ((capabilities_format h).reads bytes c.in_ok-capabilities_at.capabilities_at) c.in_ok-interrupts_at.interrupts_at
    c.in_ok-interrupts_at.ensures in
    let interrupts = read_from_end ((interrupts_format h).reads bytes c.in_ok-interrupts_at.interrupts_at) c.in_ok-tables_at.tables_at
    c.in_ok-tables_at.ensures in
    let tables = read_from_end ((tables_format h).reads bytes c.in_ok-tables_at.tables_at) c.in_ok-frames_at.frames_at c.in_ok-frames_at.ensures in
    let frames = read_from_end ((frames_format h).reads bytes c.in_ok-frames_at.frames_at) c.in_ok-contents_at.contents_at c.in_ok-contents_at.ensures in
    let contents = read_from_end ((contents_format h).reads bytes c.in_ok-contents_at.contents_at) c.in_ok-promises_at.promises_at
    c.in_ok-promises_at.ensures in
    let promises = read_from_end ((promises_format h).reads bytes c.in_ok-promises_at.promises_at) c.in_ok-threads_at.threads_at c.in_ok-threads_at.ensures in
    let refused = refused_from_end ((threads_format h).reads bytes c.in_ok-threads_at.threads_at) c.in_err-end.field-0.0 c.in_err-end.ensures in
    rw (p.1, p.2, ← c.in_ok-header.ensures, untypeds, objects, capabilities, interrupts, tables, frames, contents, promises, refused) refl
