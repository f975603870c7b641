use Rattle.std.proofs.Common.{refl}
use Rattle.std.proofs.lemmas.Result.{err_from_is_err_and}
use Rattle.image_reading.proofs.headers.section_counts.Goals as goal

pub returns-in_err-untypeds : goal.returns-in_err-untypeds
returns-in_err-untypeds c =
    let p = err_from_is_err_and c.from_residual.result c.from_residual.ensures.1 in
    rw (p.1, p.2, ← c.in_err-untypeds.ensures) refl

pub returns-in_err-objects : goal.returns-in_err-objects
returns-in_err-objects c =
    let p = err_from_is_err_and c.from_residual-in_err-objects.result c.from_residual-in_err-objects.ensures.1 in
    rw (p.1, p.2, ← c.in_ok-untypeds.ensures, ← c.in_err-objects.ensures) refl

pub returns-in_err-capabilities : goal.returns-in_err-capabilities
returns-in_err-capabilities c =
    let p = err_from_is_err_and c.from_residual-in_err-capabilities.result c.from_residual-in_err-capabilities.ensures.1 in
    rw (p.1, p.2, ← c.in_ok-untypeds.ensures, ← c.in_ok-objects.ensures, ← c.in_err-capabilities.ensures) refl

pub returns-in_err-interrupts : goal.returns-in_err-interrupts
returns-in_err-interrupts c =
    let p = err_from_is_err_and c.from_residual-in_err-interrupts.result c.from_residual-in_err-interrupts.ensures.1 in
    rw (p.1, p.2, ← c.in_ok-untypeds.ensures, ← c.in_ok-objects.ensures, ← c.in_ok-capabilities.ensures, ← c.in_err-interrupts.ensures) refl

pub returns-in_err-tables : goal.returns-in_err-tables
returns-in_err-tables c =
    let p = err_from_is_err_and c.from_residual-in_err-tables.result c.from_residual-in_err-tables.ensures.1 in
    rw (
      p.1,
      p.2,
      ← c.in_ok-untypeds.ensures,
      ← c.in_ok-objects.ensures,
      ← c.in_ok-capabilities.ensures,
      ← c.in_ok-interrupts.ensures,
      ← c.in_err-tables.ensures,
    ) refl

pub returns-in_err-frames : goal.returns-in_err-frames
returns-in_err-frames c =
    let p = err_from_is_err_and c.from_residual-in_err-frames.result c.from_residual-in_err-frames.ensures.1 in
    rw (
      p.1,
      p.2,
      ← c.in_ok-untypeds.ensures,
      ← c.in_ok-objects.ensures,
      ← c.in_ok-capabilities.ensures,
      ← c.in_ok-interrupts.ensures,
      ← c.in_ok-tables.ensures,
      ← c.in_err-frames.ensures,
    ) refl

pub returns-in_err-contents : goal.returns-in_err-contents
returns-in_err-contents c =
    let p = err_from_is_err_and c.from_residual-in_err-contents.result c.from_residual-in_err-contents.ensures.1 in
    rw (
      p.1,
      p.2,
      ← c.in_ok-untypeds.ensures,
      ← c.in_ok-objects.ensures,
      ← c.in_ok-capabilities.ensures,
      ← c.in_ok-interrupts.ensures,
      ← c.in_ok-tables.ensures,
      ← c.in_ok-frames.ensures,
      ← c.in_err-contents.ensures,
    ) refl

pub returns-in_err-promises : goal.returns-in_err-promises
returns-in_err-promises c =
    let p = err_from_is_err_and c.from_residual-in_err-promises.result c.from_residual-in_err-promises.ensures.1 in
    rw (
      p.1,
      p.2,
      ← c.in_ok-untypeds.ensures,
      ← c.in_ok-objects.ensures,
      ← c.in_ok-capabilities.ensures,
      ← c.in_ok-interrupts.ensures,
      ← c.in_ok-tables.ensures,
      ← c.in_ok-frames.ensures,
      ← c.in_ok-contents.ensures,
      ← c.in_err-promises.ensures,
    ) refl

pub returns-in_err-threads : goal.returns-in_err-threads
returns-in_err-threads c =
    let p = err_from_is_err_and c.from_residual-in_err-threads.result c.from_residual-in_err-threads.ensures.1 in
    rw (
      p.1,
      p.2,
      ← c.in_ok-untypeds.ensures,
      ← c.in_ok-objects.ensures,
      ← c.in_ok-capabilities.ensures,
      ← c.in_ok-interrupts.ensures,
      ← c.in_ok-tables.ensures,
      ← c.in_ok-frames.ensures,
      ← c.in_ok-contents.ensures,
      ← c.in_ok-promises.ensures,
      ← c.in_err-threads.ensures,
    ) refl

pub returns : goal.returns
returns c = rw (
  ← c.in_ok-untypeds.ensures,
  ← c.in_ok-objects.ensures,
  ← c.in_ok-capabilities.ensures,
  ← c.in_ok-interrupts.ensures,
  ← c.in_ok-tables.ensures,
  ← c.in_ok-frames.ensures,
  ← c.in_ok-contents.ensures,
  ← c.in_ok-promises.ensures,
  ← c.in_ok-threads.ensures,
) refl
