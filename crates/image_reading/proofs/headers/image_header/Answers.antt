use Rattle.std.proofs.Common.{refl}
use Rattle.std.proofs.lemmas.Result.{err_from_is_err_and}
use Rattle.model.specs.Images.Image.{header_format}
use Rattle.image_reading.proofs.headers.image_header.Goals as goal

pub returns-in_err-_magic : goal.returns-in_err-_magic
unfolding header_format
returns-in_err-_magic c =
    let p = err_from_is_err_and c.from_residual.result c.from_residual.ensures.1 in
    rw (p.1, p.2, ← c.in_err-_magic.ensures) refl

pub returns-in_err-version : goal.returns-in_err-version
unfolding header_format
returns-in_err-version c =
    let p = err_from_is_err_and c.from_residual-in_err-version.result c.from_residual-in_err-version.ensures.1 in
    rw (p.1, p.2, ← c.in_ok-_magic.ensures, ← c.in_err-version.ensures) refl

pub returns-in_err-memory_bits : goal.returns-in_err-memory_bits
unfolding header_format
returns-in_err-memory_bits c =
    let p = err_from_is_err_and c.from_residual-in_err-memory_bits.result c.from_residual-in_err-memory_bits.ensures.1 in
    rw (p.1, p.2, ← c.in_ok-_magic.ensures, ← c.in_ok-version.ensures, ← c.in_err-memory_bits.ensures) refl

pub returns-in_err-boot_radix : goal.returns-in_err-boot_radix
unfolding header_format
returns-in_err-boot_radix c =
    let p = err_from_is_err_and c.from_residual-in_err-boot_radix.result c.from_residual-in_err-boot_radix.ensures.1 in
    rw (
      p.1,
      p.2,
      ← c.in_ok-_magic.ensures,
      ← c.in_ok-version.ensures,
      ← c.in_ok-memory_bits.ensures,
      ← c.radix_limit.ensures,
      ← c.in_err-boot_radix.ensures,
    ) refl

pub returns-in_err-counts : goal.returns-in_err-counts
unfolding header_format
returns-in_err-counts c =
    let p = err_from_is_err_and c.from_residual-in_err-counts.result c.from_residual-in_err-counts.ensures.1 in
    rw (
      p.1,
      p.2,
      ← c.in_ok-_magic.ensures,
      ← c.in_ok-version.ensures,
      ← c.in_ok-memory_bits.ensures,
      ← c.radix_limit.ensures,
      ← c.in_ok-boot_radix.ensures,
      ← c.in_err-counts.ensures,
    ) refl

pub returns : goal.returns
unfolding header_format
returns c = rw (
  ← c.in_ok-_magic.ensures,
  ← c.in_ok-version.ensures,
  ← c.in_ok-memory_bits.ensures,
  ← c.radix_limit.ensures,
  ← c.in_ok-boot_radix.ensures,
  ← c.in_ok-counts.ensures,
  ← c.counts.view_is,
) refl
