-- What fits its format keeps to its limits.
use Rattle.std.proofs.Common.{sym, subst}
use Rattle.model.specs.declared.entries.ImageHeader.{ImageHeader}
use Rattle.format_laws.specs.Fitting.{HeaderFits}
use Rattle.format_laws.proofs.Laws.{is-fitting}
use Rattle.image_reading.proofs.image_entries.entries.header_of.Goals as goal

pub returns-clause-small : goal.returns-clause-small
returns-clause-small c = subst (λ (h : ImageHeader). HeaderFits h) (sym c.header.ensures.value) (is-fitting c.args.image.now c.header.ensures.fits).header

pub returns-clause-fitting : goal.returns-clause-fitting
returns-clause-fitting c = is-fitting c.args.image.now c.header.ensures.fits
