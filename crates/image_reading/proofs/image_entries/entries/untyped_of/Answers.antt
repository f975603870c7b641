-- An untyped that is there fits.
use Rattle.image_reading.proofs.image_entries.entries.untyped_of.Goals as goal

pub returns-clause-fits : goal.returns-clause-fits
returns-clause-fits c = c.header_of.ensures.fitting.untyped c.args.number c.untyped.result c.untyped.ensures
