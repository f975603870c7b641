-- An object that is there fits.
use Rattle.image_reading.proofs.image_entries.entries.object_of.Goals as goal

pub returns-clause-fits : goal.returns-clause-fits
returns-clause-fits c = c.header_of.ensures.fitting.object c.args.number c.object.result c.object.ensures
