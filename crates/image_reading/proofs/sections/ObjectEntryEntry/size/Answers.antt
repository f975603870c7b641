use Rattle.image_reading.proofs.SectionSizes.{object_entry_size}
use Rattle.image_reading.proofs.sections.ObjectEntryEntry.size.Goals as goal

pub returns : goal.returns
returns c = λ counts least. object_entry_size counts.version counts.untypeds least
