use Rattle.image_reading.proofs.SectionSizes.{capability_size}
use Rattle.image_reading.proofs.sections.CapabilityEntryEntry.size.Goals as goal

pub returns : goal.returns
returns c = λ counts least. capability_size counts.objects counts.interrupts least
