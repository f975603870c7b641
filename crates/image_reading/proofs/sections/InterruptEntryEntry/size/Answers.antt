use Rattle.image_reading.proofs.SectionSizes.{interrupt_size}
use Rattle.image_reading.proofs.sections.InterruptEntryEntry.size.Goals as goal

pub returns : goal.returns
returns c = λ counts least. interrupt_size counts.objects least
