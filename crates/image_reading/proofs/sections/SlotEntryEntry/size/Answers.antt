use Rattle.image_reading.proofs.SectionSizes.{slot_size}
use Rattle.image_reading.proofs.sections.SlotEntryEntry.size.Goals as goal

pub returns : goal.returns
returns c = λ counts least. slot_size counts.objects least
