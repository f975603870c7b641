use Rattle.image_reading.proofs.SectionSizes.{range_size}
use Rattle.image_reading.proofs.registers.RangeEntryEntry.size.Goals as goal

pub returns : goal.returns
returns c = λ _ least. range_size least
