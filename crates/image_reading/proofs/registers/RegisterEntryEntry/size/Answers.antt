use Rattle.image_reading.proofs.SectionSizes.{register_size}
use Rattle.image_reading.proofs.registers.RegisterEntryEntry.size.Goals as goal

pub returns : goal.returns
returns c = λ _ least. register_size least
