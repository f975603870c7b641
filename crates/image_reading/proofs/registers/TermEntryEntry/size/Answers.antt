use Rattle.image_reading.proofs.SectionSizes.{term_size}
use Rattle.image_reading.proofs.registers.TermEntryEntry.size.Goals as goal

pub returns : goal.returns
returns c = λ _ least. term_size least
