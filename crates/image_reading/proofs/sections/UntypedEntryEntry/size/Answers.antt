use Rattle.image_reading.proofs.SectionSizes.{untyped_size}
use Rattle.image_reading.proofs.sections.UntypedEntryEntry.size.Goals as goal

pub returns : goal.returns
returns c = λ _ _. untyped_size
