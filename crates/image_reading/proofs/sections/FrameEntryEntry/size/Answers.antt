use Rattle.image_reading.proofs.SectionSizes.{frame_size}
use Rattle.image_reading.proofs.sections.FrameEntryEntry.size.Goals as goal

pub returns : goal.returns
returns c = λ counts least. frame_size counts.objects least
