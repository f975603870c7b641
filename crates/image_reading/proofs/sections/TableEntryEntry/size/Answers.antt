use Rattle.image_reading.proofs.SectionSizes.{table_size}
use Rattle.image_reading.proofs.sections.TableEntryEntry.size.Goals as goal

pub returns : goal.returns
returns c = λ counts least. table_size counts.objects least
