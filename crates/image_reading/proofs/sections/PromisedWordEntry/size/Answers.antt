use Rattle.image_reading.proofs.SectionSizes.{promised_word_size}
use Rattle.image_reading.proofs.sections.PromisedWordEntry.size.Goals as goal

pub returns : goal.returns
returns c = λ _ _. promised_word_size
