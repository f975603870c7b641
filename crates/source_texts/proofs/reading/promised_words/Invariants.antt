use Rattle.std.proofs.Common.{length}
use Rattle.source_texts.proofs.reading.promised_words.Given as goal

-- fewer words are left after each range
abbrev pub decreases-words : goal.decreases-words
decreases-words l = length l.rest
