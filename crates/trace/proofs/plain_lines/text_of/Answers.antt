-- Two words of eight digits each, put together.
use Rattle.std.proofs.Common.{refl}
use Rattle.model.specs.Shared.Trace.{hex_word}
use Rattle.trace.proofs.plain_lines.text_of.Goals as goal

pub returns : goal.returns
unfolding hex_word
returns c = rw (c.hex_word-who.ensures, c.hex_word-at.ensures) refl
