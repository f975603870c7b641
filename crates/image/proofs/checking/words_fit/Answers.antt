use Rattle.std.proofs.Common.{sym}
use Rattle.image.proofs.Lists.{words-fit}
use Rattle.image.proofs.checking.words_fit.Goals as goal

pub returns : goal.returns
returns c = sym (words-fit c.args.words.now (λ i. (c.type_inv.words i).fits))
