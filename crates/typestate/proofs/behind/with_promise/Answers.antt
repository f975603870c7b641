-- Word by word.
use Rattle.std.proofs.Common.{◌∙◌}
use Rattle.model.specs.Acceptance.RangeRules.{range}
use Rattle.model.specs.Acceptance.Ranges.{full, with_range}
use Rattle.model.specs.Kernel.Messages.{a0, a1, word_registers}
use Rattle.typestate.proofs.PromisedWords.{words-each}
use Rattle.typestate.proofs.behind.with_promise.Goals as goal

pub returns : goal.returns
returns c =
    let p = c.args.promise.now in
    c.with_promised_words.ensures
    ∙ words-each (with_range (with_range c.args.bounds.now a0 (range p.header.badge_low p.header.badge_high)) a1 full) word_registers p.words
