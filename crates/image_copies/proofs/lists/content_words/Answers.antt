-- By one word more.
use Rattle.std.proofs.Common.{arith}
use Rattle.image_copies.proofs.Loops.{word-next, words-all}
use Rattle.image_copies.proofs.lists.content_words.Goals as goal

pub loop-index-preserved : goal.loop-index-preserved
loop-index-preserved c =
    word-next c.args.content.now.words c.loop-index.words.items c.push.new.self.items c.loop-index.index c.word.result
    (omega (arith, c.loop-index-test.true, c.word_count-index-end.ensures.length)) c.word.ensures c.loop-index.invariant c.in_ok-push.ensures.items

pub returns : goal.returns
returns c =
    words-all c.args.content.now.words c.loop-index.words.items c.loop-index.index
    (omega (arith, c.loop-index-test.false, c.word_count-index-end.ensures.length)) c.loop-index.invariant
