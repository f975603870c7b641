use Rattle.std.proofs.lemmas.Result.{err_from_is_err_and}
use Rattle.model.specs.Images.Format.{field}
use Rattle.model.specs.Images.Image.{anything, words_format}
use Rattle.image_reading.proofs.EntryLists.{end_of-more, end_of-refused, end_of-none}
use Rattle.image_reading.proofs.word_lists.words_end.Goals as goal

pub returns-in_err-_word : goal.returns-in_err-_word
unfolding words_format
returns-in_err-_word c =
    let p = err_from_is_err_and c.from_residual.result c.from_residual.ensures.1 in
    rw (p.1, p.2) (end_of-refused (λ _. field anything) (λ _. 0) 0 c.args.count c.loop.counter c.args.bytes.now c.loop.at
    c.in_err-_word.field-0.0 _ c.loop-test.true c.in_err-_word.ensures c.loop.invariant)

pub loop-preserved : goal.loop-preserved
loop-preserved c =
    end_of-more (λ _. field anything) (λ _. 0) 0 c.args.count c.loop.counter c.args.bytes.now c.loop.at
    (c.in_ok-_word._word, c.in_ok-_word.next) _ c.loop-test.true c.in_ok-_word.ensures c.loop.invariant

pub returns : goal.returns
unfolding words_format
returns c =
    end_of-none (λ _. field anything) (λ _. 0) 0 c.args.count c.loop.counter c.args.bytes.now c.loop.at _ c.loop-test.false c.loop.invariant
