use Rattle.std.proofs.Common.{◌≡◌, None, rules}
use Rattle.std.specs.Result.{result_ok}
use Rattle.asm_line.specs.Lines.{promised_first}
use Rattle.asm.proofs.Steps.{either-goes, refused-means}
use Rattle.asm.proofs.WordsSaid.{promised-done, promised-full}
use Rattle.asm.proofs.declarations.promised_words_of.Goals as goal

pub returns-in_err-append : goal.returns-in_err-append
returns-in_err-append c =
    refused-means c.from_residual.result c.in_err-append.field-0.0 _ _ c.from_residual.ensures
    (either-goes (promised-full c.words.read.items c.words.rest c.args.words c.in-Some.word c.in-Some.words _ c.words.invariant c.in-Some.ensures.exact)
    c.in_err-append.ensures.meant)

pub returns : goal.returns
returns c =
    let none : None ≡ result_ok (promised_first c.words.rest) = search rules in
    promised-done c.words.read.items c.words.rest c.args.words c.words.invariant none
