-- What a cut behind the first line feed, or at the end, leaves.
use Rattle.std.proofs.Common.{rules, ◌<◌, ◌∙◌, length, arith, sym}
use Rattle.std.proofs.Math.ListN.{drop_of_length-le}
use Rattle.std.proofs.lemmas.List.{take_all}
use Rattle.certified_texts.proofs.FirstLines.{line-alone, line-cut}
use Rattle.certified_texts.proofs.comparing.first_line.Goals as goal

pub returns-in-Some : goal.returns-in-Some
returns-in-Some c =
    line-cut c.args.text.now c.split_at.result.0.now c.split_at.result.1.now c.in-Some.at (sym c.in-Some.ensures.place)
    c.split_at.ensures.front c.split_at.ensures.back

pub returns-in-None : goal.returns-in-None
returns-in-None c =
    let some : 0 < length c.args.text.now = search rules in
    line-alone c.args.text.now c.split_at-in-None.result.0.now c.split_at-in-None.result.1.now some (sym c.in-None.ensures.place)
    (c.split_at-in-None.ensures.front ∙ take_all (length c.args.text.now) c.args.text.now (omega arith))
    (c.split_at-in-None.ensures.back ∙ drop_of_length-le c.args.text.now (omega arith))
