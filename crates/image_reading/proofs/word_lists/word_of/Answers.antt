use Rattle.std.proofs.Common.{ℕ, sym, ap, ◌∙◌, arith}
use Rattle.std.specs.Int.{w32}
use Rattle.model.specs.Images.Format.{number_at}
use Rattle.image_reading.proofs.Words.{word_in, not_refused, read_as}
use Rattle.image_reading.proofs.word_lists.word_of.Goals as goal

pub item_offset-at-requires : goal.item_offset-at-requires
item_offset-at-requires c =
    let f = word_in c.args.count c.args.index c.args.bytes.now c.args.start c.requires.inside c.requires.readable in
    omega (arith, f.within)

pub unreachable-requires : goal.unreachable-requires
unreachable-requires c =
    let f = word_in c.args.count c.args.index c.args.bytes.now c.args.start c.requires.inside c.requires.readable in
    not_refused c.args.bytes.now c.item_offset-at.result c.in-Err.field-0 (omega (arith, f.within, c.item_offset-at.ensures)) c.in-Err.ensures

pub returns : goal.returns
returns c =
    let f = word_in c.args.count c.args.index c.args.bytes.now c.args.start c.requires.inside c.requires.readable in
    read_as c.args.bytes.now c.item_offset-at.result (c.in-Ok.word, c.in-Ok.field-0-1) (omega (arith, f.within, c.item_offset-at.ensures)) c.in-Ok.ensures
    ∙ ap (λ (k : ℕ). number_at w32 c.args.bytes.now k) c.item_offset-at.ensures ∙ sym f.value
