use Rattle.std.proofs.Common.{ℕ, ◌≡◌, ◌*◌, ◌-◌, ◌<◌, take, drop, ap, ◌∙◌, arith}
use Rattle.image_reading.proofs.Words.{word_in, words_taken}
use Rattle.image_reading.proofs.word_lists.bytes_of_words.Goals as goal

pub item_offset-end-requires : goal.item_offset-end-requires
item_offset-end-requires c =
    let last : c.args.count - 1 < c.args.count = omega (arith, c.requires.some) in
    let f = word_in c.args.count (c.args.count - 1) c.args.bytes.now c.args.start last c.requires.readable in
    omega (arith, f.within, c.requires.some)

pub returns : goal.returns
returns c =
    let size : c.item_offset-end.result - c.args.start ≡ 4 * c.args.count = omega (arith, c.item_offset-end.ensures) in
    ap (λ (n : ℕ). take n (drop c.args.start c.args.bytes.now)) size
    ∙ words_taken c.args.count c.args.bytes.now c.args.start (λ i. omega (arith, c.type_inv.bytes i)) c.requires.readable

pub slice_bounds-result-end : goal.slice_bounds-result-end
slice_bounds-result-end c =
    let last : c.args.count - 1 < c.args.count = omega (arith, c.requires.some) in
    let f = word_in c.args.count (c.args.count - 1) c.args.bytes.now c.args.start last c.requires.readable in
    omega (arith, f.within, c.requires.some, c.item_offset-end.ensures)
