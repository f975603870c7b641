-- Beyond the end of memory all words are 0.
use Rattle.std.proofs.Common.{ℕ, ◌∙◌, ◌%◌, ◌<◌, List, length, ap, sym, arith}
use Rattle.packed_slots.specs.Words.{depth_in, word_of}
use Rattle.packed_slots.proofs.WordsBehind.{deep_inside}
use Rattle.packed_slots.proofs.words.depth.Goals as goal

pub returns-clause-inside : goal.returns-clause-inside
returns-clause-inside c = λ some.
    let whole = ap (λ (m : List ℕ). length m % 16) (sym c.memory.view_is) ∙ c.memory.invariant in
    let deep : 0 < depth_in (word_of c.args.memory.now c.args.slot 2) = omega (arith, some, c.word.ensures) in
    deep_inside c.args.memory.now c.args.slot 0 whole deep
