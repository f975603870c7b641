-- The words are those of the part of memory that was read.
use Rattle.std.proofs.Common.{ℕ, ◌≡◌, ◌∙◌, ◌+◌, ◌-◌, ◌*◌, List, length, take, drop, ap, arith}
use Rattle.std.specs.List.{slice_range}
use Rattle.pmem.specs.Words.{words_at}
use Rattle.pmem.proofs.WordLists.{read-part}
use Rattle.pmem.proofs.memory.Mem.read_words.Goals as goal

pub returns : goal.returns
returns c =
    let m = c.args.self.now in
    let at = c.args.offset in
    let count = length c.args.words.now in
    let src = slice_range c.deref.result.now at (at + 4 * count) in
    let long = c.read_u32_into.auto.dst in
    let is : src ≡ take (4 * length c.read_u32_into.new.dst) (drop at m) =
    ap (λ (bytes : List ℕ). take (at + 4 * count - at) (drop at bytes)) (c.deref.ensures.value ∙ c.self.view_is)
    ∙ ap (λ (n : ℕ). take n (drop at m)) (omega (arith, long)) in
    read-part m src c.read_u32_into.new.dst at is c.read_u32_into.ensures ∙ ap (words_at m at) long
