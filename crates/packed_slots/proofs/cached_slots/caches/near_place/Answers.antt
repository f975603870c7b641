-- A place in memory is that of a leaf of a page of memory.
use Rattle.std.proofs.Common.{◌≡◌, ◌∙◌, ◌+◌, ◌*◌, ◌%◌, sym, arith}
use Rattle.packed_slots.proofs.cached_slots.LeafWalks.{near_leaf}
use Rattle.packed_slots.proofs.cached_slots.caches.near_place.Goals as goal

pub returns-then-place-from : goal.returns-then-place-from
returns-then-place-from c = λ place gives.
    let same : c.from.result * 4096 + c.from-2.result % 4096 ≡ place = cc in
    near_leaf c.args.memory.now c.args.leaf c.args.address place c.args.access c.ranges.leaf.fits (omega (arith, c.len.ensures.value, c.len.ensures.most))
    (sym c.permits.ensures ∙ c.if-permits.true) (omega (arith, same, c.from.ensures, c.from-2.ensures))
    (omega (arith, same, c.if-place-from.true, c.from-then-permits.ensures, c.len.ensures.value))
