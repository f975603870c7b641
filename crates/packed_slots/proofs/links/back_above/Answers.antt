-- One more is passed.
use Rattle.std.proofs.Common.{◌∙◌, ◌-◌, ◌+◌, ◌<◌, ◌≤◌, sym, ap, arith}
use Rattle.packed_slots.specs.Words.{words_in}
use Rattle.packed_slots.proofs.Steps.{back_found, back_step}
use Rattle.slots.specs.preorder.Chains.{back_above}
use Rattle.packed_slots.proofs.links.back_above.Goals as goal

pub back-preserved : goal.back-preserved
back-preserved c =
    let i = c.back.invariant in
    let words = words_in c.args.memory.now in
    let slot = c.in-Some.slot in
    let less : c.back._step < c.args.count = c.back-test.true in
    let left = c.args.count - (c.back._step + 1) in
    let deep : c.args.limit ≤ words.depth slot = omega (arith, c.if-depth-limit.false, c.depth.ensures.value) in
    let step = back_step words.previous words.depth (c.args.count - c.back._step) left c.args.limit slot (omega (arith, less)) deep in (
      omega (arith, less),
      ap (back_above words.previous words.depth left c.args.limit) c.previous-at.ensures ∙ sym step
          ∙ ap (back_above words.previous words.depth (c.args.count - c.back._step) c.args.limit) (sym c.in-Some.is) ∙ i.1,
    )

pub returns-then-depth-limit : goal.returns-then-depth-limit
returns-then-depth-limit c =
    let words = words_in c.args.memory.now in
    let slot = c.in-Some.slot in
    let less : c.back._step < c.args.count = c.back-test.true in
    let left = c.args.count - (c.back._step + 1) in
    let shallow : words.depth slot < c.args.limit = omega (arith, c.if-depth-limit.true, c.depth.ensures.value) in
    let found = back_found words.previous words.depth (c.args.count - c.back._step) left c.args.limit slot (omega (arith, less)) shallow in
    sym found ∙ ap (back_above words.previous words.depth (c.args.count - c.back._step) c.args.limit) (sym c.in-Some.is) ∙ c.back.invariant.1
