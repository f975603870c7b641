-- One more is lowered.
use Rattle.std.proofs.Common.{◌∙◌, ◌-◌, ◌+◌, ◌<◌, sym, ap, arith}
use Rattle.packed_slots.specs.Words.{depth_in, lowered_memory, with_link, word_of}
use Rattle.packed_slots.proofs.Steps.{lower_step}
use Rattle.packed_slots.proofs.links.lower.Goals as goal

pub run-preserved : goal.run-preserved
run-preserved c =
    let i = c.run.invariant in
    let memory = c.run.memory in
    let slot = c.in-Some.slot in
    let less : c.run._step < c.args.count = c.run-test.true in
    let left = c.args.count - (c.run._step + 1) in
    let d = c.args.root_depth in
    let own = c.depth-own_depth.ensures.value in
    let link = c.next-after.ensures in
    let deep : d < depth_in (word_of memory slot 2) = omega (arith, c.if-own_depth-root_depth.false, own) in
    let step = lower_step d (c.args.count - c.run._step) left slot memory (omega (arith, less)) deep in (
      c.put_link.ensures.size ∙ i.0,
      omega (arith, less),
      ap (lowered_memory d left c.next-after.result) (c.put_link.ensures.bytes ∙ ap (λ e. with_link memory slot c.next-after.result (e - 1)) own)
          ∙ ap (λ o. lowered_memory d left o (with_link memory slot o (depth_in (word_of memory slot 2) - 1))) link
          ∙ sym step ∙ ap (λ o. lowered_memory d (c.args.count - c.run._step) o memory) (sym c.in-Some.is) ∙ i.2,
    )

pub put_link-requires-clause-inside : goal.put_link-requires-clause-inside
put_link-requires-clause-inside c = c.depth-own_depth.ensures.inside (omega (arith, c.if-own_depth-root_depth.false))
