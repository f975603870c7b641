-- Each parent takes one from the bound and adds one to the count.
use Rattle.std.proofs.Common.{◌≡◌, ◌∙◌, ◌+◌, ◌-◌, Some, suc, sym, ap, arith}
use Rattle.model.specs.Capabilities.Slots.{depth_of, depth_within, parent_at}
use Rattle.slots.specs.Table.{table_slots}
use Rattle.model.proofs.Depths.{Parents, depth-le, depth-none, depth-some}
use Rattle.slots.proofs.table.depth_at.Goals as goal

pub returns-in-None : goal.returns-in-None
returns-in-None c =
    let parents : Parents = parent_at (table_slots c.args.records.now) in
    let all : c.up.depth + depth_within (256 - c.up.depth) parents c.up.here ≡ depth_of (table_slots c.args.records.now) c.args.slot = c.up.invariant in
    omega (arith, all, depth-none (256 - c.up.depth) parents c.up.here (sym c.parent_at.ensures ∙ c.in-None.is))

pub up-preserved : goal.up-preserved
up-preserved c =
    let parents : Parents = parent_at (table_slots c.args.records.now) in
    let left = 256 - (c.up.depth + 1) in
    let all : c.up.depth + depth_within (256 - c.up.depth) parents c.up.here ≡ depth_of (table_slots c.args.records.now) c.args.slot = c.up.invariant in
    let size : 256 - c.up.depth ≡ suc left = omega arith in
    let above : parents c.up.here ≡ Some c.number-here.result = sym c.parent_at.ensures ∙ c.in-Some.is ∙ ap (λ s. Some s) (sym c.number-here.ensures.value) in
    let step = ap (λ n. depth_within n parents c.up.here) size ∙ depth-some left parents c.up.here c.number-here.result above in
    let goal' : (c.up.depth + 1) + depth_within left parents c.number-here.result ≡ depth_of (table_slots c.args.records.now) c.args.slot =
    omega (arith, all, step) in
    goal'

pub returns : goal.returns
returns c =
    let parents : Parents = parent_at (table_slots c.args.records.now) in
    let all : c.up.depth + depth_within (256 - c.up.depth) parents c.up.here ≡ depth_of (table_slots c.args.records.now) c.args.slot = c.up.invariant in
    omega (arith, all, depth-le (256 - c.up.depth) parents c.up.here)
