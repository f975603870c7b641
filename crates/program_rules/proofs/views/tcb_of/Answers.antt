-- By what the thread's header names.
use Rattle.std.proofs.Common.{arith}
use Rattle.program_rules.proofs.ViewedBlocks.{block-listed, block-place}
use Rattle.program_rules.proofs.views.tcb_of.Goals as goal
use Rattle.thread_spaces.specs.Given.{IsListed}

pub bounds-placed-header : goal.bounds-placed-header
bounds-placed-header c =
    let owner = c.args.owner.now in
    let listed : IsListed owner.placed.now.image.now owner.thread.now = record { number = owner.number; listed = owner.listed } in
    let less = block-listed owner.placed.now.image.now owner.thread.now c.header.ensures.fits listed c.header-2.result c.header-2.ensures in
    let many = owner.placed.now.placed.size in
    omega (arith, less, many)

pub returns : goal.returns
returns c =
    let owner = c.args.owner.now in
    let listed : IsListed owner.placed.now.image.now owner.thread.now = record { number = owner.number; listed = owner.listed } in
    block-place owner.placed.now.image.now owner.thread.now c.header.ensures.fits listed c.header-2.result c.header-2.ensures owner.placed.now.offsets.now
    owner.placed.now.placed
