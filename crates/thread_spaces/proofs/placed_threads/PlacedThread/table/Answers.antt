-- By what the thread's header names.
use Rattle.std.proofs.Common.{arith}
use Rattle.thread_spaces.proofs.RootRadix.{table-listed, table-place}
use Rattle.thread_spaces.proofs.PlacedThreads.{is-listed}
use Rattle.thread_spaces.proofs.placed_threads.PlacedThread.table.Goals as goal

pub bounds-placed-header : goal.bounds-placed-header
bounds-placed-header c =
    let less = table-listed c.args.self.now.placed.now.image.now c.args.self.now.thread.now c.header.ensures.fits (is-listed c.args.self.now)
    c.header-2.result c.header-2.ensures in
    let many = c.args.self.now.placed.now.placed.size in
    omega (arith, less, many)

pub returns : goal.returns
returns c =
    table-place c.args.self.now.placed.now.image.now c.args.self.now.thread.now c.header.ensures.fits (is-listed c.args.self.now) c.header-2.result
    c.header-2.ensures c.args.self.now.placed.now.offsets.now
    c.args.self.now.placed.now.placed
