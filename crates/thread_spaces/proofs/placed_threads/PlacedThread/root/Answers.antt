-- By what the thread's header names.
use Rattle.std.proofs.Common.{◌∙◌, sym}
use Rattle.std.proofs.lemmas.Option.{none-some}
use Rattle.thread_spaces.proofs.RootRadix.{cnode-place, root-fits, root-radix}
use Rattle.thread_spaces.proofs.PlacedThreads.{is-listed}
use Rattle.thread_spaces.proofs.placed_threads.PlacedThread.root.Goals as goal

pub unreachable-requires : goal.unreachable-requires
unreachable-requires c =
    none-some _ (sym c.in_default.is
    ∙ root-radix c.args.self.now.placed.now.image.now c.args.self.now.thread.now c.header.ensures.fits c.args.self.now.placed.now.formed (is-listed
    c.args.self.now) c.header-header.result _
    c.radix_of.result c.header-header.ensures c.type_at.ensures c.radix_of.ensures)

pub returns-clause-valid : goal.returns-clause-valid
returns-clause-valid c =
    root-fits c.args.self.now.placed.now.image.now c.args.self.now.thread.now c.header.ensures.fits c.args.self.now.placed.now.formed (is-listed
    c.args.self.now) c.header-header.result c.in-Some.radix _
    c.header-header.ensures
    (sym c.in-Some.is
    ∙ root-radix c.args.self.now.placed.now.image.now c.args.self.now.thread.now c.header.ensures.fits c.args.self.now.placed.now.formed (is-listed
    c.args.self.now) c.header-header.result _
    c.radix_of.result c.header-header.ensures c.type_at.ensures c.radix_of.ensures)
    (cnode-place c.args.self.now.placed.now.image.now c.args.self.now.thread.now c.header.ensures.fits (is-listed c.args.self.now) c.header-header.result
    c.header-header.ensures c.args.self.now.placed.now.offsets.now
    c.args.self.now.placed.now.placed)
