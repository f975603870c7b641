-- By the frame that was found.
use Rattle.std.proofs.Common.{slice_index}
use Rattle.kernel_machine.specs.Setups.{state_in}
use Rattle.bootstrap.specs.Loading.{progress_of}
use Rattle.bootstrap.proofs.FillLemmas.{page-leaves}
use Rattle.bootstrap.proofs.loading.Loader.fill_page.Goals as goal

pub returns-in-Some-clause-outcome : goal.returns-in-Some-clause-outcome
returns-in-Some-clause-outcome c =
    let f = c.in-Some.frame in
    page-leaves c.args.image.now.read.now c.args.thread.now (state_in c.args.self.now.machine) c.args.page f c.from.result c.from-2.result
    (slice_index c.args.places.now f.frame) c.program.result.now
    c.page_of-bytes.result.now c.header-header.result c.args.number c.args.self.now.calls c.fill.result (progress_of c.fill.new.self) c.header-header.ensures
    c.from.ensures c.from-2.ensures
    c.in-Some.ensures.value (c.requires.places.place f.frame c.in-Some.ensures.named) c.page_of-bytes.ensures c.program.ensures c.fill.ensures.outcome
