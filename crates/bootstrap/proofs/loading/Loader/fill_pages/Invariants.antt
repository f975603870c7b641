-- The pages that are left are filled as all of them would be.
use Rattle.std.proofs.Common.{◌≡◌}
use Rattle.kernel_machine.specs.Setups.{state_in}
use Rattle.model.specs.Images.Fills.{program_pages}
use Rattle.bootstrap.specs.Filling.{pages_filled, pages_from}
use Rattle.bootstrap.specs.Loading.{placed}
use Rattle.bootstrap.proofs.loading.Loader.fill_pages.Given as goal

abbrev pub invariant-loop-page : goal.invariant-loop-page
invariant-loop-page l = record {
  same : placed l.fn.number l.fn.self.calls (pages_filled l.image.read.now l.thread (state_in l.fn.self.machine) (program_pages l.thread))
      ≡ placed l.fn.number l.self.calls (pages_filled l.image.read.now l.thread (state_in l.self.machine) (pages_from l.thread l.page));
  calls : l.self.calls ≡ l.fn.self.calls;
}
