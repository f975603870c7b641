-- The untypeds that are left leave what all of them would.
use Rattle.std.proofs.Common.{◌≡◌}
use Rattle.bootstrap.specs.Loading.{all_performed, progress_of}
use Rattle.bootstrap.proofs.Rests.{untypeds_from}
use Rattle.bootstrap.proofs.loading.Loader.put_untypeds.Given as goal

abbrev pub invariant-loop-number : goal.invariant-loop-number
invariant-loop-number l = record {
  same : all_performed l.image.read.now.header.untypeds (progress_of l.fn.self) (untypeds_from l.image.read.now 0)
      ≡ all_performed l.image.read.now.header.untypeds (progress_of l.self) (untypeds_from l.image.read.now l.number);
  calls : l.self.calls ≡ l.fn.self.calls;
}
