-- The programs that are left fill what all of them would.
use Rattle.std.proofs.Common.{◌≡◌, ◌+◌, ◌≤◌, length}
use Rattle.std.specs.List.{AllByRecursion}
use Rattle.bootstrap.specs.Limits.{ThreadFits}
use Rattle.bootstrap.specs.Loading.{all_performed, progress_of}
use Rattle.bootstrap.proofs.Rests.{programs_from}
use Rattle.bootstrap.proofs.loading.Loader.fill_programs.Given as goal

abbrev pub invariant-loop-thread : goal.invariant-loop-thread
invariant-loop-thread l = record {
  same : all_performed l.image.read.now.header.untypeds (progress_of l.fn.self) (programs_from l.image.read.now 0 l.image.read.now.threads)
      ≡ all_performed l.image.read.now.header.untypeds (progress_of l.self) (programs_from l.image.read.now l.number l.thread-iterator);
  calls : l.self.calls ≡ l.fn.self.calls;
  few : l.number + length l.thread-iterator ≤ 64;
  fits : AllByRecursion (ThreadFits l.image.read.now.header) l.thread-iterator;
}
