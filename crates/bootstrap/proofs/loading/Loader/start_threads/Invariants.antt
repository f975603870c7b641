-- The threads that are left start as all of them would.
use Rattle.std.proofs.Common.{◌≡◌, ◌+◌, ◌*◌, ◌≤◌, length}
use Rattle.std.specs.Prelude.{flat_map}
use Rattle.std.specs.List.{AllByRecursion}
use Rattle.model.specs.Images.BootCalls.{thread_calls}
use Rattle.bootstrap.specs.Limits.{ThreadFits}
use Rattle.bootstrap.specs.Loading.{called, progress_of}
use Rattle.bootstrap.proofs.loading.Loader.start_threads.Given as goal

abbrev pub invariant-loop-thread : goal.invariant-loop-thread
invariant-loop-thread l = record {
  same : called (progress_of l.fn.self) (flat_map (thread_calls l.image.read.now) l.image.read.now.threads) ≡ called (progress_of l.self)
      (flat_map (thread_calls l.image.read.now) l.thread-iterator);
  room : l.self.calls + 36 * length l.thread-iterator ≤ l.fn.self.calls + 2304;
  fits : AllByRecursion (ThreadFits l.image.read.now.header) l.thread-iterator;
}
