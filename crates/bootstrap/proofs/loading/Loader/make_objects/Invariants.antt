-- The calls that are left leave what all of the section would.
use Rattle.std.proofs.Common.{◌≡◌, ◌+◌, ◌*◌, ◌≤◌}
use Rattle.bootstrap.specs.Loading.{called, progress_of}
use Rattle.bootstrap.proofs.Rests.{objects_from}
use Rattle.bootstrap.proofs.loading.Loader.make_objects.Given as goal

abbrev pub invariant-loop-number : goal.invariant-loop-number
invariant-loop-number l = record {
  same : called (progress_of l.fn.self) (objects_from l.image.read.now 0) ≡ called (progress_of l.self) (objects_from l.image.read.now l.number);
  room : l.self.calls ≤ l.fn.self.calls + 1 * l.number;
}
