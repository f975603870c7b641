-- The contents that are left fill what all of them would.
use Rattle.std.proofs.Common.{◌≡◌, map}
use Rattle.std.specs.List.{AllByRecursion}
use Rattle.model.specs.Images.BootCalls.{content_operation}
use Rattle.bootstrap.specs.Limits.{ContentFits}
use Rattle.bootstrap.specs.Loading.{all_performed, progress_of}
use Rattle.bootstrap.proofs.loading.Loader.fill_contents.Given as goal

abbrev pub invariant-loop-content : goal.invariant-loop-content
invariant-loop-content l = record {
  same : all_performed l.image.read.now.header.untypeds (progress_of l.fn.self) (map (content_operation l.image.read.now) l.image.read.now.contents)
      ≡ all_performed l.image.read.now.header.untypeds (progress_of l.self) (map (content_operation l.image.read.now) l.content-iterator);
  calls : l.self.calls ≡ l.fn.self.calls;
  fits : AllByRecursion (ContentFits l.image.read.now.header) l.content-iterator;
}
