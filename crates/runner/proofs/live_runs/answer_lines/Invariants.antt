-- So many lines are answered, and nothing failed.
use Rattle.std.proofs.Common.{◌≡◌}
use Rattle.kernel_machine.specs.Setups.{state_in}
use Rattle.model.specs.Images.Image.{Image}
use Rattle.runner.proofs.LiveLines.{SoFar}
use Rattle.runner.specs.Devices.{AreDevicePages}
use Rattle.runner.proofs.live_runs.answer_lines.Given as goal

abbrev pub invariant-lines : goal.invariant-lines
invariant-lines g l = record {
  answered : (image : Image) → AreDevicePages image image.header.objects l.fn.pages
      → SoFar image (state_in l.fn.system) (state_in l.system) (g.L.EventLines.left l.fn.lines) (g.L.EventLines.left l.lines) l.done
      (g.S.Sink.contents l.fn.sink) (g.S.Sink.contents l.sink);
  counted : g.S.Sink.failures l.sink ≡ g.S.Sink.failures l.fn.sink;
}
