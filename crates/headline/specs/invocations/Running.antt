-- The thread that calls runs.
use Rattle.std.specs.Prelude.{◌≡◌, Some}
use Rattle.model.specs.Acceptance.ThreadInvariants.{tcb_of}
use Rattle.model.specs.Images.Described.{Numbered}
use Rattle.model.specs.Images.Image.{Image}
use Rattle.model.specs.Kernel.State.{State, Runnable, ThreadObject, ThreadState}

abbrev pub Runs : Image → Numbered → State → Type 0
Runs image t s = (own : ThreadState) → s.objects (tcb_of image t) ≡ Some (ThreadObject own) → own.status ≡ Runnable
