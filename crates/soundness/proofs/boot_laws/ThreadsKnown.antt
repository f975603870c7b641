-- One thread more, from what is known of the state before and of the one after.
use Rattle.std.proofs.Common.{◌≡◌, true, Some, map}
use Rattle.std.specs.Prelude.{slice_get}
use Rattle.soundness.specs.boot_laws.Loading.{Progress, loaded}
use Rattle.soundness.proofs.boot_laws.PhaseStates.{Known}
use Rattle.soundness.proofs.boot_laws.Readings.{one_thread}
use Rattle.soundness.proofs.boot_laws.RunSequences.{Leads}
use Rattle.soundness.proofs.boot_laws.ThreadsFit.{registers-fit}
use Rattle.soundness.proofs.boot_laws.ThreadsOne.{thread-leads}
use Rattle.model.specs.Images.BootCalls.{Calls, thread_calls}
use Rattle.model.specs.Images.Image.{Image, Thread, whole_image}

pub threads-by-one : (image : Image) (p : Progress) (t : Thread) → whole_image.fits image ≡ true → Known image p → Known image (one_thread p)
    → p.objects ≡ image.header.objects → slice_get image.threads p.threads ≡ Some t
    → Leads image (loaded image p) (map Calls (thread_calls image t)) (loaded image (one_thread p))
threads-by-one image p t fits before behind all at = thread-leads image p t (record {
  before = before;
  behind = behind;
  objects = all;
  at = at;
  registers = registers-fit image fits p.threads t at;
})
