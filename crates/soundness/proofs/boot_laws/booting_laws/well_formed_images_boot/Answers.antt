-- Phase after phase, entry after entry.
use Rattle.soundness.proofs.boot_laws.WholeLoads.{boots-well}
use Rattle.soundness.proofs.boot_laws.booting_laws.well_formed_images_boot.Goals as goal

pub returns : goal.returns
returns c = record {
  boots = boots-well;
  accepted = λ bytes image is. boots-well image is.spelled.fits is.formed;
}
