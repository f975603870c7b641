-- All that is known of a state between two operations, where all objects are there.
use Rattle.std.proofs.Common.{◌≡◌}
use Rattle.soundness.proofs.boot_laws.ObjectsThere.{reads-objects}
use Rattle.soundness.proofs.boot_laws.PhaseStates.{Known}
use Rattle.format_laws.specs.Fitting.{IsFitting}
use Rattle.soundness.proofs.boot_laws.PlacesRules.{AreFormed}
use Rattle.soundness.proofs.boot_laws.Readings.{IsWithin}
use Rattle.soundness.proofs.boot_laws.ReadingsAdded.{adds-boot}
use Rattle.soundness.proofs.boot_laws.ReadingsBoot.{reads-boot, reads-empty}
use Rattle.soundness.proofs.boot_laws.ReadingsFilled.{adds-room}
use Rattle.soundness.proofs.boot_laws.ReadingsRoom.{reads-room}
use Rattle.soundness.specs.boot_laws.Loading.{Progress, loaded}
use Rattle.model.specs.Images.Image.{Image}
use Rattle.model.specs.Kernel.Soundness.{HasShape}

pub has-shape : (image : Image) (p : Progress) → IsFitting image → HasShape (loaded image p)
unfolding loaded
has-shape image p fitting = record {
  least_bits = fitting.header.memory_low;
  most_bits = fitting.header.memory_high;
  least_radix = fitting.header.radix_low;
  most_radix = fitting.header.radix_high;
  room = fitting.header.radix_memory;
}

pub known : (image : Image) (p : Progress) → IsFitting image → AreFormed image → IsWithin image p → p.objects ≡ image.header.objects → Known image p
known image p fitting formed within all = record {
  fits = fitting;
  formed = formed;
  shape = has-shape image p fitting;
  boot = reads-boot image fitting formed p within;
  empty = reads-empty image fitting formed p within;
  room = reads-room image fitting formed p within all;
  objects = reads-objects image fitting formed p within;
  adds = adds-boot image p fitting formed within;
  adds_room = adds-room image fitting formed p within all;
}
