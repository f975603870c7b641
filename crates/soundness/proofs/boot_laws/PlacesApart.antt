-- What is said of all objects of a well-formed image: where they lie.
use Rattle.std.proofs.Common.{ℕ, ◌≡◌, true, arith}
use Rattle.format_laws.proofs.Laws.{is-fitting}
use Rattle.soundness.proofs.boot_laws.PlacesObjects.{ObjectStands, UntypedStands, home_of, object-stands, objects-apart}
use Rattle.soundness.proofs.boot_laws.PlacesRules.{are-formed}
use Rattle.soundness.specs.boot_laws.Standing.{StandApart, StandsInside}
use Rattle.model.specs.Acceptance.Accepted.{IsWellFormed}
use Rattle.model.specs.Images.Image.{Image, whole_image}

stands-inside : (image : Image) (number : ℕ) → ObjectStands image number → StandsInside image number (home_of image number)
stands-inside image number stands =
    let behind = ObjectStands.behind stands in
    let ends = ObjectStands.ends stands in
    let fits = ObjectStands.fits stands in
    record {
      is_entry = ObjectStands.less stands;
      behind_boot = UntypedStands.behind_boot (ObjectStands.home stands);
      begins = omega (arith, behind);
      ends = omega (arith, ends, fits);
      in_memory = UntypedStands.inside (ObjectStands.home stands);
    }

pub stand-apart : (image : Image) → whole_image.fits image ≡ true → IsWellFormed image → StandApart image
stand-apart image fits well =
    let fitting = is-fitting image fits in
    let formed = are-formed image well in
    record {
      inside = λ number less. stands-inside image number (object-stands image number fitting formed less);
      apart = λ i j inside_i inside_j other. objects-apart image i j fitting formed inside_i inside_j other;
    }
