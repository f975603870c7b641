-- The CNodes of a thread of a well-formed image lie apart from one another and from all other slots.
use Rattle.std.proofs.Common.{◌≡◌, true, arith}
use Rattle.format_laws.proofs.Laws.{is-fitting}
use Rattle.soundness.proofs.Laws.{are-formed}
use Rattle.model.specs.Acceptance.Accepted.{IsWellFormed}
use Rattle.model.specs.Images.Image.{Image, Thread, whole_image}
use Rattle.thread_spaces.specs.Given.{IsListed}
use Rattle.thread_spaces.proofs.BootParents.{boot-parent-boot, other-below, pool-first}
use Rattle.thread_spaces.proofs.LinesHeld.{line-held}
use Rattle.thread_spaces.proofs.OriginalNames.{objects-held, root-held}
use Rattle.thread_spaces.proofs.OwnPlaces.{boot-not-own, boot-room, few-slots, one-cnode, own-cnode, own-in-memory}
use Rattle.thread_spaces.proofs.ParentsInBoot.{parent-in-boot}
use Rattle.typestate.specs.Spaces.{StandsApart}

pub stands-apart : (image : Image) (t : Thread) → whole_image.fits image ≡ true → IsWellFormed image → IsListed image t → StandsApart image t
stands-apart image t fits well listed =
    let fitting = is-fitting image fits in
    let formed = are-formed image well in
    record {
      listed = λ cnode there. (own-cnode image t fitting formed listed cnode there).inside;
      small = few-slots image t fitting formed listed;
      apart = one-cnode image t fitting formed listed;
      within = own-in-memory image t fitting formed listed;
      behind = boot-not-own image t fitting formed listed;
      room = boot-room image fitting;
      outside = λ slot parent none is. boot-not-own image t fitting formed listed parent
          (let boot = parent-in-boot image fitting formed slot parent is in omega (arith, boot));
      parent_boot = boot-parent-boot image fits well t listed;
      parent_pool = λ offset bits watermark. (pool-first image fits well t listed offset bits watermark).first;
      parent_other = λ capability plain. let below = other-below image fits well t listed capability plain in (below.above, below.parent, below.first);
      objects = objects-held image fits well;
      lines = λ line less. line-held image fits well line (omega (arith, less));
      root = root-held image fits well t listed;
    }
