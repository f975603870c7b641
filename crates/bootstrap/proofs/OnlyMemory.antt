-- A well-formed image boots, so what fails to boot lacked memory.
use Rattle.std.proofs.Common.{◌≡◌, ◌∙◌, ◌⊎◌, inl, inr, true, Ok, Err, sym}
use Rattle.std.specs.Prelude.{Result}
use Rattle.soundness.proofs.Laws.{boots-well}
use Rattle.model.specs.Acceptance.Accepted.{IsWellFormed}
use Rattle.model.specs.declared.boot_faults.BootFault.{BootFault}
use Rattle.model.specs.declared.boot_faults.BootFault.TheVariants.{OutOfMemory}
use Rattle.model.specs.Images.Boot.{booted}
use Rattle.model.specs.Images.Described.{described}
use Rattle.model.specs.Images.Image.{Image, whole_image}
use Rattle.model.specs.Kernel.State.{State}

pub only-memory : (image : Image) → whole_image.fits image ≡ true → IsWellFormed image → (fault : BootFault)
    → (fault ≡ OutOfMemory) ⊎ (booted image ≡ Err fault) → fault ≡ OutOfMemory
only-memory image fits formed fault (inl is) = is
only-memory image fits formed fault (inr fails) =
    let e : ◌≡◌ {A = Result State BootFault} (Err fault) (Ok (described image)) = sym fails ∙ boots-well image fits formed in absurd cc
