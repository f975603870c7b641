-- An accepted image boots into the state that it describes.
use Rattle.std.proofs.Common.{◌≡◌, ◌∙◌, true, Ok, sym, ap}
use Rattle.std.specs.Prelude.{Result}
use Rattle.soundness.proofs.Laws.{boots-well}
use Rattle.model.specs.Acceptance.Accepted.{IsWellFormed}
use Rattle.model.specs.declared.boot_faults.BootFault.{BootFault}
use Rattle.model.specs.Images.Boot.{booted}
use Rattle.model.specs.Images.Described.{described}
use Rattle.model.specs.Images.Image.{Image, whole_image}
use Rattle.model.specs.Kernel.State.{State}

pub boots-into : (image accepted : Image) → image ≡ accepted → whole_image.fits accepted ≡ true → IsWellFormed accepted
    → (s : State) → booted image ≡ Ok s → s ≡ described accepted
boots-into image accepted same fits formed s is =
    let e : ◌≡◌ {A = Result State BootFault} (Ok s) (Ok (described accepted)) = sym is ∙ ap booted same ∙ boots-well accepted fits formed in cc
