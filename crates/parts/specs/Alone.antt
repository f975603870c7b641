-- Why there is no image of a part alone.
use Rattle.std.specs.Prelude.{◌≡◌, ◌⊎◌, Some, false}
use Rattle.model.specs.Acceptance.Accepted.{first_breach}
use Rattle.model.specs.Images.Image.{Image, whole_image}
use Rattle.model.specs.declared.refusals.Refusal.TheVariants.{OutOfMemory}
use Rattle.parts.specs.declared.alone.NotAlone.{NotAlone}
use Rattle.parts.specs.declared.alone.NotAlone.TheVariants.{Refused, Unfit}

-- its image does not fit the format, or this is its first breach, or memory was refused
unfoldable pub WhyNotAlone : Image → NotAlone → Type 0
WhyNotAlone image Unfit = whole_image.fits image ≡ false
WhyNotAlone image (Refused refusal) = (refusal ≡ OutOfMemory) ⊎ (first_breach (whole_image.spelling image) ≡ Some refusal)
