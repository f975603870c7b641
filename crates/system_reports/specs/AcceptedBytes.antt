-- Bytes that the verifier accepts.
use Rattle.std.specs.Prelude.{ℕ, List}
use Rattle.model.specs.Acceptance.Accepted.{IsAccepted}
use Rattle.model.specs.Images.Image.{Image}

-- they spell an image that breaks no rule
pub record AreAccepted (bytes : List ℕ) : Type 0 where
  pub image : Image
  pub accepted : IsAccepted bytes image
