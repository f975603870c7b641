-- Texts whose images the verifier accepts, and what the images that are made come from.
use Rattle.std.specs.Prelude.{ℕ, ◌≡◌, List, Ok}
use Rattle.model.specs.Acceptance.Accepted.{IsAccepted}
use Rattle.model.specs.Images.Format.{IsSpelling}
use Rattle.model.specs.Images.Image.{Image, whole_image}
use Rattle.model.specs.Images.Listing.{Text}
use Rattle.asm.specs.Meaning.{text_means}
use Rattle.certified_texts.specs.SameTexts.{SameButCertificates}

-- the text means this image
abbrev pub AssemblesTo : Text → Image → Type 0
AssemblesTo text image = text_means text ≡ Ok image

-- The text means an image, and the verifier accepts the bytes that spell it.
pub record IsAcceptedText (text : Text) : Type 0 where
  pub image : Image
  pub assembled : AssemblesTo text image
  pub bytes : List ℕ
  pub spelled : IsSpelling whole_image bytes image
  pub read : Image
  pub accepted : IsAccepted bytes read

-- The verifier accepts the bytes of an image.
pub record IsAcceptedImage (bytes : List ℕ) : Type 0 where
  pub image : Image
  pub accepted : IsAccepted bytes image

-- The bytes spell the image that the text means.
pub record IsImageOf (text : Text) (bytes : List ℕ) : Type 0 where
  pub image : Image
  pub assembled : AssemblesTo text image
  pub spelled : IsSpelling whole_image bytes image

-- The bytes spell the image of a text that is the given one but for its certificates.
pub record IsMadeOf (given : Text) (bytes : List ℕ) : Type 0 where
  pub certified : Text
  pub same : SameButCertificates given certified
  pub made : IsImageOf certified bytes
