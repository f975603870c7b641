-- The bytes that are judged are those that are answered, and they spell what the text means.
use Rattle.std.proofs.Common.{subst}
use Rattle.tool.specs.AcceptedTexts.{IsAcceptedImage}
use Rattle.tool.proofs.making.image_of_text.Goals as goal

pub returns : goal.returns
returns c = record {
  accepted = subst IsAcceptedImage c.as_slice.ensures.value c.in_ok-judge.ensures;
  from = record { image = c.in_ok-image.image; assembled = c.in_ok-image.ensures.meant; spelled = c.in_ok-bytes.ensures.spelled };
}
