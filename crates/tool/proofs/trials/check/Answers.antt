-- The bytes of the text's image are what is judged.
use Rattle.std.proofs.Common.{ℕ, List, subst}
use Rattle.model.specs.Acceptance.Accepted.{IsAccepted}
use Rattle.tool.proofs.trials.check.Goals as goal

pub returns-in-Ok : goal.returns-in-Ok
returns-in-Ok c = record {
  image = c.in_ok-image.image;
  assembled = c.in_ok-image.ensures.meant;
  bytes = c.in_ok-bytes.bytes.items;
  spelled = c.in_ok-bytes.ensures.spelled;
  read = c.in-Ok.field-0;
  accepted = subst (λ (bytes : List ℕ). IsAccepted bytes c.in-Ok.field-0) c.as_slice.ensures.value c.in-Ok.ensures.accepted;
}
