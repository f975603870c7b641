-- What was written is what is read again as a text.
use Rattle.std.proofs.Common.{subst, ◌∙◌}
use Rattle.tool.specs.AcceptedTexts.{IsAcceptedText}
use Rattle.tool.proofs.trials.judged.Goals as goal

pub returns : goal.returns
returns c = record {
  accepted = subst IsAcceptedText (c.in-Ok.ensures.cases.0 ∙ c.as_slice.ensures.value) c.in_ok-check.ensures;
}
