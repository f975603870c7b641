-- What the verifier gives is the image that it accepts.
use Rattle.system_reports.proofs.reports.judged.Goals as goal

pub returns-in-Ok : goal.returns-in-Ok
returns-in-Ok c = record {
  image = c.in-Ok.accepted;
  accepted = c.in-Ok.ensures.accepted;
}
