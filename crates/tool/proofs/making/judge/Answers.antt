use Rattle.tool.proofs.making.judge.Goals as goal

pub returns-in-Ok : goal.returns-in-Ok
returns-in-Ok c = record {
  image = c.in-Ok.field-0;
  accepted = c.in-Ok.ensures.accepted;
}
