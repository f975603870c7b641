-- One label more.
use Rattle.std.proofs.Common.{sym}
use Rattle.std.proofs.lemmas.List.{append-nil}
use Rattle.kernel.proofs.Idle.{idle-more}
use Rattle.kernel.proofs.runs.put_idle.Goals as goal

pub steps-init : goal.steps-init
steps-init g c = sym (append-nil (g.L.Labels.seen c.args.labels.now))

pub steps-preserved : goal.steps-preserved
steps-preserved g c =
    idle-more g.L.Labels.kept c.steps.done (g.L.Labels.seen c.args.labels.now) (g.L.Labels.seen c.steps.labels) (g.L.Labels.seen c.put.new.self)
    c.steps.invariant c.put.ensures
