-- Without a current thread each step is idle.
use Rattle.std.proofs.Common.{◌≡◌, ◌∙◌, ◌++◌, List, None, ap, rules}
use Rattle.std.specs.List.{flat_map}
use Rattle.kernel.proofs.Idle.{idle-labels, idle-state}
use Rattle.model.specs.Kernel.Scheduling.{current}
use Rattle.model.specs.declared.labels.Label.{Label}
use Rattle.objects.specs.Lives.{state_in}
use Rattle.kernel.proofs.runs.run_current.Goals as goal

pub returns-in-None : goal.returns-in-None
returns-in-None g c =
    let s = state_in g.S.SlotMap.slots g.S.SlotStore.memory c.args.kernel.now in
    let seen = g.L.Labels.seen c.args.labels.now in
    let none : current s ≡ None = search rules in
    let done = c.put_idle.result in
    record {
      few = c.put_idle.ensures.few;
      state = idle-state s none done;
      labels = c.put_idle.ensures.labels ∙ ap (λ (labels : List Label). seen ++ flat_map g.L.Labels.kept labels) (idle-labels s none done);
      next = tt;
    }
