-- The slots of the kernel are those of the state that it represents.
use Rattle.std.proofs.Common.{◌∙◌}
use Rattle.user_memory.proofs.Running.{root-kernel}
use Rattle.user_memory.proofs.roots.root_of.Goals as goal

pub returns : goal.returns
returns g c =
    let of_kernel = c.live.view_is ∙ c.kernel.view_is in
    root-kernel g.S.SlotMap.slots g.S.SlotStore.memory c.args.thread c.root_behind.result of_kernel c.root_behind.ensures
