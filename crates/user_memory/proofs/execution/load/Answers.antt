-- A kernel has usable memory, and to keep a leaf changes nothing.
use Rattle.std.proofs.Common.{◌∙◌}
use Rattle.user_memory.proofs.Leaves.{kernel-leaves}
use Rattle.user_memory.proofs.Running.{root-inside, usable-kept, usable-kernel}
use Rattle.user_memory.proofs.execution.load.Goals as goal
use Rattle.cnode_ops.proofs.Laws.{whole-of}

pub keep_page-requires : goal.keep_page-requires
keep_page-requires g c =
    let whole = whole-of g.S.SlotMap.slots g.S.SlotStore.memory c.live.inside.objects c.live.inside.store c.kernel.invariant c.live.view_is c.live.invariant in
    let of_kernel = c.live.view_is ∙ c.kernel.view_is in
    λ table is.
    let slots = g.S.SlotMap.slots in
    let memory = g.S.SlotStore.memory in
    kernel-leaves slots memory c.args.root table of_kernel
    (usable-kernel slots memory c.args.thread c.args.root of_kernel whole
    (root-inside g.S.SlotMap.slots g.S.SlotStore.memory c.args.thread c.args.root of_kernel c.requires.root)) is

pub invariant_of-memory : goal.invariant_of-memory
invariant_of-memory g c =
    let whole = whole-of g.S.SlotMap.slots g.S.SlotStore.memory c.live.inside.objects c.live.inside.store c.kernel.invariant c.live.view_is c.live.invariant in
    let of_kernel = c.live.view_is ∙ c.kernel.view_is in
    record {
      usable = usable-kept g.S.SlotMap.slots g.S.SlotStore.memory c.args.thread c.args.root c.keep_page.ensures whole
          (root-inside g.S.SlotMap.slots g.S.SlotStore.memory c.args.thread c.args.root of_kernel c.requires.root);
    }
