-- A kernel has usable memory, and to keep a leaf changes nothing.
use Rattle.std.proofs.Common.{◌∙◌, ap}
use Rattle.model.specs.Machine.ProgramMemory.{loaded}
use Rattle.model.specs.declared.instructions.AccessSize.TheVariants.{Word}
use Rattle.objects.specs.Lives.{state_in}
use Rattle.user_memory.proofs.Leaves.{kernel-leaves}
use Rattle.user_memory.proofs.Running.{kept-parts, root-inside, usable-kept, usable-kernel}
use Rattle.user_memory.specs.Views.{content_under}
use Rattle.user_memory.proofs.execution.walked_word.Goals as goal
use Rattle.cnode_ops.proofs.Laws.{whole-of}

pub keep_page-requires : goal.keep_page-requires
keep_page-requires g c =
    let whole = whole-of g.S.SlotMap.slots g.S.SlotStore.memory c.live.inside.objects c.live.inside.store c.kernel.invariant c.live.view_is c.live.invariant in
    let of_kernel = c.live.view_is ∙ c.kernel.view_is in
    λ table is.
    let slots = g.S.SlotMap.slots in
    let memory = g.S.SlotStore.memory in
    kernel-leaves slots memory c.args.root table of_kernel
    (usable-kernel slots memory c.args.thread c.args.root of_kernel whole
    (root-inside g.S.SlotMap.slots g.S.SlotStore.memory c.args.thread c.args.root of_kernel c.requires.root)) is

pub invariant_of-space : goal.invariant_of-space
invariant_of-space g c =
    let whole = whole-of g.S.SlotMap.slots g.S.SlotStore.memory c.live.inside.objects c.live.inside.store c.kernel.invariant c.live.view_is c.live.invariant in
    let of_kernel = c.live.view_is ∙ c.kernel.view_is in
    record {
      usable = usable-kept g.S.SlotMap.slots g.S.SlotStore.memory c.args.thread c.args.root c.keep_page.ensures whole
          (root-inside g.S.SlotMap.slots g.S.SlotStore.memory c.args.thread c.args.root of_kernel c.requires.root);
    }

pub returns-clause-value : goal.returns-clause-value
returns-clause-value g c =
    let of_kernel = c.live.view_is ∙ c.kernel.view_is in
    let s = state_in g.S.SlotMap.slots g.S.SlotStore.memory c.args.kernel.now in
    let own = c.requires.root in
    c.word.ensures
    ∙ ap (λ k. loaded (content_under (state_in g.S.SlotMap.slots g.S.SlotStore.memory k) c.args.root) c.args.access Word c.args.address)
    (kept-parts c.keep_page.ensures of_kernel)
    ∙ ap (λ root. loaded (content_under s root) c.args.access Word c.args.address) own
