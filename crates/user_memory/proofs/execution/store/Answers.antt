-- A kernel has usable memory, and what is stored are bytes of frames.
use Rattle.std.proofs.Common.{rules, ◌≡◌, ◌∙◌, ap, subst, sym}
use Rattle.model.specs.Kernel.AddressSpaces.{with_content}
use Rattle.model.specs.Machine.ProgramMemory.{place_at}
use Rattle.model.specs.declared.instructions.Access.TheVariants.{Store}
use Rattle.objects.specs.Lives.{state_in}
use Rattle.objects.specs.Standing.{Standing}
use Rattle.user_memory.proofs.Leaves.{kernel-leaves}
use Rattle.user_memory.proofs.Running.{in-the-end, kept-parts, root-inside, state-left, usable-kept, usable-kernel}
use Rattle.user_memory.specs.Views.{Beside, content_under}
use Rattle.user_memory.proofs.execution.store.Goals as goal
use Rattle.cnode_ops.proofs.Laws.{whole-of}

pub keep_page-requires : goal.keep_page-requires
keep_page-requires g c =
    let whole = whole-of g.S.SlotMap.slots g.S.SlotStore.memory c.live.inside.objects c.live.inside.store c.kernel.invariant c.live.view_is c.live.invariant in
    let of_kernel = c.live.view_is ∙ c.kernel.view_is in
    λ table is.
    let slots = g.S.SlotMap.slots in
    let memory = g.S.SlotStore.memory in
    kernel-leaves slots memory c.args.root table of_kernel
    (usable-kernel slots memory c.args.thread c.args.root of_kernel whole
    (root-inside g.S.SlotMap.slots g.S.SlotStore.memory c.args.thread c.args.root of_kernel c.requires.root)) is

pub invariant_of-memory : goal.invariant_of-memory
invariant_of-memory g c =
    let whole = whole-of g.S.SlotMap.slots g.S.SlotStore.memory c.live.inside.objects c.live.inside.store c.kernel.invariant c.live.view_is c.live.invariant in
    let of_kernel = c.live.view_is ∙ c.kernel.view_is in
    record {
      usable = usable-kept g.S.SlotMap.slots g.S.SlotStore.memory c.args.thread c.args.root c.keep_page.ensures whole
          (root-inside g.S.SlotMap.slots g.S.SlotStore.memory c.args.thread c.args.root of_kernel c.requires.root);
    }

pub invariant_of-memory-in-None : goal.invariant_of-memory-in-None
invariant_of-memory-in-None g c =
    let whole = whole-of g.S.SlotMap.slots g.S.SlotStore.memory c.live.inside.objects c.live.inside.store c.kernel.invariant c.live.view_is c.live.invariant in
    let of_kernel = c.live.view_is ∙ c.kernel.view_is in
    record {
      usable = usable-kept g.S.SlotMap.slots g.S.SlotStore.memory c.args.thread c.args.root c.keep_page.ensures whole
          (root-inside g.S.SlotMap.slots g.S.SlotStore.memory c.args.thread c.args.root of_kernel c.requires.root);
    }

pub store_found-requires : goal.store_found-requires
store_found-requires g c =
    let slots = g.S.SlotMap.slots in
    let memory = g.S.SlotStore.memory in
    let of_kernel = c.live.view_is ∙ c.kernel.view_is in
    let s = state_in slots memory c.args.kernel.now in
    λ place is.
    c.requires.found place is
    ∙ ap (λ root. place_at (content_under s root) Store c.args.address) (sym c.requires.root)
    ∙ sym (ap (λ k. place_at (content_under (state_in slots memory k) c.args.root) Store c.args.address) (kept-parts c.keep_page.ensures of_kernel))

pub returns-in-Some-clause-state : goal.returns-in-Some-clause-state
returns-in-Some-clause-state g c =
    let whole = whole-of g.S.SlotMap.slots g.S.SlotStore.memory c.live.inside.objects c.live.inside.store c.kernel.invariant c.live.view_is c.live.invariant in
    let of_kernel = c.live.view_is ∙ c.kernel.view_is in
    let slots = g.S.SlotMap.slots in
    let memory = g.S.SlotStore.memory in
    let o = c.live.inside.objects in
    let kept = c.keep_page.new.store in
    let stood = subst (λ store. Standing o (slots store) (memory store)) (sym c.keep_page.ensures) whole.stands in
    let view = c.store_found.new.self in
    let seen = ap (content_under (state_in slots memory view.kernel.now)) (ap (λ (b : Beside). b.root) c.store_found.ensures.rest) in
    let left = state-left o view.kernel.now.tables (slots kept) (slots view.kernel.now.store) (memory kept) (memory view.kernel.now.store) c.args.root
    view.root _ _ c.store_found.ensures.rest stood _ seen in
    in-the-end (λ k. state_in slots memory k ≡ with_content (state_in slots memory c.args.kernel.now) (content_under (state_in slots memory k) c.args.root))
    _ view.kernel.now _ view.kernel.ghost_name (search rules) (sym (ap (λ (b : Beside). b.store) c.store_found.ensures.rest))
    (left
    ∙ ap (λ k. with_content (state_in slots memory k) (content_under (state_in slots memory view.kernel.now) c.args.root))
    (kept-parts c.keep_page.ensures of_kernel))

pub returns-in-None-clause-state : goal.returns-in-None-clause-state
returns-in-None-clause-state g c =
    let whole = whole-of g.S.SlotMap.slots g.S.SlotStore.memory c.live.inside.objects c.live.inside.store c.kernel.invariant c.live.view_is c.live.invariant in
    let of_kernel = c.live.view_is ∙ c.kernel.view_is in
    let slots = g.S.SlotMap.slots in
    let memory = g.S.SlotStore.memory in
    let o = c.live.inside.objects in
    let kept = c.keep_page.new.store in
    let stood = subst (λ store. Standing o (slots store) (memory store)) (sym c.keep_page.ensures) whole.stands in
    let view = c.store.new.self in
    let seen = ap (content_under (state_in slots memory view.kernel.now)) (ap (λ (b : Beside). b.root) c.store.ensures.rest) in
    let left = state-left o view.kernel.now.tables (slots kept) (slots view.kernel.now.store) (memory kept) (memory view.kernel.now.store) c.args.root
    view.root _ _ c.store.ensures.rest stood _ seen in
    in-the-end (λ k. state_in slots memory k ≡ with_content (state_in slots memory c.args.kernel.now) (content_under (state_in slots memory k) c.args.root))
    _ view.kernel.now _ view.kernel.ghost_name (search rules) (sym (ap (λ (b : Beside). b.store) c.store.ensures.rest))
    (left
    ∙ ap (λ k. with_content (state_in slots memory k) (content_under (state_in slots memory view.kernel.now) c.args.root))
    (kept-parts c.keep_page.ensures of_kernel))
