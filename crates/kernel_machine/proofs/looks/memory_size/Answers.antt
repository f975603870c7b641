-- By soundness, over as many bytes as the store has.
use Rattle.std.proofs.Common.{ℕ, ◌≡◌, ◌∙◌, ◌≤◌, None, List, length, ap, subst}
use Rattle.kernel_machine.proofs.Sizes.{none-behind}
use Rattle.kernel_machine.proofs.looks.memory_size.Goals as goal
use Rattle.objects.specs.Lives.{state_in}
use Rattle.cnode_ops.proofs.Laws.{whole-of}

pub returns-clause-inside : goal.returns-clause-inside
returns-clause-inside g c place behind =
    let whole = whole-of g.S.SlotMap.slots g.S.SlotStore.memory c.live.inside.objects c.live.inside.store c.kernel.invariant c.live.view_is c.live.invariant in
    let of_kernel = c.live.view_is ∙ c.kernel.view_is in
    subst (λ k. (state_in g.S.SlotMap.slots g.S.SlotStore.memory k).objects place ≡ None) of_kernel
    (none-behind _ (g.S.SlotStore.memory c.live.inside.store) place whole.sound whole.agrees
    (subst (λ (n : ℕ). n ≤ place) (c.len.ensures.value ∙ ap (λ (m : List ℕ). length m) c.mem.ensures) behind))
