-- A thread lies in memory, and its capability space is what its first slot holds.
use Rattle.objects.specs.Lives.{state_in}
use Rattle.model.specs.Capabilities.Slots.{capability_at}
use Rattle.model.specs.Kernel.Soundness.{IsSound}
use Rattle.model.specs.Kernel.State.{cspace_slot}
use Rattle.model.specs.Kernel.Steps.{cspace_of}
use Rattle.objects.specs.Tables.{state_of}
use Rattle.std.proofs.Common.{ℕ, ◌≡◌, ◌∙◌, ap, arith, subst}
use Rattle.user_memory.proofs.Laws.{thread-near}
use Rattle.kernel.proofs.system_calls.names.cspace_of.Goals as goal
use Rattle.cnode_ops.proofs.Laws.{whole-of}

pub new-requires : goal.new-requires
new-requires g c =
    let whole = whole-of g.S.SlotMap.slots g.S.SlotStore.memory c.live.inside.objects c.live.inside.store c.kernel.invariant c.live.view_is c.live.invariant in
    let of_kernel = c.live.view_is ∙ c.kernel.view_is in
    let near = thread-near _ c.args.thread (subst (λ k. IsSound (state_in g.S.SlotMap.slots g.S.SlotStore.memory k)) of_kernel whole.sound) c.requires in
    omega (arith, near)

pub returns-clause-value : goal.returns-clause-value
unfolding state_of
returns-clause-value g c =
    let of_kernel = c.live.view_is ∙ c.kernel.view_is in
    let at = c.new.ensures in
    let place : c.new.result ≡ cspace_slot c.args.thread = omega (arith, at) in
    c.capability.ensures.value ∙ ap (λ (n : ℕ). capability_at (g.S.SlotMap.slots c.live.inside.store) n) place
    ∙ ap (λ k. cspace_of (state_in g.S.SlotMap.slots g.S.SlotStore.memory k) c.args.thread) of_kernel
