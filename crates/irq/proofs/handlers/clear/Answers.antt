-- What the slot of the line holds is deleted.
use Rattle.std.proofs.Common.{ℕ, ◌∙◌, subst, sym}
use Rattle.model.specs.Kernel.Outcomes.{GivesState}
use Rattle.model.specs.Kernel.Removal.{delete}
use Rattle.model.specs.Kernel.State.{State, binding_slot}
use Rattle.objects.specs.Lives.{state_in}
use Rattle.objects.specs.Tables.{state_of}
use Rattle.irq.proofs.handlers.clear.Goals as goal

pub returns-clause-outcome : goal.returns-clause-outcome
returns-clause-outcome g c =
    let here = rw c.new.ensures at c.binding-binding.ensures in
    let of_kernel = c.live.view_is ∙ c.kernel.view_is in
    let after : State = state_in g.S.SlotMap.slots g.S.SlotStore.memory c.remove_slot.new.kernel in
    let s : State = state_of c.live.inside.objects (g.S.SlotMap.slots c.live.inside.store) (g.S.SlotStore.memory c.live.inside.store) in
    subst (λ k. GivesState (delete (state_in g.S.SlotMap.slots g.S.SlotStore.memory k) (binding_slot (state_in g.S.SlotMap.slots g.S.SlotStore.memory k)
    c.args.line)) c.remove_slot.result after) of_kernel
    (subst (λ (slot : ℕ). GivesState (delete s slot) c.remove_slot.result after) (here _ _)
    (subst (λ k. GivesState (delete (state_in g.S.SlotMap.slots g.S.SlotStore.memory k) c.binding-binding.result) c.remove_slot.result after) (sym of_kernel)
    c.remove_slot.ensures.outcome))
