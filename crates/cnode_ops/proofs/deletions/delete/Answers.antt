-- The slot is found first, and then emptied as the definition says.
use Rattle.std.proofs.Common.{◌≡◌, ◌∙◌, Result, Ok, Err, sym, subst}
use Rattle.std.proofs.lemmas.Result.{err_from_is_err_and}
use Rattle.kernel_invariant.proofs.Laws.{of_slots-law}
use Rattle.model.proofs.ConditionTests.{met-tested}
use Rattle.model.specs.Capabilities.CapabilityFields.{is_capability}
use Rattle.model.specs.Capabilities.Slots.{Slots}
use Rattle.model.specs.Kernel.CNodeCalls.{on_cnode}
use Rattle.model.specs.Kernel.Outcomes.{GivesState}
use Rattle.model.specs.Kernel.Removal.{delete}
use Rattle.model.specs.Kernel.State.{State}
use Rattle.model.specs.declared.errors.KError.{KError}
use Rattle.model.specs.declared.invocations.CNodeCall.TheVariants.{Delete}
use Rattle.objects.specs.Lives.{state_in}
use Rattle.objects.specs.Tables.{state_of}
use Rattle.cnode_ops.proofs.RemovingCalls.{delete-on}
use Rattle.cnode_ops.proofs.deletions.delete.Goals as goal

pub argument_slot-requires : goal.argument_slot-requires
unfolding is_capability
argument_slot-requires g c = met-tested _ c.args.call.node_valid

pub returns-clause-outcome : goal.returns-clause-outcome
returns-clause-outcome g c = λ made same.
    let of_kernel = c.live.view_is ∙ c.kernel.view_is in
    let slots : Slots = g.S.SlotMap.slots c.live.inside.store in
    let s : State = state_of c.live.inside.objects slots (g.S.SlotStore.memory c.live.inside.store) in
    let after : State = state_in g.S.SlotMap.slots g.S.SlotStore.memory c.remove_slot.new.kernel in
    subst (λ k. GivesState (on_cnode (state_in g.S.SlotMap.slots g.S.SlotStore.memory k) made (Delete c.args.name)) c.remove_slot.result after) of_kernel
    (subst (λ (defined : Result State KError). GivesState defined c.remove_slot.result after)
    (sym (delete-on s slots made c.args.call.node c.args.name (Ok c.in_ok-slot.slot) (of_slots-law _ _ _) same (sym c.in_ok-slot.ensures)))
    (subst (λ k. GivesState (delete (state_in g.S.SlotMap.slots g.S.SlotStore.memory k) c.in_ok-slot.slot) c.remove_slot.result after) (sym of_kernel)
    c.remove_slot.ensures.outcome))

pub returns-in_err-slot-clause-outcome : goal.returns-in_err-slot-clause-outcome
returns-in_err-slot-clause-outcome g c = λ made same.
    let of_kernel = c.live.view_is ∙ c.kernel.view_is in
    let slots : Slots = g.S.SlotMap.slots c.live.inside.store in
    let s : State = state_of c.live.inside.objects slots (g.S.SlotStore.memory c.live.inside.store) in
    let p = err_from_is_err_and c.from_residual.result c.from_residual.ensures.1 in
    rw (p.1, p.2) (subst (λ k. on_cnode (state_in g.S.SlotMap.slots g.S.SlotStore.memory k) made (Delete c.args.name) ≡ Err c.in_err-slot.field-0.0) of_kernel
    (delete-on s slots made c.args.call.node c.args.name (Err c.in_err-slot.field-0.0) (of_slots-law _ _ _) same (sym c.in_err-slot.ensures)))
