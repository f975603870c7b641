-- Each kind of capability has its own function.
use Rattle.std.proofs.Common.{subst, sym}
use Rattle.model.specs.Kernel.Outcomes.{GivesState}
use Rattle.kernel_machine.proofs.perform_calls.performing.perform.Goals as goal
use Rattle.kernel_machine.specs.perform_calls.Calls.{AppliesTo, call_of}
use Rattle.model.specs.Kernel.Invocations.{perform}
use Rattle.model.specs.declared.invocations.Invocation.{Invocation}
use Rattle.objects.specs.Lives.{state_in}

pub on_untyped-requires-clause-applies : goal.on_untyped-requires-clause-applies
on_untyped-requires-clause-applies g c = subst (AppliesTo c.args.call.capability) c.in-OnUntyped.is c.requires.applies

pub on_thread-requires-clause-applies : goal.on_thread-requires-clause-applies
on_thread-requires-clause-applies g c = subst (AppliesTo c.args.call.capability) c.in-OnThread.is c.requires.applies

pub on_frame-requires-clause-applies : goal.on_frame-requires-clause-applies
on_frame-requires-clause-applies g c = subst (AppliesTo c.args.call.capability) c.in-OnFrame.is c.requires.applies

pub on_table-requires-clause-applies : goal.on_table-requires-clause-applies
on_table-requires-clause-applies g c = subst (AppliesTo c.args.call.capability) c.in-OnTable.is c.requires.applies

pub on_control-requires-clause-applies : goal.on_control-requires-clause-applies
on_control-requires-clause-applies g c = subst (AppliesTo c.args.call.capability) c.in-OnControl.is c.requires.applies

pub on_handler-requires-clause-applies : goal.on_handler-requires-clause-applies
on_handler-requires-clause-applies g c = subst (AppliesTo c.args.call.capability) c.in-OnHandler.is c.requires.applies

pub returns-in-OnUntyped-clause-outcome : goal.returns-in-OnUntyped-clause-outcome
returns-in-OnUntyped-clause-outcome g c =
    subst (λ (i : Invocation). GivesState (perform (state_in g.S.SlotMap.slots g.S.SlotStore.memory c.args.kernel.now) (call_of c.args.call) i)
    c.on_untyped.result
    (state_in g.S.SlotMap.slots g.S.SlotStore.memory c.on_untyped.new.kernel)) (sym c.in-OnUntyped.is) c.on_untyped.ensures.outcome

pub returns-in-OnThread-clause-outcome : goal.returns-in-OnThread-clause-outcome
returns-in-OnThread-clause-outcome g c =
    subst (λ (i : Invocation). GivesState (perform (state_in g.S.SlotMap.slots g.S.SlotStore.memory c.args.kernel.now) (call_of c.args.call) i)
    c.on_thread.result
    (state_in g.S.SlotMap.slots g.S.SlotStore.memory c.on_thread.new.kernel)) (sym c.in-OnThread.is) c.on_thread.ensures.outcome

pub returns-in-OnCNode-clause-outcome : goal.returns-in-OnCNode-clause-outcome
returns-in-OnCNode-clause-outcome g c =
    subst (λ (i : Invocation). GivesState (perform (state_in g.S.SlotMap.slots g.S.SlotStore.memory c.args.kernel.now) (call_of c.args.call) i)
    c.on_cnode.result
    (state_in g.S.SlotMap.slots g.S.SlotStore.memory c.on_cnode.new.kernel)) (sym c.in-OnCNode.is) c.on_cnode.ensures.outcome

pub returns-in-OnFrame-clause-outcome : goal.returns-in-OnFrame-clause-outcome
returns-in-OnFrame-clause-outcome g c =
    subst (λ (i : Invocation). GivesState (perform (state_in g.S.SlotMap.slots g.S.SlotStore.memory c.args.kernel.now) (call_of c.args.call) i)
    c.on_frame.result
    (state_in g.S.SlotMap.slots g.S.SlotStore.memory c.on_frame.new.kernel)) (sym c.in-OnFrame.is) c.on_frame.ensures.outcome

pub returns-in-OnTable-clause-outcome : goal.returns-in-OnTable-clause-outcome
returns-in-OnTable-clause-outcome g c =
    subst (λ (i : Invocation). GivesState (perform (state_in g.S.SlotMap.slots g.S.SlotStore.memory c.args.kernel.now) (call_of c.args.call) i)
    c.on_table.result
    (state_in g.S.SlotMap.slots g.S.SlotStore.memory c.on_table.new.kernel)) (sym c.in-OnTable.is) c.on_table.ensures.outcome

pub returns-in-OnControl-clause-outcome : goal.returns-in-OnControl-clause-outcome
returns-in-OnControl-clause-outcome g c =
    subst (λ (i : Invocation). GivesState (perform (state_in g.S.SlotMap.slots g.S.SlotStore.memory c.args.kernel.now) (call_of c.args.call) i)
    c.on_control.result
    (state_in g.S.SlotMap.slots g.S.SlotStore.memory c.on_control.new.kernel)) (sym c.in-OnControl.is) c.on_control.ensures.outcome

pub returns-in-OnHandler-clause-outcome : goal.returns-in-OnHandler-clause-outcome
returns-in-OnHandler-clause-outcome g c =
    subst (λ (i : Invocation). GivesState (perform (state_in g.S.SlotMap.slots g.S.SlotStore.memory c.args.kernel.now) (call_of c.args.call) i)
    c.on_handler.result
    (state_in g.S.SlotMap.slots g.S.SlotStore.memory c.on_handler.new.kernel)) (sym c.in-OnHandler.is) c.on_handler.ensures.outcome
