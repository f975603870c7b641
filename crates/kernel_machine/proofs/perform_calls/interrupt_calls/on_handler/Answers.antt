-- A handler's line is small in a sound state, and what each call leaves is what its definition says.
use Rattle.std.proofs.Common.{◌≡◌, Ok, ap, refl, subst, sym}
use Rattle.model.specs.Kernel.InterruptCalls.{on_handler}
use Rattle.model.specs.Kernel.Outcomes.{GivesState}
use Rattle.model.specs.Kernel.State.{State}
use Rattle.model.specs.declared.invocations.HandlerCall.{HandlerCall}
use Rattle.objects.specs.Lives.{state_in}
use Rattle.kernel_machine.proofs.perform_calls.Roots.{line-small}
use Rattle.kernel_machine.proofs.perform_calls.interrupt_calls.on_handler.Goals as goal
use Rattle.kernel_machine.specs.perform_calls.Calls.{call_of}

pub ack-requires : goal.ack-requires
ack-requires g c = record {
  line = λ sound.
      line-small (state_in g.S.SlotMap.slots g.S.SlotStore.memory c.args.kernel.now) (call_of c.args.call) c.args.line sound c.requires.call c.requires.applies;
}

pub bind-requires-clause-line : goal.bind-requires-clause-line
bind-requires-clause-line g c = λ sound.
    line-small (state_in g.S.SlotMap.slots g.S.SlotStore.memory c.args.kernel.now) (call_of c.args.call) c.args.line sound c.requires.call c.requires.applies

pub bind-requires-clause-root : goal.bind-requires-clause-root
bind-requires-clause-root g c = c.requires.call.root

pub clear-requires : goal.clear-requires
clear-requires g c = record {
  line = λ sound.
      line-small (state_in g.S.SlotMap.slots g.S.SlotStore.memory c.args.kernel.now) (call_of c.args.call) c.args.line sound c.requires.call c.requires.applies;
}

pub returns-in-Acknowledge-clause-outcome : goal.returns-in-Acknowledge-clause-outcome
returns-in-Acknowledge-clause-outcome g c =
    let t = state_in g.S.SlotMap.slots g.S.SlotStore.memory c.ack.new.kernel in
    subst (λ (a : HandlerCall). on_handler (state_in g.S.SlotMap.slots g.S.SlotStore.memory c.args.kernel.now) (call_of c.args.call) c.args.line a ≡ Ok t)
    (sym c.in-Acknowledge.is)
    (ap (λ (x : State). Ok x) (sym c.ack.ensures.state))

pub returns-in-SetNotification-clause-outcome : goal.returns-in-SetNotification-clause-outcome
returns-in-SetNotification-clause-outcome g c =
    subst (λ (a : HandlerCall). GivesState (on_handler (state_in g.S.SlotMap.slots g.S.SlotStore.memory c.args.kernel.now) (call_of c.args.call) c.args.line a)
    c.bind.result
    (state_in g.S.SlotMap.slots g.S.SlotStore.memory c.bind.new.kernel)) (sym c.in-SetNotification.is) (c.bind.ensures.outcome (call_of c.args.call) refl)

pub returns-in-Clear-clause-outcome : goal.returns-in-Clear-clause-outcome
returns-in-Clear-clause-outcome g c =
    subst (λ (a : HandlerCall). GivesState (on_handler (state_in g.S.SlotMap.slots g.S.SlotStore.memory c.args.kernel.now) (call_of c.args.call) c.args.line a)
    c.clear.result
    (state_in g.S.SlotMap.slots g.S.SlotStore.memory c.clear.new.kernel)) (sym c.in-Clear.is) c.clear.ensures.outcome
