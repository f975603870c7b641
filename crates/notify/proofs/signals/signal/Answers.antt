-- The first waiter wakes with the badge, or the word gets it.
use Rattle.notify.proofs.Taken.{joined-by, woken-by}
use Rattle.notify.proofs.signals.signal.Goals as goal
use Rattle.objects.proofs.Laws.{beside-then}
use Rattle.objects.specs.Lives.{state_in}

pub returns-in-Some-clause-state : goal.returns-in-Some-clause-state
returns-in-Some-clause-state g c =
    woken-by (state_in g.S.SlotMap.slots g.S.SlotStore.memory c.args.live.now) _ _
    c.args.notification c.args.badge c.in-Some.waiter c.in-Some.ensures.state c.wake_with.ensures.state

pub returns-in-Some-clause-beside : goal.returns-in-Some-clause-beside
returns-in-Some-clause-beside g c = beside-then c.take_waiter.ensures.beside c.wake_with.ensures.beside

pub returns-in-None-clause-state : goal.returns-in-None-clause-state
returns-in-None-clause-state g c =
    joined-by (state_in g.S.SlotMap.slots g.S.SlotStore.memory c.args.live.now) _ _
    c.args.notification c.args.badge c.in-None.ensures.state c.join_word.ensures.state

pub returns-in-None-clause-beside : goal.returns-in-None-clause-beside
returns-in-None-clause-beside g c = beside-then c.take_waiter.ensures.beside c.join_word.ensures.beside
