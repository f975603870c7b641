-- The handler that the thread's address names.
use Rattle.std.proofs.Common.{ap, sym}
use Rattle.faults.proofs.Found.{by-address}
use Rattle.faults.proofs.handlers.find_handler.Goals as goal
use Rattle.objects.specs.Lives.{state_in}
use Rattle.objects.specs.Tables.{state_of}

pub returns : goal.returns
unfolding state_of
returns g c =
    let s = state_in g.S.SlotMap.slots g.S.SlotStore.memory c.args.live.now in
    by-address s c.args.thread c.fault_address-address.result _ c.fault_address-address.ensures c.if-address-eq0.false
    (c.handler_at.ensures s (ap g.S.SlotMap.slots (sym c.store.ensures)))
