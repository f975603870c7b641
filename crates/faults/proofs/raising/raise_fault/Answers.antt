-- Who runs lies inside memory, and its handler is an endpoint that is there.
use Rattle.std.proofs.Common.{◌∙◌, sym, ap, option_map}
use Rattle.faults.proofs.EndpointsThere.{handler-there}
use Rattle.faults.proofs.ThreadsInside.{thread-inside}
use Rattle.faults.proofs.raising.raise_fault.Goals as goal
use Rattle.faults.specs.Handlers.{handler_told}
use Rattle.ipc.proofs.Laws.{runs-there}
use Rattle.objects.specs.Lives.{state_in}

pub find_handler-requires : goal.find_handler-requires
find_handler-requires g c =
    let before = state_in g.S.SlotMap.slots g.S.SlotStore.memory c.args.live.now in
    record { small = thread-inside before c.args.thread c.requires.sound (runs-there before c.args.thread c.requires.runs) }

pub tell-requires-clause-endpoint : goal.tell-requires-clause-endpoint
tell-requires-clause-endpoint g c =
    let before = state_in g.S.SlotMap.slots g.S.SlotStore.memory c.args.live.now in
    handler-there before c.requires.sound (handler_told c.in-Some.to) c.args.thread (sym c.find_handler.ensures ∙ ap (option_map handler_told) c.in-Some.is)
