-- Both are shown.
use Rattle.std.proofs.Common.{◌∙◌, [], List, ap}
use Rattle.model.specs.Acceptance.NotedStates.{NotedSlot, are_same_slots}
use Rattle.program_rules.proofs.programs.Program.has_listed_slots.Goals as goal
use Rattle.typestate.specs.Differences.{changed, slots_of}
use Rattle.typestate.specs.Logs.{part_of}
use Rattle.typestate.specs.Replays.{replayed}

pub slots-requires-clause-shown : goal.slots-requires-clause-shown
slots-requires-clause-shown c = (c.new-nothing.ensures.shown []).rising

pub returns : goal.returns
returns c =
    let program = c.args.self.now in
    let slots = program.given.slots.now in
    let log = c.args.log.now in
    let held = c.slots-slots.ensures.slots ∙ c.in_ok-shown.ensures.same slots program.given.sorted program.given.unlinked in
    let listed = c.slots.ensures.slots ∙ ap (changed slots) c.new-nothing.ensures.none ∙ program.given.listed in
    c.is_same.ensures
    ∙ ap (λ (l : List NotedSlot). are_same_slots l (slots_of c.slots.result)) held
    ∙ ap (are_same_slots (replayed slots (part_of log c.args.part))) listed
