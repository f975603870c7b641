-- By what was found, or by a comparison.
use Rattle.std.proofs.Common.{◌∙◌, List, sym, ap}
use Rattle.model.specs.Acceptance.NotedStates.{NotedSlot, are_same_slots}
use Rattle.program_rules.proofs.point_rules.LeftStates.{own-slots}
use Rattle.program_rules.proofs.visits.Seen.has_same_slots.Goals as goal
use Rattle.typestate.specs.Differences.{slots_of}
use Rattle.typestate.specs.Logs.{part_of}
use Rattle.typestate.specs.declared.logs.Part.{Part}
use Rattle.typestate.specs.Replays.{replayed}

pub returns-then-is_same-clause-is : goal.returns-then-is_same-clause-is
returns-then-is_same-clause-is c =
    let slots = c.args.self.now.program.now.given.slots.now in
    let log = c.args.self.now.points.now.log in
    let own = replayed slots (part_of log c.args.self.now.part) in
    sym (own-slots own) ∙ ap (λ (p : Part). are_same_slots own (replayed slots (part_of log p))) (c.is_same.ensures c.if-is_same.true)

pub returns-then-branch-clause-is : goal.returns-then-branch-clause-is
returns-then-branch-clause-is c =
    let program = c.args.self.now.program.now in
    sym (c.in_ok-is_same.ensures.is c.if-branch.true program.given.slots.now c.args.self.now.points.now.log program.given.sorted c.requires.rooted)

pub returns-then-branch-clause-rooted : goal.returns-then-branch-clause-rooted
returns-then-branch-clause-rooted c = c.is_same-2.ensures.kept c.args.self.now.program.now.given.slots.now c.args.self.now.points.now.log c.requires.rooted

pub returns-clause-rooted : goal.returns-clause-rooted
returns-clause-rooted c = c.is_same-2.ensures.kept c.args.self.now.program.now.given.slots.now c.args.self.now.points.now.log c.requires.rooted

pub returns-clause-is : goal.returns-clause-is
returns-clause-is c =
    let program = c.args.self.now.program.now in
    let slots = program.given.slots.now in
    let log = c.args.self.now.points.now.log in
    let mine-is = c.slots-mine.ensures.slots ∙ c.args.self.now.shows.same slots program.given.sorted program.given.unlinked in
    let theirs-is = c.slots-theirs.ensures.slots ∙ c.in_ok-there.ensures.same slots program.given.sorted program.given.unlinked in
    c.is_same-is_same.ensures
    ∙ ap (λ (l : List NotedSlot). are_same_slots l (slots_of c.slots-theirs.result)) mine-is
    ∙ ap (are_same_slots (replayed slots (part_of log c.args.self.now.part))) theirs-is
