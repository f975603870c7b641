-- What is kept of the next point has a state, and nothing but this point leads to it.
use Rattle.std.proofs.Common.{◌∙◌, ◌+◌, ◌^◌, ◌<◌, sym, arith}
use Rattle.model.specs.Acceptance.NotedStates.{record_of}
use Rattle.model.specs.Acceptance.PointStates.{address_of}
use Rattle.program_rules.proofs.LeftNext.{next-call-kept, next-found, next-kept}
use Rattle.program_rules.proofs.NextRecords.{no-record}
use Rattle.program_rules.proofs.visits.Visit.leaves_next.Goals as goal
use Rattle.program_rules.specs.Programs.{thread_of}

pub returns-then-next-self-clause-plain : goal.returns-then-next-self-clause-plain
returns-then-next-self-clause-plain c = λ read s instr yes known is plain.
    let program = c.args.self.now.program.now in
    let image = program.given.space.image.now in
    let t = thread_of program in
    let point = c.args.self.now.point in
    let found = next-found image t point c.in-Some.next c.address.result
    (c.has_state.ensures yes image t program.given.slots.now c.args.points.now.log read.noted) c.if-next-self.true c.in-Some.ensures.value
    c.address.ensures in
    let inside = program.inside in
    let before = c.args.self.now.within in
    let less : address_of t.thread point + 4 < 2 ^ 32 = omega (arith, inside, before) in
    let bare = no-record (record_of t.thread (point + 1)) (sym c.args.self.now.next ∙ c.if-self.false) in
    next-kept c.left_states_are_kept.ensures image t point s instr known is plain bare found.0 found.1 less

pub returns-then-next-self-clause-call : goal.returns-then-next-self-clause-call
returns-then-next-self-clause-call c = λ read s yes known is.
    let program = c.args.self.now.program.now in
    let image = program.given.space.image.now in
    let t = thread_of program in
    let point = c.args.self.now.point in
    let found = next-found image t point c.in-Some.next c.address.result
    (c.has_state.ensures yes image t program.given.slots.now c.args.points.now.log read.noted) c.if-next-self.true c.in-Some.ensures.value
    c.address.ensures in
    let bare = no-record (record_of t.thread (point + 1)) (sym c.args.self.now.next ∙ c.if-self.false) in
    next-call-kept c.left_calls_are_kept.ensures image t point s known is bare found.0 found.1
