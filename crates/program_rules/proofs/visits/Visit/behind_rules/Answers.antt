-- A log that grows keeps what is noted.
use Rattle.std.proofs.Common.{◌+◌, Option, List, ap, subst}
use Rattle.measure.specs.Measures.{measure_of}
use Rattle.model.specs.Acceptance.NotedStates.{NotedSlot}
use Rattle.model.specs.Acceptance.PointRules.{call_edge, edge_rules, noted_at}
use Rattle.model.specs.Acceptance.PointStates.{address_of, point_of}
use Rattle.model.specs.Acceptance.Rules.{first_broken}
use Rattle.model.specs.declared.refusals.Refusal.{Refusal}
use Rattle.program_rules.proofs.EachPoint.{grown-read}
use Rattle.program_rules.proofs.Outcomes.{always}
use Rattle.program_rules.proofs.ShownParts.{some-grown, some-shown}
use Rattle.program_rules.proofs.visits.Visit.behind_rules.Goals as goal
use Rattle.program_rules.specs.Kept.{IsRead}
use Rattle.program_rules.specs.Programs.{thread_of}
use Rattle.typestate.specs.Calls.{behind_with}
use Rattle.typestate.specs.Logs.{KeepsParts, ShowsSome}
use Rattle.wellformed.specs.Answering.{Answers}

pub invariant_of-seen : goal.invariant_of-seen
invariant_of-seen c =
    let program = c.args.self.now.program.now in
    record {
      read = grown-read program.given.space.image.now (thread_of program) program.given.slots.now c.args.points.now.log c.follow.new.self
          c.args.points.now.kept c.in_ok-part.ensures.others c.requires.read;
      shows = c.in_ok-show.ensures;
    }

pub show-requires-clause-old : goal.show-requires-clause-old
show-requires-clause-old c =
    some-grown c.args.points.now.log c.follow.new.self c.args.shown.now c.in_ok-part.ensures.others
    (some-shown c.args.points.now.log c.args.known.now.part c.args.shown.now c.requires.shows)

pub returns-clause-shown : goal.returns-clause-shown
returns-clause-shown c =
    always (ShowsSome c.follow.new.self c.show.new.shown) c.way_behind.result
    (some-shown c.follow.new.self c.in_ok-part.part c.show.new.shown c.in_ok-show.ensures)

pub returns-clause-read : goal.returns-clause-read
returns-clause-read c =
    let image = c.args.self.now.program.now.given.space.image.now in
    let t = thread_of c.args.self.now.program.now in
    let slots = c.args.self.now.program.now.given.slots.now in
    let kept = c.args.points.now.kept in
    always (IsRead image t slots c.follow.new.self kept) c.way_behind.result
    (grown-read image t slots c.args.points.now.log c.follow.new.self kept c.in_ok-part.ensures.others c.requires.read)

pub returns-clause-others : goal.returns-clause-others
returns-clause-others c = always (KeepsParts c.args.points.now.log c.follow.new.self) c.way_behind.result c.in_ok-part.ensures.others

pub returns-clause-broken : goal.returns-clause-broken
returns-clause-broken c =
    let image = c.args.self.now.program.now.given.space.image.now in
    let t = thread_of c.args.self.now.program.now in
    let address = address_of c.args.self.now.program.now.given.space.thread.now c.args.self.now.point in
    let slots = c.args.self.now.program.now.given.slots.now in
    subst (λ (x : Option Refusal). Answers x c.way_behind.result)
    (ap (λ (all : List NotedSlot). first_broken (edge_rules t.thread (point_of t c.args.self.now.point) (measure_of c.args.known.now.measure)
    (call_edge address c.args.known.now.bounds (behind_with all c.args.behind.now)) (noted_at image t (address + 4))))
    (c.in_ok-part.ensures.same slots c.args.self.now.program.now.given.sorted))
    c.way_behind.ensures
