-- By what the call leaves.
use Rattle.std.proofs.Common.{◌∙◌, ◌+◌, inr, Option, Some, None, Ok, Err, List, sym, ap, subst}
use Rattle.measure.specs.Measures.{measure_of}
use Rattle.model.specs.Acceptance.NotedStates.{NotedSlot}
use Rattle.model.specs.Acceptance.PointRules.{call_edge, edge_rules, noted_at}
use Rattle.model.specs.Acceptance.PointStates.{address_of, point_of}
use Rattle.model.specs.Acceptance.Rules.{first_broken}
use Rattle.model.specs.declared.refusals.Refusal.{Refusal}
use Rattle.program_rules.proofs.Called.{call-any}
use Rattle.program_rules.proofs.EdgeRules.{call-told}
use Rattle.program_rules.proofs.ShownParts.{some-shown}
use Rattle.program_rules.proofs.visits.Visit.call_rules.Goals as goal
use Rattle.program_rules.specs.Kept.{call_of, state_by}
use Rattle.program_rules.specs.Programs.{thread_of}
use Rattle.typestate.specs.Calls.{behind_with}
use Rattle.typestate.specs.Differences.{slots_of}
use Rattle.typestate.specs.Logs.{part_of}
use Rattle.typestate.specs.Strays.{NoneStray}
use Rattle.wellformed.specs.Answering.{Answers}
use Rattle.typestate.specs.Replays.{replayed}
use Rattle.typestate.specs.declared.log_entries.LogEntry.{LogEntry}

pub invariant_of-here : goal.invariant_of-here
invariant_of-here c = record {
  image = c.slots-slots.ensures.image;
  clean = λ is.
      subst (λ (all : List NotedSlot). NoneStray c.args.self.now.program.now.given.space.image.now c.args.self.now.program.now.given.space.thread.now all)
      (sym (c.slots-slots.ensures.slots ∙ c.requires.shows.same c.args.self.now.program.now.given.slots.now c.args.self.now.program.now.given.sorted
      c.args.self.now.program.now.given.unlinked))
      (c.requires.kept.clean is);
}

pub returns-then-leaves_next-clause-broken : goal.returns-then-leaves_next-clause-broken
returns-then-leaves_next-clause-broken c = λ is.
    c.leaves_next.ensures.call c.requires.read (state_by c.args.self.now.program.now.given.slots.now c.args.points.now.log c.args.known.now)
    c.if-leaves_next.true c.requires.kept.same
    is

pub returns-then-leaves_next-clause-shown : goal.returns-then-leaves_next-clause-shown
returns-then-leaves_next-clause-shown c = some-shown c.args.points.now.log c.args.known.now.part c.args.shown.now c.requires.shows

pub returns-in-Stray-clause-shown : goal.returns-in-Stray-clause-shown
returns-in-Stray-clause-shown c = some-shown c.args.points.now.log c.args.known.now.part c.args.shown.now c.requires.shows

pub returns-in-Stray-clause-broken : goal.returns-in-Stray-clause-broken
returns-in-Stray-clause-broken c = λ is.
    let image = c.args.self.now.program.now.given.space.image.now in
    let t = thread_of c.args.self.now.program.now in
    let m = measure_of c.args.known.now.measure in
    let all = replayed c.args.self.now.program.now.given.slots.now (part_of c.args.points.now.log c.args.known.now.part) in
    let told = call-told image t c.args.self.now.point (state_by c.args.self.now.program.now.given.slots.now c.args.points.now.log c.args.known.now)
    None
    is
    (call-any image t c.args.self.now.point c.args.known.now.bounds m (slots_of c.slots-slots.result) all c.in_ok-called.field-0
    (c.slots-slots.ensures.slots ∙ c.requires.shows.same c.args.self.now.program.now.given.slots.now c.args.self.now.program.now.given.sorted
    c.args.self.now.program.now.given.unlinked)
    (c.in_ok-called.ensures.left m)
    ∙ ap (call_of all) c.in-Stray.is) in
    told

pub returns-in-Refused-clause-broken : goal.returns-in-Refused-clause-broken
returns-in-Refused-clause-broken c = λ is.
    let image = c.args.self.now.program.now.given.space.image.now in
    let t = thread_of c.args.self.now.program.now in
    let m = measure_of c.args.known.now.measure in
    let all = replayed c.args.self.now.program.now.given.slots.now (part_of c.args.points.now.log c.args.known.now.part) in
    let told = call-told image t c.args.self.now.point (state_by c.args.self.now.program.now.given.slots.now c.args.points.now.log c.args.known.now)
    (Some (Err c.in-Refused.refusal))
    is
    (call-any image t c.args.self.now.point c.args.known.now.bounds m (slots_of c.slots-slots.result) all c.in_ok-called.field-0
    (c.slots-slots.ensures.slots ∙ c.requires.shows.same c.args.self.now.program.now.given.slots.now c.args.self.now.program.now.given.sorted
    c.args.self.now.program.now.given.unlinked)
    (c.in_ok-called.ensures.left m)
    ∙ ap (call_of all) c.in-Refused.is) in
    inr told

pub returns-in-Leaves-clause-broken : goal.returns-in-Leaves-clause-broken
returns-in-Leaves-clause-broken c = λ is.
    let b = c.in-Leaves.behind in
    let made = c.in-Leaves.made.items in
    let image = c.args.self.now.program.now.given.space.image.now in
    let t = thread_of c.args.self.now.program.now in
    let m = measure_of c.args.known.now.measure in
    let all = replayed c.args.self.now.program.now.given.slots.now (part_of c.args.points.now.log c.args.known.now.part) in
    let told = call-told image t c.args.self.now.point (state_by c.args.self.now.program.now.given.slots.now c.args.points.now.log c.args.known.now)
    (Some (Ok (behind_with (replayed all made) b)))
    is
    (call-any image t c.args.self.now.point c.args.known.now.bounds m (slots_of c.slots-slots.result) all c.in_ok-called.field-0
    (c.slots-slots.ensures.slots ∙ c.requires.shows.same c.args.self.now.program.now.given.slots.now c.args.self.now.program.now.given.sorted
    c.args.self.now.program.now.given.unlinked)
    (c.in_ok-called.ensures.left m)
    ∙ ap (call_of all) c.in-Leaves.is) in
    let by : List LogEntry → Option Refusal = λ changes.
    first_broken (edge_rules t.thread (point_of t c.args.self.now.point) m (call_edge (address_of t.thread c.args.self.now.point) c.args.known.now.bounds
    (behind_with (replayed all changes) b))
    (noted_at image t (address_of t.thread c.args.self.now.point + 4))) in
    subst (λ (x : Option Refusal). Answers x c.behind_rules.result) (ap by c.deref.ensures.value ∙ sym told) c.behind_rules.ensures.broken
