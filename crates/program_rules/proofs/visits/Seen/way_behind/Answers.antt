-- The edge of the code is that of the rules.
use Rattle.std.proofs.Common.{ℕ, ◌≡◌, ◌+◌, Option, List, ap, subst}
use Rattle.measure.specs.Measures.{measure_of}
use Rattle.model.specs.Acceptance.Measures.{call_form}
use Rattle.model.specs.Acceptance.PointRules.{ProgramEdge, edge_rules, noted_at}
use Rattle.model.specs.Acceptance.PointStates.{point_of}
use Rattle.model.specs.Acceptance.Rules.{first_broken}
use Rattle.model.specs.declared.instructions.Register.{Register}
use Rattle.model.specs.declared.refusals.Point.{Point}
use Rattle.model.specs.declared.refusals.Refusal.{Refusal}
use Rattle.program_rules.proofs.visits.Seen.way_behind.Goals as goal
use Rattle.program_rules.specs.Programs.{thread_of}
use Rattle.typestate.specs.Logs.{part_of}
use Rattle.typestate.specs.Replays.{replayed}
use Rattle.wellformed.specs.Answering.{Answers}

pub returns : goal.returns
returns c =
    let program = c.args.self.now.program.now in
    let image = program.given.space.image.now in
    let t = thread_of program in
    let b = c.args.behind.now in
    let all = replayed program.given.slots.now (part_of c.args.self.now.points.now.log c.args.self.now.part) in
    let edge : ℕ → List Register → ProgramEdge = λ next written.
    record { target = next; before = c.args.known.now.bounds; ranges = b.bounds; slots = all; value_of = call_form written; is_wait = b.is_wait } in
    let broken : Point → List Register → ℕ → Option Refusal = λ at written next.
    first_broken (edge_rules t.thread at (measure_of c.args.known.now.measure) (edge next written) (noted_at image t next)) in
    let at : c.at.result ≡ point_of t c.args.point = c.at.ensures in
    subst (λ (x : Option Refusal). Answers x c.way_to.result)
    (λ i. broken (at i) (c.registers_of.ensures i) (ap (λ (n : ℕ). n + 4) c.address-next.ensures i))
    c.way_to.ensures.answers
