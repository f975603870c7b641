-- The way of the code is that of the rules.
use Rattle.std.proofs.Common.{◌≡◌, ◌∙◌, if◌then◌else◌, Option, List, sym, ap, subst}
use Rattle.measure.specs.Measures.{measure_of}
use Rattle.measure.specs.Steps.{value_behind}
use Rattle.model.specs.Acceptance.Measures.{behind_form}
use Rattle.model.specs.Acceptance.PointRules.{noted_at}
use Rattle.model.specs.Acceptance.PointStates.{point_of}
use Rattle.model.specs.declared.ranges.Range.{Range}
use Rattle.model.specs.declared.refusals.Refusal.{Refusal}
use Rattle.program_rules.proofs.EdgeRules.{same-rules}
use Rattle.program_rules.proofs.visits.PlainPoint.way_rules.Goals as goal
use Rattle.program_rules.specs.PointChecks.{is_branch}
use Rattle.program_rules.specs.Programs.{thread_of}
use Rattle.program_rules.specs.Visits.{state_at}
use Rattle.ranges.specs.declared.edges.Edge.{Edge as Way}
use Rattle.wellformed.specs.Answering.{Answers}

pub returns-clause-answers : goal.returns-clause-answers
returns-clause-answers c = λ edge is before.
    let p = c.args.self.now in
    let image = p.visit.program.now.given.space.image.now in
    let t = thread_of p.visit.program.now in
    let bounds = p.known.now.bounds in
    let m = measure_of p.known.now.measure in
    let slots = (state_at p).slots in
    let ranges : c.args.way.now.bounds ≡ edge.ranges = ap (λ (w : Way). w.bounds) (sym is) in
    let target : c.args.way.now.target ≡ edge.target = ap (λ (w : Way). w.target) (sym is) in
    let first : c.before-before.result.now ≡ edge.before =
    c.before-before.ensures ∙ ap (λ (r : List Range). if is_branch p.instr then r else bounds) ranges ∙ sym before in
    let at : c.at.result ≡ point_of t p.visit.point = c.at.ensures in
    subst (λ (x : Option Refusal). Answers x c.way_to.result)
    (same-rules t.thread c.at.result (point_of t p.visit.point) m c.args.way.now.target edge.target c.before-before.result.now edge.before
    c.args.way.now.bounds edge.ranges
    slots (value_behind c.new-step.result) (behind_form p.instr edge.before edge.ranges) (noted_at image t c.args.way.now.target) (noted_at image t edge.target)
    at target first ranges (λ k. c.new-step.ensures k ∙ (λ i. behind_form p.instr (first i) (ranges i) k)) (ap (noted_at image t) target))
    c.way_to.ensures.answers
