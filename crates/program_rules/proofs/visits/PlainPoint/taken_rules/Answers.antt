-- There is none, or it is the one of the rules.
use Rattle.std.proofs.Common.{ℕ, Option, sym, ap, subst}
use Rattle.model.specs.Acceptance.Edges.{after}
use Rattle.model.specs.Acceptance.PointStates.{address_of}
use Rattle.model.specs.declared.refusals.Refusal.{Refusal}
use Rattle.program_rules.proofs.EdgeRules.{before-taken}
use Rattle.program_rules.proofs.visits.PlainPoint.taken_rules.Goals as goal
use Rattle.program_rules.specs.Visits.{broken_by}
use Rattle.wellformed.specs.Answering.{Answers}

pub returns-then-takes_no_way-clause-answers : goal.returns-then-takes_no_way-clause-answers
returns-then-takes_no_way-clause-answers c =
    let p = c.args.self.now in
    ap (broken_by p) (c.takes_no_way.ensures (address_of p.visit.program.now.given.space.thread.now p.visit.point) p.known.now.bounds c.if-takes_no_way.true)

pub returns-clause-answers : goal.returns-clause-answers
returns-clause-answers c =
    let p = c.args.self.now in
    let bounds = p.known.now.bounds in
    let here = after c.address-address.result p.instr bounds in
    subst (λ (x : Option Refusal). Answers x c.option_rules.result) (ap (λ (n : ℕ). broken_by p (after n p.instr bounds).taken) c.address-address.ensures)
    (c.option_rules.ensures.answers here.taken (ap (λ w. w.taken) (sym c.after-ways.ensures.ways)) (before-taken c.address-address.result p.instr bounds))
