-- The taken way, and then the other.
use Rattle.std.proofs.Common.{ℕ, ◌≡◌, ◌∙◌, Option, None, Err, sym, ap, subst}
use Rattle.std.specs.Option.{option_or}
use Rattle.model.specs.Acceptance.Edges.{after}
use Rattle.model.specs.Acceptance.PointStates.{address_of}
use Rattle.model.specs.declared.refusals.Refusal.{Refusal}
use Rattle.program_rules.proofs.EdgeRules.{before-fall, before-taken, first-way}
use Rattle.program_rules.proofs.FirstBroken.{kept-first, or-none, refused-first}
use Rattle.program_rules.proofs.Outcomes.{passed-on}
use Rattle.program_rules.proofs.visits.PlainPoint.ways_rules.Goals as goal
use Rattle.program_rules.specs.Programs.{thread_of}
use Rattle.program_rules.specs.Visits.{broken_by, state_at}
use Rattle.wellformed.specs.Answering.{Answers}

pub returns-in_err-option_rules-clause-answers : goal.returns-in_err-option_rules-clause-answers
returns-in_err-option_rules-clause-answers c =
    let p = c.args.self.now in
    let image = p.visit.program.now.given.space.image.now in
    let t = thread_of p.visit.program.now in
    let bounds = p.known.now.bounds in
    let here = after c.address-address.result p.instr bounds in
    let refusal = c.in_err-option_rules.field-0.0 in
    passed-on _ c.from_residual.result refusal c.from_residual.ensures.1
    (subst (λ (x : Option Refusal). Answers x (Err refusal))
    (sym (first-way image t p.visit.point (state_at p) p.instr p.plain p.is
    ∙ ap (λ (n : ℕ). option_or (broken_by p (after n p.instr bounds).taken) (broken_by p (after n p.instr bounds).fall_through))
    (sym c.address-address.ensures)))
    (refused-first (broken_by p here.taken) (broken_by p here.fall_through) refusal
    (c.in_err-option_rules.ensures.answers here.taken (ap (λ w. w.taken) (sym c.after-ways.ensures.ways))
    (before-taken c.address-address.result p.instr bounds))))

pub returns-clause-answers : goal.returns-clause-answers
returns-clause-answers c =
    let p = c.args.self.now in
    let image = p.visit.program.now.given.space.image.now in
    let t = thread_of p.visit.program.now in
    let bounds = p.known.now.bounds in
    let here = after c.address-address.result p.instr bounds in
    let first : broken_by p here.taken ≡ None =
    c.in_ok-option_rules.ensures.answers here.taken (ap (λ w. w.taken) (sym c.after-ways.ensures.ways))
    (before-taken c.address-address.result p.instr bounds) in
    subst (λ (x : Option Refusal). Answers x c.option_rules-2.result)
    (sym (first-way image t p.visit.point (state_at p) p.instr p.plain p.is
    ∙ ap (λ (n : ℕ). option_or (broken_by p (after n p.instr bounds).taken) (broken_by p (after n p.instr bounds).fall_through))
    (sym c.address-address.ensures)))
    (kept-first (broken_by p here.taken) (broken_by p here.fall_through) c.option_rules-2.result first
    (c.option_rules-2.ensures.answers here.fall_through (ap (λ w. w.fall_through) (sym c.after-ways.ensures.ways))
    (before-fall c.address-address.result p.instr bounds)))

pub returns-then-leaves_next-clause-answers : goal.returns-then-leaves_next-clause-answers
returns-then-leaves_next-clause-answers c =
    let p = c.args.self.now in
    let image = p.visit.program.now.given.space.image.now in
    let t = thread_of p.visit.program.now in
    let here = after (address_of t.thread p.visit.point) p.instr p.known.now.bounds in
    let kept : broken_by p here.fall_through ≡ None =
    c.leaves_next.ensures.plain c.args.self.now.read (state_at p) p.instr c.if-leaves_next.true p.kept p.is p.plain in
    subst (λ (x : Option Refusal). Answers x c.taken_rules.result)
    (sym (or-none (broken_by p here.taken))
    ∙ ap (λ (o : Option Refusal). option_or (broken_by p here.taken) o) (sym kept)
    ∙ sym (first-way image t p.visit.point (state_at p) p.instr p.plain p.is))
    c.taken_rules.ensures.answers
