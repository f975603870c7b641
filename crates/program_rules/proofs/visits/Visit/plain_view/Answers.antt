-- By the ways on from the instruction.
use Rattle.std.proofs.Common.{ℕ, ◌∙◌, ◌≢◌, None, option_map, refl, sym, ap, subst}
use Rattle.std.proofs.lemmas.Option.{same_Some}
use Rattle.model.specs.Acceptance.Edges.{after}
use Rattle.model.specs.Acceptance.PointStates.{Noted}
use Rattle.model.specs.declared.capabilities.Cap.TheVariants.{Empty}
use Rattle.model.specs.declared.instructions.Instr.{Instr}
use Rattle.model.specs.declared.instructions.Instr.TheVariants.{Ecall}
use Rattle.program_rules.proofs.ViewedWays.{goes-seen, going-on, plain-seen}
use Rattle.program_rules.proofs.visits.Visit.plain_view.Goals as goal
use Rattle.program_rules.specs.Kept.{state_by}
use Rattle.program_rules.specs.OfPrograms.{address_for}
use Rattle.program_rules.specs.Programs.{thread_of}
use Rattle.program_rules.specs.Views.{IsView}
use Rattle.program_rules.specs.declared.views.PointView.TheVariants.{GoesOn, Seen}
use Rattle.program_rules.specs.declared.views.SeenPoint.{SeenPoint}
use Rattle.ranges.specs.Edges.{way_of}
use Rattle.ranges.specs.declared.edges.Edges.{Edges as Ways}

pub returns-then-goes_on : goal.returns-then-goes_on
returns-then-goes_on c = λ i here other.
    let program = c.args.self.now.program.now in
    let image = program.given.space.image.now in
    let t = thread_of program in
    let plain = subst (λ (j : Instr). j ≢ Ecall) (same_Some i c.in-Some.instr (sym here ∙ c.in-Some.is)) other in
    subst (λ (k : Noted). IsView image t c.args.self.now.point k GoesOn) c.requires.same
    (goes-seen image t c.args.self.now.point (state_by program.given.slots.now c.args.log.now c.args.known.now) c.in-Some.instr
    program.inside c.args.self.now.within (c.args.self.now.is ∙ c.in-Some.is) plain
    (going-on c.in-Some.instr (sym c.goes_on.ensures ∙ c.if-goes_on.true) plain (address_for program c.args.self.now.point) c.args.known.now.bounds))

pub returns : goal.returns
returns c = λ i here other.
    let program = c.args.self.now.program.now in
    let image = program.given.space.image.now in
    let t = thread_of program in
    let known = c.args.known.now in
    let instr = c.in-Some.instr in
    let plain = subst (λ (j : Instr). j ≢ Ecall) (same_Some i instr (sym here ∙ c.in-Some.is)) other in
    let ways = c.after-ways.result in
    let v : SeenPoint = record { call = None; capability = Empty; taken = c.target_of.result; next = c.target_of-2.result } in
    subst (λ (k : Noted). IsView image t c.args.self.now.point k (Seen v)) c.requires.same
    (plain-seen image t c.args.self.now.point (state_by program.given.slots.now c.args.log.now known) v
    instr ways.taken ways.fall_through (c.args.self.now.is ∙ c.in-Some.is) plain refl
    (ap (λ (w : Ways). w.taken) c.after-ways.ensures.ways ∙ ap (λ (pc : ℕ). option_map way_of (after pc instr known.bounds).taken) c.address.ensures)
    (ap (λ (w : Ways). w.fall_through) c.after-ways.ensures.ways
    ∙ ap (λ (pc : ℕ). option_map way_of (after pc instr known.bounds).fall_through) c.address.ensures)
    c.target_of.ensures c.target_of-2.ensures)
