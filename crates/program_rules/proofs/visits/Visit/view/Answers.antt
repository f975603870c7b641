-- What no word spells asks nothing, and leads nowhere.
use Rattle.std.proofs.Common.{◌∙◌, None, refl, sym, ap, subst}
use Rattle.model.specs.Acceptance.PointStates.{Noted}
use Rattle.model.specs.declared.capabilities.Cap.TheVariants.{Empty}
use Rattle.program_rules.proofs.ViewedWays.{none-seen}
use Rattle.program_rules.proofs.visits.Visit.view.Goals as goal
use Rattle.program_rules.specs.Kept.{noted_by, state_by}
use Rattle.program_rules.specs.Programs.{thread_of}
use Rattle.program_rules.specs.Views.{IsView}
use Rattle.program_rules.specs.declared.views.PointView.TheVariants.{Seen}
use Rattle.program_rules.specs.declared.views.SeenPoint.{SeenPoint}

pub returns-in-None : goal.returns-in-None
returns-in-None c =
    let program = c.args.self.now.program.now in
    let t = thread_of program in
    let image = program.given.space.image.now in
    let slots = program.given.slots.now in
    let v : SeenPoint = record { call = None; capability = Empty; taken = None; next = None } in
    subst (λ (k : Noted). IsView image t c.args.self.now.point k (Seen v))
    (sym (ap (noted_by slots c.args.log.now) c.in-Known.is) ∙ c.requires.kept.same)
    (none-seen image t c.args.self.now.point (state_by slots c.args.log.now c.in-Known.known) v (c.args.self.now.is ∙ c.in-None.is) refl)
