-- By the slots of the point, which lead nowhere else.
use Rattle.std.proofs.Common.{ℕ, ◌∙◌, ◌+◌, None, Some, List, refl, sym, ap, subst}
use Rattle.measure.specs.Measures.{measure_of}
use Rattle.model.specs.Acceptance.NotedStates.{NotedSlot}
use Rattle.model.specs.Acceptance.PointStates.{Noted}
use Rattle.model.specs.Kernel.Steps.{call_of}
use Rattle.model.specs.declared.ranges.Range.{Range}
use Rattle.program_rules.proofs.NamedCaps.{none-outside}
use Rattle.program_rules.proofs.ViewedWays.{call-seen}
use Rattle.program_rules.proofs.visits.Visit.call_view.Goals as goal
use Rattle.program_rules.specs.Kept.{state_by}
use Rattle.program_rules.specs.Programs.{thread_of}
use Rattle.program_rules.specs.Views.{IsView, capability_seen}
use Rattle.program_rules.specs.declared.views.PointView.TheVariants.{Seen}
use Rattle.program_rules.specs.declared.views.SeenPoint.{SeenPoint}
use Rattle.typestate.specs.Calls.{known_with}
use Rattle.typestate.specs.Strays.{NoneStray}

pub returns : goal.returns
returns c = λ is.
    let program = c.args.self.now.program.now in
    let image = program.given.space.image.now in
    let t = thread_of program in
    let known = c.args.known.now in
    let point = c.args.self.now.point in
    let slots-are = c.slots-slots.ensures.slots ∙ c.requires.shows.same program.given.slots.now program.given.sorted program.given.unlinked in
    let nothing = none-outside image t.thread _
    (subst (λ (l : List NotedSlot). NoneStray image t.thread l) (sym slots-are) (c.requires.kept.clean c.if-not-known.false)) in
    let v : SeenPoint = record { call = c.of_number.result; capability = c.named.result; taken = None; next = Some (c.address.result + 4) } in
    subst (λ (k : Noted). IsView image t point k (Seen v)) c.requires.kept.same
    (call-seen image t point (state_by program.given.slots.now c.args.log.now known) v (c.address.result + 4)
    (c.args.self.now.is ∙ is) (c.of_number.ensures ∙ ap (λ (r : Range). call_of r.low) c.get.ensures.range)
    (c.named.ensures nothing (measure_of known.measure)
    ∙ ap (λ (l : List NotedSlot). capability_seen image t.thread (known_with known.bounds l (measure_of known.measure))) slots-are)
    refl refl (ap (λ (n : ℕ). n + 4) c.address.ensures))
