-- What is noted is a capability, whose fields lie in their ranges.
use Rattle.std.proofs.Common.{◌≡◌, ◌∙◌, ◌||◌, Bool, true, false, not, refl, sym, ap}
use Rattle.model.specs.Acceptance.NotedStates.{is_foreign, is_own}
use Rattle.model.specs.Capabilities.CapabilityFields.{is_capability}
use Rattle.typestate.specs.Strays.{cnodes_of, is_unfit}
use Rattle.typestate.proofs.GivenFacts.{decides-test}
use Rattle.typestate.proofs.spaces.Space.is_unfit.Goals as goal

unfit-by : (own foreign valid : Bool) → own ≡ true → valid ≡ true → foreign ≡ (not own || foreign || not valid)
unfit-by true true valid mine fits = refl
unfit-by true false valid mine fits = ap not (sym fits)
unfit-by false foreign valid mine fits = absurd (let clash : false ≡ true = mine in cc)

pub returns-else-not-is_own : goal.returns-else-not-is_own
returns-else-not-is_own c =
    let space = c.args.self.now in
    let slot = c.slot.inside in
    c.is_foreign.ensures
    ∙ unfit-by (is_own space.image.now (cnodes_of space) slot.key) (is_foreign space.image.now space.thread.now (cnodes_of space) slot.capability)
    (is_capability slot.capability)
    (sym c.is_own.ensures ∙ c.if-not-is_own.false) (decides-test slot.capability c.slot.invariant)
    ∙ ap (is_unfit space) c.slot.view_is
