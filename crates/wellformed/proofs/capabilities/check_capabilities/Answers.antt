-- Capabilities, then interrupts.
use Rattle.std.proofs.Common.{◌+◌, List, map}
use Rattle.std.proofs.lemmas.Result.{err_from_is_err_and}
use Rattle.model.specs.declared.refusals.Refusal.TheVariants.{BadCap}
use Rattle.model.specs.Acceptance.Rules.{Rule, refuse_if}
use Rattle.model.specs.Acceptance.WellFormed.{capability_rules, does_not_fit, signals_nothing}
use Rattle.model.specs.Images.Described.{numbered}
use Rattle.model.specs.Images.Image.{Image}
use Rattle.wellformed.proofs.RulesLeft.{answers_rest, refused_before, told_of}
use Rattle.wellformed.proofs.capabilities.check_capabilities.Goals as goal

abbrev of_listed : Image → List Rule
of_listed image = map (λ c. refuse_if (does_not_fit image c) (BadCap c.0)) (numbered image.capabilities)

abbrev of_interrupts : Image → List Rule
of_interrupts image = map (λ i. refuse_if (signals_nothing image i.1) (BadCap (image.header.capabilities + i.0))) (numbered image.interrupts)

pub returns-in_err-check_listed-clause-rules : goal.returns-in_err-check_listed-clause-rules
unfolding capability_rules
returns-in_err-check_listed-clause-rules c =
    let image = c.args.image.now in
    let p = err_from_is_err_and c.from_residual.result c.from_residual.ensures.1 in
    told_of (capability_rules image) _ p.0 _ p.1 p.2 (refused_before (of_listed image) (of_interrupts image) _ c.in_err-check_listed.ensures.rules)

pub returns-clause-rules : goal.returns-clause-rules
unfolding capability_rules
returns-clause-rules c =
    let image = c.args.image.now in
    answers_rest (of_listed image) (of_interrupts image) _ c.in_ok-check_listed.ensures.rules c.check_interrupts.ensures
