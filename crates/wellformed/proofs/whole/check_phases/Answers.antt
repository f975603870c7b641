-- Phase after phase.
use Rattle.std.proofs.Common.{◌∙◌, ◌∷◌, [], Err, List, ap}
use Rattle.std.proofs.lemmas.Result.{err_from_is_err_and}
use Rattle.model.specs.declared.refusals.Refusal.{Refusal}
use Rattle.model.specs.Acceptance.Accepted.{first_in}
use Rattle.model.specs.Acceptance.Rules.{Rule}
use Rattle.model.specs.Acceptance.ThreadRules.{thread_rules}
use Rattle.model.specs.Acceptance.WellFormed.{capability_rules, mapping_rules, object_rules}
use Rattle.model.specs.Images.Image.{Image}
use Rattle.wellformed.specs.Answering.{form_rules}
use Rattle.wellformed.proofs.RulesLeft.{last_phase, passed_on, phase_broken, phase_kept}
use Rattle.wellformed.proofs.whole.check_phases.Goals as goal

abbrev behind_mappings : Image → List (List Rule)
behind_mappings image = thread_rules image ∷ []

abbrev behind_capabilities : Image → List (List Rule)
behind_capabilities image = mapping_rules image ∷ behind_mappings image

abbrev behind_objects : Image → List (List Rule)
behind_objects image = capability_rules image ∷ behind_capabilities image

pub returns-in_err-check_objects : goal.returns-in_err-check_objects
returns-in_err-check_objects c =
    let image = c.args.image.now in
    let p = err_from_is_err_and c.from_residual.result c.from_residual.ensures.1 in
    passed_on (first_in (form_rules image)) _ c.in_err-check_objects.field-0.0 (p.1 ∙ ap (λ (r : Refusal). Err r) p.2)
    (phase_broken (object_rules image) (behind_objects image) _ c.in_err-check_objects.ensures)

pub returns-in_err-check_capabilities : goal.returns-in_err-check_capabilities
returns-in_err-check_capabilities c =
    let image = c.args.image.now in
    let p = err_from_is_err_and c.from_residual-in_err-check_capabilities.result c.from_residual-in_err-check_capabilities.ensures.1 in
    passed_on (first_in (form_rules image)) _ c.in_err-check_capabilities.field-0.0 (p.1 ∙ ap (λ (r : Refusal). Err r) p.2)
    (phase_kept (object_rules image) (behind_objects image) (Err c.in_err-check_capabilities.field-0.0) c.in_ok-check_objects.ensures
    (phase_broken (capability_rules image) (behind_capabilities image) _ c.in_err-check_capabilities.ensures.rules))

pub returns-in_err-check_mappings : goal.returns-in_err-check_mappings
returns-in_err-check_mappings c =
    let image = c.args.image.now in
    let p = err_from_is_err_and c.from_residual-in_err-check_mappings.result c.from_residual-in_err-check_mappings.ensures.1 in
    passed_on (first_in (form_rules image)) _ c.in_err-check_mappings.field-0.0 (p.1 ∙ ap (λ (r : Refusal). Err r) p.2)
    (phase_kept (object_rules image) (behind_objects image) (Err c.in_err-check_mappings.field-0.0) c.in_ok-check_objects.ensures
    (phase_kept (capability_rules image) (behind_capabilities image) (Err c.in_err-check_mappings.field-0.0) c.in_ok-check_capabilities.ensures.rules
    (phase_broken (mapping_rules image) (behind_mappings image) _ c.in_err-check_mappings.ensures)))

pub returns : goal.returns
returns c =
    let image = c.args.image.now in
    phase_kept (object_rules image) (behind_objects image) c.check_threads.result c.in_ok-check_objects.ensures
    (phase_kept (capability_rules image) (behind_capabilities image) c.check_threads.result c.in_ok-check_capabilities.ensures.rules
    (phase_kept (mapping_rules image) (behind_mappings image) c.check_threads.result c.in_ok-check_mappings.ensures
    (last_phase (thread_rules image) c.check_threads.result c.check_threads.ensures)))
