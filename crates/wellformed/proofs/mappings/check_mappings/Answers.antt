-- Tables, then frames, then contents, then promises.
use Rattle.std.proofs.Common.{◌++◌, Err, List, Ok, map}
use Rattle.std.specs.Prelude.{flat_map}
use Rattle.std.proofs.lemmas.Result.{err_from_is_err_and}
use Rattle.model.specs.declared.refusals.Refusal.TheVariants.{BadMapping}
use Rattle.model.specs.Acceptance.Rules.{Rule, refuse_if}
use Rattle.model.specs.Acceptance.WellFormed.{content_rule, frame_rules, mapping_rules, misplaces_table, promise_rule}
use Rattle.model.specs.Images.Described.{numbered}
use Rattle.model.specs.Images.Image.{Image}
use Rattle.wellformed.proofs.RulesLeft.{answers_rest, refused_before, told_of}
use Rattle.wellformed.proofs.mappings.check_mappings.Goals as goal

abbrev of_tables : Image → List Rule
of_tables image = map (λ t. refuse_if (misplaces_table image t) (BadMapping t.0)) (numbered image.tables)

abbrev of_frames : Image → List Rule
of_frames image = flat_map (frame_rules image) (numbered image.frames)

abbrev of_contents : Image → List Rule
of_contents image = map (content_rule image) (numbered image.contents)

abbrev of_promises : Image → List Rule
of_promises image = map (promise_rule image) (numbered image.promises)

abbrev up_to_contents : Image → List Rule
up_to_contents image = of_tables image ++ of_frames image ++ of_contents image

pub returns-in_err-check_tables : goal.returns-in_err-check_tables
unfolding mapping_rules
returns-in_err-check_tables c =
    let image = c.args.image.now in
    let p = err_from_is_err_and c.from_residual.result c.from_residual.ensures.1 in
    told_of (mapping_rules image) _ p.0 _ p.1 p.2
    (refused_before (up_to_contents image) (of_promises image) _
    (refused_before (of_tables image ++ of_frames image) (of_contents image) _
    (refused_before (of_tables image) (of_frames image) _ c.in_err-check_tables.ensures)))

pub returns-in_err-check_frames : goal.returns-in_err-check_frames
unfolding mapping_rules
returns-in_err-check_frames c =
    let image = c.args.image.now in
    let p = err_from_is_err_and c.from_residual-in_err-check_frames.result c.from_residual-in_err-check_frames.ensures.1 in
    told_of (mapping_rules image) _ p.0 _ p.1 p.2
    (refused_before (up_to_contents image) (of_promises image) _
    (refused_before (of_tables image ++ of_frames image) (of_contents image) _
    (answers_rest (of_tables image) (of_frames image) (Err c.in_err-check_frames.field-0.0) c.in_ok-check_tables.ensures c.in_err-check_frames.ensures)))

pub returns-in_err-check_contents : goal.returns-in_err-check_contents
unfolding mapping_rules
returns-in_err-check_contents c =
    let image = c.args.image.now in
    let p = err_from_is_err_and c.from_residual-in_err-check_contents.result c.from_residual-in_err-check_contents.ensures.1 in
    told_of (mapping_rules image) _ p.0 _ p.1 p.2
    (refused_before (up_to_contents image) (of_promises image) _
    (answers_rest (of_tables image ++ of_frames image) (of_contents image) (Err c.in_err-check_contents.field-0.0)
    (answers_rest (of_tables image) (of_frames image) (Ok tt) c.in_ok-check_tables.ensures c.in_ok-check_frames.ensures) c.in_err-check_contents.ensures))

pub returns : goal.returns
unfolding mapping_rules
returns c =
    let image = c.args.image.now in
    answers_rest (up_to_contents image) (of_promises image) c.check_promises.result
    (answers_rest (of_tables image ++ of_frames image) (of_contents image) (Ok tt)
    (answers_rest (of_tables image) (of_frames image) (Ok tt) c.in_ok-check_tables.ensures c.in_ok-check_frames.ensures) c.in_ok-check_contents.ensures)
    c.check_promises.ensures
