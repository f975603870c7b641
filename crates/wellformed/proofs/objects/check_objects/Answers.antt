-- Untypeds, then objects, then the boot slots.
use Rattle.std.proofs.Common.{◌++◌, ◌∷◌, [], Err, List, Ok, map}
use Rattle.std.specs.List.{range_with_len}
use Rattle.std.proofs.lemmas.Result.{err_from_is_err_and}
use Rattle.model.specs.declared.refusals.Refusal.TheVariants.{BadObject, NoRoom, UntypedOverlap}
use Rattle.model.specs.Acceptance.Rules.{Rule, refuse_if}
use Rattle.model.specs.Acceptance.WellFormed.{has_no_room, object_rules, overlaps, too_few_boot_slots}
use Rattle.model.specs.Images.Described.{numbered}
use Rattle.model.specs.Images.Image.{Image}
use Rattle.wellformed.proofs.RulesLeft.{answers_rest, refused_before, told_of}
use Rattle.wellformed.proofs.objects.check_objects.Goals as goal

abbrev of_untypeds : Image → List Rule
of_untypeds image = map (λ u. refuse_if (overlaps image u) (UntypedOverlap u.0)) (numbered image.untypeds)

abbrev of_objects : Image → List Rule
of_objects image = map (λ number. refuse_if (has_no_room image number) (NoRoom number)) (range_with_len 0 image.header.objects)

abbrev of_slots : Image → List Rule
of_slots image = refuse_if (too_few_boot_slots image) (BadObject image.header.objects) ∷ []

pub returns-in_err-check_untypeds : goal.returns-in_err-check_untypeds
unfolding object_rules
returns-in_err-check_untypeds c =
    let image = c.args.image.now in
    let p = err_from_is_err_and c.from_residual.result c.from_residual.ensures.1 in
    told_of (object_rules image) _ p.0 _ p.1 p.2
    (refused_before (of_untypeds image ++ of_objects image) (of_slots image) _
    (refused_before (of_untypeds image) (of_objects image) _ c.in_err-check_untypeds.ensures))

pub returns-in_err-check_room : goal.returns-in_err-check_room
unfolding object_rules
returns-in_err-check_room c =
    let image = c.args.image.now in
    let p = err_from_is_err_and c.from_residual-in_err-check_room.result c.from_residual-in_err-check_room.ensures.1 in
    told_of (object_rules image) _ p.0 _ p.1 p.2
    (refused_before (of_untypeds image ++ of_objects image) (of_slots image) _
    (answers_rest (of_untypeds image) (of_objects image) (Err c.in_err-check_room.field-0.0) c.in_ok-check_untypeds.ensures c.in_err-check_room.ensures))

pub returns : goal.returns
unfolding object_rules
returns c =
    let image = c.args.image.now in
    answers_rest (of_untypeds image ++ of_objects image) (of_slots image) c.check_boot_slots.result
    (answers_rest (of_untypeds image) (of_objects image) (Ok tt) c.in_ok-check_untypeds.ensures c.in_ok-check_room.ensures) c.check_boot_slots.ensures
