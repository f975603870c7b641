-- Its counts are its lengths.
use Rattle.std.proofs.Common.{rules, ◌≡◌, ◌∙◌, refl, w64}
use mir.Val.{of_z, to_z}
use Rattle.image_copies.proofs.Counted.{same-record}
use Rattle.image_copies.proofs.lists.record_of.Goals as goal

pub returns : goal.returns
returns c = λ counts.
    let kept : to_z w64 (of_z w64 c.constant-constant.result) ≡ c.constant-constant.result = search rules in
    c.record_with.ensures
    ∙ same-record _ c.args.point.now c.point-number.ensures (kept ∙ c.constant-constant.ensures) (c.in_ok-ranges.ensures ∙ c.ranges-2.ensures.value)
    (c.in_ok-slots.ensures ∙ c.slots.ensures) (c.in_ok-terms.ensures ∙ c.terms.ensures) (record { ranges = refl; slots = refl; terms = refl }) counts
