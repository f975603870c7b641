-- By the objects that are left.
use Rattle.std.proofs.Common.{◌≡◌, ◌∙◌, Bool, true, false, not, rules, refl, sym, ap, arith}
use Rattle.model.specs.declared.entries.ImageHeader.{ImageHeader}
use Rattle.model.specs.declared.refusals.Refusal.TheVariants.{NoRoom}
use Rattle.model.specs.Acceptance.WellFormed.{has_no_room}
use Rattle.wellformed.proofs.RulesLeft.{number_kept}
use Rattle.wellformed.proofs.objects.check_room.Goals as goal

pub loop-number-init : goal.loop-number-init
loop-number-init c = record { used = c.none-used.ensures c.args.image.now; left = search rules }

has-room : (fits none : Bool) → fits ≡ not none → not fits ≡ false → none ≡ false
has-room fits true is kept = sym (ap not is) ∙ kept
has-room fits false is kept = refl

pub loop-number-preserved : goal.loop-number-preserved
loop-number-preserved c =
    let image = c.args.image.now in
    let n = c.loop-number.number in
    let count : c.header_of-number-end.result.objects ≡ image.header.objects = ap (λ (h : ImageHeader). h.objects) c.header_of-number-end.ensures.value in
    let room : has_no_room image n ≡ false = has-room c.place.result.fits (has_no_room image n) c.place.ensures.fits c.if-not-place.false in
    record {
      used = c.place.ensures.used;
      left = number_kept (has_no_room image) (λ k. NoRoom k) n image.header.objects _ (omega (arith, count)) room c.loop-number.invariant.left;
    }
