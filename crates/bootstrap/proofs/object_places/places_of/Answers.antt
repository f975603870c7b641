-- By what is used so far.
use Rattle.std.proofs.Common.{ℕ, ◌+◌, sym, ap, subst, arith}
use Rattle.bootstrap.proofs.PlaceSteps.{placed-after, places-none}
use Rattle.bootstrap.specs.Filling.{ArePlaces}
use Rattle.bootstrap.proofs.object_places.places_of.Goals as goal

pub loop-number-init : goal.loop-number-init
loop-number-init c = record {
  used = c.none-used.ensures c.args.image.now;
  placed = subst (ArePlaces c.args.image.now 0) (sym c.new-places.ensures.items) (places-none c.args.image.now);
}

pub loop-number-preserved : goal.loop-number-preserved
loop-number-preserved c =
    let image = c.args.image.now in
    let n = c.loop-number.number in
    record {
      used = c.place.ensures.used;
      placed = subst (ArePlaces image (n + 1)) (sym c.in_ok-push.ensures.items)
          (placed-after image n c.place.result.offset c.loop-number.places.items c.place.ensures.offset c.loop-number.invariant.placed);
    }

pub returns : goal.returns
returns c =
    subst (λ (n : ℕ). ArePlaces c.args.image.now n c.loop-number.places.items) (omega (arith, ap (λ h. h.objects) c.header-number-end.ensures.value))
    c.loop-number.invariant.placed
