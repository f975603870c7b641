-- By what is used so far.
use Rattle.std.proofs.Common.{◌≡◌, ℕ, ◌+◌, ◌<◌, ap, subst, sym, arith}
use Rattle.thread_spaces.proofs.PlaceSteps.{offset-near, placed-after, places-none}
use Rattle.model.specs.declared.entries.ImageHeader.{ImageHeader}
use Rattle.thread_spaces.specs.Given.{AreOffsets}
use Rattle.thread_spaces.proofs.offsets.offsets_of.Goals as goal

pub loop-number-init : goal.loop-number-init
loop-number-init c = record {
  used = c.none-used.ensures c.args.image.now;
  placed = subst (AreOffsets c.args.image.now 0) (sym c.new-offsets.ensures.items) (places-none c.args.image.now);
}

pub overflow_cast-place : goal.overflow_cast-place
overflow_cast-place c =
    let image = c.args.image.now in
    let n = c.loop-number.number in
    let count : c.header_of-number-end.result.objects ≡ image.header.objects = ap (λ (h : ImageHeader). h.objects) c.header_of-number-end.ensures.value in
    let less : n < image.header.objects = omega (arith, count, c.loop-number-test.true) in
    let small = offset-near image n c.header_of-number-end.ensures.fitting c.requires less in
    omega (arith, c.place-place.ensures.offset, small)

pub loop-number-preserved : goal.loop-number-preserved
loop-number-preserved c =
    let image = c.args.image.now in
    let n = c.loop-number.number in
    record {
      used = c.place-place.ensures.used;
      placed = subst (AreOffsets image (n + 1)) (sym c.in_ok-push.ensures.items)
          (placed-after image n c.place-place.result.offset c.loop-number.offsets.items c.place-place.ensures.offset c.loop-number.invariant.placed);
    }

pub returns : goal.returns
returns c =
    let last = c.loop-number-test.false in
    let inside = c.loop-number.auto.number-end in
    let header = ap (λ (h : ImageHeader). h.objects) c.header_of-number-end.ensures.value in
    let all : c.loop-number.number ≡ c.args.image.now.header.objects = omega (arith, last, inside, header) in
    subst (λ (count : ℕ). AreOffsets c.args.image.now count c.loop-number.offsets.items) all c.loop-number.invariant.placed
