-- By the entries of the object and of its untyped.
use Rattle.std.proofs.Common.{ℕ, ◌∙◌, ◌+◌, ◌<◌, ap, arith}
use Rattle.wellformed.proofs.Placing.{fits-is, offset-is, used-after}
use Rattle.wellformed.proofs.object_places.UsedMemory.place.Goals as goal

pub returns-clause-used : goal.returns-clause-used
returns-clause-used c =
    let o = c.object_of-object.result in
    let few : o.untyped < 64 = omega (arith, c.object_of-object.ensures.fits.untyped, c.header_of.ensures.fitting.header.untypeds) in
    used-after c.args.image.now c.args.number o c.args.self.now.used c.object_of-object.ensures.there few c.requires.used c.bits_of.result
    c.next_place-first.result.1 c.bits_of.ensures.value c.next_place-first.ensures.end c.next_place-first.ensures.near

pub returns-clause-offset : goal.returns-clause-offset
returns-clause-offset c =
    let o = c.object_of-object.result in
    let few : o.untyped < 64 = omega (arith, c.object_of-object.ensures.fits.untyped, c.header_of.ensures.fitting.header.untypeds) in
    ap (λ (n : ℕ). n + c.next_place-first.result.0) c.from.ensures
    ∙ offset-is c.args.image.now c.args.number o c.args.self.now.used c.object_of-object.ensures.there few c.requires.used c.untyped_of-home.result
    c.bits_of.result c.next_place-first.result.0 c.untyped_of-home.ensures.there c.bits_of.ensures.value c.next_place-first.ensures.first

pub returns-clause-fits : goal.returns-clause-fits
returns-clause-fits c =
    let o = c.object_of-object.result in
    let few : o.untyped < 64 = omega (arith, c.object_of-object.ensures.fits.untyped, c.header_of.ensures.fitting.header.untypeds) in
    fits-is c.args.image.now c.args.number o c.args.self.now.used c.object_of-object.ensures.there few c.requires.used c.untyped_of-home.result
    c.bits_of.result c.next_place-first.result.1 c.power.result c.untyped_of-home.ensures.there c.bits_of.ensures.value c.next_place-first.ensures.end
    c.power.ensures.value
