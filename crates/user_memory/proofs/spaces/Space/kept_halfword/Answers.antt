-- The second byte lies after the first, in the same page.
use Rattle.std.proofs.Common.{sym, arith}
use Rattle.objects.specs.Lives.{state_in}
use Rattle.user_memory.proofs.Halves.{second-named}
use Rattle.user_memory.proofs.spaces.Space.kept_halfword.Goals as goal

pub byte-requires-in-Some : goal.byte-requires-in-Some
byte-requires-in-Some g c =
    let space = c.args.self.now in
    second-named (state_in g.S.SlotMap.slots g.S.SlotStore.memory space.kernel.now) space.root c.args.access c.args.address c.in-Some.place
    c.if-address-ne0.false (omega (arith, c.ranges.address.fits)) (sym (c.kept_place.ensures c.in-Some.place c.in-Some.is))
