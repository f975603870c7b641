-- What is kept of a page is what the walk finds.
use Rattle.std.proofs.Common.{◌≡◌, ◌∙◌, Some, Ok, refl, sym, ap, arith}
use Rattle.std.specs.Option.{ok_or}
use Rattle.model.specs.Machine.Sv32.{page_fault, walk}
use Rattle.objects.specs.Lives.{state_in}
use Rattle.user_memory.proofs.Leaves.{kernel-leaves}
use Rattle.user_memory.proofs.Reading.{walk-ok}
use Rattle.user_memory.proofs.spaces.Space.kept_place.Goals as goal

pub kept_place-requires : goal.kept_place-requires
kept_place-requires g c =
    let of_kernel = c.live.view_is ∙ c.kernel.view_is in
    let space = c.args.self.now in
    kernel-leaves g.S.SlotMap.slots g.S.SlotStore.memory space.root c.in-Some.root of_kernel space.usable c.in-Some.is

pub returns-in-Some : goal.returns-in-Some
returns-in-Some g c =
    let of_kernel = c.live.view_is ∙ c.kernel.view_is in
    λ place gives.
    let space = c.args.self.now in
    let walks : walk (g.S.SlotStore.memory space.kernel.now.store) c.in-Some.root c.args.address c.args.access ≡ Some place =
    ap (λ k. walk (g.S.SlotStore.memory k.store) c.in-Some.root c.args.address c.args.access) (sym of_kernel) ∙ c.kept_place.ensures place gives in
    walk-ok (state_in g.S.SlotMap.slots g.S.SlotStore.memory space.kernel.now) (g.S.SlotStore.memory space.kernel.now.store)
    space.root c.in-Some.root c.args.address c.args.access space.usable c.in-Some.is (omega (arith, c.ranges.address.fits)) (Ok place) place
    (sym (ap (λ o. ok_or o page_fault) walks)) refl
