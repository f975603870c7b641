-- The walk finds what the mappings say.
use Rattle.std.proofs.Common.{◌∙◌, ap, arith}
use Rattle.std.specs.Option.{ok_or}
use Rattle.model.specs.Machine.Sv32.{page_fault, walk}
use Rattle.objects.specs.Lives.{state_in}
use Rattle.user_memory.proofs.Leaves.{kernel-leaves}
use Rattle.user_memory.proofs.Reading.{walk-err, walk-ok}
use Rattle.user_memory.proofs.spaces.Space.walked_place.Goals as goal

pub walk-requires : goal.walk-requires
walk-requires g c =
    let of_kernel = c.live.view_is ∙ c.kernel.view_is in
    let space = c.args.self.now in
    kernel-leaves g.S.SlotMap.slots g.S.SlotStore.memory space.root c.in-Some.root of_kernel space.usable c.in-Some.is

pub returns-in-Ok : goal.returns-in-Ok
returns-in-Ok g c =
    let of_kernel = c.live.view_is ∙ c.kernel.view_is in
    let space = c.args.self.now in
    walk-ok (state_in g.S.SlotMap.slots g.S.SlotStore.memory space.kernel.now) (g.S.SlotStore.memory space.kernel.now.store)
    space.root c.in-Some.root c.args.address c.args.access space.usable c.in-Some.is (omega (arith, c.ranges.address.fits)) c.walk.result c.in-Ok.place
    (c.walk.ensures ∙ ap (λ k. ok_or (walk (g.S.SlotStore.memory k.store) c.in-Some.root c.args.address c.args.access) page_fault) of_kernel) c.in-Ok.is

pub returns-in-Err : goal.returns-in-Err
returns-in-Err g c =
    let of_kernel = c.live.view_is ∙ c.kernel.view_is in
    let space = c.args.self.now in
    walk-err (state_in g.S.SlotMap.slots g.S.SlotStore.memory space.kernel.now) (g.S.SlotStore.memory space.kernel.now.store)
    space.root c.in-Some.root c.args.address c.args.access space.usable c.in-Some.is (omega (arith, c.ranges.address.fits)) c.walk.result c.in-Err.field-0
    (c.walk.ensures ∙ ap (λ k. ok_or (walk (g.S.SlotStore.memory k.store) c.in-Some.root c.args.address c.args.access) page_fault) of_kernel) c.in-Err.is
