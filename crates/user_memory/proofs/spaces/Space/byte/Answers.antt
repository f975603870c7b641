-- A byte that is named lies in memory.
use Rattle.std.proofs.Common.{ℕ, ◌∙◌, ◌<◌, List, length, ap, subst, sym}
use Rattle.std.specs.Prelude.{slice_index}
use Rattle.objects.specs.Lives.{state_in}
use Rattle.user_memory.proofs.Reading.{byte-seen, named-inside}
use Rattle.user_memory.proofs.spaces.Space.byte.Goals as goal

pub read8-requires : goal.read8-requires
read8-requires g c =
    let of_kernel = c.live.view_is ∙ c.kernel.view_is in
    let space = c.args.self.now in
    let bytes = c.mem.ensures ∙ ap (λ k. g.S.SlotStore.memory k.store) of_kernel in
    subst (λ (memory : List ℕ). c.args.place < length memory) (sym bytes)
    (named-inside (state_in g.S.SlotMap.slots g.S.SlotStore.memory space.kernel.now) (g.S.SlotStore.memory space.kernel.now.store) space.root space.usable
    c.args.place c.requires)

pub returns : goal.returns
returns g c =
    let of_kernel = c.live.view_is ∙ c.kernel.view_is in
    let space = c.args.self.now in
    let bytes = c.mem.ensures ∙ ap (λ k. g.S.SlotStore.memory k.store) of_kernel in
    c.read8.ensures ∙ ap (λ (memory : List ℕ). slice_index memory c.args.place) bytes
    ∙ byte-seen space.kernel.now.tables (g.S.SlotMap.slots space.kernel.now.store) (g.S.SlotStore.memory space.kernel.now.store) space.root c.args.place
    space.usable c.requires
