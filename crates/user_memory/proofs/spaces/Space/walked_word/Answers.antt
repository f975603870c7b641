-- The four bytes lie in one page.
use Rattle.std.proofs.Common.{ℕ, ◌∙◌, ◌+◌, ◌≤◌, List, Ok, length, ap, arith, subst, sym}
use Rattle.model.specs.Shared.Bytes.{word_at}
use Rattle.objects.specs.Lives.{state_in}
use Rattle.user_memory.proofs.Words.{word-inside, word-loaded}
use Rattle.user_memory.proofs.spaces.Space.walked_word.Goals as goal

pub read32-requires : goal.read32-requires
read32-requires g c =
    let of_kernel = c.live.view_is ∙ c.kernel.view_is in
    let space = c.args.self.now in
    let bytes = c.mem.ensures ∙ ap (λ k. g.S.SlotStore.memory k.store) of_kernel in
    subst (λ (memory : List ℕ). c.in-Ok.place + 4 ≤ length memory) (sym bytes)
    (word-inside (state_in g.S.SlotMap.slots g.S.SlotStore.memory space.kernel.now) (g.S.SlotStore.memory space.kernel.now.store)
    space.root space.usable c.args.access c.args.address c.in-Ok.place c.if-address-ne0.false (omega (arith, c.ranges.address.fits))
    (sym c.walked_place.ensures ∙ c.in-Ok.is))

pub returns-in-Ok : goal.returns-in-Ok
returns-in-Ok g c =
    let of_kernel = c.live.view_is ∙ c.kernel.view_is in
    let space = c.args.self.now in
    let bytes = c.mem.ensures ∙ ap (λ k. g.S.SlotStore.memory k.store) of_kernel in
    ap Ok (c.read32.ensures ∙ ap (λ (memory : List ℕ). word_at memory c.in-Ok.place) bytes)
    ∙ word-loaded space.kernel.now.tables (g.S.SlotMap.slots space.kernel.now.store) (g.S.SlotStore.memory space.kernel.now.store)
    space.root c.args.access c.args.address c.in-Ok.place space.usable c.if-address-ne0.false (omega (arith, c.ranges.address.fits))
    (sym c.walked_place.ensures ∙ c.in-Ok.is)
