-- No page is kept yet.
use Rattle.std.proofs.Common.{◌∙◌}
use Rattle.objects.specs.Lives.{state_in}
use Rattle.user_memory.proofs.PagePlaces.{none-own}
use Rattle.user_memory.proofs.code_pages.code_of.Goals as goal

pub returns : goal.returns
returns g c =
    none-own (state_in g.S.SlotMap.slots g.S.SlotStore.memory c.args.kernel.now) c.args.thread c.under-pages.result
    (c.under-pages.ensures.root ∙ c.root_of.ensures) c.under-pages.ensures.code c.under-pages.ensures.loads c.under-pages.ensures.stores
