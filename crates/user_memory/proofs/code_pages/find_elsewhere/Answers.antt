-- To keep a leaf changes nothing, and the page around a place that is found is the thread's.
use Rattle.std.proofs.Common.{◌≡◌, ◌∙◌, Ok, ap, subst, sym}
use Rattle.cnode_ops.proofs.Laws.{whole-of}
use Rattle.model.specs.Kernel.AddressSpaces.{content_of}
use Rattle.model.specs.Machine.ProgramMemory.{place_at}
use Rattle.objects.specs.Lives.{state_in}
use Rattle.user_memory.proofs.Leaves.{kernel-leaves}
use Rattle.user_memory.proofs.PagePlaces.{is-page, own-more}
use Rattle.user_memory.proofs.Running.{kept-parts, root-inside, usable-kept, usable-kernel}
use Rattle.user_memory.specs.KeptPages.{AreOwn}
use Rattle.user_memory.specs.Views.{content_under}
use Rattle.user_memory.specs.declared.pages.Pages.{Pages}
use Rattle.user_memory.proofs.code_pages.find_elsewhere.Goals as goal

pub keep_page-requires : goal.keep_page-requires
keep_page-requires g c =
    let slots = g.S.SlotMap.slots in
    let memory = g.S.SlotStore.memory in
    let whole = whole-of slots memory c.live.inside.objects c.live.inside.store c.kernel.invariant c.live.view_is c.live.invariant in
    let of_kernel = c.live.view_is ∙ c.kernel.view_is in
    let root = c.args.pages.now.root in
    λ table is. kernel-leaves slots memory root table of_kernel
    (usable-kernel slots memory c.args.thread root of_kernel whole (root-inside slots memory c.args.thread root of_kernel c.requires.root)) is

pub invariant_of-space : goal.invariant_of-space
invariant_of-space g c =
    let slots = g.S.SlotMap.slots in
    let memory = g.S.SlotStore.memory in
    let whole = whole-of slots memory c.live.inside.objects c.live.inside.store c.kernel.invariant c.live.view_is c.live.invariant in
    let of_kernel = c.live.view_is ∙ c.kernel.view_is in
    let root = c.args.pages.now.root in
    record {
      usable = usable-kept slots memory c.args.thread root c.keep_page.ensures whole (root-inside slots memory c.args.thread root of_kernel c.requires.root);
    }

pub returns-in-Some-clause-pages : goal.returns-in-Some-clause-pages
returns-in-Some-clause-pages g c =
    let slots = g.S.SlotMap.slots in
    let memory = g.S.SlotStore.memory in
    let of_kernel = c.live.view_is ∙ c.kernel.view_is in
    let s = state_in slots memory c.args.kernel.now in
    let pages = c.args.pages.now in
    let place = c.in_ok-place.place in
    let found : Ok place ≡ place_at (content_of s c.args.thread) c.args.access c.args.address = c.kept_place.ensures place c.in_ok-place.was
    ∙ ap (λ k. place_at (content_under (state_in slots memory k) pages.root) c.args.access c.args.address) (kept-parts c.keep_page.ensures of_kernel)
    ∙ ap (λ root. place_at (content_under s root) c.args.access c.args.address) c.requires.root in
    subst (λ (p : Pages). AreOwn s c.args.thread p) (sym c.keep.ensures)
    (own-more s c.args.thread pages c.requires c.args.access c.in-Some.page
    (is-page s c.args.thread c.args.access c.args.address place c.in-Some.page found c.in-Some.ensures))
