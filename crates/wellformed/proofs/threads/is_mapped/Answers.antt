-- By one page more.
use Rattle.std.proofs.Common.{◌≡◌, ◌∙◌, ◌+◌, ◌-◌, ◌*◌, ◌/◌, ◌<◌, false, true, sym, ap, subst}
use Rattle.std.specs.Option.{option_map_or}
use Rattle.model.specs.declared.entries.ThreadHeader.{ThreadHeader}
use Rattle.model.specs.Acceptance.ThreadRules.{is_code}
use Rattle.model.specs.Acceptance.WellFormed.{executes}
use Rattle.model.specs.Images.Fills.{frame_at}
use Rattle.model.specs.Kernel.AddressSpaces.{page_size}
use Rattle.wellformed.proofs.ThreadSteps.{page-passes}
use Rattle.wellformed.proofs.threads.is_mapped.Goals as goal

pub loop-page-preserved : goal.loop-page-preserved
loop-page-preserved c =
    let image = c.args.image.now in
    let t = c.args.thread.now in
    let k = c.loop-page.page in
    let below : k < (4 * t.header.words + (page_size - 1)) / page_size =
    subst (λ (h : ThreadHeader). k < (4 * h.words + (page_size - 1)) / page_size) c.header-header.ensures c.loop-page-test.true in
    let code : is_code image t (t.header.base + k * page_size) ≡ true =
    sym (c.is_code.ensures ∙ ap (λ (h : ThreadHeader). option_map_or executes (frame_at image h.root (h.base + k * page_size)) false) c.header-header.ensures)
    ∙ c.if-not-is_code.false in
    page-passes (is_code image t) (λ page. t.header.base + page * page_size) k ((4 * t.header.words + (page_size - 1)) / page_size) _ below code
    c.loop-page.invariant
