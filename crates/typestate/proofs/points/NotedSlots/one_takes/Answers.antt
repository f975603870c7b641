-- Those that are named with the page are enough.
use Rattle.std.proofs.Common.{ℕ, ◌∙◌, Bool, Option, List, [], Bor, ap, subst}
use Rattle.std.specs.List.{list_any}
use Rattle.std.specs.Option.{option_map_or}
use Rattle.model.specs.Acceptance.NotedStates.{NotedSlot}
use Rattle.typestate.specs.Pages.{ArePaged}
use Rattle.typestate.specs.declared.mapped_pages.MappedPages.{MappedPages}
use Rattle.typestate.specs.declared.points.NotedSlots.{NotedSlots}
use Rattle.typestate.proofs.PagedChanges.{any-at-page, takes, takes-at-page, passes_at}
use Rattle.typestate.proofs.points.NotedSlots.one_takes.Goals as goal

abbrev PagedBy : List NotedSlot → Option (Bor MappedPages) → Type 0
PagedBy changes pages = ArePaged changes (option_map_or (λ p. p.now.slots.keys) pages [])

pub returns-in_default : goal.returns-in_default
returns-in_default c =
    let n : NotedSlots = c.args.self.now in
    any-at-page (takes c.args.root c.args.page) n.changes.now c.args.page [] n.ordered (subst (PagedBy n.changes.now) c.in_default.is n.paged)
    (takes-at-page c.args.root c.args.page)

pub loop-slot-init : goal.loop-slot-init
loop-slot-init c =
    let n : NotedSlots = c.args.self.now in
    let test : NotedSlot → Bool = takes c.args.root c.args.page in
    ap (λ (l : List (ℕ × ℕ)). list_any (passes_at test n.changes.now) l) (c.into_iter-slot-iterator.ensures.into_iter_gives ∙ c.at-slot-items.ensures)
    ∙ any-at-page test n.changes.now c.args.page c.in-Some.pages.now.slots.keys n.ordered (subst (PagedBy n.changes.now) c.in-Some.is n.paged)
    (takes-at-page c.args.root c.args.page)
