-- The one mapping at the page decides.
use Rattle.std.proofs.Common.{◌∙◌, ◌*◌, ◌==◌, ◌&&◌, Bool, false, Option, sym, ap}
use Rattle.std.specs.List.{list_any}
use Rattle.std.specs.Option.{option_map_or}
use Rattle.model.specs.declared.entries.FrameEntry.{FrameEntry}
use Rattle.model.specs.declared.entries.ThreadHeader.{ThreadHeader}
use Rattle.model.specs.declared.rights.Rights.{Rights}
use Rattle.model.specs.Capabilities.Rights.{rights}
use Rattle.model.specs.Kernel.AddressSpaces.{allows}
use Rattle.program_rules.proofs.point_rules.listed_pages.is_listed.Goals as goal

pub returns-in-Some : goal.returns-in-Some
returns-in-Some c =
    let usable : FrameEntry → Bool = λ f. allows c.args.access (rights f.rights) in
    let frames = c.args.image.now.frames in
    let found = c.frame_at.ensures.only usable ∙ ap (λ (f : Option FrameEntry). option_map_or usable f false) c.in-Some.is in
    c.allows.ensures ∙ ap (λ (r : Rights). allows c.args.access r) c.rights_of.ensures ∙ sym found
    ∙ ap (λ (h : ThreadHeader). list_any (λ f. f.root == h.root && (f.address == c.args.page.number * 4096) && usable f) frames) c.header-root.ensures

pub returns-in-None : goal.returns-in-None
returns-in-None c =
    let usable : FrameEntry → Bool = λ f. allows c.args.access (rights f.rights) in
    let frames = c.args.image.now.frames in
    let found = c.frame_at.ensures.only usable ∙ ap (λ (f : Option FrameEntry). option_map_or usable f false) c.in-None.is in
    sym found ∙ ap (λ (h : ThreadHeader). list_any (λ f. f.root == h.root && (f.address == c.args.page.number * 4096) && usable f) frames) c.header-root.ensures
