use Rattle.std.proofs.Common.{◌<◌, ◌+◌, List, length, slice_get, Result, is_ok, ℕ, sym, ap, ◌∙◌, arith}
use Rattle.model.specs.declared.refusals.Refusal.{Refusal}
use Rattle.model.specs.Images.Image.{Image, ImageContent, content_format}
use Rattle.image_reading.specs.Sections.{contents_format}
use Rattle.image_reading.proofs.EntryLists.{list_length, not_past}
use Rattle.image_reading.proofs.reading.ImageRef.content.Goals as goal

pub unreachable-requires : goal.unreachable-requires
unfolding contents_format
unreachable-requires c =
    let i = c.self.inside in
    let image = c.args.self.now in
    let many = list_length (content_format i.header.objects) (λ x. x.header.frame + 1) 0 i.header.contents i.bytes.now i.contents_at
    (ap (λ (r : Result ℕ Refusal). is_ok r) c.self.invariant.contents_end) in
    let inside : c.args.number < length image.contents =
    omega (arith, c.requires, many, ap (λ (x : Image). x.header.contents) c.self.view_is, ap (λ (x : Image). length x.contents) c.self.view_is) in
    not_past image.contents c.args.number inside (ap (λ (l : List ImageContent). slice_get l c.loop-content.before) (sym c.in-None.ensures.steps.0)
    ∙ c.loop-content.invariant)
