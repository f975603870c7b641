use Rattle.std.proofs.Common.{◌<◌, List, length, slice_get, sym, ap, ◌∙◌, arith}
use Rattle.model.specs.Images.Image.{Image, Thread, slots_format, thread_format}
use Rattle.image_reading.specs.Sections.{threads_format}
use Rattle.image_reading.proofs.EntryLists.{list_length, not_past}
use Rattle.image_reading.proofs.reading.ImageRef.thread.Goals as goal

pub unreachable-requires : goal.unreachable-requires
unfolding threads_format
unreachable-requires c =
    let i = c.self.inside in
    let image = c.args.self.now in
    let many = list_length (λ _. thread_format (slots_format i.header.objects) i.header.version i.header.objects) (λ _. 0) 0 i.header.threads i.bytes.now
    i.threads_at
    c.self.invariant.threads_end in
    let inside : c.args.number < length image.threads =
    omega (arith, c.requires, many, ap (λ (x : Image). x.header.threads) c.self.view_is, ap (λ (x : Image). length x.threads) c.self.view_is) in
    not_past image.threads c.args.number inside (ap (λ (l : List Thread). slice_get l c.loop-thread.before) (sym c.in-None.ensures.steps.0)
    ∙ c.loop-thread.invariant)
