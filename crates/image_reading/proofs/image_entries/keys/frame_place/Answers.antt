-- Their keys rise.
use Rattle.std.proofs.Common.{List, map, subst, sym}
use Rattle.model.specs.declared.entries.FrameEntry.{FrameEntry}
use Rattle.model.specs.Images.Image.{pair_key}
use Rattle.image_reading.specs.image_entries.Keys.{DoRise}
use Rattle.image_reading.proofs.image_entries.Places.{keys-rise}
use Rattle.image_reading.proofs.image_entries.keys.frame_place.Goals as goal

pub place_of-requires : goal.place_of-requires
place_of-requires c =
    subst (λ (xs : List FrameEntry). DoRise (map (λ x. pair_key x.root x.address) xs)) (sym c.frames.ensures)
    (keys-rise (λ x. pair_key x.root x.address) c.args.image.now.frames c.header_of.ensures.fitting.pages_rise)
