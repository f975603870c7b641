-- Their keys rise.
use Rattle.std.proofs.Common.{List, map, subst, sym}
use Rattle.model.specs.declared.entries.CapabilityEntry.{CapabilityEntry}
use Rattle.model.specs.Images.Image.{pair_key}
use Rattle.image_reading.specs.image_entries.Keys.{DoRise}
use Rattle.image_reading.proofs.image_entries.Places.{keys-rise}
use Rattle.image_reading.proofs.image_entries.keys.cnode_place.Goals as goal

pub place_of-requires : goal.place_of-requires
place_of-requires c =
    subst (λ (xs : List CapabilityEntry). DoRise (map (λ x. pair_key x.cnode x.index) xs)) (sym c.capabilities.ensures)
    (keys-rise (λ x. pair_key x.cnode x.index) c.args.image.now.capabilities c.header_of.ensures.fitting.slots_rise)
