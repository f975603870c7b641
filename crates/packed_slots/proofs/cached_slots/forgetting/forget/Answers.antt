-- Where all is forgotten nothing is kept; and else no mapping is in the slot.
use Rattle.std.proofs.Common.{◌∙◌, sym}
use Rattle.packed_slots.proofs.cached_slots.Kept.{all-beside, none-beside}
use Rattle.packed_slots.proofs.cached_slots.forgetting.forget.Goals as goal

pub returns-then-maps_frame : goal.returns-then-maps_frame
returns-then-maps_frame g c = none-beside (g.S.SlotMap.slots c.args.store.now) c.args.slot c.flush.new.self c.flush.ensures.empty

pub returns-else-maps_frame : goal.returns-else-maps_frame
returns-else-maps_frame g c =
    all-beside (g.S.SlotMap.slots c.args.store.now) c.args.slot c.capability-capability.result c.args.cache.now c.capability-capability.ensures.value
    (sym c.maps_frame.ensures ∙ c.if-maps_frame.false) c.requires
