-- No capability is mapped at the entry, or those that name its frame were gone over.
use Rattle.std.proofs.Common.{◌≡◌, inr, None, Some, refl}
use Rattle.model.specs.Capabilities.Slots.{Slots}
use Rattle.vspace.proofs.RegionEntries.{entry-found, entry-free, entry-naming}
use Rattle.vspace.proofs.Sweeps.{partly-less}
use Rattle.vspace.proofs.regions.clear_entry.Goals as goal

pub returns-in_default-clause-slots : goal.returns-in_default-clause-slots
returns-in_default-clause-slots g c = λ y. inr refl

pub returns-in_default-clause-entry : goal.returns-in_default-clause-entry
returns-in_default-clause-entry g c = λ maps. let clash : None ≡ Some maps.frame = c.in_default.ensures.named maps in absurd cc

pub returns-clause-entry : goal.returns-clause-entry
returns-clause-entry g c = λ maps.
    let old : Slots = g.S.SlotMap.slots c.args.store.now in
    let next : Slots = g.S.SlotMap.slots c.clear_named.new.store in
    let less = partly-less c.args.extent c.args.region old next c.clear_named.ensures.slots in
    let found : Some c.in-Some.frame ≡ Some maps.frame =
    entry-found old next c.args.region less c.args.number (Some c.in-Some.frame) c.in-Some.ensures.named maps in
    let same : c.in-Some.frame ≡ maps.frame = cc in
    entry-free next c.args.extent c.args.region c.args.number c.requires.small maps
    (c.clear_named.ensures.named maps.slot (entry-naming next c.args.region c.args.number c.in-Some.frame maps same))
