-- The capabilities that were passed map the frame no more where that goes along, and fewer are left each time.
use Rattle.std.proofs.Common.{◌≡◌, length}
use Rattle.model.proofs.Orders.{behind}
use Rattle.slots.specs.Listed.{naming}
use Rattle.vspace.specs.Kept.{SameBesideTables}
use Rattle.vspace.specs.Regions.{IsPartlyCleared, goes_along}
use Rattle.vspace.specs.Tables.{TablesAgree}
use Rattle.vspace.proofs.NamedSlots.{NamedSoFar}
use Rattle.vspace.proofs.regions.clear_named.Given as goal

abbrev pub invariant-slots : goal.invariant-slots
invariant-slots g l = record {
  named : NamedSoFar (goes_along l.extent l.region) (g.S.SlotStore.order l.store) (g.S.SlotMap.slots l.store) l.frame l.at;
  partly : IsPartlyCleared (goes_along l.extent l.region) (g.S.SlotMap.slots l.initial.store) (g.S.SlotMap.slots l.store);
  bytes : SameBesideTables (g.S.SlotMap.slots l.initial.store) (g.S.SlotStore.memory l.initial.store) (g.S.SlotStore.memory l.store);
  order : g.S.SlotStore.order l.store ≡ g.S.SlotStore.order l.initial.store;
  agree : TablesAgree (g.S.SlotMap.slots l.store) (g.S.SlotStore.memory l.store);
}

abbrev pub decreases-slots : goal.decreases-slots
decreases-slots g l = length (behind (naming (g.S.SlotStore.order l.store) (g.S.SlotMap.slots l.store) l.frame) l.at)
