-- No frame is mapped at the entries that were passed.
use Rattle.std.proofs.Common.{ℕ, ◌≡◌, ◌<◌}
use Rattle.vspace.specs.Kept.{SameBesideTables}
use Rattle.vspace.specs.Regions.{IsPartlyCleared, goes_along}
use Rattle.vspace.specs.Tables.{TablesAgree}
use Rattle.vspace.proofs.RegionEntries.{MapsEntry}
use Rattle.vspace.proofs.regions.clear_region.Given as goal

abbrev pub invariant-entries : goal.invariant-entries
invariant-entries g l = record {
  partly : IsPartlyCleared (goes_along l.extent l.region) (g.S.SlotMap.slots l.initial.store) (g.S.SlotMap.slots l.store);
  passed : (i : ℕ) → i < l.number → MapsEntry (g.S.SlotMap.slots l.store) l.region i → ⊥;
  bytes : SameBesideTables (g.S.SlotMap.slots l.initial.store) (g.S.SlotStore.memory l.initial.store) (g.S.SlotStore.memory l.store);
  order : g.S.SlotStore.order l.store ≡ g.S.SlotStore.order l.initial.store;
  agree : TablesAgree (g.S.SlotMap.slots l.store) (g.S.SlotStore.memory l.store);
}
