-- The table itself has no mapping, and no page table is mapped for the regions that were passed.
use Rattle.std.proofs.Common.{ℕ, ◌≡◌, ◌<◌}
use Rattle.vspace.specs.Endings.{Ending, HasEnded}
use Rattle.vspace.specs.Kept.{SameBesideTables}
use Rattle.vspace.specs.Tables.{MapsTable, TablesAgree}
use Rattle.vspace.proofs.endings.end_tables.Given as goal

abbrev pub invariant-regions : goal.invariant-regions
invariant-regions g l = record {
  ending : Ending l.offset (g.S.SlotMap.slots l.fn.store) (g.S.SlotMap.slots l.store);
  itself : HasEnded (g.S.SlotMap.slots l.store) l.offset l.offset;
  passed : (region : ℕ) → region < l.region → (table : ℕ) → MapsTable (g.S.SlotMap.slots l.store) l.offset region table → ⊥;
  bytes : SameBesideTables (g.S.SlotMap.slots l.fn.store) (g.S.SlotStore.memory l.fn.store) (g.S.SlotStore.memory l.store);
  order : g.S.SlotStore.order l.store ≡ g.S.SlotStore.order l.fn.store;
  agree : TablesAgree (g.S.SlotMap.slots l.store) (g.S.SlotStore.memory l.store);
}
