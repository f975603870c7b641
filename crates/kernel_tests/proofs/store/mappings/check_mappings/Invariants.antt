-- Tables and mappings agree.
use Rattle.slots.specs.Table.{table_slots}
use Rattle.vspace.specs.Tables.{TablesAgree}
use Rattle.kernel_tests.proofs.store.mappings.check_mappings.Given as goal

abbrev pub invariant-rows : goal.invariant-rows
invariant-rows g l = TablesAgree (table_slots l.store.1) l.store.0
