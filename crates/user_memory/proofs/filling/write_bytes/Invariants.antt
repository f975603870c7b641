-- So many bytes are written.
use Rattle.std.proofs.Common.{◌≡◌}
use Rattle.user_memory.specs.Fills.{AreWritten}
use Rattle.user_memory.proofs.filling.write_bytes.Given as goal

abbrev pub invariant-bytes : goal.invariant-bytes
invariant-bytes g l = record {
  slots : g.S.SlotMap.slots l.store ≡ g.S.SlotMap.slots l.fn.store;
  written : AreWritten (g.S.SlotStore.memory l.fn.store) (g.S.SlotStore.memory l.store) l.fn.offset l.index l.fn.bytes;
}
