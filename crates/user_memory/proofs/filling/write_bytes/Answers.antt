-- One byte more is where it was written.
use Rattle.std.proofs.Common.{◌∙◌, refl, arith}
use Rattle.std.specs.Prelude.{slice_index}
use Rattle.user_memory.proofs.BytesMore.{byte-more}
use Rattle.user_memory.proofs.filling.write_bytes.Goals as goal

pub bytes-preserved : goal.bytes-preserved
bytes-preserved g l = record {
  slots = l.write8.ensures.slots ∙ l.bytes.invariant.slots;
  written =
      byte-more (g.S.SlotStore.memory l.args.store.now) (g.S.SlotStore.memory l.bytes.store) (g.S.SlotStore.memory l.write8.new.self) l.args.offset
      l.bytes.index
      (slice_index l.args.bytes.now l.bytes.index) l.args.bytes.now
      (omega (arith, l.requires.within, l.requires.most, l.bytes.invariant.written.size, l.bytes-test.true)) l.write8.ensures.bytes refl
      l.bytes.invariant.written;
}
