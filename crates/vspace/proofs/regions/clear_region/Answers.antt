-- Each turn clears one entry more; a frame that is mapped in the region has its entry in the page table.
use Rattle.std.proofs.Common.{◌∙◌, inr, refl, arith}
use Rattle.vspace.proofs.BytesBeside.{beside-same, beside-then, fewer-less}
use Rattle.vspace.proofs.RegionEntries.{entries-next, none-inside}
use Rattle.vspace.proofs.Sweeps.{partly-less, partly-table, partly-then}
use Rattle.vspace.proofs.regions.clear_region.Goals as goal

pub entries-init : goal.entries-init
entries-init g c = record {
  partly = λ y. inr refl;
  passed = λ i less maps. omega (arith, less);
  bytes = beside-same (g.S.SlotMap.slots c.args.store.now) (g.S.SlotStore.memory c.args.store.now);
  order = refl;
  agree = c.requires.agree;
}

pub clear_entry-requires : goal.clear_entry-requires
clear_entry-requires g c = record {
  agree = c.entries.invariant.agree;
  mapped = (
    c.requires.mapped.0,
    partly-table c.args.extent c.args.region (g.S.SlotMap.slots c.args.store.now) (g.S.SlotMap.slots c.entries.store) c.entries.invariant.partly
        c.requires.mapped.0 c.args.table _ c.requires.mapped.1,
  );
  small = omega (arith, c.entries-test.true);
}

pub entries-preserved : goal.entries-preserved
entries-preserved g c =
    let old = g.S.SlotMap.slots c.args.store.now in
    let now = g.S.SlotMap.slots c.entries.store in
    let next = g.S.SlotMap.slots c.clear_entry.new.store in
    record {
      partly = partly-then c.args.extent c.args.region old now next c.entries.invariant.partly c.clear_entry.ensures.slots;
      passed = entries-next now next c.args.region (partly-less c.args.extent c.args.region now next c.clear_entry.ensures.slots) c.entries.number
          c.entries.invariant.passed c.clear_entry.ensures.entry;
      bytes = beside-then old now (g.S.SlotStore.memory c.args.store.now) (g.S.SlotStore.memory c.entries.store) (g.S.SlotStore.memory c.clear_entry.new.store)
          (fewer-less old now (partly-less c.args.extent c.args.region old now c.entries.invariant.partly)) c.entries.invariant.bytes
          c.clear_entry.ensures.bytes;
      order = c.clear_entry.ensures.order ∙ c.entries.invariant.order;
      agree = c.clear_entry.ensures.agree;
    }

pub returns-clause-none : goal.returns-clause-none
returns-clause-none g c =
    none-inside (g.S.SlotMap.slots c.entries.store) c.args.region (λ i less. c.entries.invariant.passed i (omega (arith, less, c.entries-test.false)))
