-- The entry that is read says what capabilities map.
use Rattle.std.proofs.Common.{◌∙◌, sym, ap}
use Rattle.std.specs.Option.{is_some}
use Rattle.vspace.proofs.TableOutcomes.{pointer-free, pointer-taken}
use Rattle.vspace.proofs.page_tables.free_pointer.Goals as goal

pub returns-then-is_some : goal.returns-then-is_some
returns-then-is_some g c = record {
  answer = pointer-taken (g.S.SlotMap.slots c.args.store.now) (g.S.SlotStore.memory c.args.store.now) c.mem.result.now c.args.root c.args.region
      c.requires.agree c.requires.rooted c.requires.near c.mem.ensures (ap is_some (sym c.table_in.ensures.value) ∙ sym c.is_some.ensures ∙ c.if-is_some.true);
}

pub returns : goal.returns
returns g c = record {
  answer = pointer-free (g.S.SlotMap.slots c.args.store.now) (g.S.SlotStore.memory c.args.store.now) c.mem.result.now c.args.root c.args.region c.requires.agree
      c.requires.rooted c.requires.near c.mem.ensures (ap is_some (sym c.table_in.ensures.value) ∙ sym c.is_some.ensures ∙ c.if-is_some.false);
}
