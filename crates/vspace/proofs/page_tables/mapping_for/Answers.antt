-- What the checks answer is what the definition gives.
use Rattle.std.proofs.Common.{◌∙◌, sym}
use Rattle.vspace.proofs.TableOutcomes.{gives-table, gives-taken}
use Rattle.vspace.proofs.page_tables.mapping_for.Goals as goal

pub returns-in-Ok : goal.returns-in-Ok
returns-in-Ok g c = record {
  answer = gives-table (g.S.SlotMap.slots c.args.store.now) (g.S.SlotStore.memory c.args.store.now) c.args.cspace c.args.table.slot c.args.table.offset
      c.args.table.mapping c.args.root c.args.address c.in_ok-root.root c.in_ok-region.region c.in-Ok.place c.requires.agree
      (sym c.is_some.ensures ∙ c.if-is_some.false) (sym c.in_ok-root.ensures.value) (sym c.in_ok-region.ensures.value) c.in_ok-region.ensures.near
      c.in-Ok.ensures.answer;
}

pub returns-in-Err : goal.returns-in-Err
returns-in-Err g c = record {
  answer = gives-taken (g.S.SlotMap.slots c.args.store.now) c.args.cspace c.args.table.slot c.args.table.offset c.args.table.mapping c.args.root c.args.address
      c.in_ok-root.root c.in_ok-region.region c.in-Err.error (sym c.is_some.ensures ∙ c.if-is_some.false) (sym c.in_ok-root.ensures.value)
      (sym c.in_ok-region.ensures.value) c.in-Err.ensures.answer;
}
