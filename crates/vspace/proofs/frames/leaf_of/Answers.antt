-- A frame that is mapped has its leaf in the page table that the root table names.
use Rattle.std.proofs.Common.{◌∙◌, ◌+◌, ◌*◌, ◌%◌, ◌^◌, Option, Some, sym, refl, subst, arith}
use Rattle.model.specs.declared.capabilities.FrameMapping.{FrameMapping}
use Rattle.vspace.specs.Answers.{LeafAnswer}
use Rattle.vspace.proofs.Places.{entry-near, leaf-here, leaf-none, table-stands}
use Rattle.vspace.proofs.frames.leaf_of.Goals as goal

pub returns-in_default : goal.returns-in_default
returns-in_default g c = record {
  place = absurd (leaf-none (g.S.SlotMap.slots c.args.store.now) (g.S.SlotStore.memory c.args.store.now) c.mem.result.now c.args.frame.slot c.args.frame.offset
      c.args.frame.rights c.args.frame.mapping c.in_ok-mapping.mapping c.requires.agree c.requires.held c.in_ok-mapping.was c.mem.ensures
      (sym c.table_in.ensures.value ∙ c.in_default.is));
}

pub overflow_cast-result : goal.overflow_cast-result
overflow_cast-result g c =
    let maps = leaf-here (g.S.SlotMap.slots c.args.store.now) (g.S.SlotStore.memory c.args.store.now) c.mem.result.now c.args.frame.slot c.args.frame.offset
    c.args.frame.rights c.args.frame.mapping c.in_ok-mapping.mapping c.in-Some.table c.requires.agree c.requires.held c.in_ok-mapping.was c.mem.ensures
    (sym c.table_in.ensures.value ∙ c.in-Some.is) in
    let stands = table-stands (g.S.SlotMap.slots c.args.store.now) (g.S.SlotStore.memory c.args.store.now) _ _ c.in-Some.table c.requires.agree maps in
    omega (
      arith,
      entry-near (g.S.SlotMap.slots c.args.store.now) (g.S.SlotStore.memory c.args.store.now) c.mem.result.now c.in-Some.table 0 stands
          c.mem.ensures c.table_in.ensures.size (omega arith),
    )

pub overflow_add-result : goal.overflow_add-result
overflow_add-result g c =
    let maps = leaf-here (g.S.SlotMap.slots c.args.store.now) (g.S.SlotStore.memory c.args.store.now) c.mem.result.now c.args.frame.slot c.args.frame.offset
    c.args.frame.rights c.args.frame.mapping c.in_ok-mapping.mapping c.in-Some.table c.requires.agree c.requires.held c.in_ok-mapping.was c.mem.ensures
    (sym c.table_in.ensures.value ∙ c.in-Some.is) in
    let stands = table-stands (g.S.SlotMap.slots c.args.store.now) (g.S.SlotStore.memory c.args.store.now) _ _ c.in-Some.table c.requires.agree maps in
    omega (
      arith,
      entry-near (g.S.SlotMap.slots c.args.store.now) (g.S.SlotStore.memory c.args.store.now) c.mem.result.now c.in-Some.table
          (c.in_ok-mapping.mapping.page % 2 ^ 10) stands c.mem.ensures c.table_in.ensures.size (omega arith),
    )

pub returns : goal.returns
returns g c =
    let m = c.in_ok-mapping.mapping in
    let maps = leaf-here (g.S.SlotMap.slots c.args.store.now) (g.S.SlotStore.memory c.args.store.now) c.mem.result.now c.args.frame.slot c.args.frame.offset
    c.args.frame.rights c.args.frame.mapping c.in_ok-mapping.mapping c.in-Some.table c.requires.agree c.requires.held c.in_ok-mapping.was c.mem.ensures
    (sym c.table_in.ensures.value ∙ c.in-Some.is) in
    record {
      place = subst (λ (o : Option FrameMapping). LeafAnswer (g.S.SlotMap.slots c.args.store.now) o (Some (c.in-Some.table + 4 * (m.page % 2 ^ 10))))
          (sym c.in_ok-mapping.was) (c.in-Some.table, maps, refl);
    }
