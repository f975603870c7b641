-- By the tables that are left.
use Rattle.std.proofs.Common.{◌∙◌, inr, sym}
use Rattle.model.specs.declared.refusals.Refusal.TheVariants.{BadMapping}
use Rattle.model.specs.Acceptance.WellFormed.{misplaces_table}
use Rattle.wellformed.proofs.Named.{named-next}
use Rattle.wellformed.proofs.RulesLeft.{next_broken, next_kept}
use Rattle.wellformed.proofs.mappings.check_tables.Goals as goal

pub misplaces_table-requires : goal.misplaces_table-requires
misplaces_table-requires c = c.loop-item.invariant.mapped.is c.table-entry.result.table

pub returns-then-misplaces_table : goal.returns-then-misplaces_table
returns-then-misplaces_table c =
    let image = c.args.image.now in
    inr (next_broken (misplaces_table image) (λ k. BadMapping k) image.tables c.loop-item.item c.table-entry.result _ c.table-entry.ensures
    (sym c.misplaces_table.ensures ∙ c.if-misplaces_table.true) c.loop-item.invariant.left)

pub loop-item-preserved : goal.loop-item-preserved
loop-item-preserved c =
    let image = c.args.image.now in
    let n = c.loop-item.item in
    record {
      mapped = named-next (λ x. x.table) image.tables n c.table-entry.result c.loop-item.mapped c.insert.new.self c.table-entry.ensures
          c.in_ok-insert.ensures.put c.loop-item.invariant.mapped;
      left = next_kept (misplaces_table image) (λ k. BadMapping k) image.tables n c.table-entry.result _ c.table-entry.ensures
          (sym c.misplaces_table.ensures ∙ c.if-misplaces_table.false) c.loop-item.invariant.left;
    }
