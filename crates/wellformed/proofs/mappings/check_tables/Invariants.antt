-- What is left of the rules decides, and the set has the page tables so far.
use Rattle.std.proofs.Common.{◌≡◌, drop, map, take}
use Rattle.std.specs.List.{enumerate_from}
use Rattle.model.specs.declared.refusals.Refusal.TheVariants.{BadMapping}
use Rattle.model.specs.Acceptance.Rules.{first_broken, refuse_if}
use Rattle.model.specs.Acceptance.WellFormed.{misplaces_table}
use Rattle.model.specs.Images.Described.{numbered}
use Rattle.wellformed.specs.Answering.{AreNamed}
use Rattle.wellformed.proofs.mappings.check_tables.Given as goal

abbrev pub invariant-loop-item : goal.invariant-loop-item
invariant-loop-item l = record {
  mapped : AreNamed (λ t. t.table) (take l.item l.fn.image.tables) l.mapped;
  left : first_broken (map (λ t. refuse_if (misplaces_table l.fn.image t) (BadMapping t.0)) (enumerate_from l.item (drop l.item l.fn.image.tables)))
      ≡ first_broken (map (λ t. refuse_if (misplaces_table l.fn.image t) (BadMapping t.0)) (numbered l.fn.image.tables));
}
