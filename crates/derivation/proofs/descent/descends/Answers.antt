-- The test and the relation are one.
use Rattle.std.proofs.Common.{◌∙◌, sym}
use Rattle.model.proofs.Ancestors.{descendant-from_test, test-from_descendant}
use Rattle.derivation.proofs.descent.descends.Goals as goal

pub returns-clause-value : goal.returns-clause-value
returns-clause-value g c =
    let test = c.descends.ensures.test in (
      λ yes. descendant-from_test _ _ _ _ (sym test ∙ yes),
      λ descends. test ∙ test-from_descendant _ _ _ c.descends.ensures.derivation descends,
    )
