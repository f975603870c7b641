-- What is left of the rules decides, and the set has the sources so far.
use Rattle.std.proofs.Common.{◌≡◌, drop, map, take}
use Rattle.std.specs.List.{enumerate_from}
use Rattle.model.specs.declared.refusals.Refusal.TheVariants.{BadCap}
use Rattle.model.specs.Acceptance.Rules.{first_broken, refuse_if}
use Rattle.model.specs.Acceptance.WellFormed.{does_not_fit}
use Rattle.model.specs.Images.Described.{numbered}
use Rattle.wellformed.specs.Answering.{AreNamed}
use Rattle.wellformed.proofs.capabilities.check_listed.Given as goal

abbrev pub invariant-loop-item : goal.invariant-loop-item
invariant-loop-item l = record {
  sources : AreNamed (λ c. c.source) (take l.item l.fn.image.capabilities) l.sources;
  left : first_broken (map (λ c. refuse_if (does_not_fit l.fn.image c) (BadCap c.0)) (enumerate_from l.item (drop l.item l.fn.image.capabilities)))
      ≡ first_broken (map (λ c. refuse_if (does_not_fit l.fn.image c) (BadCap c.0)) (numbered l.fn.image.capabilities));
}
