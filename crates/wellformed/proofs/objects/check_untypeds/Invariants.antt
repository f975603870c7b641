-- What is left of the rules decides, and the end of the untyped before is known.
use Rattle.std.proofs.Common.{◌≡◌, drop, map}
use Rattle.std.specs.List.{enumerate_from}
use Rattle.model.specs.declared.refusals.Refusal.TheVariants.{UntypedOverlap}
use Rattle.model.specs.Acceptance.Rules.{first_broken, refuse_if}
use Rattle.model.specs.Acceptance.WellFormed.{end_before, overlaps}
use Rattle.model.specs.Images.Described.{numbered}
use Rattle.wellformed.proofs.objects.check_untypeds.Given as goal

abbrev pub invariant-loop-number : goal.invariant-loop-number
invariant-loop-number l = record {
  before : l.before ≡ end_before l.fn.image l.number;
  left : first_broken (map (λ u. refuse_if (overlaps l.fn.image u) (UntypedOverlap u.0)) (enumerate_from l.number (drop l.number l.fn.image.untypeds)))
      ≡ first_broken (map (λ u. refuse_if (overlaps l.fn.image u) (UntypedOverlap u.0)) (numbered l.fn.image.untypeds));
}
