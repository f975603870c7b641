-- What is left of the rules decides.
use Rattle.std.proofs.Common.{◌≡◌, ◌+◌, drop, map}
use Rattle.std.specs.List.{enumerate_from}
use Rattle.model.specs.declared.refusals.Refusal.TheVariants.{BadCap}
use Rattle.model.specs.Acceptance.Rules.{first_broken, refuse_if}
use Rattle.model.specs.Acceptance.WellFormed.{signals_nothing}
use Rattle.model.specs.Images.Described.{numbered}
use Rattle.wellformed.proofs.capabilities.check_interrupts.Given as goal

abbrev pub invariant-loop-number : goal.invariant-loop-number
invariant-loop-number l =
    first_broken (map (λ i. refuse_if (signals_nothing l.fn.image i.1) (BadCap (l.fn.image.header.capabilities + i.0)))
    (enumerate_from l.number (drop l.number l.fn.image.interrupts)))
    ≡ first_broken (map (λ i. refuse_if (signals_nothing l.fn.image i.1) (BadCap (l.fn.image.header.capabilities + i.0))) (numbered l.fn.image.interrupts))
