-- What is left of the rules decides.
use Rattle.std.proofs.Common.{◌≡◌, ◌+◌, length, map}
use Rattle.std.specs.List.{enumerate_from}
use Rattle.model.specs.Acceptance.Rules.{first_broken}
use Rattle.model.specs.Acceptance.WellFormed.{promise_rule}
use Rattle.model.specs.Images.Described.{numbered}
use Rattle.wellformed.proofs.mappings.check_promises.Given as goal

abbrev pub invariant-loop-promise : goal.invariant-loop-promise
invariant-loop-promise l = record {
  count : l.number + length l.promise-iterator ≡ length l.fn.image.promises;
  left : first_broken (map (promise_rule l.fn.image) (enumerate_from l.number l.promise-iterator))
      ≡ first_broken (map (promise_rule l.fn.image) (numbered l.fn.image.promises));
}
