-- What is left of the rules decides.
use Rattle.std.proofs.Common.{◌≡◌, ◌+◌, length, map}
use Rattle.std.specs.List.{enumerate_from}
use Rattle.model.specs.Acceptance.Rules.{first_broken}
use Rattle.model.specs.Acceptance.WellFormed.{content_rule}
use Rattle.model.specs.Images.Described.{numbered}
use Rattle.wellformed.proofs.mappings.check_contents.Given as goal

abbrev pub invariant-loop-content : goal.invariant-loop-content
invariant-loop-content l = record {
  count : l.number + length l.content-iterator ≡ length l.fn.image.contents;
  left : first_broken (map (content_rule l.fn.image) (enumerate_from l.number l.content-iterator))
      ≡ first_broken (map (content_rule l.fn.image) (numbered l.fn.image.contents));
}
