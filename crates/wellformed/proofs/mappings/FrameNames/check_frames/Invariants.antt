-- What is left of the rules decides.
use Rattle.std.proofs.Common.{◌≡◌, drop}
use Rattle.std.specs.Prelude.{flat_map}
use Rattle.std.specs.List.{enumerate_from}
use Rattle.model.specs.Acceptance.Rules.{first_broken}
use Rattle.model.specs.Acceptance.WellFormed.{frame_rules}
use Rattle.model.specs.Images.Described.{numbered}
use Rattle.wellformed.proofs.mappings.FrameNames.check_frames.Given as goal

abbrev pub invariant-loop-number : goal.invariant-loop-number
invariant-loop-number l =
    first_broken (flat_map (frame_rules l.fn.self.image.now) (enumerate_from l.number (drop l.number l.fn.self.image.now.frames)))
    ≡ first_broken (flat_map (frame_rules l.fn.self.image.now) (numbered l.fn.self.image.now.frames))
