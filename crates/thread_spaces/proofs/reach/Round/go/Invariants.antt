-- What is left of the round finds what all of it does.
use Rattle.std.proofs.Common.{◌≡◌, ◌-◌, drop, length}
use Rattle.std.specs.Prelude.{fold}
use Rattle.model.specs.Acceptance.ThreadRules.{with_named}
use Rattle.thread_spaces.specs.Reaching.{AwaitsAll, IsWithin}
use Rattle.thread_spaces.proofs.reach.Round.go.Given as goal

abbrev pub invariant-round : goal.invariant-round
invariant-round l =
    IsWithin l.image l.self × AwaitsAll l.image l.found l.self
    × (fold (with_named l.image) l.found (drop l.self.place l.image.capabilities) ≡ fold (with_named l.image) l.fn.found l.image.capabilities)

abbrev pub decreases-round : goal.decreases-round
decreases-round l = length l.image.capabilities - l.self.place
