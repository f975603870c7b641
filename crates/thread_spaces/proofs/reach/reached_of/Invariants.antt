-- What the rounds that are left find, after what is found, and the round that is next.
use Rattle.std.proofs.Common.{◌≡◌, ◌-◌, length}
use Rattle.model.specs.Acceptance.ThreadRules.{reached, reached_within}
use Rattle.thread_spaces.specs.Reaching.{Begins}
use Rattle.thread_spaces.proofs.reach.reached_of.Given as goal

abbrev pub invariant-rounds : goal.invariant-rounds
invariant-rounds l =
    (reached_within (length l.image.capabilities - l.counter) l.image l.found ≡ reached l.image l.thread) × Begins l.image l.found l.round
