-- The capabilities so far.
use Rattle.thread_spaces.specs.Reaching.{AwaitsMore, IsWithin}
use Rattle.thread_spaces.proofs.Awaited.{AwaitsUpTo}
use Rattle.thread_spaces.proofs.reach.Round.await_listed.Given as goal

abbrev pub invariant-loop-number : goal.invariant-loop-number
invariant-loop-number l = IsWithin l.image l.self × AwaitsMore l.fn.self l.self × AwaitsUpTo l.image l.fn.cnode l.number l.self
