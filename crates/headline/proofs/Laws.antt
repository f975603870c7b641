-- What the crates above use of these proofs.
pub use Rattle.headline.proofs.authority.Laws.{Waits, awaited-apart, behind, blocked-awaits, first-waits}
pub use Rattle.headline.proofs.facts.Laws.{at-place, is-listed, page-mapped, page-maps, with_number}
pub use Rattle.headline.proofs.moves.Laws.{idle-is, other-label, own-label, step-cases}
pub use Rattle.headline.proofs.steps.Laws.{IsGiven, RunsAlong, branch-content, given, goes-along, jump-content, load-content, state-next, trace-next}
pub use Rattle.headline.proofs.RunningLabels.{runs-within}
pub use Rattle.headline.proofs.invocations.OtherSlots.{boot-kept}
pub use Rattle.headline.proofs.Fronts.{all-front}
pub use Rattle.headline.proofs.moves.Laws.{call-leaves, held-there, named-here}
pub use Rattle.headline.proofs.invocations.AllRuns.{either-invokes}
pub use Rattle.headline.proofs.invocations.InvocationSteps.{invocation-leaves}
pub use Rattle.headline.proofs.invocations.TwoThreads.{one-owner}
pub use Rattle.headline.proofs.authority.Laws.{maps-own-at-start, maps-own-kept}
pub use Rattle.headline.proofs.starts.Laws.{listed-no-frame}
pub use Rattle.headline.proofs.parts.Laws.{listed-at-start}
pub use Rattle.headline.proofs.invocations.NobodySetBack.{removed}
pub use Rattle.headline.proofs.invocations.ThreadsRemain.{no-thread-ends, objects-left}
pub use Rattle.headline.proofs.invocations.OtherSlotsLeft.{other-kept}
pub use Rattle.headline.proofs.invocations.RealRemoval.{ends-own, kept-reset, own-all, set-or-empty, stays-named}
pub use Rattle.headline.proofs.invocations.RemovalSides.{other-out, own_set}
pub use Rattle.headline.proofs.integrity.MappedSteps.{AreStaying, Stays, step-stays}
