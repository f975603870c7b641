-- What the other modules use of these proofs.
pub use Rattle.headline.proofs.steps.Budgets.{state-next, trace-next, within-still}
pub use Rattle.headline.proofs.steps.CodeStays.{branch-content, jump-content, load-content}
pub use Rattle.headline.proofs.steps.GivenThreads.{IsGiven, given}
pub use Rattle.headline.proofs.steps.KeptRules.{point-kept}
pub use Rattle.headline.proofs.steps.NotedForms.{after-low}
pub use Rattle.headline.proofs.steps.PointForms.{known-form}
pub use Rattle.headline.proofs.steps.SameSlots.{not-stray-formed, slots-back}
pub use Rattle.headline.proofs.steps.PlainSteps.{RunsAlong, goes-along}
