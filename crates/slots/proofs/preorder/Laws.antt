-- The lemmas on rows, links and walks that crates above use.
pub use Rattle.slots.proofs.preorder.BackTests.{descends-back}
pub use Rattle.slots.proofs.preorder.Changes.{first-others, first-own, none-without, renamed-here, renamed-other, renamed-parents, rises-first}
pub use Rattle.slots.proofs.preorder.Changes.{rises-put_behind, rises-renamed, rises-taken_out, slots-put_behind, slots-renamed, slots-taken_out}
pub use Rattle.slots.proofs.preorder.Changes.{times-put_after, times-put_after_own}
pub use Rattle.slots.proofs.preorder.Counting.{few-rows}
pub use Rattle.slots.proofs.preorder.DepthChanges.{deep-first, deep-put_behind, deep-renamed, deep-same, deep-taken_out, low-beside, low-own}
pub use Rattle.slots.proofs.preorder.Descents.{descendants-run}
pub use Rattle.slots.proofs.preorder.Linked.{IsIn, chain-first, chain-put_after, chain-same, chain-without, next-in, previous-in}
pub use Rattle.slots.proofs.preorder.Paths.{put-others, put-own, rows-here, rows-rest}
pub use Rattle.slots.proofs.preorder.RowDepths.{depth-rows}
pub use Rattle.slots.proofs.preorder.Runs.{another-beside, next-another, previous-another, run-ends, runs-end, runs-first, runs-put_behind, runs-renamed}
pub use Rattle.slots.proofs.preorder.Runs.{runs-same, runs-taken_out}
pub use Rattle.slots.proofs.preorder.Splices.{taken-out}
pub use Rattle.slots.proofs.preorder.Walking.{behind-first, behind-next, behind-none, linked-next, linked-rows, parents-back}
