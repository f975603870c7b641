-- What the crates above use of these proofs.
pub use Rattle.slots.proofs.Families.{leaves-one, leaves-other}
pub use Rattle.slots.proofs.preorder.Laws.{IsIn, another-beside, behind-first, behind-next, behind-none, chain-first, chain-put_after, chain-same}
pub use Rattle.slots.proofs.preorder.Laws.{chain-without, deep-first, deep-put_behind, deep-renamed, deep-same, deep-taken_out, depth-rows, descendants-run}
pub use Rattle.slots.proofs.preorder.Laws.{descends-back, few-rows, first-others, first-own, linked-next, linked-rows, low-beside, next-another, next-in}
pub use Rattle.slots.proofs.preorder.Laws.{none-without, parents-back, previous-another, previous-in, put-others, put-own, renamed-here, renamed-other}
pub use Rattle.slots.proofs.preorder.Laws.{renamed-parents, rises-first, rises-put_behind, rises-renamed, rises-taken_out, rows-here, rows-rest, run-ends}
pub use Rattle.slots.proofs.preorder.Laws.{runs-end, runs-first, runs-put_behind, runs-renamed, runs-same, runs-taken_out, slots-put_behind, slots-renamed}
pub use Rattle.slots.proofs.preorder.Laws.{slots-taken_out, taken-out, times-put_after, times-put_after_own}
