-- What the crates above use of these proofs.
pub use Rattle.removal_laws.proofs.Children.{slot-some}
pub use Rattle.removal_laws.proofs.Finishing.{behind-boot, bounds-within, has-one, holder, holder-aligned, in-memory, slot-left, slots-settled, within-bounds}
pub use Rattle.removal_laws.proofs.Found.{bool-iff, both, found, found-at, found-none, found-or, found-same, found-where, join, or-cases}
pub use Rattle.removal_laws.proofs.InSteps.{emptied-in-steps, parent-full}
pub use Rattle.removal_laws.proofs.Keeping.{capability-out, kept-test, parent-out, there-in, there-out}
pub use Rattle.removal_laws.proofs.Loop.{descends-still}
pub use Rattle.removal_laws.proofs.Named.{kind-names, kind-threads, named_as, object-kind, there-taken}
pub use Rattle.removal_laws.proofs.Parents.{height-up, outside-found, outside-in, outside-none, outside-out, outside-stable, outside-zero}
pub use Rattle.removal_laws.proofs.Readiness.{full-was, not-full, ready-emptied, valid-kept}
pub use Rattle.removal_laws.proofs.Rounds.{full-apart, line-left, line-of, line-taken, lines-done, open-kept, round}
pub use Rattle.removal_laws.proofs.SameFull.{emptied-same, empty-is}
pub use Rattle.removal_laws.proofs.Stepwise.{unmapped-itself}
pub use Rattle.removal_laws.proofs.Sweeping.{IsPassed, passed-next, passed-objects, stray-empty}
pub use Rattle.removal_laws.proofs.Unaffected.{filter-all, threads-all}
pub use Rattle.removal_laws.proofs.Whole.{both-loops, may-settle, members-all, open-near, refused, removed, root-kind, sound-ready}
