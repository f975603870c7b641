-- What the other modules use of these proofs.
pub use Rattle.headline.proofs.parts.Bridge.{any-second, first-memory, first-names, keeps-bit, memory-limited, memory-mapped, memory_of, named-limited}
pub use Rattle.headline.proofs.parts.Bridge.{named-mapped, source-of}
pub use Rattle.headline.proofs.parts.Decided.{Decided, both, numbers, pairs, settled, some-numbers, threads}
pub use Rattle.headline.proofs.parts.GivenRuns.{listed-at-start}
pub use Rattle.headline.proofs.parts.SameEntries.{some-entries}
