-- What the other modules use of these proofs.
pub use Rattle.headline.proofs.facts.CodePages.{IsProgramPage, NamesFrame, find-entry, frame-named, implied, names-frame, one-frame, program-page}
pub use Rattle.headline.proofs.facts.DecodedFields.{decoded-instr}
pub use Rattle.headline.proofs.facts.ListedThreads.{entry-from, is-listed, thread-entry, with_number}
pub use Rattle.headline.proofs.facts.MappedPages.{page-held, page-mapped, page-maps, page-there}
pub use Rattle.headline.proofs.facts.NotedKeys.{capabilities-equal, same-low-key}
pub use Rattle.headline.proofs.facts.RootTables.{root-original}
pub use Rattle.headline.proofs.facts.RulesKept.{IsKeptRule, aligned-point, holds-where, kept-among, not-bad, program-kept, state-kept}
pub use Rattle.headline.proofs.facts.ThreadObjects.{at-place, read-less}
pub use Rattle.headline.proofs.facts.WiderRanges.{holds-at, within-wider}
