-- What the other modules use of these proofs.
pub use Rattle.headline.proofs.lookups.NotedLookups.{goes-noted, home-inside, passes-not, slot-own, within-first}
pub use Rattle.headline.proofs.lookups.NotedParents.{found-there, parent-noted}
pub use Rattle.headline.proofs.lookups.NotedSlots.{holds-noted, looks-up-noted}
pub use Rattle.headline.proofs.lookups.OwnSlots.{capability-noted, capability_noted, entry-noted, own-same, slot-noted}
pub use Rattle.headline.proofs.lookups.RootCNode.{root-own}
pub use Rattle.headline.proofs.lookups.ThreadKeys.{AreLow, HasKey, key-found, keys-low}
pub use Rattle.headline.proofs.lookups.TwoLookups.{GoesSame, found-own}
