-- What the crates above use of these proofs.
pub use Rattle.thread_spaces.proofs.BootParents.{find-passed, negated, original-below}
pub use Rattle.thread_spaces.proofs.DescribedSlots.{all-within, boot-holds, buffer-shown, capability-shown, from-loaded, listed-shown, listed-valid}
pub use Rattle.thread_spaces.proofs.DescribedSlots.{no_buffer-shown, parent-shown, root-shown}
pub use Rattle.thread_spaces.proofs.EachHolding.{OfSections, each-slot, each-own}
pub use Rattle.thread_spaces.proofs.GivenRoots.{member-any, root-reached}
pub use Rattle.thread_spaces.proofs.ListedCapabilities.{listed-handler, listed-object, original-plain}
pub use Rattle.thread_spaces.proofs.ListedMappings.{find-at, mappings-listed}
pub use Rattle.thread_spaces.proofs.ListedSlots.{slots-rise, slots_in}
pub use Rattle.thread_spaces.proofs.NotedStates.{IsNoted, known-noted, words-long}
pub use Rattle.thread_spaces.proofs.OriginalNames.{object-held}
pub use Rattle.thread_spaces.proofs.OwnPlaces.{block-not-own, boot-room, key-owned, or-second, own-cnode}
pub use Rattle.thread_spaces.proofs.ParentsInBoot.{parent-in-boot}
pub use Rattle.thread_spaces.proofs.StandingApart.{stands-apart}
