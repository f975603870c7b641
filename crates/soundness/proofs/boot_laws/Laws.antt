-- What the crates above use of these proofs.
pub use Rattle.soundness.proofs.boot_laws.CallLookups.{goes, passes}
pub use Rattle.soundness.proofs.boot_laws.CallOriginals.{cnode-type, frame-type, table-type, thread-type}
pub use Rattle.soundness.proofs.boot_laws.ObjectsThere.{first-at, reads-objects}
pub use Rattle.soundness.proofs.boot_laws.PhaseMappings.{limited-frame, limited-table}
pub use Rattle.soundness.proofs.boot_laws.PlacesApart.{stand-apart}
pub use Rattle.soundness.proofs.boot_laws.PlacesObjects.{object-at, object-stands, objects-apart, offsets-apart}
pub use Rattle.soundness.proofs.boot_laws.PlacesRules.{AreFormed, BufferKept, CapabilityKept, FrameKept, TableKept, ThreadKept, are-formed, buffer-kept}
pub use Rattle.soundness.proofs.boot_laws.PlacesRules.{kept-before, kept-behind, kept-of, not-refused, numbered-at, range-at, range-from}
pub use Rattle.soundness.proofs.boot_laws.PlacesSlots.{boot-slots-suffice, buffer-slot, cnode-slot, cspace-slot, slot-behind-boot, slot-in-memory, slot-of-one}
pub use Rattle.soundness.proofs.boot_laws.PlacesSlots.{vspace-slot}
pub use Rattle.soundness.proofs.boot_laws.PlacesTypes.{frame-listed, has-type}
pub use Rattle.soundness.proofs.boot_laws.PlacesUsed.{used_with}
pub use Rattle.soundness.proofs.boot_laws.Readings.{IsWithin, ReadsBoot, ReadsObjects, entry, mapping_of}
pub use Rattle.soundness.proofs.boot_laws.ReadingsBoot.{reads-boot}
pub use Rattle.soundness.proofs.boot_laws.ReadingsLists.{held-append, held-here, held-later, numbered-back}
pub use Rattle.soundness.proofs.boot_laws.ReadingsRoom.{any-taken, no-thread, reads-buffer, reads-cspace, reads-free_buffer, reads-listed, reads-no_buffer}
pub use Rattle.soundness.proofs.boot_laws.ReadingsRoom.{reads-vspace}
pub use Rattle.soundness.proofs.boot_laws.ReadingsSections.{listed-behind, thread-behind}
pub use Rattle.soundness.proofs.boot_laws.ReadingsTypes.{first_of_type, listed-untyped, mapped_by, original-untyped, source-untyped}
pub use Rattle.soundness.proofs.boot_laws.RunEnd.{CountsAreLengths, loaded-end}
pub use Rattle.soundness.proofs.boot_laws.SoundBooted.{described-sound}
pub use Rattle.soundness.proofs.boot_laws.SoundWords.{each-all, filtered-all, flat-all}
pub use Rattle.soundness.proofs.boot_laws.WholeFits.{bytes-long, contents-fit, counts-are}
pub use Rattle.soundness.proofs.boot_laws.WholeFrames.{find-get, find-no}
pub use Rattle.soundness.proofs.boot_laws.WholeLoads.{boots-well}
