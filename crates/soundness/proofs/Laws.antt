-- What the crates above use of these proofs.
pub use Rattle.soundness.proofs.Bytes.{content-whole}
pub use Rattle.soundness.proofs.CNodeCalls.{AreNamed, are-named, copy-sound, invoked-root, mint-sound, move-sound, mutate-sound, room-below}
pub use Rattle.soundness.proofs.Carried.{full-near, held-at, held-by}
pub use Rattle.soundness.proofs.Copies.{IsAlike, IsQuiet, alike-both, alike-same, bindable, cnode-quiet, copied-alike, copied-badge_fits, copied-guard_fits}
pub use Rattle.soundness.proofs.Copies.{copied-unmapped, copied-valid, copies-shared, is_single, no-badge, payload-alike, payload-mapping, payload-valid}
pub use Rattle.soundness.proofs.Copies.{root-quiet}
pub use Rattle.soundness.proofs.CopyingCalls.{configure-whole, get-sound, set_buffer-sound}
pub use Rattle.soundness.proofs.Delivered.{read-less}
pub use Rattle.soundness.proofs.Events.{acknowledge-whole, fault-whole, raise-whole}
pub use Rattle.soundness.proofs.FreshMachines.{fresh-sound}
pub use Rattle.soundness.proofs.Inserted.{empty-capability, empty-open}
pub use Rattle.soundness.proofs.Loading.{made-whole}
pub use Rattle.soundness.proofs.Lookups.{check-passes, destination-plain, passes-both, source-full, source-plain, wanted-some}
pub use Rattle.soundness.proofs.Machines.{acknowledge-machine, answered-machine, fault-machine, passes-machine, poll-machine, raise-machine, receive-machine}
pub use Rattle.soundness.proofs.Machines.{reply-machine, resume-machine, send-machine, signal-machine, suspend-machine, then-machine, tick-machine}
pub use Rattle.soundness.proofs.Machines.{try_to_receive-machine, try_to_send-machine, wait-machine, with_priority-machine, with_register-machine}
pub use Rattle.soundness.proofs.Machines.{yielded-machine}
pub use Rattle.soundness.proofs.MappingCalls.{IsAt, frame-sound, invoked-at, table-sound}
pub use Rattle.soundness.proofs.Messages.{poll-whole, receive-whole, reply-whole, running-object, signal-whole, try_to_receive-whole, wait-whole}
pub use Rattle.soundness.proofs.NewKinds.{first-fresh, first-valid, new-slots}
pub use Rattle.soundness.proofs.NewObjects.{depth-leaves}
pub use Rattle.soundness.proofs.NewPlaces.{IsLaid, laid, next-within, some-place}
pub use Rattle.soundness.proofs.Pieces.{named-piece, slots-fit}
pub use Rattle.soundness.proofs.Places.{line-open, object-inside, of_boot_cnode, own-slot_open, plain-open, slot-near, slot-stands, thread-slot}
pub use Rattle.soundness.proofs.Rebound.{Binds, bind-sound, line-empty, room-still, source-same}
pub use Rattle.soundness.proofs.Registers.{registers-of, with-pc, written-sound}
pub use Rattle.soundness.proofs.Removed.{deleted-leaves, deleted-sound, revoked-sound}
pub use Rattle.soundness.proofs.Rest.{endpoint-kind, notification-kind, thread-kind}
pub use Rattle.soundness.proofs.RetypeCalls.{retype-whole}
pub use Rattle.soundness.proofs.Running.{current-runs}
pub use Rattle.soundness.proofs.Setups.{control-whole, fill-whole, put_untyped-whole}
pub use Rattle.soundness.proofs.Sizes.{Fits, effect-sound, instructions-keep}
pub use Rattle.soundness.proofs.Stepped.{byte-less, events-whole}
pub use Rattle.soundness.proofs.SystemCalls.{answered-whole, called-whole, lacks-whole, named-left, reply-runs, sent_on-whole, signaled-object, unknown-whole}
pub use Rattle.soundness.proofs.ThreadCalls.{fine-of, passes-whole, registers-whole, resume-whole, set_priority-whole, set_register-whole, suspend-whole}
pub use Rattle.soundness.proofs.ThreadCalls.{tick-whole}
pub use Rattle.soundness.proofs.UnusedMemory.{unused-free}
pub use Rattle.soundness.proofs.Waking.{AreApart, apart-filter, in-filter, is_in, places-apart}
pub use Rattle.soundness.proofs.WorldWrites.{IsWritten, written-beside, written-byte, written-whole}
pub use Rattle.soundness.proofs.boot_laws.Laws.{AreFormed, BufferKept, CapabilityKept, CountsAreLengths, FrameKept, IsWithin, ReadsBoot, ReadsObjects}
pub use Rattle.soundness.proofs.boot_laws.Laws.{TableKept, ThreadKept, any-taken, are-formed, boot-slots-suffice, boots-well, buffer-kept}
pub use Rattle.soundness.proofs.boot_laws.Laws.{buffer-slot, bytes-long, cnode-slot, cnode-type, contents-fit, counts-are, cspace-slot}
pub use Rattle.soundness.proofs.boot_laws.Laws.{described-sound, each-all, entry, filtered-all, find-get, find-no, first-at, first_of_type, flat-all}
pub use Rattle.soundness.proofs.boot_laws.Laws.{frame-listed, frame-type, goes, has-type, held-append, held-here, held-later, kept-before}
pub use Rattle.soundness.proofs.boot_laws.Laws.{kept-behind, kept-of, limited-frame, limited-table, listed-behind, listed-untyped, loaded-end}
pub use Rattle.soundness.proofs.boot_laws.Laws.{mapped_by, mapping_of, no-thread, not-refused, numbered-at, numbered-back, object-at, object-stands}
pub use Rattle.soundness.proofs.boot_laws.Laws.{objects-apart, offsets-apart, original-untyped, passes, range-at, range-from, reads-boot}
pub use Rattle.soundness.proofs.boot_laws.Laws.{reads-buffer, reads-cspace, reads-free_buffer, reads-listed, reads-no_buffer, reads-objects}
pub use Rattle.soundness.proofs.boot_laws.Laws.{reads-vspace, slot-behind-boot, slot-in-memory, slot-of-one, source-untyped, stand-apart, table-type}
pub use Rattle.soundness.proofs.boot_laws.Laws.{thread-behind, thread-type, used_with, vspace-slot}
