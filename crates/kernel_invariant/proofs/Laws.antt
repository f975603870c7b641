-- What the crates above use of these proofs.
pub use Rattle.kernel_invariant.proofs.Agreeing.{agrees-less}
pub use Rattle.kernel_invariant.proofs.Bare.{bare-agrees}
pub use Rattle.kernel_invariant.proofs.Grown.{grown}
pub use Rattle.kernel_invariant.proofs.Lessened.{Lessened, less-root, less-same, less-unmapped}
pub use Rattle.kernel_invariant.proofs.Mutated.{mutate-agrees, mutate-closes}
pub use Rattle.kernel_invariant.proofs.NewBegin.{growing-base}
pub use Rattle.kernel_invariant.proofs.NewBeside.{parent-depth, parent-full, rest-empty, window-apart}
pub use Rattle.kernel_invariant.proofs.NewPlaced.{inserted-first, placed-object, placed-untyped}
pub use Rattle.kernel_invariant.proofs.NewStates.{is-room, may-stand, room-stands, room-state, sixteen, slots-within}
pub use Rattle.kernel_invariant.proofs.ObjectsAgree.{agree_bytes-law, agree_closed-law, agree_unused-law, agree_without-law, follows-law, of_memory-law}
pub use Rattle.kernel_invariant.proofs.ObjectsAgree.{of_slots-law, own-tables, slots-law, stands-law}
pub use Rattle.kernel_invariant.proofs.OneMore.{none-yet, one-more, some-one}
pub use Rattle.kernel_invariant.proofs.Puts.{copy-agrees, is-open, move-agrees, moved-closes, put-agrees, put-closes, put-named}
pub use Rattle.kernel_invariant.proofs.RoomsMade.{alone, room-of-page, slots-alone, slots-opened}
pub use Rattle.kernel_invariant.proofs.Steps.{ended-agrees, no-slot, root-ended, tables-beside, unmapped-agrees, unmapped-stands, unmapped-state, woken-agrees}
pub use Rattle.kernel_invariant.proofs.Whole.{agrees-kept, whole-kept}
