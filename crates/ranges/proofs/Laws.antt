-- What the crates above use of these proofs.
pub use Rattle.ranges.proofs.BranchedRegisters.{branch_kept, with-long}
pub use Rattle.ranges.proofs.BranchedSides.{joined_kept, narrowed_kept}
pub use Rattle.ranges.proofs.ResultsInside.{immediates-in, loads-in, registers-in, shifts-in}
pub use Rattle.ranges.proofs.WaysTaken.{behind-written, jump-leads}
pub use Rattle.ranges.proofs.Written.{instruction-keeps, jump-keeps, written-in}
pub use Rattle.ranges.proofs.WrittenRegisters.{kept_register, written_within, zero_kept}
