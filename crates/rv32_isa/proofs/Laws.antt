-- What the crates above use of these proofs.
pub use Rattle.rv32_isa.proofs.Spellings.{one-spelled, spelled-decoded}
