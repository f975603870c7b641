-- What the crates above use of these proofs.
pub use Rattle.ipc.proofs.Premises.{runs-nowhere, runs-there}
