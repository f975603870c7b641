-- What the crates above use of these proofs.
pub use Rattle.wellformed.proofs.Acceptance.{accepted-no_breach, first-is_breach, kept-none, no-breach_accepted, none-broken}
pub use Rattle.wellformed.proofs.ThreadSteps.{head-of}
