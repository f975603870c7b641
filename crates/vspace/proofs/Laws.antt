-- What the crates above use of these proofs.
pub use Rattle.vspace.proofs.AgreementBytes.{agree-outside, named-stands}
pub use Rattle.vspace.proofs.AgreementPut.{agree-put}
pub use Rattle.vspace.proofs.AgreementRemoved.{agree-emptied, agree-one_closed, agree-unused}
pub use Rattle.vspace.proofs.AgreementSlots.{agree-beside, agree-changed, agree-moved, agree-opened}
pub use Rattle.vspace.proofs.Joins.{walk-place}
