-- What the crates above use of these proofs.
pub use Rattle.format_laws.proofs.Certificates.{certificates-fit}
pub use Rattle.format_laws.proofs.FormatFits.{between-bounds, field-between, field-parts, many-each, many-length}
pub use Rattle.format_laws.proofs.ImageFits.{is-fitting}
