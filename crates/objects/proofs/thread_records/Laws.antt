-- What the crates above use of these proofs.
pub use Rattle.objects.proofs.thread_records.Fields.{new-read, record_stays}
