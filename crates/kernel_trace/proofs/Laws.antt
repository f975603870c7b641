-- What the crates above use of these proofs.
pub use Rattle.kernel_trace.proofs.AnsweredLines.{after-both, after-none, trace-both, trace-none}
pub use Rattle.kernel_trace.proofs.PutLines.{begins_more, lines-both}
