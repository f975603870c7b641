-- What the crates above use of these proofs.
pub use Rattle.objects.proofs.Holding.{object-aligned}
pub use Rattle.objects.proofs.Endpoints.{endpoint-there}
pub use Rattle.objects.proofs.Following.{not-open, still-open}
pub use Rattle.objects.proofs.Frames.{objects-then}
pub use Rattle.objects.proofs.Kept.{put-there}
pub use Rattle.objects.proofs.StateLaws.{byte-there, follows, follows-frames, follows-kept, stands-frames, stands-kept, stands-still}
pub use Rattle.objects.proofs.LiveCalls.{beside-then}
