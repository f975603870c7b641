-- What the crates above use of these proofs.
pub use Rattle.shared_states.proofs.PutValues.{nothing_put, something_put}
pub use Rattle.shared_states.proofs.StatesStay.{keeps_all, state_stays}
