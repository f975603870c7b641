-- All that a thread has is in slots and bytes.
use Rattle.headline.proofs.moves.Standing.{touches-none}
use Rattle.headline.proofs.moves.standing_laws.what_keeps_slots_and_bytes_touches_no_thread.Goals as goal

pub returns : goal.returns
returns c = touches-none
