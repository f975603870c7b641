-- A placed thread is one that the image lists.
use Rattle.thread_spaces.specs.Given.{IsListed}
use Rattle.thread_spaces.specs.declared.placed_threads.PlacedThread.{PlacedThread}

pub is-listed : (t : PlacedThread) → IsListed t.placed.now.image.now t.thread.now
is-listed t = record { number = t.number; listed = t.listed }
