-- What every call that changes objects relies on and leaves true of tables, slots and memory together.
use Rattle.std.specs.Prelude.{List, length, ℕ}
use Rattle.model.specs.Capabilities.Slots.{Slots}
use Rattle.objects.specs.Frames.{FitsMemory}
use Rattle.objects.specs.Laid.{AreThreadsPlaced}
use Rattle.objects.specs.Rights.{AreKnown}
use Rattle.objects.specs.Tables.{Tables, places_of, state_of, thread_in}
use Rattle.queues.specs.Queues.{QueuesStand}
use Rattle.queues.specs.Ready.{ReadyStands}

-- The links in the bytes of threads and of what they wait at are well formed. So who is in a queue is a thread that is there, and waits where threads may. Who
-- may reply to a thread is kept in its bytes.
pub record Standing (o : Tables) (slots : Slots) (memory : List ℕ) : Type 0 where
  pub placed : AreThreadsPlaced o.entries (length memory)
  pub fits : FitsMemory (state_of o slots memory) memory
  pub waiting : QueuesStand (places_of o) memory
  pub ready : ReadyStands (places_of o) o.ready memory
  pub rights : AreKnown (thread_in o memory) memory
