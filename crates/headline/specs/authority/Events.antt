-- What a tick, an interrupt and a write of the world leave as it is, and what they change: it follows from what they are.
use Rattle.std.specs.Prelude.{ℕ, ◌≡◌, ◌≢◌, ◌+◌, ◌<◌, ◌≤◌, false, bit_or, IsSome, Some, None, List, [], ◌∷◌, ◌++◌}
use Rattle.model.specs.Kernel.Deliveries.{woken}
use Rattle.model.specs.Acceptance.Authority.{IsWoken}
use Rattle.model.specs.Kernel.Interrupts.{binding}
use Rattle.model.specs.Kernel.Messages.{a0}
use Rattle.model.specs.Kernel.Scheduling.{current, head_of}
use Rattle.model.specs.Kernel.State.{State, NotificationObject, NotificationState, ThreadObject, ThreadState, notification_at}
use Rattle.model.specs.Machine.Effects.{advanced}
use Rattle.model.specs.Machine.ProgramMemory.{write}
use Rattle.model.specs.Shared.Lists.{times_in, without}

-- ---- ticks

-- slots, bytes and the shape of the machine stay
pub record SameStore (s after : State) : Type 0 where
  -- memory keeps its size
  pub memory_bits : after.memory_bits ≡ s.memory_bits
  -- the boot CNode keeps its size
  pub boot_radix : after.boot_radix ≡ s.boot_radix
  -- each slot stays
  pub slots : (slot : ℕ) → after.slots slot ≡ s.slots slot
  -- each byte stays
  pub bytes : (place : ℕ) → after.bytes place ≡ s.bytes place

-- a tick changes the current thread's slice alone, and where it is in the list of its priority
pub record WithinTick (s after : State) : Type 0 where
  -- slots, bytes and the shape of the machine stay
  pub store : SameStore s after
  -- each line is masked as it was
  pub masked : (number : ℕ) → after.masked number ≡ s.masked number
  -- each line is pending as it was
  pub pending : (number : ℕ) → after.pending number ≡ s.pending number
  -- each object stays but the current thread
  pub others : (offset : ℕ) → current s ≢ Some offset → after.objects offset ≡ s.objects offset
  -- of the current thread the slice alone changes
  pub runs : (thread : ℕ) (old : ThreadState) → current s ≡ Some thread → s.objects thread ≡ Some (ThreadObject old)
      → (slice : ℕ) × (after.objects thread ≡ Some (ThreadObject (record old { slice = slice })))
  -- where no thread runs, no list of the ready changes
  pub idle : current s ≡ None → (priority : ℕ) → after.ready priority ≡ s.ready priority
  -- without the current thread each list of the ready is the old one
  pub ready : (thread priority : ℕ) → current s ≡ Some thread → without thread (after.ready priority) ≡ without thread (s.ready priority)
  -- the current thread is in each list as often as before
  pub as_often : (thread priority : ℕ) → current s ≡ Some thread → times_in (after.ready priority) thread ≡ times_in (s.ready priority) thread

-- ---- interrupts

-- the interrupt of a line is delivered: the line is bound, and not masked
pub record IsDelivered (number : ℕ) (s : State) (notification badge : ℕ) : Type 0 where
  -- its binding names this notification, with this badge
  pub bound : binding s number ≡ Some (record { notification = notification; badge = badge })
  -- no earlier interrupt of the line waits for its acknowledgement
  pub unmasked : s.masked number ≡ false

-- what becomes of the notification that a line is bound to, and of the first thread that waits there
pub data InterruptChange (number : ℕ) (s after : State) (offset : ℕ) : Type 0 where
  -- nobody waits: the badge joins the word
  joins : (badge : ℕ) (old : NotificationState) → IsDelivered number s offset badge
      → s.objects offset ≡ Some (NotificationObject old) → old.waiters ≡ []
      → after.objects offset ≡ Some (NotificationObject (record old { word = bit_or old.word badge }))
      → InterruptChange number s after offset
  -- the first waiter goes
  passes_on : (badge waiter : ℕ) (others : List ℕ) (old : NotificationState) → IsDelivered number s offset badge
      → s.objects offset ≡ Some (NotificationObject old) → old.waiters ≡ waiter ∷ others
      → after.objects offset ≡ Some (NotificationObject (record old { waiters = others }))
      → InterruptChange number s after offset
  -- and it is that waiter, which gets the badge
  wakes : (notification badge : ℕ) (old : ThreadState) → IsDelivered number s notification badge
      → head_of (notification_at s notification).waiters ≡ Some offset → s.objects offset ≡ Some (ThreadObject old)
      → after.objects offset ≡ Some (ThreadObject (woken old (advanced (write old.registers a0 badge))))
      → InterruptChange number s after offset

-- the first waiter, and nobody else, goes to the tail of its priority
pub data InterruptReady (number : ℕ) (s after : State) (priority : ℕ) : Type 0 where
  stays : after.ready priority ≡ s.ready priority → InterruptReady number s after priority
  adds : (notification badge thread : ℕ) → IsDelivered number s notification badge
      → head_of (notification_at s notification).waiters ≡ Some thread → IsWoken s after priority thread
      → after.ready priority ≡ s.ready priority ++ thread ∷ [] → InterruptReady number s after priority

-- An interrupt changes its line, the notification that is bound to it, and the first thread that waits there. There are 64 lines, and
-- one of a greater number changes nothing.
pub record WithinInterrupt (number : ℕ) (s after : State) : Type 0 where
  -- one of no line changes nothing
  pub beyond : 63 < number → after ≡ s
  -- slots, bytes and the shape of the machine stay
  pub store : SameStore s after
  -- each other line is masked as it was
  pub masked : (other : ℕ) → other ≢ number → after.masked other ≡ s.masked other
  -- each other line is pending as it was
  pub pending : (other : ℕ) → other ≢ number → after.pending other ≡ s.pending other
  -- objects change only as the delivery to the line's notification says
  pub objects : (offset : ℕ) → s.objects offset ≢ after.objects offset → InterruptChange number s after offset
  -- a list of the ready gains at most the first waiter, at its tail
  pub ready : (priority : ℕ) → InterruptReady number s after priority

-- ---- the world outside

-- the world stores a word: its four bytes change, if they are a frame's, and nothing else
pub record WithinWrite (place : ℕ) (s after : State) : Type 0 where
  -- memory keeps its size
  pub memory_bits : after.memory_bits ≡ s.memory_bits
  -- the boot CNode keeps its size
  pub boot_radix : after.boot_radix ≡ s.boot_radix
  -- each slot stays
  pub slots : (slot : ℕ) → after.slots slot ≡ s.slots slot
  -- each object stays
  pub objects : (offset : ℕ) → after.objects offset ≡ s.objects offset
  -- each list of the ready stays
  pub ready : (priority : ℕ) → after.ready priority ≡ s.ready priority
  -- each line is masked as it was
  pub masked : (number : ℕ) → after.masked number ≡ s.masked number
  -- each line is pending as it was
  pub pending : (number : ℕ) → after.pending number ≡ s.pending number
  -- a byte that changes is one of the word's, in a frame that stays
  pub bytes : (other : ℕ) → s.bytes other ≢ after.bytes other
      → (place ≤ other) × (other < place + 4) × IsSome (s.bytes other) × IsSome (after.bytes other)
