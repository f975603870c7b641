-- Who runs: the ready list, ticks and waits. One core, 256 priorities, slices of 5 ticks.
-- seL4 Reference Manual, "Threads and Execution", "Scheduling"; without its domains and scheduling contexts.
use Rattle.std.specs.Prelude.{ℕ, zero, suc, ◌==◌, ◌-◌, Bool, true, false, not, nat_le, if◌then◌else◌, Option, Some, None, option_map, List, [], ◌∷◌, ◌++◌}
use Rattle.std.specs.Prelude.{filter}
use Rattle.std.specs.Option.{option_map_or}
use Rattle.model.specs.Shared.Lists.{without}
use Rattle.model.specs.Kernel.State.{State, Status, Inactive, Runnable, Blocked, AwaitsReply, AwaitsHandler, Object, ThreadObject, EndpointObject}
use Rattle.model.specs.Kernel.State.{NotificationObject, CNodeObject, FrameObject, PageTableObject, RootTableObject, put, thread_at, with_thread}

-- how many ticks a thread gets when it is made runnable
abbrev pub full_slice : ℕ
full_slice = 5

abbrev pub head_of : {A : Type 0} → List A → Option A
head_of [] = None
head_of (x ∷ xs) = Some x

-- the first thread of the greatest of the priorities below a bound
unfoldable pub first_below : ℕ → (ℕ → List ℕ) → Option ℕ
first_below zero ready = None
first_below (suc n) ready = option_map_or Some (head_of (ready n)) (first_below n ready)

-- the current thread: the first of the greatest priority
abbrev pub current : State → Option ℕ
current s = first_below 256 s.ready

abbrev pub is_runnable : Status → Bool
is_runnable Inactive = false
is_runnable Runnable = true
is_runnable (Blocked queue) = false
is_runnable AwaitsReply = false
is_runnable AwaitsHandler = false

-- the ready list without a thread
abbrev pub unready : State → ℕ → State
unready s thread = record s { ready = λ priority. without thread (s.ready priority) }

-- the ready list with a thread after the others of its priority
abbrev pub at_tail : State → ℕ → State
at_tail s thread =
    let priority = (thread_at s thread).priority in
    record s { ready = put s.ready priority (s.ready priority ++ thread ∷ []) }

-- a thread goes to the tail of its priority
abbrev pub to_tail : State → ℕ → State
to_tail s thread = at_tail (unready s thread) thread

-- A thread that does not run is made runnable: it goes to the tail, with a full slice.
abbrev pub wake : State → ℕ → State
wake s thread = to_tail (with_thread s thread (record (thread_at s thread) { status = Runnable; slice = full_slice })) thread

-- A thread stops running, for this reason.
abbrev pub block : State → ℕ → Status → State
block s thread status = with_thread (unready s thread) thread (record (thread_at s thread) { status = status })

-- a runnable thread goes to the tail, with a full slice
abbrev pub yielded : State → ℕ → State
yielded s thread = to_tail (with_thread s thread (record (thread_at s thread) { slice = full_slice })) thread

-- A tick takes 1 from the slice of the thread that runs; where none is left, the thread goes to the tail.
abbrev pub ticked : State → ℕ → State
ticked s thread =
    let slice = (thread_at s thread).slice in
    if nat_le slice 1 then yielded s thread else with_thread s thread (record (thread_at s thread) { slice = slice - 1 })

abbrev pub tick : State → State
tick s = option_map_or (ticked s) (current s) s

-- ---- threads that leave what they wait for

-- what an object knows of threads, without some of them: none of these waits at it, and nobody has the right to reply to one
abbrev pub without_threads : (ℕ → Bool) → Object → Object
without_threads gone (ThreadObject t) = ThreadObject (record t { caller = if option_map_or gone t.caller false then None else t.caller })
without_threads gone (EndpointObject e) =
    EndpointObject (record {
      senders = filter (λ sender. not (gone sender.thread)) e.senders;
      receivers = filter (λ thread. not (gone thread)) e.receivers;
    })
without_threads gone (NotificationObject n) = NotificationObject (record n { waiters = filter (λ thread. not (gone thread)) n.waiters })
without_threads gone (CNodeObject radix) = CNodeObject radix
without_threads gone FrameObject = FrameObject
without_threads gone PageTableObject = PageTableObject
without_threads gone RootTableObject = RootTableObject

-- these threads leave every queue, and the rights to reply to them are void
abbrev pub all_leave : State → (ℕ → Bool) → State
all_leave s gone = record s {
  ready = λ priority. filter (λ thread. not (gone thread)) (s.ready priority);
  objects = λ offset. option_map (without_threads gone) (s.objects offset);
}

abbrev pub forgetting : ℕ → Object → Object
forgetting thread = without_threads (λ other. other == thread)

abbrev pub leaves : State → ℕ → State
leaves s thread = all_leave s (λ other. other == thread)
