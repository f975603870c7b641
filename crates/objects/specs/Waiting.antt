-- Threads that join queues, and leave them as the first.
-- seL4 Reference Manual, "Endpoints", "Notifications".
use Rattle.std.specs.Prelude.{ℕ, ◌≡◌, ◌⊎◌, Bool, true, false, Option, Some, None, List, [], ◌∷◌, ◌++◌, drop, option_map}
use Rattle.model.specs.Kernel.Kinds.{kind_at}
use Rattle.model.specs.Kernel.Retype.{NewObject, NewUntyped, NewThread, NewEndpoint, NewNotification, NewCNode, NewFrame, NewPageTable, NewRootTable}
use Rattle.model.specs.Kernel.Soundness.{waiting_at}
use Rattle.model.specs.Kernel.State.{State, Object, ThreadObject, EndpointObject, NotificationObject, CNodeObject, FrameObject, PageTableObject}
use Rattle.model.specs.Kernel.State.{RootTableObject, EndpointState, Sender, endpoint_at, notification_at, put, with_endpoint, with_notification}
use Rattle.model.specs.Shared.Lists.{times_in}
use Rattle.objects.specs.thread_records.Threads.{sender_of}
use Rattle.objects.specs.declared.thread_records.records.Sending.{Sending}
use Rattle.objects.specs.declared.records.WaitingSender.{WaitingSender}

-- ---- what the calls ask for

-- a thread waits at no object
pub record StandsNowhere (objects : ℕ → Option Object) (thread : ℕ) : Type 0 where
  pub nowhere : (queue : ℕ) → times_in (waiting_at (objects queue)) thread ≡ 0

-- only senders wait at an endpoint, or only receivers
abbrev pub IsOneSided : EndpointState → Type 0
IsOneSided e = (e.senders ≡ []) ⊎ (e.receivers ≡ [])

-- whether threads may wait at an object of such a kind
abbrev pub has_waiting : Option NewObject → Bool
has_waiting None = false
has_waiting (Some NewEndpoint) = true
has_waiting (Some NewNotification) = true
has_waiting (Some (NewUntyped bits)) = false
has_waiting (Some NewThread) = false
has_waiting (Some (NewCNode radix)) = false
has_waiting (Some NewFrame) = false
has_waiting (Some NewPageTable) = false
has_waiting (Some NewRootTable) = false

-- ---- the object at which they wait

-- another thread comes after those that wait, to send this or to receive
abbrev pub endpoint_joined : EndpointState → ℕ → Option Sending → EndpointState
endpoint_joined e thread (Some sending) = record e { senders = e.senders ++ sender_of thread sending ∷ [] }
endpoint_joined e thread None = record e { receivers = e.receivers ++ thread ∷ [] }

abbrev pub joined : ℕ → Option Sending → Object → Object
joined thread sending (EndpointObject e) = EndpointObject (endpoint_joined e thread sending)
joined thread sending (NotificationObject n) = NotificationObject (record n { waiters = n.waiters ++ thread ∷ [] })
joined thread sending (ThreadObject t) = ThreadObject t
joined thread sending (CNodeObject radix) = CNodeObject radix
joined thread sending FrameObject = FrameObject
joined thread sending PageTableObject = PageTableObject
joined thread sending RootTableObject = RootTableObject

-- the first of those that wait is gone, who sent this or received
abbrev pub endpoint_served : EndpointState → Option Sending → EndpointState
endpoint_served e (Some sending) = record e { senders = drop 1 e.senders }
endpoint_served e None = record e { receivers = drop 1 e.receivers }

abbrev pub served : Option Sending → Object → Object
served sending (EndpointObject e) = EndpointObject (endpoint_served e sending)
served sending (NotificationObject n) = NotificationObject (record n { waiters = drop 1 n.waiters })
served sending (ThreadObject t) = ThreadObject t
served sending (CNodeObject radix) = CNodeObject radix
served sending FrameObject = FrameObject
served sending PageTableObject = PageTableObject
served sending RootTableObject = RootTableObject

abbrev pub changed_at : State → ℕ → (Object → Object) → State
changed_at s offset change = record s { objects = put s.objects offset (option_map change (s.objects offset)) }

abbrev pub with_sender : State → ℕ → Sender → State
with_sender s endpoint sender = with_endpoint s endpoint (record (endpoint_at s endpoint) { senders = (endpoint_at s endpoint).senders ++ sender ∷ [] })

abbrev pub with_receiver : State → ℕ → ℕ → State
with_receiver s endpoint thread = with_endpoint s endpoint (record (endpoint_at s endpoint) { receivers = (endpoint_at s endpoint).receivers ++ thread ∷ [] })

abbrev pub with_waiter : State → ℕ → ℕ → State
with_waiter s notification thread =
    with_notification s notification (record (notification_at s notification) { waiters = (notification_at s notification).waiters ++ thread ∷ [] })

abbrev pub with_word : State → ℕ → ℕ → State
with_word s notification word = with_notification s notification (record (notification_at s notification) { word = word })

-- ---- the first of a queue

-- nobody waits, and the state is as before
pub record Nobody {A : Type 0} (waiting : List A) (before now : State) : Type 0 where
  pub none : waiting ≡ []
  pub state : now ≡ before

-- the first thread that waits is there, and what is left is this state
pub record Served {A : Type 0} (waiting : List A) (first : A) (thread : ℕ) (left now : State) : Type 0 where
  pub head : waiting ≡ first ∷ drop 1 waiting
  pub there : kind_at now thread ≡ Some NewThread
  pub state : now ≡ left

abbrev pub without_sender : State → ℕ → State
without_sender s endpoint = with_endpoint s endpoint (record (endpoint_at s endpoint) { senders = drop 1 (endpoint_at s endpoint).senders })

abbrev pub without_receiver : State → ℕ → State
without_receiver s endpoint = with_endpoint s endpoint (record (endpoint_at s endpoint) { receivers = drop 1 (endpoint_at s endpoint).receivers })

abbrev pub without_waiter : State → ℕ → State
without_waiter s notification =
    with_notification s notification (record (notification_at s notification) { waiters = drop 1 (notification_at s notification).waiters })

abbrev pub SenderTaken : State → ℕ → Option WaitingSender → State → Type 0
SenderTaken s endpoint None now = Nobody (endpoint_at s endpoint).senders s now
SenderTaken s endpoint (Some w) now = Served (endpoint_at s endpoint).senders (sender_of w.thread w.sending) w.thread (without_sender s endpoint) now

abbrev pub ReceiverTaken : State → ℕ → Option ℕ → State → Type 0
ReceiverTaken s endpoint None now = Nobody (endpoint_at s endpoint).receivers s now
ReceiverTaken s endpoint (Some thread) now = Served (endpoint_at s endpoint).receivers thread thread (without_receiver s endpoint) now

abbrev pub WaiterTaken : State → ℕ → Option ℕ → State → Type 0
WaiterTaken s notification None now = Nobody (notification_at s notification).waiters s now
WaiterTaken s notification (Some thread) now = Served (notification_at s notification).waiters thread thread (without_waiter s notification) now
