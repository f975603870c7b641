-- Endpoints and notifications that the tables hold, with those that wait in the bytes of memory.
use Rattle.std.proofs.Common.{ℕ, ◌≡◌, ◌∙◌, ◌&&◌, ◌↔◌, true, false, Bool, Option, Some, None, is_some, List, [], ◌∷◌, drop, sym, ap}
use Rattle.model.specs.Capabilities.Slots.{Slots}
use Rattle.model.specs.Kernel.Kinds.{kind_at}
use Rattle.model.specs.Kernel.Retype.{NewEndpoint, NewNotification, NewObject}
use Rattle.model.specs.Kernel.Scheduling.{head_of}
use Rattle.model.specs.Kernel.Soundness.{waiting_at}
use Rattle.model.specs.Kernel.State.{EndpointState, NotificationState, endpoint_at, notification_at}
use Rattle.queues.specs.Layout.{Places}
use Rattle.queues.specs.Queues.{queue_of}
use Rattle.objects.proofs.Endpoints as points
use Rattle.objects.proofs.Holding.{kind-as, places-as}
use Rattle.objects.specs.Contents as contents
use Rattle.objects.specs.Contents.{Contents}
use Rattle.objects.specs.Tables.{Tables, contents_of, kind_in, sending_in, state_of, waiting_of}
use Rattle.objects.specs.Waiting.{IsOneSided, has_waiting}
use Rattle.objects.specs.thread_records.Threads.{sender_of}
use Rattle.objects.specs.declared.thread_records.records.Sending.{Sending}

-- who waits is the same
queue-here : (o : Tables) (memory : List ℕ) (queue : ℕ) → contents.waiting_of (contents_of o memory) memory queue ≡ waiting_of o memory queue
queue-here o memory queue = ap (λ (p : Places). queue_of p memory queue) (places-as o memory)

module _ (o : Tables) (endpoint : ℕ) (slots : Slots) (memory : List ℕ) (is : kind_at (state_of o slots memory) endpoint ≡ Some NewEndpoint) where
  abbrev e : EndpointState
  e = endpoint_at (state_of o slots memory) endpoint

  heads : (first : Option ℕ) → head_of (waiting_of o memory endpoint) ≡ first → head_of (contents.waiting_of (contents_of o memory) memory endpoint) ≡ first
  heads first head = ap head_of (queue-here o memory endpoint) ∙ head

  pub nobody-sends : head_of (waiting_of o memory endpoint) ≡ None → e.senders ≡ []
  unfolding state_of
  nobody-sends none = points.nobody-sends (contents_of o memory) endpoint slots memory is (heads None none)

  pub nobody-receives : head_of (waiting_of o memory endpoint) ≡ None → e.receivers ≡ []
  unfolding state_of
  nobody-receives none = points.nobody-receives (contents_of o memory) endpoint slots memory is (heads None none)

  module _ (thread : ℕ) (first : head_of (waiting_of o memory endpoint) ≡ Some thread) where
    pub sender-first : (sending : Sending) → sending_in o memory thread ≡ Some sending → e.senders ≡ sender_of thread sending ∷ drop 1 e.senders
    unfolding state_of
    sender-first sending sends = points.sender-first (contents_of o memory) endpoint slots memory is thread (heads (Some thread) first) sending sends

    pub receiver-first : sending_in o memory thread ≡ None → e.receivers ≡ thread ∷ drop 1 e.receivers
    unfolding state_of
    receiver-first receives = points.receiver-first (contents_of o memory) endpoint slots memory is thread (heads (Some thread) first) receives

    pub no-sender : sending_in o memory thread ≡ None → IsOneSided e → e.senders ≡ []
    unfolding state_of
    no-sender receives sides = points.no-sender (contents_of o memory) endpoint slots memory is thread (heads (Some thread) first) receives sides

    pub no-receiver : (sending : Option Sending) → sending ≡ sending_in o memory thread → is_some sending ≡ true → IsOneSided e → e.receivers ≡ []
    unfolding state_of
    no-receiver sending sends some sides = points.no-receiver (contents_of o memory) endpoint slots memory is thread (heads (Some thread) first) sending sends
        some sides

module _ (o : Tables) (notification : ℕ) (slots : Slots) (memory : List ℕ) (is : kind_at (state_of o slots memory) notification ≡ Some NewNotification) where
  abbrev n : NotificationState
  n = notification_at (state_of o slots memory) notification

  waits : (first : Option ℕ) → head_of (waiting_of o memory notification) ≡ first →
      head_of (contents.waiting_of (contents_of o memory) memory notification) ≡ first
  waits first head = ap head_of (queue-here o memory notification) ∙ head

  pub nobody-waits : head_of (waiting_of o memory notification) ≡ None → n.waiters ≡ []
  unfolding state_of
  nobody-waits none = points.nobody-waits (contents_of o memory) notification slots memory is (waits None none)

  pub waiter-first : (thread : ℕ) → head_of (waiting_of o memory notification) ≡ Some thread → n.waiters ≡ thread ∷ drop 1 n.waiters
  unfolding state_of
  waiter-first thread first = points.waiter-first (contents_of o memory) notification slots memory is thread (waits (Some thread) first)

pub waited-in : (o : Tables) (slots : Slots) (memory : List ℕ) (offset : ℕ) (waited : Bool) →
    waited ≡ (has_waiting (kind_in o offset) && is_some (head_of (waiting_of o memory offset)))
    → (waited ≡ false) ↔ (waiting_at ((state_of o slots memory).objects offset) ≡ [])
unfolding state_of
waited-in o slots memory offset waited is =
    points.waited-in (contents_of o memory) slots memory offset waited
    (is ∙ ap (λ (k : Option NewObject). has_waiting k && is_some (head_of (waiting_of o memory offset))) (sym (kind-as o memory offset))
    ∙ ap (λ (l : List ℕ). has_waiting (contents.kind_in (contents_of o memory) offset) && is_some (head_of l)) (sym (queue-here o memory offset)))
