-- What a thread waits for is what its system call asks: a message that reaches it finds what its certificate notes after the call.
use Rattle.std.specs.Prelude.{ℕ, ◌≡◌, ◌⊎◌, ◌<◌, true, ⊤, Contains, Some, Ok, [], ◌∷◌}
use Rattle.model.specs.declared.capabilities.Cap.{Cap}
use Rattle.model.specs.Acceptance.Authority.{badge_of, rights_of}
use Rattle.model.specs.Acceptance.CallRules.{AfterCall, badges, changes_nothing, known_behind, message_registers, with_message, with_received}
use Rattle.model.specs.Acceptance.NotedKernel.{noted_root}
use Rattle.model.specs.Acceptance.NotedStates.{PointState}
use Rattle.model.specs.Acceptance.PointStates.{Known, address_of, call_at, noted}
use Rattle.model.specs.Acceptance.Promises.{promise_at}
use Rattle.model.specs.Acceptance.Ranges.{range_of, single, with_range}
use Rattle.model.specs.Acceptance.ThreadInvariants.{tcb_of}
use Rattle.model.specs.Capabilities.Lookup.{called_slot}
use Rattle.model.specs.Capabilities.Rights.{may_grant_reply}
use Rattle.model.specs.Capabilities.Slots.{capability_at}
use Rattle.model.specs.Images.Described.{Numbered}
use Rattle.model.specs.Images.Image.{Image}
use Rattle.model.specs.Kernel.Kinds.{Names}
use Rattle.model.specs.Kernel.Messages.{a0}
use Rattle.model.specs.Kernel.Retype.{NewEndpoint, NewNotification}
use Rattle.model.specs.Kernel.State.{State, Status, Inactive, Runnable, Blocked, AwaitsReply, AwaitsHandler, Sender, BySend, ByCall, EndpointObject}
use Rattle.model.specs.Kernel.State.{EndpointState, NotificationObject, NotificationState, ThreadObject, ThreadState}
use Rattle.headline.specs.calls.Messages.{KnownToKeepAt}
use Rattle.headline.specs.lookups.Found.{slots_noted}

-- ---- what is known after a call that waits

-- a message at an endpoint
abbrev pub behind_receive : Image → ℕ → PointState → AfterCall
behind_receive image endpoint state = known_behind state (with_received state.ranges (promise_at image endpoint)) true message_registers

-- any word of a notification
abbrev pub behind_signal : PointState → AfterCall
behind_signal state = known_behind state (with_range state.ranges a0 badges) true (a0 ∷ [])

-- the answer of whom it called
abbrev pub behind_reply : PointState → AfterCall
behind_reply state = known_behind state (with_message state.ranges (single 0) []) true message_registers

-- ---- queues

-- a capability to the endpoint or notification
abbrev pub NamesQueue : ℕ → Cap → Type 0
NamesQueue queue capability = Names NewEndpoint queue capability ⊎ Names NewNotification queue capability

-- The capability that the call at a point names: its address is known, and leads, by what is noted, to a slot that holds it.
pub record NamesThere (image : Image) (t : Numbered) (state : PointState) (capability : Cap) : Type 0 where
  pub address : ℕ
  pub known : range_of state.ranges a0 ≡ single address
  pub slot : ℕ
  pub found : called_slot (slots_noted image t state.slots) (noted_root image t.thread) address ≡ Ok slot
  pub is : capability_at (slots_noted image t state.slots) slot ≡ capability

-- it sends, or calls with the right to get an answer
pub data SendsAs (state : PointState) (left : AfterCall) (x : Sender) : Type 0 where
  by_send : x.sent ≡ BySend → left ≡ changes_nothing state true → SendsAs state left x
  by_call : x.sent ≡ ByCall → x.grant_reply ≡ true → left ≡ behind_reply state → SendsAs state left x

-- with the capability's badge, and its right to get an answer; and it keeps what is promised at the endpoint
pub record SendsSo (image : Image) (endpoint : ℕ) (state : PointState) (left : AfterCall) (capability : Cap) (x : Sender) : Type 0 where
  pub badge : x.badge ≡ badge_of capability
  pub grants : x.grant_reply ≡ may_grant_reply (rights_of capability)
  pub kind : SendsAs state left x
  pub keeps : KnownToKeepAt image endpoint state x.badge

-- it is queued at what the capability leads to that its call names
pub record QueuesSo (image : Image) (t : Numbered) (s : State) (state : PointState) (left : AfterCall) (queue : ℕ) : Type 0 where
  pub capability : Cap
  pub named : NamesThere image t state capability
  pub leads : NamesQueue queue capability
  pub sends : (e : EndpointState) (x : Sender) → s.objects queue ≡ Some (EndpointObject e) → Contains e.senders x → x.thread ≡ tcb_of image t
      → SendsSo image queue state left capability x
  pub receives : (e : EndpointState) → s.objects queue ≡ Some (EndpointObject e) → Contains e.receivers (tcb_of image t)
      → left ≡ behind_receive image queue state
  pub waits : (n : NotificationState) → s.objects queue ≡ Some (NotificationObject n) → Contains n.waiters (tcb_of image t)
      → left ≡ behind_signal state

-- ---- threads

-- no thread of the image is stopped or handled
abbrev pub WaitsSo : Image → Numbered → State → PointState → AfterCall → Status → Type 0
WaitsSo image t s state left Inactive = ⊥
WaitsSo image t s state left Runnable = ⊤
WaitsSo image t s state left (Blocked queue) = QueuesSo image t s state left queue
WaitsSo image t s state left AwaitsReply = left ≡ behind_reply state
WaitsSo image t s state left AwaitsHandler = ⊥

-- whatever call the thread is at, it waits for what that asks
abbrev pub WaitsAsAsked : Image → Numbered → State → Type 0
WaitsAsAsked image t s =
    (own : ThreadState) (point : ℕ) (state : PointState) (left : AfterCall) → s.objects (tcb_of image t) ≡ Some (ThreadObject own)
    → point < t.thread.header.words → own.registers.pc ≡ address_of t.thread point → noted image t point ≡ Known state
    → call_at image t point state ≡ Some (Ok left) → WaitsSo image t s state left own.status
