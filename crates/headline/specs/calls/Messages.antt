-- What the rules on receives, on Call, Send and NBSend, and on the calls that need nothing say of those that they allow.
use Rattle.std.specs.Prelude.{ℕ, ◌≡◌, true, false, Bool, if◌then◌else◌, ⊤, Some, Ok, [], ◌∷◌}
use Rattle.model.specs.declared.capabilities.Cap.{Cap}
use Rattle.model.specs.declared.capabilities.Cap.TheVariants.{Empty, Untyped, Endpoint, Notification, CNode, Frame, PageTable, Tcb, RootTable, InterruptControl}
use Rattle.model.specs.declared.capabilities.Cap.TheVariants.{InterruptHandler}
use Rattle.model.specs.declared.refusals.Point.{Point}
use Rattle.model.specs.declared.rights.Rights.{Rights}
use Rattle.model.specs.Acceptance.CallRules.{AfterCall, answers, badges, changes_nothing, invocation, known_behind, message_registers, promise_received}
use Rattle.model.specs.Acceptance.CallRules.{with_answer, with_message, with_received}
use Rattle.model.specs.Acceptance.NotedStates.{PointState}
use Rattle.model.specs.Acceptance.Promises.{keeps_promise, promise_at}
use Rattle.model.specs.Acceptance.Ranges.{range_of, single, with_range}
use Rattle.model.specs.Capabilities.Rights.{may_grant_reply, may_read, may_write}
use Rattle.model.specs.Images.Image.{Image, ImagePromise, Thread}
use Rattle.model.specs.Kernel.Messages.{a0, a1}
use Rattle.model.specs.declared.system_calls.SendCall.{SendCall}
use Rattle.model.specs.declared.system_calls.SendCall.TheVariants.{Calling, Sending, Trying}
use Rattle.model.specs.declared.system_calls.SystemCall.{SystemCall}
use Rattle.model.specs.declared.system_calls.SystemCall.TheVariants.{Sends, Receives, RepliesAndReceives, Replies, Yields, PutsCharacter}
use Rattle.typestate.specs.Calls.{call_on}

-- ---- receives

-- a message, as is promised of it, or any word of a notification, by a capability that may read
pub data ReceivesBy (image : Image) (state : PointState) (is_wait : Bool) (capability : Cap) (left : AfterCall) : Type 0 where
  on_endpoint : (offset : ℕ) (r : Rights) (badge : ℕ) → capability ≡ Endpoint offset r badge → may_read r ≡ true
      → left ≡ known_behind state (with_received state.ranges (promise_received image is_wait offset)) is_wait message_registers
      → ReceivesBy image state is_wait capability left
  on_notification : (offset : ℕ) (r : Rights) (badge : ℕ) → capability ≡ Notification offset r badge → may_read r ≡ true
      → left ≡ known_behind state (with_range state.ranges a0 badges) is_wait (a0 ∷ []) → ReceivesBy image state is_wait capability left

-- ---- promises

-- what is known of the registers keeps a promise, where the message has this badge
pub record KnownToKeep (state : PointState) (badge : ℕ) (p : ImagePromise) : Type 0 where
  pub info : ℕ
  pub known : range_of state.ranges a1 ≡ single info
  pub keeps : keeps_promise state.ranges info badge p ≡ true

-- and so what is promised at an endpoint, if anything is
abbrev pub KnownToKeepAt : Image → ℕ → PointState → ℕ → Type 0
KnownToKeepAt image endpoint state badge = (p : ImagePromise) → promise_at image endpoint ≡ Some p → KnownToKeep state badge p

-- ---- Call, Send and NBSend

-- neither an endpoint nor a notification: a call on such a capability is an invocation
abbrev pub IsInvoked : Cap → Type 0
IsInvoked Empty = ⊤
IsInvoked (Untyped offset bits watermark) = ⊤
IsInvoked (Endpoint offset r badge) = ⊥
IsInvoked (Notification offset r badge) = ⊥
IsInvoked (CNode offset radix guard) = ⊤
IsInvoked (Frame offset r mapping) = ⊤
IsInvoked (PageTable offset mapping) = ⊤
IsInvoked (Tcb offset) = ⊤
IsInvoked (RootTable offset) = ⊤
IsInvoked InterruptControl = ⊤
IsInvoked (InterruptHandler irq_line) = ⊤

-- a message or a signal, by a capability that may write, or an invocation
pub data SendsBy (image : Image) (t : Thread) (at : Point) (state : PointState) (kind : SendCall) (slot : ℕ) (capability : Cap) (left : AfterCall) : Type
    0 where
  calls : (offset : ℕ) (r : Rights) (badge : ℕ) → kind ≡ Calling → capability ≡ Endpoint offset r badge → may_write r ≡ true → may_grant_reply r ≡ true
      → KnownToKeepAt image offset state badge
      → left ≡ known_behind state (with_message state.ranges (single 0) []) true message_registers → SendsBy image t at state kind slot capability left
  sends : (offset : ℕ) (r : Rights) (badge : ℕ) → kind ≡ Sending → capability ≡ Endpoint offset r badge → may_write r ≡ true
      → KnownToKeepAt image offset state badge
      → left ≡ changes_nothing state true → SendsBy image t at state kind slot capability left
  tries : (offset : ℕ) (r : Rights) (badge : ℕ) → kind ≡ Trying → capability ≡ Endpoint offset r badge → may_write r ≡ true
      → KnownToKeepAt image offset state badge
      → left ≡ changes_nothing state false → SendsBy image t at state kind slot capability left
  signals : (offset : ℕ) (r : Rights) (badge : ℕ) → capability ≡ Notification offset r badge → may_write r ≡ true
      → left ≡ (if answers kind then known_behind state (with_answer state.ranges) false (a0 ∷ a1 ∷ []) else changes_nothing state false)
      → SendsBy image t at state kind slot capability left
  invokes : IsInvoked capability → invocation image t at state (call_on image t slot capability) (answers kind) ≡ Ok left
      → SendsBy image t at state kind slot capability left

-- ---- calls that need nothing

abbrev pub NeedsNothing : SystemCall → Type 0
NeedsNothing (Sends kind) = ⊥
NeedsNothing (Receives kind) = ⊥
NeedsNothing RepliesAndReceives = ⊥
NeedsNothing Replies = ⊤
NeedsNothing Yields = ⊤
NeedsNothing PutsCharacter = ⊤
