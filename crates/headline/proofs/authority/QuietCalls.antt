-- A system call that invokes nothing leaves all slots as they are.
use Rattle.std.proofs.Common.{ℕ, ◌≡◌, ◌∙◌, Bool, true, false, if◌then◌else◌, Option, Some, None, Result, Ok, Err, refl, ap}
use Rattle.soundness.specs.Machines.{SameBase}
use Rattle.soundness.proofs.Laws.{answered-machine, fault-machine, passes-machine, poll-machine, receive-machine, reply-machine, send-machine, signal-machine}
use Rattle.soundness.proofs.Laws.{then-machine, try_to_receive-machine, try_to_send-machine, wait-machine, yielded-machine}
use Rattle.headline.specs.calls.Messages.{IsInvoked}
use Rattle.headline.specs.moves.Steps.{InvokesNothing}
use Rattle.model.specs.declared.capabilities.Cap.{Cap}
use Rattle.model.specs.declared.capabilities.Cap.TheVariants.{Empty, Untyped, Endpoint, Notification, CNode, Frame, PageTable, Tcb, RootTable, InterruptControl}
use Rattle.model.specs.declared.capabilities.Cap.TheVariants.{InterruptHandler}
use Rattle.model.specs.declared.errors.KError.TheVariants.{InvalidCapability}
use Rattle.model.specs.declared.lookup_failures.LookupFailure.{LookupFailure}
use Rattle.model.specs.declared.lookup_failures.LookupFailure.TheVariants.{MissingCapability}
use Rattle.model.specs.declared.system_calls.ReceiveCall.{ReceiveCall}
use Rattle.model.specs.declared.system_calls.ReceiveCall.TheVariants.{Polling, Receiving}
use Rattle.model.specs.declared.system_calls.SendCall.{SendCall}
use Rattle.model.specs.declared.system_calls.SendCall.TheVariants.{Calling, Sending, Trying}
use Rattle.model.specs.declared.system_calls.SystemCall.{SystemCall}
use Rattle.model.specs.declared.system_calls.SystemCall.TheVariants.{Sends, Receives, RepliesAndReceives, Replies, Yields, PutsCharacter}
use Rattle.model.specs.Capabilities.Rights.{may_grant_reply, may_read, may_write}
use Rattle.model.specs.Capabilities.Slots.{capability_at}
use Rattle.model.specs.Kernel.Faults.{capability_fault, unknown_call}
use Rattle.model.specs.Kernel.Messages.{a0, a7, passes, reply, signal}
use Rattle.model.specs.Kernel.State.{State, BySend, ByCall}
use Rattle.model.specs.Kernel.Steps.{call_of, calls, calls_known, lacks_capability, named_slot, receive_by, receive_call, receive_named, receive_on_endpoint}
use Rattle.model.specs.Kernel.Steps.{receive_on_notification, refused, registers_of, send_by, send_named, send_on, sender, sends_nothing, signal_on}
use Rattle.model.specs.Kernel.Steps.{system_call}
use Rattle.model.specs.Machine.ProgramMemory.{read}
use Rattle.model.specs.Shared.Labels.{error_number}

lacks-same : (s : State) (thread in_receive : ℕ) (failure : LookupFailure) → SameBase s (lacks_capability s thread in_receive failure).0
lacks-same s thread in_receive failure =
    fault-machine s thread (capability_fault (registers_of s thread).pc (read (registers_of s thread) a0) in_receive failure)

module _ (s : State) (thread : ℕ) where
  send_on-same : (kind : SendCall) (endpoint badge : ℕ) (grants : Bool) → SameBase s (send_on s thread kind endpoint badge grants).0
  send_on-same Calling endpoint badge grants = send-machine s endpoint (sender thread ByCall badge grants)
  send_on-same Sending endpoint badge grants = send-machine s endpoint (sender thread BySend badge grants)
  send_on-same Trying endpoint badge grants = try_to_send-machine s endpoint (sender thread BySend badge grants)

  send_by-same : (kind : SendCall) (slot : ℕ) (c : Cap) → (IsInvoked c → ⊥) → SameBase s (send_by s thread kind slot c).0
  send_by-same kind slot (Endpoint offset r badge) quiet = elim (may_write r)
      as (λ (b : Bool). SameBase s (if b then send_on s thread kind offset badge (may_grant_reply r) else refused s thread kind InvalidCapability).0) [
        | true ↦ send_on-same kind offset badge (may_grant_reply r)
        | false ↦ answered-machine s thread kind (error_number InvalidCapability)
      ]
  send_by-same kind slot (Notification offset r badge) quiet = elim (may_write r)
      as (λ (b : Bool). SameBase s (if b then signal_on s thread kind offset badge else refused s thread kind InvalidCapability).0) [
        | true ↦ then-machine s (signal s offset badge) (signal_on s thread kind offset badge).0 (signal-machine s offset badge)
            (answered-machine (signal s offset badge) thread kind 0)
        | false ↦ answered-machine s thread kind (error_number InvalidCapability)
      ]
  send_by-same kind slot Empty quiet = absurd (quiet tt)
  send_by-same kind slot (Untyped offset bits watermark) quiet = absurd (quiet tt)
  send_by-same kind slot (CNode offset radix guard) quiet = absurd (quiet tt)
  send_by-same kind slot (Frame offset r mapping) quiet = absurd (quiet tt)
  send_by-same kind slot (PageTable offset mapping) quiet = absurd (quiet tt)
  send_by-same kind slot (Tcb offset) quiet = absurd (quiet tt)
  send_by-same kind slot (RootTable offset) quiet = absurd (quiet tt)
  send_by-same kind slot InterruptControl quiet = absurd (quiet tt)
  send_by-same kind slot (InterruptHandler line) quiet = absurd (quiet tt)

  nothing-same : (kind : SendCall) (failure : LookupFailure) → SameBase s (sends_nothing s thread kind failure).0
  nothing-same Calling failure = lacks-same s thread 0 failure
  nothing-same Sending failure = lacks-same s thread 0 failure
  nothing-same Trying failure = passes-machine s thread

  send-same : (kind : SendCall) (r : Result ℕ LookupFailure) → ((slot : ℕ) → r ≡ Ok slot → IsInvoked (capability_at s.slots slot) → ⊥)
      → SameBase s (send_named s thread kind r).0
  send-same kind (Ok slot) quiet = send_by-same kind slot (capability_at s.slots slot) (quiet slot refl)
  send-same kind (Err failure) quiet = nothing-same kind failure

  receive_on-same : (kind : ReceiveCall) (endpoint : ℕ) → SameBase s (receive_on_endpoint s thread kind endpoint).0
  receive_on-same Receiving endpoint = receive-machine s endpoint thread
  receive_on-same Polling endpoint = try_to_receive-machine s endpoint thread

  wait_on-same : (kind : ReceiveCall) (notification : ℕ) → SameBase s (receive_on_notification s thread kind notification).0
  wait_on-same Receiving notification = wait-machine s notification thread
  wait_on-same Polling notification = poll-machine s notification thread

  receive_by-same : (kind : ReceiveCall) (c : Cap) → SameBase s (receive_by s thread kind c).0
  receive_by-same kind (Endpoint offset r badge) = elim (may_read r)
      as (λ (b : Bool). SameBase s (if b then receive_on_endpoint s thread kind offset else lacks_capability s thread 1 MissingCapability).0) [
        | true ↦ receive_on-same kind offset
        | false ↦ lacks-same s thread 1 MissingCapability
      ]
  receive_by-same kind (Notification offset r badge) = elim (may_read r)
      as (λ (b : Bool). SameBase s (if b then receive_on_notification s thread kind offset else lacks_capability s thread 1 MissingCapability).0) [
        | true ↦ wait_on-same kind offset
        | false ↦ lacks-same s thread 1 MissingCapability
      ]
  receive_by-same kind Empty = lacks-same s thread 1 MissingCapability
  receive_by-same kind (Untyped offset bits watermark) = lacks-same s thread 1 MissingCapability
  receive_by-same kind (CNode offset radix guard) = lacks-same s thread 1 MissingCapability
  receive_by-same kind (Frame offset r mapping) = lacks-same s thread 1 MissingCapability
  receive_by-same kind (PageTable offset mapping) = lacks-same s thread 1 MissingCapability
  receive_by-same kind (Tcb offset) = lacks-same s thread 1 MissingCapability
  receive_by-same kind (RootTable offset) = lacks-same s thread 1 MissingCapability
  receive_by-same kind InterruptControl = lacks-same s thread 1 MissingCapability
  receive_by-same kind (InterruptHandler line) = lacks-same s thread 1 MissingCapability

  receive-same : (kind : ReceiveCall) (r : Result ℕ LookupFailure) → SameBase s (receive_named s thread kind r).0
  receive-same kind (Ok slot) = receive_by-same kind (capability_at s.slots slot)
  receive-same kind (Err failure) = lacks-same s thread 1 failure

calls-same : (s : State) (thread : ℕ) (call : SystemCall)
    → ((kind : SendCall) (slot : ℕ) → call ≡ Sends kind → named_slot s thread ≡ Ok slot → IsInvoked (capability_at s.slots slot) → ⊥)
    → SameBase s (calls s thread call).0
calls-same s thread (Sends kind) quiet = send-same s thread kind (named_slot s thread) (λ slot. quiet kind slot refl)
calls-same s thread (Receives kind) quiet = receive-same s thread kind (named_slot s thread)
calls-same s thread RepliesAndReceives quiet =
    then-machine s (reply s thread) (receive_call (reply s thread) thread Receiving).0 (reply-machine s thread)
    (receive-same (reply s thread) thread Receiving (named_slot (reply s thread) thread))
calls-same s thread Replies quiet =
    then-machine s (reply s thread) (passes (reply s thread) thread) (reply-machine s thread) (passes-machine (reply s thread) thread)
calls-same s thread Yields quiet =
    then-machine s (passes s thread) (calls s thread Yields).0 (passes-machine s thread) (yielded-machine (passes s thread) thread)
calls-same s thread PutsCharacter quiet = passes-machine s thread

pub quiet-same : (s : State) (thread : ℕ) → InvokesNothing s thread → SameBase s (system_call s thread).0
unfolding system_call
quiet-same s thread quiet =
    let number = read (registers_of s thread) a7 in
    elim (call_of number) as (λ (o : Option SystemCall). call_of number ≡ o → SameBase s (calls_known s thread number o).0) [
      | None ↦ λ _. fault-machine s thread (unknown_call (registers_of s thread).pc number)
      | Some call ↦ λ is. calls-same s thread call (λ kind slot sends named. quiet kind slot (is ∙ ap (λ (c : SystemCall). Some c) sends) named)
    ] refl
