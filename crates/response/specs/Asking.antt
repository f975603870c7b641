-- What the instruction at a point asks of other threads: from what is known there, as the rules on calls read it.
use Rattle.std.specs.Prelude.{ℕ, Bool, true, false, Option, Some, None, Result, Ok, Err}
use Rattle.model.specs.declared.capabilities.Cap.{Cap}
use Rattle.model.specs.declared.capabilities.Cap.TheVariants.{Empty, Endpoint, Notification, InterruptHandler}
use Rattle.model.specs.declared.instructions.Instr.{Instr}
use Rattle.model.specs.declared.instructions.Instr.TheVariants.{Ecall}
use Rattle.model.specs.declared.lookup_failures.LookupFailure.{LookupFailure}
use Rattle.model.specs.Acceptance.NotedKernel.{noted_kernel, noted_root}
use Rattle.model.specs.Acceptance.NotedStates.{PointState}
use Rattle.model.specs.Acceptance.PointStates.{instruction_at}
use Rattle.model.specs.Acceptance.Ranges.{range_of}
use Rattle.model.specs.Capabilities.Lookup.{called_slot}
use Rattle.model.specs.Capabilities.Slots.{Slots, capability_at}
use Rattle.model.specs.Images.Image.{Image, Thread}
use Rattle.model.specs.Kernel.Messages.{a0, a7}
use Rattle.model.specs.Kernel.Steps.{call_of}
use Rattle.model.specs.declared.system_calls.ReceiveCall.{ReceiveCall}
use Rattle.model.specs.declared.system_calls.ReceiveCall.TheVariants.{Receiving, Polling}
use Rattle.model.specs.declared.system_calls.SendCall.{SendCall}
use Rattle.model.specs.declared.system_calls.SendCall.TheVariants.{Calling, Sending, Trying}
use Rattle.model.specs.declared.system_calls.SystemCall.{SystemCall}
use Rattle.model.specs.declared.system_calls.SystemCall.TheVariants.{Sends, Receives, RepliesAndReceives, Replies, Yields, PutsCharacter}

pub data Asked : Type 0 where
  -- waits for the notification at an offset
  Takes : ℕ → Asked
  -- takes its word, if there is one
  Polls : ℕ → Asked
  -- signals it
  Rings : ℕ → Asked
  -- acknowledges a line
  Acknowledges : ℕ → Asked
  -- receives from an endpoint, and whether it answers before
  Accepts : ℕ → Bool → Asked
  -- receives what waits there, if anything does
  Looks : ℕ → Asked
  -- sends to an endpoint, calls it, or tries to send
  SendsTo : ℕ → Asked
  Calls : ℕ → Asked
  Tries : ℕ → Asked
  -- answers
  Answers : Asked
  -- nothing of others
  Asks_nothing : Asked

abbrev pub asked_to_send : SendCall → Cap → Asked
asked_to_send kind (Notification offset r badge) = Rings offset
asked_to_send kind (InterruptHandler irq_line) = Acknowledges irq_line
asked_to_send Calling (Endpoint offset r badge) = Calls offset
asked_to_send Sending (Endpoint offset r badge) = SendsTo offset
asked_to_send Trying (Endpoint offset r badge) = Tries offset
asked_to_send kind _ = Asks_nothing

abbrev pub asked_to_receive : Bool → ReceiveCall → Cap → Asked
asked_to_receive replies Receiving (Notification offset r badge) = Takes offset
asked_to_receive replies Polling (Notification offset r badge) = Polls offset
asked_to_receive replies Receiving (Endpoint offset r badge) = Accepts offset replies
asked_to_receive replies Polling (Endpoint offset r badge) = Looks offset
asked_to_receive replies kind _ = Asks_nothing

abbrev pub asked_by : SystemCall → Cap → Asked
asked_by (Sends kind) capability = asked_to_send kind capability
asked_by (Receives kind) capability = asked_to_receive false kind capability
asked_by RepliesAndReceives capability = asked_to_receive true Receiving capability
asked_by Replies capability = Answers
asked_by Yields capability = Asks_nothing
asked_by PutsCharacter capability = Asks_nothing

abbrev pub asked_known : Option SystemCall → Cap → Asked
asked_known None capability = Asks_nothing
asked_known (Some call) capability = asked_by call capability

abbrev pub capability_found : Slots → Result ℕ LookupFailure → Cap
capability_found slots (Ok slot) = capability_at slots slot
capability_found slots (Err failure) = Empty

-- the capability that a0 names at a point
abbrev pub capability_named : Image → Thread → PointState → Cap
capability_named image t state =
    let slots = (noted_kernel image t state.slots).slots in
    capability_found slots (called_slot slots (noted_root image t) (range_of state.ranges a0).low)

abbrev pub asked_of : Image → Thread → PointState → Option Instr → Asked
asked_of image t state (Some Ecall) = asked_known (call_of (range_of state.ranges a7).low) (capability_named image t state)
asked_of image t state _ = Asks_nothing

unfoldable pub asked_at : Image → Thread → ℕ → PointState → Asked
asked_at image t point state = asked_of image t state (instruction_at t point)
