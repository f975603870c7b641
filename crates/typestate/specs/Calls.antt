-- What the code keeps of a call, in the definitions' terms.
use Rattle.std.specs.Prelude.{ℕ, false, Option, Some, None, Result, Ok, Err, List, [], ◌∷◌}
use Rattle.model.specs.declared.capabilities.Cap.{Cap}
use Rattle.model.specs.declared.errors.KError.TheVariants.{IllegalOperation}
use Rattle.model.specs.declared.ranges.Range.{Range}
use Rattle.model.specs.declared.instructions.Register.{Register}
use Rattle.model.specs.declared.lookup_failures.LookupFailure.{LookupFailure}
use Rattle.model.specs.declared.refusals.Point.{Point}
use Rattle.model.specs.declared.refusals.Refusal.{Refusal}
use Rattle.model.specs.declared.refusals.Refusal.TheVariants.{CallRefused, CapNotThere}
use Rattle.model.specs.Acceptance.NotedKernel.{noted_root}
use Rattle.model.specs.Capabilities.Lookup.{called_slot}
use Rattle.model.specs.Capabilities.Slots.{Slots, capability_at}
use Rattle.model.specs.Images.Format.{◌>>=◌}
use Rattle.model.specs.Images.Image.{Image, Thread}
use Rattle.model.specs.Images.Places.{offset_of}
use Rattle.model.specs.Kernel.Arguments.{Call}
use Rattle.model.specs.Acceptance.CallRules.{AfterCall, by_capability, changes_nothing, invocation, known, message_registers, receive_rule, send_rule}
use Rattle.model.specs.Acceptance.Measures.{Measure}
use Rattle.model.specs.Acceptance.NotedStates.{NotedSlot, PointState}
use Rattle.model.specs.Kernel.Messages.{a0, a1}
use Rattle.typestate.specs.Replays.{replayed}
use Rattle.typestate.specs.declared.log_entries.LogEntry.{LogEntry}
use Rattle.typestate.specs.declared.behind.Behind.{Behind}
use Rattle.typestate.specs.declared.behind.Written.{Written}
use Rattle.typestate.specs.declared.behind.Written.TheVariants.{Nothing, Badge, Answer, Message}
use Rattle.typestate.specs.declared.system_calls.Kind.{Kind}
use Rattle.typestate.specs.declared.system_calls.Kind.TheVariants.{Sends, Receives, Passes}
use Rattle.typestate.specs.declared.system_calls.SystemCall.{SystemCall}
use Rattle.typestate.specs.declared.system_calls.SystemCall.TheVariants.{Plain, Invokes}

-- what is known at a point
abbrev pub known_with : List Range → List NotedSlot → Measure → PointState
known_with ranges slots measure = record { ranges = ranges; slots = slots; measure = measure }

abbrev pub registers_of : Written → List Register
registers_of Nothing = []
registers_of Badge = a0 ∷ []
registers_of Answer = a0 ∷ a1 ∷ []
registers_of Message = message_registers

-- what is known behind a call that leaves these slots
abbrev pub behind_with : List NotedSlot → Behind → AfterCall
behind_with slots b = record { ranges = b.bounds; slots = slots; is_wait = b.is_wait; written = registers_of b.written }

abbrev pub told : List NotedSlot → Result Behind Refusal → Result AfterCall Refusal
told slots (Ok b) = Ok (behind_with slots b)
told slots (Err refusal) = Err refusal

-- ---- system calls by what is asked of them

abbrev pub by_kind : Image → Thread → Point → PointState → Option Kind → Result AfterCall Refusal
by_kind image t at state (Some (Sends kind)) = by_capability image t at state (send_rule image t at state kind)
by_kind image t at state (Some (Receives is_wait)) = by_capability image t at state (λ slot. receive_rule image at state is_wait)
by_kind image t at state (Some Passes) = Ok (changes_nothing state false)
by_kind image t at state None = Err (CallRefused at IllegalOperation)

-- the slot that was found, and the capability in it
abbrev pub slot_called : Point → Slots → Result ℕ LookupFailure → Result (ℕ × Cap) Refusal
slot_called at slots (Ok slot) = Ok (slot, capability_at slots slot)
slot_called at slots (Err failure) = Err (CapNotThere at)

-- the slot that a0 names in a map of slots
abbrev pub found_call : Point → PointState → Slots → Cap → Result (ℕ × Cap) Refusal
found_call at state slots root = known at state a0 >>= λ address. slot_called at slots (called_slot slots root address)

-- what a rule says of it
abbrev pub ruled_by : (ℕ → Cap → Result AfterCall Refusal) → Result (ℕ × Cap) Refusal → Result AfterCall Refusal
ruled_by rule (Ok found) = rule found.0 found.1
ruled_by rule (Err refusal) = Err refusal

-- a thread's call on a capability
abbrev pub call_on : Image → Thread → ℕ → Cap → Call
call_on image t slot capability = record { root = noted_root image t; caller = Some (offset_of image t.header.tcb); slot = slot; capability = capability }

-- what is left to decide of a system call
abbrev pub goes_on : Image → Thread → Point → PointState → Result SystemCall Refusal → Result AfterCall Refusal
goes_on image t at state (Ok (Plain b)) = Ok (behind_with state.slots b)
goes_on image t at state (Ok (Invokes slot capability answers)) = invocation image t at state (call_on image t slot capability) answers
goes_on image t at state (Err refusal) = Err refusal

-- what is known behind a call that made these changes of the slots
abbrev pub left_with : List NotedSlot → List LogEntry → Result Behind Refusal → Result AfterCall Refusal
left_with slots made (Ok b) = Ok (behind_with (replayed slots made) b)
left_with slots made (Err refusal) = Err refusal
