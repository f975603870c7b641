-- Each event keeps the ready list free of doubles.
use Rattle.std.proofs.Common.{ℕ, ◌≡◌, ◌==◌, ◌&&◌, ◌||◌, Bool, true, false, not, if◌then◌else◌, List, [], ◌∷◌, Option, Some, None, Result, Ok, Err, refl}
use Rattle.std.proofs.Common.{subst, sym}
use Rattle.std.specs.Prelude.{◌+◌, ◌-◌, ◌/◌, ◌%◌, ◌^◌, ◌++◌, filter, fold, is_some, nat_le, nat_lt}
use Rattle.std.specs.Option.{option_map_or}
use Rattle.model.specs.declared.capabilities.Cap.{Cap}
use Rattle.model.specs.declared.capabilities.Cap.TheVariants.{Empty, Untyped, Endpoint, Notification, CNode, Frame, PageTable, Tcb, RootTable, InterruptControl}
use Rattle.model.specs.declared.capabilities.Cap.TheVariants.{InterruptHandler}
use Rattle.model.specs.declared.errors.KError.{KError}
use Rattle.model.specs.declared.errors.KError.TheVariants.{AlignmentError, DeleteFirst, FailedLookup, IllegalOperation, InvalidArgument, InvalidCapability}
use Rattle.model.specs.declared.errors.KError.TheVariants.{NotEnoughMemory, RangeError, RevokeFirst}
use Rattle.model.specs.declared.events.Event.{Event}
use Rattle.model.specs.declared.events.Event.TheVariants.{Step, Tick, Irq, Write, Read}
use Rattle.model.specs.declared.instructions.Access.TheVariants.{Fetch}
use Rattle.model.specs.declared.instructions.AccessSize.TheVariants.{Word}
use Rattle.model.specs.declared.instructions.Exec.{Exec}
use Rattle.model.specs.declared.instructions.Exec.TheVariants.{Next, Ecall, Trap, Memory}
use Rattle.model.specs.declared.instructions.Instr.{Instr}
use Rattle.model.specs.declared.instructions.MemoryFault.{MemoryFault}
use Rattle.model.specs.declared.labels.Label.TheVariants.{Idle}
use Rattle.model.specs.declared.labels.Outcome.{Outcome}
use Rattle.model.specs.declared.labels.Outcome.TheVariants.{Plain}
use Rattle.model.specs.declared.lookup_failures.LookupFailure.{LookupFailure}
use Rattle.model.specs.declared.lookup_failures.LookupFailure.TheVariants.{MissingCapability}
use Rattle.model.specs.declared.rights.Rights.{Rights}
use Rattle.model.specs.Kernel.AddressSpaces.{content_of, with_content, address_limit, is_page_taken, is_region_taken, page_size, region_pages, region_size}
use Rattle.model.specs.Capabilities.CapabilityKinds.{badge_fits, carries_messages, cnode_of, frame_mapping, guard_fits, is_badged, is_handler_of, may_be_copied}
use Rattle.model.specs.Capabilities.CapabilityKinds.{root_of, table_mapping, unmapped}
use Rattle.model.specs.Capabilities.Placement.{placement}
use Rattle.model.specs.Capabilities.Rights.{mapping_rights, may_execute, may_grant_reply, may_read, may_write}
use Rattle.model.specs.Capabilities.Slots.{capability_at, is_full, recapped}
use Rattle.model.specs.Kernel.Arguments.{◌>>=◌, Call, argument_slot, check, destination_slot, may_have_child, source_slot, wanted}
use Rattle.model.specs.Machine.Decoding.{decoded}
use Rattle.model.specs.Machine.ProgramMemory.{RegisterFile, loaded, read}
use Rattle.model.specs.Machine.Effects.{effect}
use Rattle.model.specs.Kernel.Interrupts.{Signal, acknowledge, binding, interrupt, raise, with_pending}
use Rattle.model.specs.Kernel.Faults.{Handler, fault, handler, tell}
use Rattle.model.specs.Kernel.CallForms.{decode}
use Rattle.model.specs.Kernel.CNodeCalls.{copy, mint, move, mutate, on_cnode}
use Rattle.model.specs.Kernel.InterruptCalls.{bind, get_handler, may_be_bound, on_handler}
use Rattle.model.specs.Kernel.Invocations.{invoke, perform}
use Rattle.model.specs.Kernel.MappingCalls.{is_mapped, map_frame, map_table, on_frame, on_table, root_named, unmap_table, without_region}
use Rattle.model.specs.Kernel.ThreadCalls.{buffer_frame, configure, given_guard_fits, is_caller, on_thread, resume, set_buffer, set_priority, set_register}
use Rattle.model.specs.Kernel.ThreadCalls.{suspend, with_priority}
use Rattle.model.specs.declared.invocations.CNodeCall.{CNodeCall}
use Rattle.model.specs.declared.invocations.CNodeCall.TheVariants.{Copy, Mint, Move, Mutate, Delete, Revoke}
use Rattle.model.specs.declared.invocations.FrameCall.{FrameCall}
use Rattle.model.specs.declared.invocations.FrameCall.TheVariants.{MapFrame, UnmapFrame}
use Rattle.model.specs.declared.invocations.HandlerCall.{HandlerCall}
use Rattle.model.specs.declared.invocations.HandlerCall.TheVariants.{Acknowledge, SetNotification, Clear}
use Rattle.model.specs.declared.invocations.Invocation.{Invocation}
use Rattle.model.specs.declared.invocations.Invocation.TheVariants.{OnUntyped, OnThread, OnCNode, OnFrame, OnTable, OnControl, OnHandler}
use Rattle.model.specs.declared.invocations.RetypeCall.{RetypeCall}
use Rattle.model.specs.declared.invocations.SlotName.{SlotName}
use Rattle.model.specs.declared.invocations.TableCall.{TableCall}
use Rattle.model.specs.declared.invocations.TableCall.TheVariants.{MapTable, UnmapTable}
use Rattle.model.specs.declared.invocations.ThreadCall.{ThreadCall}
use Rattle.model.specs.declared.invocations.ThreadCall.TheVariants.{Configure, SetPriority, SetRegister, Resume, Suspend, SetBuffer}
use Rattle.model.specs.declared.invocations.UntypedMemory.{UntypedMemory}
use Rattle.model.specs.Kernel.Messages.{Message, a7, bytes_between, waits_for_signal, deliver_sent, deliver_with, deliver_word, message_between, passes}
use Rattle.model.specs.Kernel.Messages.{with_caller, with_registers, receive, receives, received, received_waiting, replied, reply, reply_to_fault, sends}
use Rattle.model.specs.Kernel.Messages.{resumption, signal, signals, takes_word, tries_to_send, try_to_receive, waits_to_receive}
use Rattle.model.specs.Kernel.Removal.{SlotSet, closes, closing, delete, emptied, is_ending_thread, is_set_back, remove, thread_places, without_slots}
use Rattle.model.specs.Kernel.Retype.{any_full, is_large_enough, is_small_enough, node, object_bits, retype, type_of}
use Rattle.model.specs.Kernel.Scheduling.{at_tail, block, current, full_slice, is_runnable, leaves, tick, ticked, to_tail, unready, wake, yielded}
use Rattle.model.specs.Kernel.State.{FaultMessage, NotificationState, Sender, Sent, BySend, ByCall, ByFault, State, Status, Inactive, Runnable, Blocked}
use Rattle.model.specs.Kernel.State.{AwaitsReply, AwaitsHandler, as_thread, binding_slot, buffer_slot, cspace_slot, endpoint_at, holds_some, slot_of}
use Rattle.model.specs.Kernel.State.{notification_at, put, thread_at, vspace_slot, with_endpoint, with_notification, with_slots, with_thread}
use Rattle.model.specs.Kernel.Steps.{Done, call_of, calls, calls_known, registers_of, lacks_capability, named_slot, signal_on, after_effect, after_invocation}
use Rattle.model.specs.Kernel.Steps.{answered, completed, invokes, ran, receive_by, receive_named, receive_on_endpoint, receive_on_notification, refused, runs}
use Rattle.model.specs.Kernel.Steps.{place_of, runs_decoded, runs_fetched, send_by, send_named, send_on, sender, sends_nothing, step, system_call}
use Rattle.model.specs.declared.system_calls.SendCall.{SendCall}
use Rattle.model.specs.declared.system_calls.SendCall.TheVariants.{Calling, Sending, Trying}
use Rattle.model.specs.declared.system_calls.ReceiveCall.{ReceiveCall}
use Rattle.model.specs.declared.system_calls.ReceiveCall.TheVariants.{Receiving, Polling}
use Rattle.model.specs.declared.system_calls.SystemCall.{SystemCall}
use Rattle.model.specs.declared.system_calls.SystemCall.TheVariants.{Sends, Receives, RepliesAndReceives, Replies, Yields, PutsCharacter}
use Rattle.soundness.specs.Machines.{SameBesideBytes}
use Rattle.soundness.proofs.Laws.{written-beside}
use Rattle.headline.specs.authority.Ready.{HoldsNoneTwice}
use Rattle.headline.proofs.authority.ReadyLists.{filtered-none_twice, moved-none_twice, unready-none_twice}

record Sound (s : State) : Type 0 where
  holds : HoldsNoneTwice s.ready

data SoundDone : Done → Type 0 where
  done : {s : State} {o : Outcome} → Sound s → SoundDone (s, o)

data SoundResult : Result State KError → Type 0 where
  fine : {s : State} → Sound s → SoundResult (Ok s)
  error : {e : KError} → SoundResult (Err e)

-- a state with the same ready list
same : {s t : State} → s.ready ≡ t.ready → Sound s → Sound t
same {s} {t} is before = record { holds = subst HoldsNoneTwice is before.holds }

-- ---- the four changes

unready-sound : (s : State) (thread : ℕ) → Sound s → Sound (unready s thread)
unready-sound s thread before = record { holds = unready-none_twice s.ready thread before.holds }

to_tail-sound : (s : State) (thread : ℕ) → Sound s → Sound (to_tail s thread)
to_tail-sound s thread before = record { holds = moved-none_twice s.ready thread (thread_at (unready s thread) thread).priority before.holds }

wake-sound : (s : State) (thread : ℕ) → Sound s → Sound (wake s thread)
wake-sound s thread before =
    record {
      holds = moved-none_twice s.ready thread
          (thread_at (unready (with_thread s thread (record (thread_at s thread) { status = Runnable; slice = full_slice })) thread) thread).priority
          before.holds;
    }

block-sound : (s : State) (thread : ℕ) (status : Status) → Sound s → Sound (block s thread status)
block-sound s thread status before = same refl (unready-sound s thread before)

leaves-sound : (s : State) (thread : ℕ) → Sound s → Sound (leaves s thread)
leaves-sound s thread before = same refl (unready-sound s thread before)

yielded-sound : (s : State) (thread : ℕ) → Sound s → Sound (yielded s thread)
yielded-sound s thread before =
    record {
      holds = moved-none_twice s.ready thread
          (thread_at (unready (with_thread s thread (record (thread_at s thread) { slice = full_slice })) thread) thread).priority before.holds;
    }

-- ---- choices

either : (b : Bool) (x y : State) → Sound x → Sound y → Sound (if b then x else y)
either true x y one other = one
either false x y one other = other

either_done : (b : Bool) (x y : Done) → SoundDone x → SoundDone y → SoundDone (if b then x else y)
either_done true x y one other = one
either_done false x y one other = other

either_result : (b : Bool) (x y : Result State KError) → SoundResult x → SoundResult y → SoundResult (if b then x else y)
either_result true x y one other = one
either_result false x y one other = other

perhaps : {A : Type 0} (f : A → State) (o : Option A) (otherwise : State) → ((x : A) → Sound (f x)) → Sound otherwise → Sound (option_map_or f o otherwise)
perhaps f (Some x) otherwise some none = some x
perhaps f None otherwise some none = none

-- ---- messages

received-sound : (s : State) (sender : Sender) (sent : Sent) (receiver : ℕ) → Sound s → Sound (received s sender sent receiver)
received-sound s sender BySend receiver before = (same refl before)
received-sound s sender ByCall receiver before =
    either sender.grant_reply (with_caller (block s sender.thread AwaitsReply) receiver (Some sender.thread)) (block s sender.thread Inactive)
    (same refl (block-sound s sender.thread AwaitsReply before)) (block-sound s sender.thread Inactive before)
received-sound s sender (ByFault message) receiver before = same refl (block-sound s sender.thread AwaitsHandler before)

sends-sound : (s : State) (endpoint : ℕ) (sender : Sender) (receivers : List ℕ) → Sound s → Sound (sends s endpoint sender receivers)
sends-sound s endpoint sender [] before =
    let e = endpoint_at s endpoint in
    block-sound (with_endpoint s endpoint (record e { senders = e.senders ++ sender ∷ [] })) sender.thread (Blocked endpoint) (same refl before)
sends-sound s endpoint sender (receiver ∷ others) before =
    let taken : State = with_endpoint s endpoint (record (endpoint_at s endpoint) { receivers = others }) in
    let told : State = deliver_sent taken sender receiver in
    received-sound (wake told receiver) sender sender.sent receiver (wake-sound told receiver (same refl before))

try_to_send-sound : (s : State) (endpoint : ℕ) (sender : Sender) (receivers : List ℕ) → Sound s → Sound (tries_to_send s endpoint sender receivers)
try_to_send-sound s endpoint sender [] before = (same refl before)
try_to_send-sound s endpoint sender (receiver ∷ others) before = sends-sound s endpoint sender (receiver ∷ others) (same refl before)

received_waiting-sound : (s : State) (sender : Sender) (sent : Sent) (receiver : ℕ) → Sound s → Sound (received_waiting s sender sent receiver)
received_waiting-sound s sender BySend receiver before = wake-sound (passes s sender.thread) sender.thread (same refl before)
received_waiting-sound s sender ByCall receiver before = received-sound s sender ByCall receiver (same refl before)
received_waiting-sound s sender (ByFault message) receiver before = received-sound s sender (ByFault message) receiver (same refl before)

receives-sound : (s : State) (endpoint receiver : ℕ) (otherwise : State) (senders : List Sender) → Sound s → Sound otherwise →
    Sound (receives s endpoint receiver otherwise senders)
receives-sound s endpoint receiver otherwise [] before other = other
receives-sound s endpoint receiver otherwise (sender ∷ others) before other =
    let taken : State = with_endpoint s endpoint (record (endpoint_at s endpoint) { senders = others }) in
    let told : State = deliver_sent taken sender receiver in
    received_waiting-sound told sender sender.sent receiver (same refl before)

receive-sound : (s : State) (endpoint receiver : ℕ) → Sound s → Sound (receive s endpoint receiver)
receive-sound s endpoint receiver before =
    let ready : State = with_caller s receiver None in
    let e = endpoint_at ready endpoint in
    receives-sound ready endpoint receiver (waits_to_receive ready endpoint receiver) e.senders (same refl before)
    (block-sound (with_endpoint ready endpoint (record e { receivers = e.receivers ++ receiver ∷ [] })) receiver (Blocked endpoint) (same refl before))

try_to_receive-sound : (s : State) (endpoint receiver : ℕ) → Sound s → Sound (try_to_receive s endpoint receiver)
try_to_receive-sound s endpoint receiver before =
    let ready : State = with_caller s receiver None in
    receives-sound ready endpoint receiver (deliver_word ready receiver 0) (endpoint_at ready endpoint).senders (same refl before) (same refl before)

reply_to_fault-sound : (s : State) (thread : ℕ) (message : Message) → Sound s → Sound (reply_to_fault s thread message)
reply_to_fault-sound s thread message before =
    let r = (thread_at s thread).registers in
    let resumed : State = with_registers s thread (record r { pc = resumption r.pc message.words }) in
    either (message.label == 0) (wake resumed thread) (block s thread Inactive) (wake-sound resumed thread (same refl before))
    (block-sound s thread Inactive before)

replied-sound : (s : State) (thread caller : ℕ) (status : Status) (message : Message) → Sound s → Sound (replied s thread caller status message)
replied-sound s thread caller AwaitsReply message before =
    wake-sound (deliver_with s (bytes_between s thread caller message.count) caller 0 message) caller (same refl before)
replied-sound s thread caller AwaitsHandler message before = reply_to_fault-sound s caller message (same refl before)
replied-sound s thread caller Inactive message before = (same refl before)
replied-sound s thread caller Runnable message before = (same refl before)
replied-sound s thread caller (Blocked queue) message before = (same refl before)

reply-sound : (s : State) (thread : ℕ) → Sound s → Sound (reply s thread)
reply-sound s thread before =
    perhaps (λ caller. replied (with_caller s thread None) thread caller (thread_at s caller).status (message_between s thread caller))
    (thread_at s thread).caller s
    (λ caller. replied-sound (with_caller s thread None) thread caller (thread_at s caller).status (message_between s thread caller) (same refl before)) before

signals-sound : (s : State) (notification badge : ℕ) (n : NotificationState) (waiters : List ℕ) → Sound s → Sound (signals s notification badge n waiters)
signals-sound s notification badge n [] before = (same refl before)
signals-sound s notification badge n (waiter ∷ others) before =
    wake-sound (deliver_word (with_notification s notification (record n { waiters = others })) waiter badge) waiter (same refl before)

signal-sound : (s : State) (notification badge : ℕ) → Sound s → Sound (signal s notification badge)
signal-sound s notification badge before = signals-sound s notification badge _ _ (same refl before)

takes_word-sound : (s : State) (notification thread : ℕ) (otherwise : State) → Sound s → Sound otherwise → Sound (takes_word s notification thread otherwise)
takes_word-sound s notification thread otherwise before other =
    let n = notification_at s notification in
    either (n.word == 0) otherwise (deliver_word (with_notification s notification (record n { word = 0 })) thread n.word) other (same refl before)

-- ---- interrupts and faults

interrupt-sound : (s : State) (irq_line : ℕ) (bound : Signal) → Sound s → Sound (interrupt s irq_line bound)
interrupt-sound s irq_line bound before = same refl (signal-sound s bound.notification bound.badge before)

raise-sound : (s : State) (irq_line : ℕ) → Sound s → Sound (raise s irq_line)
raise-sound s irq_line before =
    let waits : State = with_pending s irq_line true in
    let delivered : State = option_map_or (interrupt s irq_line) (binding s irq_line) waits in
    either (nat_lt 63 irq_line) s (if s.masked irq_line then waits else delivered) before
    (either (s.masked irq_line) waits delivered (same refl before)
    (perhaps (interrupt s irq_line) (binding s irq_line) waits (λ bound. interrupt-sound s irq_line bound before) (same refl before)))

acknowledge-sound : (s : State) (irq_line : ℕ) → Sound s → Sound (acknowledge s irq_line)
acknowledge-sound s irq_line before =
    let unmasked : State = record s { masked = put s.masked irq_line false } in
    let taken : State = with_pending unmasked irq_line false in
    either (s.pending irq_line) (option_map_or (interrupt taken irq_line) (binding s irq_line) unmasked) unmasked
    (perhaps (interrupt taken irq_line) (binding s irq_line) unmasked (λ bound. interrupt-sound taken irq_line bound (same refl before)) (same refl before))
    (same refl before)

tell-sound : (s : State) (thread : ℕ) (message : FaultMessage) (to : Handler) → Sound s → Sound (tell s thread message to)
tell-sound s thread message to before =
    sends-sound s to.endpoint (record { thread = thread; sent = ByFault message; badge = to.badge; grant_reply = true }) (endpoint_at s to.endpoint).receivers
    before

fault-sound : (s : State) (thread : ℕ) (message : FaultMessage) → Sound s → Sound (fault s thread message)
fault-sound s thread message before =
    perhaps (tell s thread message) (handler s thread) (block s thread Inactive) (λ to. tell-sound s thread message to before)
    (block-sound s thread Inactive before)

-- ---- invocations

bind-sound : {A : Type 0} (r : Result A KError) (f : A → Result State KError) → ((x : A) → SoundResult (f x)) → SoundResult (r >>= f)
bind-sound (Ok x) f rest = rest x
bind-sound (Err e) f rest = error

bind-state : (r : Result State KError) (f : State → Result State KError) → SoundResult r → ((x : State) → Sound x → SoundResult (f x)) → SoundResult (r >>= f)
bind-state (Ok x) f (fine sound) rest = rest x sound
bind-state (Err e) f sound rest = error

fold-sound : (f : State → ℕ → State) → ((s : State) (n : ℕ) → Sound s → Sound (f s n)) → (s : State) (ns : List ℕ) → Sound s → Sound (fold f s ns)
fold-sound f each s [] before = before
fold-sound f each s (n ∷ ns) before = fold-sound f each (f s n) ns (each s n before)

without_slots-sound : (s : State) (set : SlotSet) → Sound s → Sound (without_slots s set)
without_slots-sound s set before =
    fold-sound wake wake-sound (closing (emptied s set) (closes s set)) (filter (is_set_back s set) (thread_places s))
    (record { holds = filtered-none_twice s.ready (λ thread. not (is_ending_thread s set thread)) before.holds })

remove-sound : (s : State) (set : SlotSet) → Sound s → SoundResult (remove s set)
unfolding remove
remove-sound s set before = either_result _ _ _ error (fine (without_slots-sound s _ before))

delete-sound : (s : State) (slot : ℕ) → Sound s → SoundResult (delete s slot)
delete-sound s slot before = either_result _ _ _ (remove-sound s _ before) (fine before)

retype-sound : (s : State) (root : Cap) (slot : ℕ) (memory : UntypedMemory) (call : RetypeCall) → Sound s → SoundResult (retype s root slot memory call)
unfolding retype
retype-sound s root slot memory call before =
    bind-sound (wanted (type_of call.kind call.size) InvalidArgument) _
    (λ kind. bind-sound (check (is_large_enough kind) InvalidArgument) _
    (λ _. bind-sound (check (is_small_enough kind) RangeError) _
    (λ _. bind-sound (node s.slots root call.node) _
    (λ cnode. bind-sound (check (nat_le 1 call.count && nat_le call.count 256 && nat_le (call.index + call.count) (2 ^ cnode.radix)) RangeError) _
    (λ _. bind-sound (check (not (any_full s.slots (slot_of cnode.offset call.index) call.count)) DeleteFirst) _
    (λ _. bind-sound (may_have_child s.slots slot) _
    (λ _. bind-sound (wanted (placement memory.bits memory.watermark (object_bits kind) call.count) NotEnoughMemory) _
    (λ place. fine (same refl before)))))))))

with_priority-sound : (s : State) (thread priority : ℕ) → Sound s → Sound (with_priority s thread priority)
with_priority-sound s thread priority before =
    let t = record (thread_at s thread) { priority = priority } in
    either (is_runnable t.status) (at_tail (with_thread (unready s thread) thread t) thread) (with_thread s thread t)
    (record { holds = moved-none_twice s.ready thread (thread_at (with_thread (unready s thread) thread t) thread).priority before.holds }) (same refl before)

resume-sound : (s : State) (thread : ℕ) → Sound s → Sound (resume s thread)
resume-sound s thread before = either (is_runnable (thread_at s thread).status) s (wake (leaves s thread) thread) before
    (wake-sound (leaves s thread) thread (leaves-sound s thread before))

suspend-sound : (s : State) (thread : ℕ) → Sound s → Sound (suspend s thread)
suspend-sound s thread before = block-sound (leaves s thread) thread Inactive (leaves-sound s thread (same refl before))

configure-sound : (s : State) (root : Cap) (thread : ℕ) (guard : Option ℕ) (fault_address : ℕ) (cspace_name vspace_name : SlotName) → Sound s
    → SoundResult (configure s root thread guard fault_address cspace_name vspace_name)
configure-sound s root thread guard fault_address cspace_name vspace_name before =
    bind-sound (source_slot s.slots root cspace_name) _
    (λ cspace. bind-sound (wanted (cnode_of (capability_at s.slots cspace)) InvalidCapability) _
    (λ _. bind-sound (source_slot s.slots root vspace_name) _
    (λ vspace. bind-sound (wanted (root_of (capability_at s.slots vspace)) InvalidCapability) _
    (λ _. bind-sound (check (not (is_full s.slots (cspace_slot thread)) && not (is_full s.slots (vspace_slot thread))) DeleteFirst) _
    (λ _. bind-sound (check (given_guard_fits (capability_at s.slots cspace) guard) IllegalOperation) _
    (λ _. bind-sound (may_have_child s.slots cspace) _ (λ _. bind-sound (may_have_child s.slots vspace) _ (λ _. fine (same refl before)))))))))

set_priority-sound : (s : State) (thread priority : ℕ) → Sound s → SoundResult (set_priority s thread priority)
set_priority-sound s thread priority before = bind-sound (check (nat_le priority 255) RangeError) _ (λ _. fine (with_priority-sound s thread priority before))

set_register-sound : (s : State) (caller : Option ℕ) (thread index value : ℕ) → Sound s → SoundResult (set_register s caller thread index value)
set_register-sound s caller thread index value before =
    bind-sound (check (not (is_caller caller thread)) IllegalOperation) _
    (λ _. bind-sound (check (nat_le index 31) RangeError) _
    (λ _. bind-sound (check (not (index == 0) || value % 4 == 0) AlignmentError) _ (λ _. fine (same refl before))))

set_buffer-sound : (s : State) (root : Cap) (thread : ℕ) (frame_name : SlotName) → Sound s → SoundResult (set_buffer s root thread frame_name)
set_buffer-sound s root thread frame_name before =
    bind-sound (source_slot s.slots root frame_name) _
    (λ source. bind-sound (wanted (buffer_frame (capability_at s.slots source)) InvalidCapability) _
    (λ frame. bind-sound (check (not (is_full s.slots (buffer_slot thread))) DeleteFirst) _
    (λ _. bind-sound (may_have_child s.slots source) _ (λ _. fine (same refl before)))))

on_thread-sound : (s : State) (call : Call) (thread : ℕ) (c : ThreadCall) → Sound s → SoundResult (on_thread s call thread c)
on_thread-sound s call thread (Configure fault_address cspace vspace) before = configure-sound s call.root thread None fault_address cspace vspace before
on_thread-sound s call thread (SetPriority priority) before = set_priority-sound s thread priority (same refl before)
on_thread-sound s call thread (SetRegister index value) before = set_register-sound s call.caller thread index value (same refl before)
on_thread-sound s call thread Resume before = fine (resume-sound s thread before)
on_thread-sound s call thread Suspend before = fine (suspend-sound s thread before)
on_thread-sound s call thread (SetBuffer frame) before = set_buffer-sound s call.root thread frame before

copy-sound : (s : State) (call : Call) (destination_name source_name : SlotName) (rights_word : ℕ) → Sound s
    → SoundResult (copy s call destination_name source_name rights_word)
copy-sound s call destination_name source_name rights_word before =
    bind-sound (destination_slot s.slots call.capability destination_name) _
    (λ destination. bind-sound (source_slot s.slots call.root source_name) _
    (λ source. bind-sound (check (may_be_copied (capability_at s.slots source)) IllegalOperation) _
    (λ _. bind-sound (may_have_child s.slots source) _ (λ _. fine (same refl before)))))

mint-sound : (s : State) (call : Call) (destination_name source_name : SlotName) (rights_word payload : ℕ) → Sound s
    → SoundResult (mint s call destination_name source_name rights_word payload)
mint-sound s call destination_name source_name rights_word payload before =
    bind-sound (destination_slot s.slots call.capability destination_name) _
    (λ destination. bind-sound (source_slot s.slots call.root source_name) _
    (λ source. bind-sound (check (may_be_copied (capability_at s.slots source)) IllegalOperation) _
    (λ _. bind-sound (check (not (is_badged (capability_at s.slots source))) IllegalOperation) _
    (λ _. bind-sound (check (badge_fits (capability_at s.slots source) payload) RangeError) _
    (λ _. bind-sound (check (guard_fits (capability_at s.slots source) payload) IllegalOperation) _
    (λ _. bind-sound (may_have_child s.slots source) _ (λ _. fine (same refl before))))))))

move-sound : (s : State) (call : Call) (destination_name source_name : SlotName) → Sound s → SoundResult (move s call destination_name source_name)
move-sound s call destination_name source_name before =
    bind-sound (destination_slot s.slots call.capability destination_name) _
    (λ destination. bind-sound (source_slot s.slots call.root source_name) _ (λ source. fine (same refl before)))

mutate-sound : (s : State) (call : Call) (destination_name source_name : SlotName) (payload : ℕ) → Sound s
    → SoundResult (mutate s call destination_name source_name payload)
mutate-sound s call destination_name source_name payload before =
    bind-sound (destination_slot s.slots call.capability destination_name) _
    (λ destination. bind-sound (source_slot s.slots call.root source_name) _
    (λ source. bind-sound (check (not (carries_messages (capability_at s.slots source))) IllegalOperation) _
    (λ _. bind-sound (check (guard_fits (capability_at s.slots source) payload) IllegalOperation) _ (λ _. fine (same refl before)))))

on_cnode-sound : (s : State) (call : Call) (c : CNodeCall) → Sound s → SoundResult (on_cnode s call c)
on_cnode-sound s call (Copy destination source rights_word) before = copy-sound s call destination source rights_word before
on_cnode-sound s call (Mint destination source rights_word payload) before = mint-sound s call destination source rights_word payload before
on_cnode-sound s call (Move destination source) before = move-sound s call destination source before
on_cnode-sound s call (Mutate destination source payload) before = mutate-sound s call destination source payload before
on_cnode-sound s call (Delete name) before = bind-sound (argument_slot s.slots call.capability name) _ (λ slot. delete-sound s slot (same refl before))
on_cnode-sound s call (Revoke name) before = bind-sound (argument_slot s.slots call.capability name) _ (λ slot. remove-sound s _ (same refl before))

map_frame-sound : (s : State) (call : Call) (held : Rights) (root_name : SlotName) (address rights_word : ℕ) → Sound s
    → SoundResult (map_frame s call held root_name address rights_word)
map_frame-sound s call held root_name address rights_word before =
    let allowed : Rights = mapping_rights held rights_word in
    bind-sound (check (not (is_mapped (frame_mapping call.capability))) InvalidCapability) _
    (λ _. bind-sound (root_named s.slots call.root root_name) _
    (λ root. bind-sound (check (nat_lt address address_limit) InvalidArgument) _
    (λ _. bind-sound (check (address % page_size == 0) AlignmentError) _
    (λ _. bind-sound (check (is_region_taken s root (address / page_size / region_pages)) FailedLookup) _
    (λ _. bind-sound (check (not (is_page_taken s root (address / page_size))) DeleteFirst) _
    (λ _. bind-sound (check (may_read allowed || may_execute allowed) InvalidArgument) _ (λ _. fine (same refl before))))))))

on_frame-sound : (s : State) (call : Call) (held : Rights) (c : FrameCall) → Sound s → SoundResult (on_frame s call held c)
on_frame-sound s call held (MapFrame root address rights_word) before = map_frame-sound s call held root address rights_word before
on_frame-sound s call held UnmapFrame before = fine (same refl before)

unmap_table-sound : (s : State) (call : Call) → Sound s → Sound (unmap_table s call)
unmap_table-sound s call before =
    perhaps (λ mapping. with_slots s (without_region (recapped s.slots call.slot (unmapped call.capability)) mapping)) (table_mapping call.capability) s
    (λ mapping. same refl before) before

map_table-sound : (s : State) (call : Call) (root_name : SlotName) (address : ℕ) → Sound s → SoundResult (map_table s call root_name address)
map_table-sound s call root_name address before =
    bind-sound (check (not (is_mapped (table_mapping call.capability))) InvalidCapability) _
    (λ _. bind-sound (root_named s.slots call.root root_name) _
    (λ root. bind-sound (check (nat_lt address address_limit) InvalidArgument) _
    (λ _. bind-sound (check (address % region_size == 0) AlignmentError) _
    (λ _. bind-sound (check (not (is_region_taken s root (address / region_size))) DeleteFirst) _ (λ _. fine (same refl before))))))

on_table-sound : (s : State) (call : Call) (c : TableCall) → Sound s → SoundResult (on_table s call c)
on_table-sound s call (MapTable root address) before = map_table-sound s call root address before
on_table-sound s call UnmapTable before = fine (unmap_table-sound s call before)

get_handler-sound : (s : State) (call : Call) (line : ℕ) (name : SlotName) → Sound s → SoundResult (get_handler s call line name)
get_handler-sound s call line name before =
    bind-sound (check (nat_le line 63) RangeError) _
    (λ _. bind-sound (check (not (holds_some s (is_handler_of line))) RevokeFirst) _
    (λ _. bind-sound (destination_slot s.slots call.root name) _
    (λ destination. bind-sound (may_have_child s.slots call.slot) _ (λ _. fine (same refl before)))))

bind_line-sound : (s : State) (call : Call) (line : ℕ) (name : SlotName) → Sound s → SoundResult (bind s call line name)
bind_line-sound s call line name before =
    bind-sound (source_slot s.slots call.root name) _
    (λ source. bind-sound (check (may_be_bound (capability_at s.slots source)) InvalidCapability) _
    (λ _. bind-sound (may_have_child s.slots source) _
    (λ _. bind-state (delete s (binding_slot s line)) _ (delete-sound s (binding_slot s line) before) (λ after sound. fine (same refl sound)))))

on_handler-sound : (s : State) (call : Call) (irq_line : ℕ) (c : HandlerCall) → Sound s → SoundResult (on_handler s call irq_line c)
on_handler-sound s call irq_line Acknowledge before = fine (acknowledge-sound s irq_line before)
on_handler-sound s call irq_line (SetNotification name) before = bind_line-sound s call irq_line name before
on_handler-sound s call irq_line Clear before = delete-sound s (binding_slot s irq_line) (same refl before)

perform-sound : (s : State) (call : Call) (c : Invocation) → Sound s → SoundResult (perform s call c)
perform-sound s call (OnUntyped memory c) before = retype-sound s call.root call.slot memory c (same refl before)
perform-sound s call (OnThread thread c) before = on_thread-sound s call thread c (same refl before)
perform-sound s call (OnCNode c) before = on_cnode-sound s call c (same refl before)
perform-sound s call (OnFrame held c) before = on_frame-sound s call held c (same refl before)
perform-sound s call (OnTable c) before = on_table-sound s call c (same refl before)
perform-sound s call (OnControl irq_line destination) before = get_handler-sound s call irq_line destination (same refl before)
perform-sound s call (OnHandler irq_line c) before = on_handler-sound s call irq_line c (same refl before)

invoke-sound : (s : State) (call : Call) (label extra : ℕ) (words : List ℕ) → Sound s → SoundResult (invoke s call label extra words)
unfolding invoke
invoke-sound s call label extra words before = bind-sound (decode call.capability label extra words) _ (λ c. perform-sound s call c before)

-- ---- system calls

answered-sound : (s : State) (thread : ℕ) (kind : SendCall) (number : ℕ) → Sound s → Sound (answered s thread kind number)
answered-sound s thread Calling number before = (same refl before)
answered-sound s thread Sending number before = (same refl before)
answered-sound s thread Trying number before = (same refl before)

completed-sound : (s : State) (thread : ℕ) (kind : SendCall) → Sound s → Sound (completed s thread kind)
completed-sound s thread kind before =
    let runs_on : Bool = is_runnable (thread_at s thread).status in
    either (is_some (as_thread (s.objects thread))) (if runs_on then answered s thread kind 0 else passes s thread) s
    (either runs_on (answered s thread kind 0) (passes s thread) (answered-sound s thread kind 0 before) (same refl before)) before

after_invocation-sound : (s : State) (thread : ℕ) (kind : SendCall) (r : Result State KError) → Sound s → SoundResult r →
    SoundDone (after_invocation s thread kind r)
after_invocation-sound s thread kind (Ok after) before (fine sound) = done (completed-sound after thread kind sound)
after_invocation-sound s thread kind (Err e) before sound = done (answered-sound s thread kind _ before)

send_on-sound : (s : State) (thread : ℕ) (kind : SendCall) (endpoint badge : ℕ) (grant_reply : Bool) → Sound s →
    SoundDone (send_on s thread kind endpoint badge grant_reply)
send_on-sound s thread Calling endpoint badge grant_reply before =
    done (sends-sound s endpoint (sender thread ByCall badge grant_reply) (endpoint_at s endpoint).receivers before)
send_on-sound s thread Sending endpoint badge grant_reply before =
    done (sends-sound s endpoint (sender thread BySend badge grant_reply) (endpoint_at s endpoint).receivers before)
send_on-sound s thread Trying endpoint badge grant_reply before =
    done (try_to_send-sound s endpoint (sender thread BySend badge grant_reply) (endpoint_at s endpoint).receivers before)

invokes-sound : (s : State) (thread : ℕ) (kind : SendCall) (slot : ℕ) (capability : Cap) → Sound s → SoundDone (invokes s thread kind slot capability)
invokes-sound s thread kind slot capability before = after_invocation-sound s thread kind _ (same refl before) (invoke-sound s _ _ _ _ (same refl before))

send_by-sound : (s : State) (thread : ℕ) (kind : SendCall) (slot : ℕ) (capability : Cap) → Sound s → SoundDone (send_by s thread kind slot capability)
send_by-sound s thread kind slot Empty before = invokes-sound s thread kind slot Empty (same refl before)
send_by-sound s thread kind slot (Untyped offset bits watermark) before = invokes-sound s thread kind slot (Untyped offset bits watermark) (same refl before)
send_by-sound s thread kind slot (Endpoint offset r badge) before =
    either_done (may_write r) (send_on s thread kind offset badge (may_grant_reply r)) (refused s thread kind InvalidCapability)
    (send_on-sound s thread kind offset badge _ (same refl before)) (done (answered-sound s thread kind _ before))
send_by-sound s thread kind slot (Notification offset r badge) before =
    either_done (may_write r) (signal_on s thread kind offset badge) (refused s thread kind InvalidCapability)
    (done (answered-sound (signal s offset badge) thread kind 0 (signal-sound s offset badge before))) (done (answered-sound s thread kind _ before))
send_by-sound s thread kind slot (CNode offset radix guard) before = invokes-sound s thread kind slot (CNode offset radix guard) (same refl before)
send_by-sound s thread kind slot (Frame offset r mapping) before = invokes-sound s thread kind slot (Frame offset r mapping) (same refl before)
send_by-sound s thread kind slot (PageTable offset mapping) before = invokes-sound s thread kind slot (PageTable offset mapping) (same refl before)
send_by-sound s thread kind slot (Tcb offset) before = invokes-sound s thread kind slot (Tcb offset) (same refl before)
send_by-sound s thread kind slot (RootTable offset) before = invokes-sound s thread kind slot (RootTable offset) (same refl before)
send_by-sound s thread kind slot InterruptControl before = invokes-sound s thread kind slot InterruptControl (same refl before)
send_by-sound s thread kind slot (InterruptHandler irq_line) before = invokes-sound s thread kind slot (InterruptHandler irq_line) (same refl before)

sends_nothing-sound : (s : State) (thread : ℕ) (kind : SendCall) (failure : LookupFailure) → Sound s → SoundDone (sends_nothing s thread kind failure)
sends_nothing-sound s thread Calling failure before = done (fault-sound s thread _ before)
sends_nothing-sound s thread Sending failure before = done (fault-sound s thread _ before)
sends_nothing-sound s thread Trying failure before = done (same refl before)

send_named-sound : (s : State) (thread : ℕ) (kind : SendCall) (named : Result ℕ LookupFailure) → Sound s → SoundDone (send_named s thread kind named)
send_named-sound s thread kind (Ok slot) before = send_by-sound s thread kind slot (capability_at s.slots slot) before
send_named-sound s thread kind (Err failure) before = sends_nothing-sound s thread kind failure (same refl before)

receive_on_endpoint-sound : (s : State) (thread : ℕ) (kind : ReceiveCall) (endpoint : ℕ) → Sound s → SoundDone (receive_on_endpoint s thread kind endpoint)
receive_on_endpoint-sound s thread Receiving endpoint before = done (receive-sound s endpoint thread before)
receive_on_endpoint-sound s thread Polling endpoint before = done (try_to_receive-sound s endpoint thread before)

receive_on_notification-sound : (s : State) (thread : ℕ) (kind : ReceiveCall) (notification : ℕ) → Sound s →
    SoundDone (receive_on_notification s thread kind notification)
receive_on_notification-sound s thread Receiving notification before =
    let n = notification_at s notification in
    done (takes_word-sound s notification thread (waits_for_signal s notification thread) before
    (block-sound (with_notification s notification (record n { waiters = n.waiters ++ thread ∷ [] })) thread (Blocked notification) (same refl before)))
receive_on_notification-sound s thread Polling notification before =
    done (takes_word-sound s notification thread (deliver_word s thread 0) before (same refl before))

receive_by-sound : (s : State) (thread : ℕ) (kind : ReceiveCall) (capability : Cap) → Sound s → SoundDone (receive_by s thread kind capability)
receive_by-sound s thread kind Empty before = done (fault-sound s thread _ before)
receive_by-sound s thread kind (Untyped offset bits watermark) before = done (fault-sound s thread _ before)
receive_by-sound s thread kind (Endpoint offset r badge) before =
    either_done (may_read r) (receive_on_endpoint s thread kind offset) (lacks_capability s thread 1 MissingCapability)
    (receive_on_endpoint-sound s thread kind offset (same refl before)) (done (fault-sound s thread _ before))
receive_by-sound s thread kind (Notification offset r badge) before =
    either_done (may_read r) (receive_on_notification s thread kind offset) (lacks_capability s thread 1 MissingCapability)
    (receive_on_notification-sound s thread kind offset (same refl before)) (done (fault-sound s thread _ before))
receive_by-sound s thread kind (CNode offset radix guard) before = done (fault-sound s thread _ before)
receive_by-sound s thread kind (Frame offset r mapping) before = done (fault-sound s thread _ before)
receive_by-sound s thread kind (PageTable offset mapping) before = done (fault-sound s thread _ before)
receive_by-sound s thread kind (Tcb offset) before = done (fault-sound s thread _ before)
receive_by-sound s thread kind (RootTable offset) before = done (fault-sound s thread _ before)
receive_by-sound s thread kind InterruptControl before = done (fault-sound s thread _ before)
receive_by-sound s thread kind (InterruptHandler irq_line) before = done (fault-sound s thread _ before)

receive_named-sound : (s : State) (thread : ℕ) (kind : ReceiveCall) (named : Result ℕ LookupFailure) → Sound s → SoundDone (receive_named s thread kind named)
receive_named-sound s thread kind (Ok slot) before = receive_by-sound s thread kind (capability_at s.slots slot) before
receive_named-sound s thread kind (Err failure) before = done (fault-sound s thread _ before)

calls-sound : (s : State) (thread : ℕ) (call : SystemCall) → Sound s → SoundDone (calls s thread call)
calls-sound s thread (Sends kind) before = send_named-sound s thread kind (named_slot s thread) before
calls-sound s thread (Receives kind) before = receive_named-sound s thread kind (named_slot s thread) before
calls-sound s thread RepliesAndReceives before =
    receive_named-sound (reply s thread) thread Receiving (named_slot (reply s thread) thread) (reply-sound s thread before)
calls-sound s thread Replies before = done (same refl (reply-sound s thread before))
calls-sound s thread Yields before = done (yielded-sound (passes s thread) thread (same refl before))
calls-sound s thread PutsCharacter before = done (same refl before)

calls_known-sound : (s : State) (thread number : ℕ) (call : Option SystemCall) → Sound s → SoundDone (calls_known s thread number call)
calls_known-sound s thread number (Some call) before = calls-sound s thread call before
calls_known-sound s thread number None before = done (fault-sound s thread _ before)

system_call-sound : (s : State) (thread : ℕ) → Sound s → SoundDone (system_call s thread)
unfolding system_call
system_call-sound s thread before =
    let number = read (registers_of s thread) a7 in calls_known-sound s thread number (call_of number) before

-- ---- events

after_effect-sound : (s : State) (thread pc : ℕ) (r : RegisterFile) (exec : Exec) (next : Done) → Sound s → SoundDone next →
    SoundDone (after_effect s thread pc r exec next)
after_effect-sound s thread pc r Next next before sound = sound
after_effect-sound s thread pc r Ecall next before sound = system_call-sound s thread (same refl before)
after_effect-sound s thread pc r (Trap cause) next before sound = done (fault-sound s thread _ before)
after_effect-sound s thread pc r (Memory address access) next before sound = done (fault-sound s thread _ before)

runs_decoded-sound : (s : State) (thread : ℕ) (decoded : Option Instr) → Sound s → SoundDone (runs_decoded s thread decoded)
runs_decoded-sound s thread None before = done (fault-sound s thread _ before)
runs_decoded-sound s thread (Some instruction) before =
    let r = registers_of s thread in
    let e = effect r (content_of s thread) instruction in
    after_effect-sound s thread r.pc r e.exec (with_content (with_registers s thread e.registers) e.content, Plain) before (done (same refl before))

runs_fetched-sound : (s : State) (thread : ℕ) (fetched : Result ℕ MemoryFault) → Sound s → SoundDone (runs_fetched s thread fetched)
runs_fetched-sound s thread (Ok word) before = runs_decoded-sound s thread (decoded word) before
runs_fetched-sound s thread (Err failed) before = done (fault-sound s thread _ before)

runs-sound : (s : State) (thread : ℕ) → Sound s → SoundDone (runs s thread)
unfolding runs
runs-sound s thread before = runs_fetched-sound s thread (loaded (content_of s thread) Fetch Word (registers_of s thread).pc) before

ticked-sound : (s : State) (thread : ℕ) → Sound s → Sound (ticked s thread)
ticked-sound s thread before =
    let slice = (thread_at s thread).slice in
    either (nat_le slice 1) (yielded s thread) (with_thread s thread (record (thread_at s thread) { slice = slice - 1 }))
    (yielded-sound s thread before) (same refl before)

tick-sound : (s : State) → Sound s → Sound (tick s)
tick-sound s before = perhaps (ticked s) (current s) s (λ thread. ticked-sound s thread before) before

stepped-sound : (s : State) (thread : Option ℕ) → Sound s → Sound (option_map_or (ran s) thread (s, Idle)).0
stepped-sound s None before = before
stepped-sound s (Some thread) before = elim (runs-sound s thread before) [ done sound ↦ sound ]

event-sound : (s : State) (event : Event) → Sound s → Sound (step s event).0
unfolding step
event-sound s Step before = stepped-sound s (current s) before
event-sound s Tick before = tick-sound s before
event-sound s (Irq irq_line) before = raise-sound s irq_line before
event-sound s (Write address word) before = same (sym (SameBesideBytes.ready (written-beside s (place_of address) word))) before
event-sound s (Read address) before = before

pub step-sound : (s : State) (event : Event) → HoldsNoneTwice s.ready → HoldsNoneTwice (step s event).0.ready
step-sound s event before = (event-sound s event (record { holds = before })).holds
