-- The laws of this crate: calls and events keep what is true of every state that the kernel reaches.
use Rattle.std.specs.Prelude.{ℕ, ◌≡◌, Ok, true, Option, ◌^◌, ◌<◌, Some, All, List, ◌+◌, ◌≤◌}
use Rattle.model.specs.declared.capabilities.Cap.TheVariants.{Untyped, Frame, PageTable, InterruptControl}
use Rattle.model.specs.declared.capabilities.Cap.{Cap}
use Rattle.model.specs.declared.capabilities.FrameMapping.{FrameMapping}
use Rattle.model.specs.declared.capabilities.TableMapping.{TableMapping}
use Rattle.model.specs.declared.events.Event.{Event}
use Rattle.model.specs.declared.invocations.FrameCall.{FrameCall}
use Rattle.model.specs.declared.invocations.RetypeCall.{RetypeCall}
use Rattle.model.specs.declared.invocations.SlotName.{SlotName}
use Rattle.model.specs.declared.invocations.TableCall.{TableCall}
use Rattle.model.specs.declared.invocations.UntypedMemory.{UntypedMemory}
use Rattle.model.specs.declared.rights.Rights.{Rights}
use Rattle.model.specs.Capabilities.Slots.{IsOpen, capability_at}
use Rattle.model.specs.Images.Boot.{made}
use Rattle.model.specs.Images.BootCalls.{LoaderCall}
use Rattle.model.specs.Kernel.AddressSpaces.{with_content}
use Rattle.model.specs.Kernel.Arguments.{Call}
use Rattle.model.specs.Kernel.CNodeCalls.{copy, mint, move as moved, mutate}
use Rattle.model.specs.Kernel.Faults.{fault}
use Rattle.model.specs.Kernel.InterruptCalls.{bind, get_handler}
use Rattle.model.specs.Kernel.Interrupts.{acknowledge, raise}
use Rattle.model.specs.Kernel.Invocations.{invoke}
use Rattle.model.specs.Kernel.Kinds.{kind_at}
use Rattle.model.specs.Kernel.MappingCalls.{on_frame, on_table}
use Rattle.model.specs.Kernel.Messages.{with_registers, poll, receive, reply, send, signal, try_to_receive, try_to_send, wait}
use Rattle.model.specs.Kernel.Removal.{SlotSet, delete, remove, revoke}
use Rattle.model.specs.Kernel.Retype.{retype, NewThread, NewEndpoint, NewNotification, NewObject, object_bits}
use Rattle.model.specs.Kernel.Scheduling.{tick, yielded}
use Rattle.model.specs.Kernel.Setup.{boot_area, fill, put_control, put_untyped}
use Rattle.model.specs.Kernel.Soundness.{IsSound, SenderIsSound, SentIsSound}
use Rattle.model.specs.Kernel.State.{State, ByFault, FaultMessage, Sender}
use Rattle.model.specs.Kernel.Steps.{state_after, system_call}
use Rattle.model.specs.Kernel.ThreadCalls.{configure, resume, set_buffer, set_priority, set_register, suspend}
use Rattle.model.specs.Machine.ProgramMemory.{Content, RegisterFile}
use Rattle.soundness.specs.Calls.{IsCall, IsRoot}
use Rattle.soundness.specs.Running.{IsRunning, RegistersAreSound}
use Rattle.soundness.specs.Unused.{IsUnused}

-- ---- calls on CNodes

abbrev pub CopyKeepsSoundness : Type 0
CopyKeepsSoundness =
    (s t : State) (call : Call) (destination source : SlotName) (rights_word : ℕ)
    → IsSound s → IsCall s call → copy s call destination source rights_word ≡ Ok t → IsSound t

-- with a badge or a guard word
abbrev pub MintKeepsSoundness : Type 0
MintKeepsSoundness =
    (s t : State) (call : Call) (destination source : SlotName) (rights_word payload : ℕ)
    → IsSound s → IsCall s call → mint s call destination source rights_word payload ≡ Ok t → IsSound t

abbrev pub MoveKeepsSoundness : Type 0
MoveKeepsSoundness =
    (s t : State) (call : Call) (destination source : SlotName)
    → IsSound s → IsCall s call → moved s call destination source ≡ Ok t → IsSound t

-- with another guard word
abbrev pub MutateKeepsSoundness : Type 0
MutateKeepsSoundness =
    (s t : State) (call : Call) (destination source : SlotName) (payload : ℕ)
    → IsSound s → IsCall s call → mutate s call destination source payload ≡ Ok t → IsSound t

-- ---- removals

-- open slots lose what they hold, all at once
abbrev pub RemovalsKeepSoundness : Type 0
RemovalsKeepSoundness =
    (s t : State) (set : SlotSet) → IsSound s → ((slot : ℕ) → set slot ≡ true → IsOpen s.slots slot)
    → remove s set ≡ Ok t → IsSound t

abbrev pub DeleteKeepsSoundness : Type 0
DeleteKeepsSoundness = (s t : State) (slot : ℕ) → IsSound s → delete s slot ≡ Ok t → IsSound t

abbrev pub RevokeKeepsSoundness : Type 0
RevokeKeepsSoundness = (s t : State) (slot : ℕ) → IsSound s → revoke s slot ≡ Ok t → IsSound t

-- ---- new objects

abbrev pub RetypeKeepsSoundness : Type 0
RetypeKeepsSoundness =
    (s t : State) (root : Cap) (slot : ℕ) (memory : UntypedMemory) (asked : RetypeCall) → IsSound s → IsRoot s root
    → capability_at s.slots slot ≡ Untyped memory.offset memory.bits memory.watermark → retype s root slot memory asked ≡ Ok t → IsSound t

-- there is nothing after the watermark of untyped memory
abbrev pub UnusedMemoryIsFree : Type 0
UnusedMemoryIsFree = (s : State) (slot offset bits used : ℕ) → IsSound s → capability_at s.slots slot ≡ Untyped offset bits used → IsUnused s offset bits used

-- ---- calls on frames and page tables

abbrev pub FrameCallsKeepSoundness : Type 0
FrameCallsKeepSoundness =
    (s t : State) (call : Call) (offset : ℕ) (allowed : Rights) (mapping : Option FrameMapping) (of_frame : FrameCall)
    → IsSound s → IsCall s call → call.capability ≡ Frame offset allowed mapping → on_frame s call allowed of_frame ≡ Ok t → IsSound t

abbrev pub TableCallsKeepSoundness : Type 0
TableCallsKeepSoundness =
    (s t : State) (call : Call) (offset : ℕ) (mapping : Option TableMapping) (of_table : TableCall)
    → IsSound s → IsCall s call → call.capability ≡ PageTable offset mapping → on_table s call of_table ≡ Ok t → IsSound t

-- ---- calls that put copies into slots

abbrev pub ConfigureKeepsSoundness : Type 0
ConfigureKeepsSoundness =
    (s t : State) (root : Cap) (thread : ℕ) (guard : Option ℕ) (fault_address : ℕ) (cspace vspace : SlotName)
    → IsSound s → kind_at s thread ≡ Some NewThread → fault_address < 2 ^ 32
    → configure s root thread guard fault_address cspace vspace ≡ Ok t → IsSound t

abbrev pub SetBufferKeepsSoundness : Type 0
SetBufferKeepsSoundness =
    (s t : State) (root : Cap) (thread : ℕ) (frame : SlotName) → IsSound s → kind_at s thread ≡ Some NewThread
    → set_buffer s root thread frame ≡ Ok t → IsSound t

abbrev pub GetHandlerKeepsSoundness : Type 0
GetHandlerKeepsSoundness =
    (s t : State) (call : Call) (line : ℕ) (name : SlotName) → IsSound s → IsCall s call → call.capability ≡ InterruptControl
    → get_handler s call line name ≡ Ok t → IsSound t

abbrev pub BindKeepsSoundness : Type 0
BindKeepsSoundness =
    (s t : State) (call : Call) (line : ℕ) (name : SlotName) → IsSound s → IsCall s call → line < 64
    → bind s call line name ≡ Ok t → IsSound t

-- ---- calls on threads, ticks and plain steps

abbrev pub SetPriorityKeepsSoundness : Type 0
SetPriorityKeepsSoundness =
    (s t : State) (thread priority : ℕ) → IsSound s → kind_at s thread ≡ Some NewThread
    → set_priority s thread priority ≡ Ok t → IsSound t

abbrev pub SetRegisterKeepsSoundness : Type 0
SetRegisterKeepsSoundness =
    (s t : State) (caller : Option ℕ) (thread index value : ℕ) → IsSound s → kind_at s thread ≡ Some NewThread → value < 2 ^ 32
    → set_register s caller thread index value ≡ Ok t → IsSound t

abbrev pub ResumeKeepsSoundness : Type 0
ResumeKeepsSoundness = (s : State) (thread : ℕ) → IsSound s → kind_at s thread ≡ Some NewThread → IsSound (resume s thread)

abbrev pub SuspendKeepsSoundness : Type 0
SuspendKeepsSoundness = (s : State) (thread : ℕ) → IsSound s → kind_at s thread ≡ Some NewThread → IsSound (suspend s thread)

abbrev pub YieldKeepsSoundness : Type 0
YieldKeepsSoundness = (s : State) (thread : ℕ) → IsSound s → IsRunning s thread → IsSound (yielded s thread)

abbrev pub TickKeepsSoundness : Type 0
TickKeepsSoundness = (s : State) → IsSound s → IsSound (tick s)

-- the registers of its thread change, and the bytes of frames
abbrev pub PlainStepKeepsSoundness : Type 0
PlainStepKeepsSoundness =
    (s : State) (thread : ℕ) (registers : RegisterFile) (content : Content) → IsSound s → kind_at s thread ≡ Some NewThread
    → RegistersAreSound registers → ((place : ℕ) → content.byte place < 2 ^ 8) → IsSound (with_content (with_registers s thread registers) content)

-- ---- messages, faults, replies, signals and interrupts

abbrev pub SendKeepsSoundness : Type 0
SendKeepsSoundness =
    (s : State) (endpoint : ℕ) (sender : Sender) → IsSound s → kind_at s endpoint ≡ Some NewEndpoint → IsRunning s sender.thread
    → SenderIsSound sender → IsSound (send s endpoint sender)

abbrev pub TryToSendKeepsSoundness : Type 0
TryToSendKeepsSoundness =
    (s : State) (endpoint : ℕ) (sender : Sender) → IsSound s → kind_at s endpoint ≡ Some NewEndpoint → IsRunning s sender.thread
    → SenderIsSound sender → IsSound (try_to_send s endpoint sender)

abbrev pub ReceiveKeepsSoundness : Type 0
ReceiveKeepsSoundness =
    (s : State) (endpoint receiver : ℕ) → IsSound s → kind_at s endpoint ≡ Some NewEndpoint → IsRunning s receiver
    → IsSound (receive s endpoint receiver)

abbrev pub TryToReceiveKeepsSoundness : Type 0
TryToReceiveKeepsSoundness =
    (s : State) (endpoint receiver : ℕ) → IsSound s → kind_at s endpoint ≡ Some NewEndpoint → IsRunning s receiver
    → IsSound (try_to_receive s endpoint receiver)

abbrev pub ReplyKeepsSoundness : Type 0
ReplyKeepsSoundness = (s : State) (thread : ℕ) → IsSound s → kind_at s thread ≡ Some NewThread → IsSound (reply s thread)

abbrev pub FaultKeepsSoundness : Type 0
FaultKeepsSoundness =
    (s : State) (thread : ℕ) (message : FaultMessage) → IsSound s → IsRunning s thread → SentIsSound (ByFault message)
    → IsSound (fault s thread message)

abbrev pub SignalKeepsSoundness : Type 0
SignalKeepsSoundness =
    (s : State) (notification badge : ℕ) → IsSound s → kind_at s notification ≡ Some NewNotification → badge < 2 ^ 28
    → IsSound (signal s notification badge)

abbrev pub WaitKeepsSoundness : Type 0
WaitKeepsSoundness =
    (s : State) (notification thread : ℕ) → IsSound s → kind_at s notification ≡ Some NewNotification → IsRunning s thread
    → IsSound (wait s notification thread)

abbrev pub PollKeepsSoundness : Type 0
PollKeepsSoundness =
    (s : State) (notification thread : ℕ) → IsSound s → kind_at s notification ≡ Some NewNotification → IsRunning s thread
    → IsSound (poll s notification thread)

abbrev pub InterruptKeepsSoundness : Type 0
InterruptKeepsSoundness = (s : State) (line : ℕ) → IsSound s → IsSound (raise s line)

abbrev pub AcknowledgementKeepsSoundness : Type 0
AcknowledgementKeepsSoundness = (s : State) (line : ℕ) → IsSound s → IsSound (acknowledge s line)

-- ---- all calls, and all events

-- with words of 32 bits
abbrev pub InvocationsKeepSoundness : Type 0
InvocationsKeepSoundness =
    (s t : State) (call : Call) (label extra : ℕ) (words : List ℕ) → IsSound s → IsCall s call
    → All (λ word. word < 2 ^ 32) words → invoke s call label extra words ≡ Ok t → IsSound t

abbrev pub SystemCallsKeepSoundness : Type 0
SystemCallsKeepSoundness = (s : State) (thread : ℕ) → IsSound s → IsRunning s thread → IsSound (system_call s thread).0

abbrev pub EventsKeepSoundness : Type 0
EventsKeepSoundness = (s : State) (events : List Event) → IsSound s → IsSound (state_after s events)

-- ---- what the loader does

abbrev pub FreshMachineIsSound : Type 0
FreshMachineIsSound = (bits radix : ℕ) → 16 ≤ bits → bits ≤ 24 → 1 ≤ radix → radix ≤ 14 → radix + 5 ≤ bits → IsSound (boot_area bits radix)

abbrev pub UntypedMemoryKeepsSoundness : Type 0
UntypedMemoryKeepsSoundness = (s t : State) (slot offset bits : ℕ) → IsSound s → put_untyped s slot offset bits ≡ Some t → IsSound t

abbrev pub UntypedMemoryIsPutBehindObjects : Type 0
UntypedMemoryIsPutBehindObjects =
    (s t : State) (slot offset bits place : ℕ) (kind : NewObject) → IsSound s → put_untyped s slot offset bits ≡ Some t
    → kind_at s place ≡ Some kind → place + 2 ^ object_bits kind ≤ offset

abbrev pub InterruptControlKeepsSoundness : Type 0
InterruptControlKeepsSoundness = (s t : State) (slot : ℕ) → IsSound s → put_control s slot ≡ Some t → IsSound t

abbrev pub FillingKeepsSoundness : Type 0
FillingKeepsSoundness = (s t : State) (offset : ℕ) (bytes : List ℕ) → IsSound s → All (λ byte. byte < 2 ^ 8) bytes → fill s offset bytes ≡ Some t → IsSound t

-- with words of 32 bits
abbrev pub LoaderCallsKeepSoundness : Type 0
LoaderCallsKeepSoundness = (s t : State) (call : LoaderCall) → IsSound s → All (λ word. word < 2 ^ 32) call.words → made s call ≡ Ok t → IsSound t
