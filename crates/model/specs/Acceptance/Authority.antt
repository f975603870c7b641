-- Authority: what an event may change. A thread holds what the slots of the CNodes that the image gives it hold, before
-- its step.
-- seL4 Reference Manual, "Capability-based Access Control"; the clauses are our own.
use Rattle.std.specs.Prelude.{ℕ, ◌≡◌, ◌≢◌, ◌+◌, ◌*◌, ◌^◌, ◌<◌, ◌≤◌, ◌⊎◌, Bool, true, false, IsSome, IsTrue, bit_and, bit_or, Contains, Option, Some, None, Ok}
use Rattle.std.specs.Prelude.{List}
use Rattle.std.specs.Prelude.{[], ◌∷◌, ◌++◌}
use Rattle.std.specs.List.{list_any}
use Rattle.model.specs.declared.capabilities.Cap.{Cap}
use Rattle.model.specs.declared.capabilities.Cap.TheVariants.{Empty, Untyped, Endpoint, Notification, Frame, InterruptControl, InterruptHandler}
use Rattle.model.specs.declared.capabilities.FrameMapping.{FrameMapping}
use Rattle.model.specs.declared.capabilities.TableMapping.{TableMapping}
use Rattle.model.specs.declared.events.Event.{Event}
use Rattle.model.specs.declared.events.Event.TheVariants.{Step, Tick, Irq, Write, Read}
use Rattle.model.specs.declared.instructions.Access.TheVariants.{Fetch, Store}
use Rattle.model.specs.declared.instructions.AccessSize.TheVariants.{Word}
use Rattle.model.specs.declared.instructions.Instr.{Instr}
use Rattle.model.specs.declared.instructions.Instr.TheVariants.{Ecall}
use Rattle.model.specs.declared.rights.Rights.{Rights}
use Rattle.model.specs.declared.system_calls.SendCall.{SendCall}
use Rattle.model.specs.declared.system_calls.SystemCall.{SystemCall}
use Rattle.model.specs.declared.system_calls.SystemCall.TheVariants.{Sends}
use Rattle.model.specs.Acceptance.NotedKernel.{stands_in}
use Rattle.model.specs.Acceptance.ThreadRules.{reached}
use Rattle.model.specs.Capabilities.CapabilityKinds.{frame_mapping, table_mapping, unmapped}
use Rattle.model.specs.Capabilities.Rights.{mapping_rights, may_grant_reply, may_read, may_write, rights}
use Rattle.model.specs.Capabilities.Slots.{IsFull, capability_at, parent_at}
use Rattle.model.specs.Images.Image.{Image, Thread}
use Rattle.model.specs.Images.Places.{offset_of}
use Rattle.model.specs.Kernel.AddressSpaces.{content_of, with_content}
use Rattle.model.specs.Kernel.Deliveries.{Reason, ReceivesFrom, SendsTo, Signals, TakesReceiver, TakesSender, TakesWaiter, is_receive, is_send, sent_by}
use Rattle.model.specs.Kernel.Interrupts.{binding, raise}
use Rattle.model.specs.Shared.Lists.{times_in, without}
use Rattle.model.specs.Kernel.Kinds.{Names, frame_around, kind_at}
use Rattle.model.specs.Kernel.Messages.{a7, buffer_of, length_between, register_words, with_registers}
use Rattle.model.specs.Kernel.Retype.{NewObject, NewFrame, NewNotification, object, object_bits}
use Rattle.model.specs.Kernel.Scheduling.{current, full_slice, is_runnable, tick}
use Rattle.model.specs.Kernel.State.{State, Runnable, Blocked, AwaitsReply, ThreadObject, EndpointObject, NotificationObject, EndpointState, NotificationState}
use Rattle.model.specs.Kernel.State.{Sender}
use Rattle.model.specs.Kernel.State.{Sent, BySend}
use Rattle.model.specs.Kernel.State.{ByCall, ByFault, ThreadState, notification_at, thread_at}
use Rattle.model.specs.Kernel.Steps.{call_of, named_slot, place_of, registers_of}
use Rattle.model.specs.Machine.Decoding.{decoded}
use Rattle.model.specs.Machine.Effects.{effect}
use Rattle.model.specs.Machine.ProgramMemory.{loaded, read}
use Rattle.model.specs.Kernel.World.{world_writes}

-- ---- capabilities

-- the rights of a capability to an object
abbrev pub rights_of : Cap → Rights
rights_of (Endpoint offset r badge) = r
rights_of (Notification offset r badge) = r
rights_of (Frame offset r mapping) = r
rights_of _ = rights 0

abbrev pub badge_of : Cap → ℕ
badge_of (Endpoint offset r badge) = badge
badge_of (Notification offset r badge) = badge
badge_of _ = 0

-- a capability apart from its mapping, or its watermark
abbrev pub without_use : Cap → Cap
without_use (Untyped offset bits watermark) = Untyped offset bits 0
without_use capability = unmapped capability

-- ---- what a thread holds

-- the thread's control block
abbrev pub self_of : Image → Thread → ℕ
self_of image t = offset_of image t.header.tcb

-- a slot of the thread's CNodes
abbrev pub IsOwnSlot : Image → Thread → ℕ → Type 0
IsOwnSlot image t slot = IsTrue (list_any (stands_in image slot) (reached image t))

-- the thread holds such a capability
pub record Holds (image : Image) (t : Thread) (s : State) (Such : Cap → Type 0) : Type 0 where
  pub slot : ℕ
  pub own : IsOwnSlot image t slot
  pub such : Such (capability_at s.slots slot)

-- the thread's system call is such a one and names such a capability, in a slot that is its own
pub record CallNames (image : Image) (t : Thread) (s : State) (Such : SystemCall → Cap → Type 0) : Type 0 where
  pub call : SystemCall
  pub slot : ℕ
  -- the call is that of the number in a7
  pub asks : call_of (read (registers_of s (self_of image t)) a7) ≡ Some call
  pub own : IsOwnSlot image t slot
  pub named : named_slot s (self_of image t) ≡ Ok slot
  pub such : Such call (capability_at s.slots slot)

-- untyped memory around all bytes of a piece of memory
pub record IsUntypedAround (first size : ℕ) (capability : Cap) : Type 0 where
  pub offset : ℕ
  pub bits : ℕ
  pub watermark : ℕ
  pub is : capability ≡ Untyped offset bits watermark
  pub begins : offset ≤ first
  pub ends : first + size ≤ offset + 2 ^ bits

-- ---- new capabilities

-- a capability to an object of the same type, with these rights among its own, and with this badge or none
pub record Covers (new : Cap) (held : Cap) : Type 0 where
  pub kind : NewObject
  pub offset : ℕ
  -- both name one object of one type
  pub names : Names kind offset new
  pub same : Names kind offset held
  -- the new one has no right that the other has not
  pub rights : bit_and (rights_of held).0 (rights_of new).0 ≡ (rights_of new).0
  -- a badge is kept
  pub badge : (badge_of held ≡ 0) ⊎ (badge_of held ≡ badge_of new)

-- why a thread may have a capability that is new in a slot of its own
pub data Granted (image : Image) (t : Thread) (s after : State) : Cap → Type 0 where
  -- it held one to the same object with these rights
  held : (capability : Cap) → Holds image t s (Covers capability) → Granted image t s after capability
  -- the object appeared, whole inside untyped memory that it held
  appeared : (capability : Cap) (kind : NewObject) (offset : ℕ) → Names kind offset capability
      → s.objects offset ≡ None → kind_at after offset ≡ Some kind → Holds image t s (IsUntypedAround offset (2 ^ object_bits kind))
      → Granted image t s after capability
  -- untyped memory inside untyped memory that it held
  pool : (offset bits watermark : ℕ) → Holds image t s (IsUntypedAround offset (2 ^ bits)) → Granted image t s after (Untyped offset bits watermark)
  handler : (number : ℕ) → Holds image t s (λ capability. capability ≡ InterruptHandler number) → Granted image t s after (InterruptHandler number)
  -- interrupt control makes the handlers of the 64 lines
  made_handler : (number : ℕ) → number < 64 → Holds image t s (λ capability. capability ≡ InterruptControl)
      → Granted image t s after (InterruptHandler number)
  control : Holds image t s (λ capability. capability ≡ InterruptControl) → Granted image t s after InterruptControl

-- why a frame's capability may have a mapping that is new in its slot
pub data MappingGranted (image : Image) (t : Thread) (s : State) (capability : Cap) (mapping : FrameMapping) : Type 0 where
  -- it is made, with rights that those of the capability give to some rights word
  given : (word : ℕ) → mapping.rights ≡ mapping_rights (rights_of capability) word → MappingGranted image t s capability mapping
  -- the thread held the capability with this mapping, and moved it
  moved_along : Holds image t s (λ held. held ≡ capability) → MappingGranted image t s capability mapping

-- ---- the right to reply

-- whether who receives from a sender gets the right to reply to it: it called with grant-reply, or reports a fault
abbrev pub gives_right : Sender → Sent → Bool
gives_right sender BySend = false
gives_right sender ByCall = sender.grant_reply
gives_right sender (ByFault fault) = true

-- What becomes of the thread's own right to reply: it stays, and who waits for the answer waits on; it goes; or the thread's call receives
-- from the first sender of an endpoint, which leaves the queue, and gets the right to reply to that one.
pub data RightChange (image : Image) (t : Thread) (s behind : State) (before after : Option ℕ) : Type 0 where
  kept : after ≡ before → ((caller : ℕ) → before ≡ Some caller → behind.objects caller ≡ s.objects caller) → RightChange image t s behind before after
  dropped : after ≡ None → RightChange image t s behind before after
  of_sender : (endpoint : ℕ) (first : Sender) → CallNames image t s (ReceivesFrom endpoint)
      → TakesSender s behind endpoint first → gives_right first first.sent ≡ true → after ≡ Some first.thread
      → RightChange image t s behind before after

-- ---- queues

-- how a thread that waits at an endpoint asked: with the badge of the capability that its call names, and a right to get a reply that
-- this one gives; it reports no fault
pub record AsksAs (image : Image) (t : Thread) (s : State) (endpoint : ℕ) (x : Sender) : Type 0 where
  pub allowed : Rights
  pub kind : SendCall
  -- its call names a capability to the endpoint with this badge
  pub named : CallNames image t s (λ call capability. (call ≡ Sends kind) × (capability ≡ Endpoint endpoint allowed x.badge))
  -- which may write
  pub writes : IsTrue (may_write allowed)
  -- it is the thread itself that asks
  pub thread : x.thread ≡ self_of image t
  -- it may get a reply where the capability may
  pub replies : x.grant_reply ≡ may_grant_reply allowed
  -- it sends or calls, as its call says
  pub sends : x.sent ≡ sent_by kind

-- who waits at an endpoint changes by the call alone: the thread joins at the tail, or the first of those that wait goes, and waits no more
pub data EndpointChange (image : Image) (t : Thread) (s after : State) (endpoint : ℕ) (old new : EndpointState) : Type 0 where
  waits_to_send : (x : Sender) → AsksAs image t s endpoint x → new ≡ record old { senders = old.senders ++ x ∷ [] }
      → EndpointChange image t s after endpoint old new
  waits_to_receive : CallNames image t s (ReceivesFrom endpoint) → new ≡ record old { receivers = old.receivers ++ self_of image t ∷ [] }
      → EndpointChange image t s after endpoint old new
  takes_sender : (first : Sender) → CallNames image t s (ReceivesFrom endpoint) → old.senders ≡ first ∷ new.senders → new.receivers ≡ old.receivers
      → (thread_at after first.thread).status ≢ Blocked endpoint → EndpointChange image t s after endpoint old new
  takes_receiver : (badge first : ℕ) → CallNames image t s (SendsTo endpoint badge) → old.receivers ≡ first ∷ new.receivers
      → new.senders ≡ old.senders → (thread_at after first).status ≢ Blocked endpoint → EndpointChange image t s after endpoint old new

-- a call and a capability by which a thread waits for a notification
pub record WaitsFor (notification : ℕ) (call : SystemCall) (capability : Cap) : Type 0 where
  pub receives : is_receive call ≡ true
  pub allowed : Rights
  pub badge : ℕ
  pub is : capability ≡ Notification notification allowed badge
  pub reads : IsTrue (may_read allowed)

-- a notification's word, and who waits for it, change by the call alone: a badge joins the word, the first of those that wait goes, and
-- waits no more, the word is taken, or the thread joins at the tail
pub data NotificationChange (image : Image) (t : Thread) (s after : State) (notification : ℕ) (old new : NotificationState) : Type 0 where
  joins : (badge : ℕ) → CallNames image t s (Signals s after notification badge) → old.waiters ≡ [] → new ≡ record old { word = bit_or old.word badge }
      → NotificationChange image t s after notification old new
  passes_on : (badge first : ℕ) → CallNames image t s (Signals s after notification badge) → old.waiters ≡ first ∷ new.waiters → new.word ≡ old.word
      → (thread_at after first).status ≢ Blocked notification → NotificationChange image t s after notification old new
  taken : CallNames image t s (WaitsFor notification) → new ≡ record old { word = 0 } → NotificationChange image t s after notification old new
  waits : CallNames image t s (WaitsFor notification) → new ≡ record old { waiters = old.waiters ++ self_of image t ∷ [] }
      → NotificationChange image t s after notification old new

-- ---- parents and watermarks

-- a parent that is new above a slot, or none: where the slot is empty none, a slot of the thread's own, or what a full slot of its own had
pub data NewParent (image : Image) (t : Thread) (s after : State) (slot : ℕ) (parent : Option ℕ) : Type 0 where
  emptied : capability_at after.slots slot ≡ Empty → parent ≡ None → NewParent image t s after slot parent
  own : (above : ℕ) → IsOwnSlot image t above → parent ≡ Some above → NewParent image t s after slot parent
  of_own : (below : ℕ) → IsOwnSlot image t below → IsFull s.slots below → parent_at s.slots below ≡ parent → NewParent image t s after slot parent

-- what was used of untyped memory: more, where the call names it, or nothing, where nothing hangs below it
pub data UsedChange (image : Image) (t : Thread) (s after : State) (slot old new : ℕ) : Type 0 where
  uses : named_slot s (self_of image t) ≡ Ok slot → old < new → UsedChange image t s after slot old new
  freed : new ≡ 0 → ((child : ℕ) → parent_at after.slots child ≢ Some slot) → UsedChange image t s after slot old new

-- ---- lines

-- a call and a capability by which a thread acknowledges the interrupt of a line
abbrev pub Acknowledges : ℕ → SystemCall → Cap → Type 0
Acknowledges number call capability = (is_send call ≡ true) × (capability ≡ InterruptHandler number)

-- what a signal leaves, at a notification that is there before and after: the badge joins its word, or its first waiter runs again
pub data IsSignalled (s after : State) (notification badge : ℕ) : Type 0 where
  joined : kind_at s notification ≡ Some NewNotification → kind_at after notification ≡ Some NewNotification → (notification_at s notification).waiters ≡ []
      → (notification_at after notification).word ≡ bit_or (notification_at s notification).word badge → IsSignalled s after notification badge
  passed : (first : ℕ) → TakesWaiter s after notification first → (thread_at after first).status ≡ Runnable → IsSignalled s after notification badge

-- what becomes of a line: it is not masked any more, if nothing is pending or it is bound to nothing; or what was pending is delivered,
-- and it is masked
pub data LineChange (s after : State) (number : ℕ) : Type 0 where
  opens : (s.pending number ≡ false) ⊎ (binding s number ≡ None) → after.masked number ≡ false → after.pending number ≡ s.pending number
      → LineChange s after number
  delivers : (notification badge : ℕ) → binding s number ≡ Some (record { notification = notification; badge = badge })
      → IsSignalled s after notification badge → s.pending number ≡ true → after.pending number ≡ false → after.masked number ≡ true
      → LineChange s after number

-- ---- the thread's own slice

-- how many ticks it runs on: as many as before, or a full slice where it goes to the tail of its priority
pub data SliceChange (s after : State) (self : ℕ) (old new : ThreadState) : Type 0 where
  same_slice : new.slice ≡ old.slice → SliceChange s after self old new
  new_slice : new.slice ≡ full_slice → after.ready new.priority ≡ without self (s.ready new.priority) ++ self ∷ []
      → SliceChange s after self old new

-- ---- objects and bytes

-- an object appears, all new, or ends, inside untyped memory that the thread holds
pub data ObjectChange (image : Image) (t : Thread) (s after : State) (offset : ℕ) : Type 0 where
  appears : (kind : NewObject) → s.objects offset ≡ None → after.objects offset ≡ object kind
      → Holds image t s (IsUntypedAround offset (2 ^ object_bits kind)) → ObjectChange image t s after offset
  ends : (kind : NewObject) → kind_at s offset ≡ Some kind → after.objects offset ≡ None
      → Holds image t s (IsUntypedAround offset (2 ^ object_bits kind)) → ObjectChange image t s after offset

-- The deliveries of a step of the thread from one thread to another, one of which it is: to the first receiver of the endpoint that its
-- call names; from the first sender of one, if that reports no fault, which is in registers alone; or to its caller.
pub data Delivers (image : Image) (t : Thread) (s after : State) (from to : ℕ) : Type 0 where
  sends : (endpoint badge : ℕ) → from ≡ self_of image t → CallNames image t s (SendsTo endpoint badge)
      → TakesReceiver s after endpoint to → Delivers image t s after from to
  receives : (endpoint : ℕ) (first : Sender) → to ≡ self_of image t → CallNames image t s (ReceivesFrom endpoint)
      → TakesSender s after endpoint first → first.thread ≡ from
      → (first.sent ≡ BySend) ⊎ (first.sent ≡ ByCall) → Delivers image t s after from to
  replies : from ≡ self_of image t → (thread_at s from).caller ≡ Some to → (thread_at s to).status ≡ AwaitsReply
      → (thread_at after to).status ≡ Runnable → Delivers image t s after from to

-- A byte changes: the thread wrote it into a frame that stays; or it comes with a frame, as 0, or goes with it; or it is of a word from the
-- eighth on of a message that is delivered, in the buffer of who gets it, which stays, and becomes what the sender's buffer holds.
pub data ByteChange (image : Image) (t : Thread) (s after : State) (place : ℕ) : Type 0 where
  written : IsSome (s.bytes place) → IsSome (after.bytes place) → (address : ℕ)
      → (content_of s (self_of image t)).place Store address ≡ Some place → ByteChange image t s after place
  comes_with_frame : kind_at s (frame_around place) ≢ Some NewFrame → kind_at after (frame_around place) ≡ Some NewFrame
      → after.bytes place ≡ Some 0 → ByteChange image t s after place
  goes_with_frame : kind_at s (frame_around place) ≡ Some NewFrame → kind_at after (frame_around place) ≢ Some NewFrame
      → after.bytes place ≡ None → ByteChange image t s after place
  delivered : IsSome (s.bytes place) → IsSome (after.bytes place) → (from to index source target : ℕ) → Delivers image t s after from to
      → buffer_of s from ≡ Some source → buffer_of s to ≡ Some target → 4 * register_words ≤ index → index < 4 * length_between s from to
      → place ≡ target + index → after.bytes place ≡ s.bytes (source + index) → ByteChange image t s after place

-- ---- the ready list

-- a thread of this priority that did not run, and does so now
pub record IsWoken (s after : State) (priority thread : ℕ) : Type 0 where
  pub before : ThreadState
  pub changed : ThreadState
  -- it was a thread
  pub was : s.objects thread ≡ Some (ThreadObject before)
  -- it did not run
  pub rested : is_runnable before.status ≡ false
  -- it is one still
  pub is : after.objects thread ≡ Some (ThreadObject changed)
  -- it runs
  pub runs : changed.status ≡ Runnable
  -- it has this priority
  pub at : changed.priority ≡ priority

-- What a step of a thread may change in the list of the ready of a priority.
pub record ReadyChange (s after : State) (self priority : ℕ) : Type 0 where
  pub added : List ℕ
  -- without the thread itself the list is the old one, with others after it
  pub list : without self (after.ready priority) ≡ without self (s.ready priority) ++ added
  -- the others were woken
  pub woken : (thread : ℕ) → Contains added thread → IsWoken s after priority thread
  -- each comes once
  pub once : (thread : ℕ) → times_in added thread ≤ 1
  -- the thread itself stays, moves or leaves
  pub own : times_in (after.ready priority) self ≤ times_in (s.ready priority) self

-- ---- a step of a thread

-- What a step of a thread may change. Each sentence says of one part of the state when, or how, it changes.
pub record WithinAuthority (image : Image) (t : Thread) (s after : State) : Type 0 where
  -- memory keeps its size
  pub memory_bits : after.memory_bits ≡ s.memory_bits
  -- the boot CNode keeps its size
  pub boot_radix : after.boot_radix ≡ s.boot_radix
  -- a byte changes only where the thread wrote it, with its frame, or by a message that is delivered
  pub bytes : (place : ℕ) → s.bytes place ≢ after.bytes place → ByteChange image t s after place
  -- objects appear and end only inside untyped memory that it holds
  pub objects : (offset : ℕ) → kind_at s offset ≢ kind_at after offset → ObjectChange image t s after offset
  -- slots change only in its CNodes
  pub slots : (slot : ℕ) → s.slots slot ≢ after.slots slot → IsOwnSlot image t slot
  -- frames' mappings change only under its root table
  pub frame_mappings : (slot : ℕ) (mapping : FrameMapping)
      → frame_mapping (capability_at s.slots slot) ≢ frame_mapping (capability_at after.slots slot)
      → (frame_mapping (capability_at s.slots slot) ≡ Some mapping) ⊎ (frame_mapping (capability_at after.slots slot) ≡ Some mapping)
      → mapping.root ≡ offset_of image t.header.root
  -- page tables' mappings change only under its root table
  pub table_mappings : (slot : ℕ) (mapping : TableMapping)
      → table_mapping (capability_at s.slots slot) ≢ table_mapping (capability_at after.slots slot)
      → (table_mapping (capability_at s.slots slot) ≡ Some mapping) ⊎ (table_mapping (capability_at after.slots slot) ≡ Some mapping)
      → mapping.root ≡ offset_of image t.header.root
  -- a frame's mapping that is new in a slot was granted
  pub mapped : (slot : ℕ) (mapping : FrameMapping) → frame_mapping (capability_at s.slots slot) ≢ Some mapping
      → frame_mapping (capability_at after.slots slot) ≡ Some mapping → MappingGranted image t s (capability_at after.slots slot) mapping
  -- a capability that is new in a slot was granted
  pub capabilities : (slot : ℕ) → without_use (capability_at s.slots slot) ≢ without_use (capability_at after.slots slot)
      → capability_at after.slots slot ≢ Empty → Granted image t s after (capability_at after.slots slot)
  -- endpoints change only by the capability that the call names
  pub endpoints : (offset : ℕ) (old new : EndpointState) → s.objects offset ≡ Some (EndpointObject old)
      → after.objects offset ≡ Some (EndpointObject new) → old ≢ new → EndpointChange image t s after offset old new
  -- notifications change only by the capability that the call names: to one, or to the handler of a line that is bound to it
  pub notifications : (offset : ℕ) (old new : NotificationState) → s.objects offset ≡ Some (NotificationObject old)
      → after.objects offset ≡ Some (NotificationObject new) → old ≢ new
      → NotificationChange image t s after offset old new
  -- a slot hangs where it did, or below a slot of its own, or where one of its own did
  pub parents : (slot : ℕ) → parent_at s.slots slot ≢ parent_at after.slots slot → NewParent image t s after slot (parent_at after.slots slot)
  -- of untyped memory more is used where the call names it, or nothing, where nothing hangs below it
  pub used : (slot offset bits old new : ℕ) → capability_at s.slots slot ≡ Untyped offset bits old
      → capability_at after.slots slot ≡ Untyped offset bits new → old ≢ new → UsedChange image t s after slot old new
  -- its own priority stays
  pub priority : (old new : ThreadState) → s.objects (self_of image t) ≡ Some (ThreadObject old)
      → after.objects (self_of image t) ≡ Some (ThreadObject new) → new.priority ≡ old.priority
  -- who takes its faults stays
  pub fault_address : (old new : ThreadState) → s.objects (self_of image t) ≡ Some (ThreadObject old)
      → after.objects (self_of image t) ≡ Some (ThreadObject new) → new.fault_address ≡ old.fault_address
  -- its own slice stays, or is full where it goes to the tail of its priority
  pub slice : (old new : ThreadState) → s.objects (self_of image t) ≡ Some (ThreadObject old)
      → after.objects (self_of image t) ≡ Some (ThreadObject new) → SliceChange s after (self_of image t) old new
  -- its own right to reply stays where it was not used, goes, or comes with what its call receives
  pub right : (old new : ThreadState) → s.objects (self_of image t) ≡ Some (ThreadObject old)
      → after.objects (self_of image t) ≡ Some (ThreadObject new) → RightChange image t s after old.caller new.caller
  -- another thread changes only for one of the reasons, by the capability that the call names
  pub threads : (other : ℕ) (old new : ThreadState) → other ≢ self_of image t → s.objects other ≡ Some (ThreadObject old)
      → after.objects other ≡ Some (ThreadObject new) → old ≢ new → Reason s after (self_of image t) (CallNames image t s) other old new
  -- lines change only where the call names the handler, as by an acknowledgement
  pub lines : (number : ℕ) → (s.masked number ≢ after.masked number) ⊎ (s.pending number ≢ after.pending number)
      → CallNames image t s (Acknowledges number) × LineChange s after number
  -- a list of the ready gains only threads that were woken, at its tail, and loses none but the thread itself
  pub ready : (priority : ℕ) → ReadyChange s after (self_of image t) priority

-- ---- an event

-- the thread's instruction is a system call
pub record MakesCall (s : State) (thread : ℕ) : Type 0 where
  pub word : ℕ
  pub fetched : loaded (content_of s thread) Fetch Word (registers_of s thread).pc ≡ Ok word
  pub call : decoded word ≡ Some Ecall

-- what an instruction of a thread leaves: the registers, and the bytes in frames that its address space names
abbrev pub computed : State → ℕ → Instr → State
computed s thread instruction =
    let e = effect (registers_of s thread) (content_of s thread) instruction in
    with_content (with_registers s thread e.registers) e.content

-- the instruction at the thread's pc does what the instruction set says of it, and nothing else changes
pub record ComputesAlone (s after : State) (thread : ℕ) : Type 0 where
  pub word : ℕ
  pub instruction : Instr
  pub fetched : loaded (content_of s thread) Fetch Word (registers_of s thread).pc ≡ Ok word
  pub spelled : decoded word ≡ Some instruction
  pub is : after ≡ computed s thread instruction

-- the step of a thread of the image
pub record OwnStep (image : Image) (s after : State) : Type 0 where
  pub thread : Thread
  pub listed : Contains image.threads thread
  pub runs : current s ≡ Some (self_of image thread)
  pub within : WithinAuthority image thread s after
  -- an instruction that is no system call does what the instruction set says, and nothing else
  pub plain : (MakesCall s (self_of image thread) → ⊥) → ComputesAlone s after (self_of image thread)
  -- who was woken is ready, at the tail of its priority
  pub awake : (priority other : ℕ) → IsWoken s after priority other → Contains (within.ready priority).added other

-- An event stays within authority: where no thread runs, a step changes nothing. A tick, an interrupt and a write of the world are what
-- the kernel says of them, and a look changes nothing.
abbrev pub StaysWithin : Image → State → Event → State → Type 0
StaysWithin image s Step after = ((current s ≡ None) × (after ≡ s)) ⊎ OwnStep image s after
StaysWithin image s Tick after = after ≡ tick s
StaysWithin image s (Irq irq_line) after = after ≡ raise s irq_line
StaysWithin image s (Write address word) after = after ≡ world_writes s (place_of address) word
StaysWithin image s (Read address) after = after ≡ s
