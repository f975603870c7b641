-- What is true of every state that the kernel reaches: what each call may rely on, and leaves true.
-- seL4's proofs have such a record of invariants too; the clauses are our own.
use Rattle.std.specs.Prelude.{ℕ, ◌≡◌, ◌≢◌, ◌==◌, ◌+◌, ◌/◌, ◌^◌, ◌<◌, ◌≤◌, ◌⊎◌, ◌&&◌, ◌↔◌, ⊤, Bool, true, false, if◌then◌else◌, IsSome, IsTrue, Option, Some}
use Rattle.std.specs.Prelude.{None, List, [], ◌++◌, All, length, map}
use Rattle.std.specs.Option.{option_map_or}
use Rattle.model.specs.declared.capabilities.Cap.TheVariants.{PageTable}
use Rattle.model.specs.declared.capabilities.FrameMapping.{FrameMapping}
use Rattle.model.specs.declared.capabilities.TableMapping.{TableMapping}
use Rattle.model.specs.Capabilities.CapabilityKinds.{cnode_of, frame_mapping, frame_of, root_of, table_mapping}
use Rattle.model.specs.Capabilities.Slots.{Descendant, IsDerivation, IsFull, IsOpen, Slots, capability_at}
use Rattle.model.specs.Kernel.AddressSpaces.{is_region_taken, maps_page, maps_region, region_pages}
use Rattle.model.specs.Kernel.Interrupts.{binding}
use Rattle.model.specs.Shared.Lists.{times_in}
use Rattle.model.specs.Kernel.Kinds.{AreApart, IsInside, Names, Piece, frame_around, kind_at, piece_of, used_of}
use Rattle.model.specs.Kernel.Removal.{is_slot_of}
use Rattle.model.specs.Kernel.Retype.{NewObject, NewFrame, NewRootTable}
use Rattle.model.specs.Kernel.Scheduling.{full_slice, is_runnable}
use Rattle.model.specs.Kernel.State.{State, Status, Inactive, Runnable, Blocked, AwaitsReply, AwaitsHandler, Object, ThreadObject, EndpointObject}
use Rattle.model.specs.Kernel.State.{NotificationObject, CNodeObject, FrameObject, PageTableObject, RootTableObject, EndpointState, NotificationState, Sender}
use Rattle.model.specs.Kernel.State.{Sent, BySend, ByCall, ByFault, ThreadState, as_thread, binding_slot, boot_area_end, boot_area_slots, buffer_slot}
use Rattle.model.specs.Kernel.State.{cspace_slot, thread_at, vspace_slot}

-- ---- the machine

-- 2^16 to 2^24 bytes, in which the boot area leaves room
pub record HasShape (s : State) : Type 0 where
  pub least_bits : 16 ≤ s.memory_bits
  pub most_bits : s.memory_bits ≤ 24
  pub least_radix : 1 ≤ s.boot_radix
  pub most_radix : s.boot_radix ≤ 14
  pub room : s.boot_radix + 5 ≤ s.memory_bits

-- ---- slots

-- a slot of the boot area, of a CNode or of a thread
pub data HasSlot (s : State) (slot : ℕ) : Type 0 where
  of_boot_area : slot < boot_area_slots s.boot_radix → HasSlot s slot
  of_object : (offset : ℕ) → IsTrue (is_slot_of s offset slot) → HasSlot s slot

pub record SlotsAreSound (s : State) : Type 0 where
  pub derivation : IsDerivation s.slots
  -- slots are open exactly where there are some
  pub there : (slot : ℕ) → IsOpen s.slots slot ↔ HasSlot s slot
  -- a thread's own slots hold a CNode, a root table and a frame, and a line's slot a notification, if anything
  pub cspace : (thread : ℕ) (t : ThreadState) → s.objects thread ≡ Some (ThreadObject t) → IsFull s.slots (cspace_slot thread)
      → IsSome (cnode_of (capability_at s.slots (cspace_slot thread)))
  pub vspace : (thread : ℕ) (t : ThreadState) → s.objects thread ≡ Some (ThreadObject t) → IsFull s.slots (vspace_slot thread)
      → IsSome (root_of (capability_at s.slots (vspace_slot thread)))
  pub buffer : (thread : ℕ) (t : ThreadState) → s.objects thread ≡ Some (ThreadObject t) → IsFull s.slots (buffer_slot thread)
      → IsSome (frame_of (capability_at s.slots (buffer_slot thread)))
  pub bindings : (line : ℕ) → line < 64 → IsFull s.slots (binding_slot s line) → IsSome (binding s line)

-- ---- memory and objects

-- How the memory of two capabilities lies: apart, or it is one object's, or the one's is in the used part of the other's, which is
-- untyped and from which it descends.
pub data Lies (slots : Slots) (a b : ℕ) (p q : Piece) : Type 0 where
  apart : AreApart p q → Lies slots a b p q
  same : (kind : NewObject) (offset : ℕ) → Names kind offset (capability_at slots a) → Names kind offset (capability_at slots b) → Lies slots a b p q
  within : (used : Piece) → used_of (capability_at slots b) ≡ Some used → IsInside p used → Descendant slots b a → Lies slots a b p q
  around : (used : Piece) → used_of (capability_at slots a) ≡ Some used → IsInside q used → Descendant slots a b → Lies slots a b p q

pub record MemoryIsSound (s : State) : Type 0 where
  -- all that capabilities name lies in memory, after the boot area
  pub inside : (slot : ℕ) (p : Piece) → piece_of (capability_at s.slots slot) ≡ Some p
      → (boot_area_end s.boot_radix ≤ p.first) × (p.first + p.size ≤ 2 ^ s.memory_bits)
  pub lies : (a b : ℕ) (p q : Piece) → a ≢ b → piece_of (capability_at s.slots a) ≡ Some p → piece_of (capability_at s.slots b) ≡ Some q
      → Lies s.slots a b p q
  -- a capability names an object of its kind that is there, and each object has a capability
  pub named : (slot : ℕ) (kind : NewObject) (offset : ℕ) → Names kind offset (capability_at s.slots slot) → kind_at s offset ≡ Some kind
  pub live : (offset : ℕ) (kind : NewObject) → kind_at s offset ≡ Some kind → (slot : ℕ) × Names kind offset (capability_at s.slots slot)
  -- frames have bytes, and nothing else has
  pub bytes : (place : ℕ) → IsSome (s.bytes place) ↔ (kind_at s (frame_around place) ≡ Some NewFrame)
  pub small : (place byte : ℕ) → s.bytes place ≡ Some byte → byte < 2 ^ 8

-- ---- mappings

pub record MappingsAreSound (s : State) : Type 0 where
  -- a page is mapped under a root table that is there, in a region that has a page table
  pub frame_root : (slot : ℕ) (mapping : FrameMapping) → frame_mapping (capability_at s.slots slot) ≡ Some mapping
      → kind_at s mapping.root ≡ Some NewRootTable
  pub frame_table : (slot : ℕ) (mapping : FrameMapping) → frame_mapping (capability_at s.slots slot) ≡ Some mapping
      → IsTrue (is_region_taken s mapping.root (mapping.page / region_pages))
  pub table_root : (slot : ℕ) (mapping : TableMapping) → table_mapping (capability_at s.slots slot) ≡ Some mapping
      → kind_at s mapping.root ≡ Some NewRootTable
  -- a page is mapped once, a region once, and a page table has one capability
  pub one_page : (a b root page : ℕ) → IsTrue (maps_page root page (capability_at s.slots a))
      → IsTrue (maps_page root page (capability_at s.slots b)) → a ≡ b
  pub one_region : (a b root region : ℕ) → IsTrue (maps_region root region (capability_at s.slots a))
      → IsTrue (maps_region root region (capability_at s.slots b)) → a ≡ b
  pub one_table : (a b offset : ℕ) (m n : Option TableMapping) → capability_at s.slots a ≡ PageTable offset m
      → capability_at s.slots b ≡ PageTable offset n → a ≡ b

-- ---- threads

-- who waits at an object
abbrev pub waiting_at : Option Object → List ℕ
waiting_at None = []
waiting_at (Some (ThreadObject t)) = []
waiting_at (Some (EndpointObject e)) = map (λ sender. sender.thread) e.senders ++ e.receivers
waiting_at (Some (NotificationObject n)) = n.waiters
waiting_at (Some (CNodeObject radix)) = []
waiting_at (Some FrameObject) = []
waiting_at (Some PageTableObject) = []
waiting_at (Some RootTableObject) = []

abbrev pub is_blocked_on : ℕ → Status → Bool
is_blocked_on queue Inactive = false
is_blocked_on queue Runnable = false
is_blocked_on queue (Blocked other) = other == queue
is_blocked_on queue AwaitsReply = false
is_blocked_on queue AwaitsHandler = false

abbrev pub awaits_answer : Status → Bool
awaits_answer Inactive = false
awaits_answer Runnable = false
awaits_answer (Blocked queue) = false
awaits_answer AwaitsReply = true
awaits_answer AwaitsHandler = true

-- whether a thread runs at a priority, and whether it waits at an object
abbrev pub runs_at : State → ℕ → ℕ → Bool
runs_at s thread priority = option_map_or (λ t. is_runnable t.status && t.priority == priority) (as_thread (s.objects thread)) false

abbrev pub waits_at : State → ℕ → ℕ → Bool
waits_at s thread queue = option_map_or (λ t. is_blocked_on queue t.status) (as_thread (s.objects thread)) false

pub record ThreadIsSound (t : ThreadState) : Type 0 where
  pub registers : length t.registers.words ≡ 32
  pub words : All (λ word. word < 2 ^ 32) t.registers.words
  pub pc : t.registers.pc < 2 ^ 32
  pub priority : t.priority ≤ 255
  pub fault_address : t.fault_address < 2 ^ 32
  pub slice : IsTrue (is_runnable t.status) → (1 ≤ t.slice) × (t.slice ≤ full_slice)

-- what waits to be delivered is made of words, since a receiver's registers hold it later: a fault is reported in at most eight
abbrev pub SentIsSound : Sent → Type 0
SentIsSound BySend = ⊤
SentIsSound ByCall = ⊤
SentIsSound (ByFault fault) = All (λ word. word < 2 ^ 32) fault.words × (length fault.words ≤ 8)

pub record SenderIsSound (sender : Sender) : Type 0 where
  pub badge : sender.badge < 2 ^ 28
  pub sent : SentIsSound sender.sent

pub record ThreadsAreSound (s : State) : Type 0 where
  pub threads : (thread : ℕ) (t : ThreadState) → s.objects thread ≡ Some (ThreadObject t) → ThreadIsSound t
  -- a thread is in the ready list, at its priority and once, exactly if it runs
  pub ready : (thread priority : ℕ) → times_in (s.ready priority) thread ≡ (if runs_at s thread priority then 1 else 0)
  -- and in the one queue that its status names, once
  pub queued : (thread queue : ℕ) → times_in (waiting_at (s.objects queue)) thread ≡ (if waits_at s thread queue then 1 else 0)
  pub one_sided : (offset : ℕ) (e : EndpointState) → s.objects offset ≡ Some (EndpointObject e) → (e.senders ≡ []) ⊎ (e.receivers ≡ [])
  pub senders : (offset : ℕ) (e : EndpointState) → s.objects offset ≡ Some (EndpointObject e) → All SenderIsSound e.senders
  pub words : (offset : ℕ) (n : NotificationState) → s.objects offset ≡ Some (NotificationObject n) → n.word < 2 ^ 28
  -- a notification for which threads wait has nothing to give them
  pub idle : (offset : ℕ) (n : NotificationState) → s.objects offset ≡ Some (NotificationObject n) → (n.waiters ≡ []) ⊎ (n.word ≡ 0)
  -- a right to reply is held for a thread that awaits an answer, by one thread
  pub callers : (thread caller : ℕ) → (thread_at s thread).caller ≡ Some caller → IsTrue (awaits_answer (thread_at s caller).status)
  pub one_right : (a b caller : ℕ) → (thread_at s a).caller ≡ Some caller → (thread_at s b).caller ≡ Some caller → a ≡ b

-- ---- the whole

pub record IsSound (s : State) : Type 0 where
  pub shape : HasShape s
  pub slots : SlotsAreSound s
  pub memory : MemoryIsSound s
  pub mappings : MappingsAreSound s
  pub threads : ThreadsAreSound s
