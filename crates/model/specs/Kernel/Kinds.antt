-- What objects and capabilities are of, and the memory that capabilities name.
-- seL4 Reference Manual, "Kernel Services and Objects".
use Rattle.std.specs.Prelude.{ℕ, ◌≡◌, ◌+◌, ◌-◌, ◌%◌, ◌^◌, ◌≤◌, ◌⊎◌, Option, Some, None, option_map}
use Rattle.model.specs.declared.capabilities.Cap.{Cap}
use Rattle.model.specs.declared.capabilities.Cap.TheVariants.{Empty, Untyped, Endpoint, Notification, CNode, Frame, PageTable, Tcb, RootTable, InterruptControl}
use Rattle.model.specs.declared.capabilities.Cap.TheVariants.{InterruptHandler}
use Rattle.model.specs.Kernel.AddressSpaces.{page_size}
use Rattle.model.specs.Kernel.Retype.{NewObject, NewThread, NewEndpoint, NewNotification, NewCNode, NewFrame, NewPageTable, NewRootTable, object_bits}
use Rattle.model.specs.Kernel.State.{State, Object, ThreadObject, EndpointObject, NotificationObject, CNodeObject, FrameObject, PageTableObject}
use Rattle.model.specs.Kernel.State.{RootTableObject}

-- the type of an object, as Retype has it
abbrev pub kind_of : Object → NewObject
kind_of (ThreadObject t) = NewThread
kind_of (EndpointObject e) = NewEndpoint
kind_of (NotificationObject n) = NewNotification
kind_of (CNodeObject radix) = NewCNode radix
kind_of FrameObject = NewFrame
kind_of PageTableObject = NewPageTable
kind_of RootTableObject = NewRootTable

abbrev pub kind_at : State → ℕ → Option NewObject
kind_at s offset = option_map kind_of (s.objects offset)

-- the object that a capability names, with its type; an untyped is no object, and a line is none
abbrev pub object_named : Cap → Option (NewObject × ℕ)
object_named Empty = None
object_named (Untyped offset bits watermark) = None
object_named (Endpoint offset r badge) = Some (NewEndpoint, offset)
object_named (Notification offset r badge) = Some (NewNotification, offset)
object_named (CNode offset radix guard) = Some (NewCNode radix, offset)
object_named (Frame offset r mapping) = Some (NewFrame, offset)
object_named (PageTable offset mapping) = Some (NewPageTable, offset)
object_named (Tcb offset) = Some (NewThread, offset)
object_named (RootTable offset) = Some (NewRootTable, offset)
object_named InterruptControl = None
object_named (InterruptHandler irq_line) = None

abbrev pub Names : NewObject → ℕ → Cap → Type 0
Names kind offset capability = object_named capability ≡ Some (kind, offset)

-- ---- memory

-- so many bytes from an offset on
pub record Piece : Type 0 where
  pub first : ℕ
  pub size : ℕ

abbrev pub AreApart : Piece → Piece → Type 0
AreApart p q = (p.first + p.size ≤ q.first) ⊎ (q.first + q.size ≤ p.first)

abbrev pub IsInside : Piece → Piece → Type 0
IsInside p q = (q.first ≤ p.first) × (p.first + p.size ≤ q.first + q.size)

abbrev pub piece_of_object : NewObject × ℕ → Piece
piece_of_object (kind, offset) = record { first = offset; size = 2 ^ object_bits kind }

-- the memory that a capability names, untyped or an object's
abbrev pub piece_of : Cap → Option Piece
piece_of (Untyped offset bits watermark) = Some (record { first = offset; size = 2 ^ bits })
piece_of capability = option_map piece_of_object (object_named capability)

-- the part of untyped memory that is used
abbrev pub used_of : Cap → Option Piece
used_of (Untyped offset bits watermark) = Some (record { first = offset; size = watermark })
used_of _ = None

-- the offset of the frame that a place would be in
abbrev pub frame_around : ℕ → ℕ
frame_around place = place - place % page_size
