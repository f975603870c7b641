-- The types of objects as code has them.
-- seL4 Reference Manual, "Kernel Services and Objects"; the numbers and sizes that name them are our own.
use Rattle.std.specs.Prelude.{ℕ, Option, None, if◌then◌else◌}
use Rattle.model.specs.Images.Image.{size_fits}
use Rattle.model.specs.Kernel.Kinds.{kind_of}
use Rattle.model.specs.Kernel.Retype.{NewObject, NewUntyped, type_of}
use Rattle.model.specs.Kernel.State.{Object, ThreadObject, EndpointObject, NotificationObject, CNodeObject, FrameObject, PageTableObject, RootTableObject}
use Rattle.model.specs.Kernel.State.{new_endpoint, new_notification, new_thread}
use Rattle.model.specs.declared.object_types.ObjectKind.{ObjectKind}
use Rattle.model.specs.declared.object_types.ObjectKind.TheVariants as kinds
use Rattle.model.specs.declared.object_types.ObjectType.{ObjectType}
use Rattle.model.specs.declared.object_types.ObjectType.TheVariants as types

-- a new object of a kind
abbrev pub new_object : ObjectKind → Object
new_object kinds.Thread = ThreadObject new_thread
new_object kinds.Endpoint = EndpointObject new_endpoint
new_object kinds.Notification = NotificationObject new_notification
new_object (kinds.CNode radix) = CNodeObject radix
new_object kinds.Frame = FrameObject
new_object kinds.PageTable = PageTableObject
new_object kinds.RootTable = RootTableObject

-- the same type in the words of Retype
abbrev pub new_kind : ObjectKind → NewObject
new_kind kind = kind_of (new_object kind)

abbrev pub new_type : ObjectType → NewObject
new_type (types.Untyped bits) = NewUntyped bits
new_type (types.Object kind) = new_kind kind

-- the size by which an image and a call name it
abbrev pub size_word : ObjectType → ℕ
size_word (types.Untyped bits) = bits
size_word (types.Object (kinds.CNode radix)) = radix
size_word (types.Object _) = 0

-- the type of an image's object: of a number, and of a size that fits
abbrev pub fitting_type : ℕ → ℕ → Option NewObject
fitting_type kind size = if size_fits kind size then type_of kind size else None
