-- What capabilities name, and the memory of it.
use Rattle.std.proofs.Common.{ℕ, ◌≡◌, ◌+◌, ◌*◌, ◌^◌, ◌≤◌, Option, Some, None, option_map, refl, ap, arith}
use Rattle.std.specs.Option.{option_map_or}
use Rattle.std.proofs.lemmas.Nat.{pow-add}
use Rattle.model.specs.declared.capabilities.Cap.{Cap}
use Rattle.model.specs.declared.capabilities.Cap.TheVariants.{Empty, Untyped, Endpoint, Notification, CNode, Frame, PageTable, Tcb, RootTable, InterruptControl}
use Rattle.model.specs.declared.capabilities.Cap.TheVariants.{InterruptHandler}
use Rattle.model.specs.Kernel.Kinds.{Piece, kind_of, object_named, piece_of, piece_of_object, used_of}
use Rattle.model.specs.Kernel.Removal.{slot_count}
use Rattle.model.specs.Kernel.Retype.{NewObject, NewUntyped, NewThread, NewEndpoint, NewNotification, NewCNode, NewFrame, NewPageTable, NewRootTable}
use Rattle.model.specs.Kernel.Retype.{object_bits}
use Rattle.model.specs.Kernel.State.{Object, ThreadObject, EndpointObject, NotificationObject, CNodeObject, FrameObject, PageTableObject, RootTableObject}

-- a capability that names an object has the object's memory, and no untyped memory
pub named-piece : (c : Cap) (named : NewObject × ℕ) → object_named c ≡ Some named → piece_of c ≡ Some (piece_of_object named)
named-piece Empty named is = let e : None ≡ Some named = is in absurd cc
named-piece (Untyped a b d) named is = let e : None ≡ Some named = is in absurd cc
named-piece (Endpoint a b d) named is = ap (option_map piece_of_object) is
named-piece (Notification a b d) named is = ap (option_map piece_of_object) is
named-piece (CNode a b d) named is = ap (option_map piece_of_object) is
named-piece (Frame a b d) named is = ap (option_map piece_of_object) is
named-piece (PageTable a b) named is = ap (option_map piece_of_object) is
named-piece (Tcb a) named is = ap (option_map piece_of_object) is
named-piece (RootTable a) named is = ap (option_map piece_of_object) is
named-piece InterruptControl named is = let e : None ≡ Some named = is in absurd cc
named-piece (InterruptHandler a) named is = let e : None ≡ Some named = is in absurd cc

pub named-unused : (c : Cap) (named : NewObject × ℕ) → object_named c ≡ Some named → used_of c ≡ None
named-unused Empty named is = refl
named-unused (Untyped a b d) named is = let e : None ≡ Some named = is in absurd cc
named-unused (Endpoint a b d) named is = refl
named-unused (Notification a b d) named is = refl
named-unused (CNode a b d) named is = refl
named-unused (Frame a b d) named is = refl
named-unused (PageTable a b) named is = refl
named-unused (Tcb a) named is = refl
named-unused (RootTable a) named is = refl
named-unused InterruptControl named is = refl
named-unused (InterruptHandler a) named is = refl

object-some : (named : Option (NewObject × ℕ)) (p : Piece) → option_map piece_of_object named ≡ Some p → (n : NewObject × ℕ) × (named ≡ Some n)
object-some (Some n) p is = (n, refl)
object-some None p is = let e : None ≡ Some p = is in absurd cc

-- memory that is not untyped is an object's
pub piece-named : (c : Cap) (p : Piece) → used_of c ≡ None → piece_of c ≡ Some p → (n : NewObject × ℕ) × (object_named c ≡ Some n)
piece-named Empty p unused is = object-some None p is
piece-named (Untyped a b d) p unused is = let e : ◌≡◌ {A = Option Piece} (Some (record { first = a; size = d })) None = unused in absurd cc
piece-named (Endpoint a b d) p unused is = object-some (Some (NewEndpoint, a)) p is
piece-named (Notification a b d) p unused is = object-some (Some (NewNotification, a)) p is
piece-named (CNode a b d) p unused is = object-some (Some (NewCNode b, a)) p is
piece-named (Frame a b d) p unused is = object-some (Some (NewFrame, a)) p is
piece-named (PageTable a b) p unused is = object-some (Some (NewPageTable, a)) p is
piece-named (Tcb a) p unused is = object-some (Some (NewThread, a)) p is
piece-named (RootTable a) p unused is = object-some (Some (NewRootTable, a)) p is
piece-named InterruptControl p unused is = object-some None p is
piece-named (InterruptHandler a) p unused is = object-some None p is

-- how many slots objects of a type have, which fit into their memory
abbrev pub slots_of_kind : NewObject → ℕ
slots_of_kind (NewUntyped bits) = 0
slots_of_kind NewThread = 3
slots_of_kind NewEndpoint = 0
slots_of_kind NewNotification = 0
slots_of_kind (NewCNode radix) = 2 ^ radix
slots_of_kind NewFrame = 0
slots_of_kind NewPageTable = 0
slots_of_kind NewRootTable = 0

pub slots-fit : (kind : NewObject) → 16 * slots_of_kind kind ≤ 2 ^ object_bits kind
slots-fit (NewUntyped bits) = omega arith
slots-fit NewThread = omega arith
slots-fit NewEndpoint = omega arith
slots-fit NewNotification = omega arith
slots-fit (NewCNode radix) = let split : 2 ^ (radix + 4) ≡ 2 ^ radix * 2 ^ 4 = pow-add 2 radix 4 in omega (arith, split)
slots-fit NewFrame = omega arith
slots-fit NewPageTable = omega arith
slots-fit NewRootTable = omega arith

object-slots : (o : Object) → slot_count (Some o) ≡ slots_of_kind (kind_of o)
object-slots (ThreadObject t) = refl
object-slots (EndpointObject e) = refl
object-slots (NotificationObject n) = refl
object-slots (CNodeObject radix) = refl
object-slots FrameObject = refl
object-slots PageTableObject = refl
object-slots RootTableObject = refl

pub slots-by_kind : (o : Option Object) → slot_count o ≡ option_map_or slots_of_kind (option_map kind_of o) 0
slots-by_kind None = refl
slots-by_kind (Some o) = object-slots o
