-- New objects and their first capabilities, by type.
use Rattle.std.proofs.Common.{ℕ, ◌≡◌, ◌%◌, ◌^◌, ◌<◌, true, false, [], Option, Some, None, option_map, refl, ap, arith}
use Rattle.std.proofs.lemmas.Bool.{leb-true}
use Rattle.std.proofs.lemmas.List.Elements.{All-replicate}
use Rattle.model.specs.declared.capabilities.Cap.{Cap}
use Rattle.model.specs.declared.capabilities.Cap.TheVariants.{Untyped, Endpoint, Notification, CNode, Frame, PageTable, Tcb, RootTable}
use Rattle.model.specs.Capabilities.Rights.{endpoint_rights, frame_rights}
use Rattle.model.specs.declared.capabilities.TableMapping.{TableMapping}
use Rattle.model.specs.Capabilities.CapabilityKinds.{frame_mapping, table_mapping}
use Rattle.model.specs.Capabilities.CapabilityWords.{IsCapability}
use Rattle.model.specs.Capabilities.Slots.{is_empty}
use Rattle.model.specs.Kernel.Kinds.{Piece, kind_of, object_named, piece_of}
use Rattle.model.specs.Kernel.Removal.{slot_count}
use Rattle.model.specs.Kernel.Retype.{NewObject, NewUntyped, NewThread, NewEndpoint, NewNotification, NewCNode, NewFrame, NewPageTable, NewRootTable}
use Rattle.model.specs.Kernel.Retype.{first_capability, is_frame, is_large_enough, is_small_enough, object, object_bits}
use Rattle.model.specs.Kernel.Soundness.{ThreadIsSound, waiting_at}
use Rattle.model.specs.Kernel.State.{Object, ThreadObject, EndpointObject, NotificationObject, CNodeObject, FrameObject, PageTableObject, RootTableObject}
use Rattle.model.specs.Kernel.State.{EndpointState, NotificationState, ThreadState, new_endpoint, new_notification, new_thread}
use Rattle.soundness.proofs.Moving.{StandsAs, own_of}
use Rattle.soundness.proofs.Pieces.{slots_of_kind}

-- what is where nothing was
pub record IsBorn (after : Option Object) : Type 0 where
  pub stands : StandsAs after None
  pub waiting : waiting_at after ≡ []
  pub caller : (own_of after).caller ≡ None
  pub threads : (t : ThreadState) → after ≡ Some (ThreadObject t) → new_thread ≡ t
  pub endpoints : (e : EndpointState) → after ≡ Some (EndpointObject e) → new_endpoint ≡ e
  pub notifications : (n : NotificationState) → after ≡ Some (NotificationObject n) → new_notification ≡ n

pub born : (kind : NewObject) → IsBorn (object kind)
born (NewUntyped bits) = record {
  stands = record { runs = λ _. refl; waits = λ _. refl; awaits = refl };
  waiting = refl;
  caller = refl;
  threads = λ t is. let clash : ◌≡◌ {A = Option Object} (None) (Some (ThreadObject t)) = is in absurd cc;
  endpoints = λ e is. let clash : ◌≡◌ {A = Option Object} (None) (Some (EndpointObject e)) = is in absurd cc;
  notifications = λ n is. let clash : ◌≡◌ {A = Option Object} (None) (Some (NotificationObject n)) = is in absurd cc;
}
born NewThread = record {
  stands = record { runs = λ _. refl; waits = λ _. refl; awaits = refl };
  waiting = refl;
  caller = refl;
  threads = λ t is. cc is;
  endpoints = λ e is. let clash : ◌≡◌ {A = Option Object} (Some (ThreadObject new_thread)) (Some (EndpointObject e)) = is in absurd cc;
  notifications = λ n is. let clash : ◌≡◌ {A = Option Object} (Some (ThreadObject new_thread)) (Some (NotificationObject n)) = is in absurd cc;
}
born NewEndpoint = record {
  stands = record { runs = λ _. refl; waits = λ _. refl; awaits = refl };
  waiting = refl;
  caller = refl;
  threads = λ t is. let clash : ◌≡◌ {A = Option Object} (Some (EndpointObject new_endpoint)) (Some (ThreadObject t)) = is in absurd cc;
  endpoints = λ e is. cc is;
  notifications = λ n is. let clash : ◌≡◌ {A = Option Object} (Some (EndpointObject new_endpoint)) (Some (NotificationObject n)) = is in absurd cc;
}
born NewNotification = record {
  stands = record { runs = λ _. refl; waits = λ _. refl; awaits = refl };
  waiting = refl;
  caller = refl;
  threads = λ t is. let clash : ◌≡◌ {A = Option Object} (Some (NotificationObject new_notification)) (Some (ThreadObject t)) = is in absurd cc;
  endpoints = λ e is. let clash : ◌≡◌ {A = Option Object} (Some (NotificationObject new_notification)) (Some (EndpointObject e)) = is in absurd cc;
  notifications = λ n is. cc is;
}
born (NewCNode radix) = record {
  stands = record { runs = λ _. refl; waits = λ _. refl; awaits = refl };
  waiting = refl;
  caller = refl;
  threads = λ t is. let clash : ◌≡◌ {A = Option Object} (Some (CNodeObject radix)) (Some (ThreadObject t)) = is in absurd cc;
  endpoints = λ e is. let clash : ◌≡◌ {A = Option Object} (Some (CNodeObject radix)) (Some (EndpointObject e)) = is in absurd cc;
  notifications = λ n is. let clash : ◌≡◌ {A = Option Object} (Some (CNodeObject radix)) (Some (NotificationObject n)) = is in absurd cc;
}
born NewFrame = record {
  stands = record { runs = λ _. refl; waits = λ _. refl; awaits = refl };
  waiting = refl;
  caller = refl;
  threads = λ t is. let clash : ◌≡◌ {A = Option Object} (Some FrameObject) (Some (ThreadObject t)) = is in absurd cc;
  endpoints = λ e is. let clash : ◌≡◌ {A = Option Object} (Some FrameObject) (Some (EndpointObject e)) = is in absurd cc;
  notifications = λ n is. let clash : ◌≡◌ {A = Option Object} (Some FrameObject) (Some (NotificationObject n)) = is in absurd cc;
}
born NewPageTable = record {
  stands = record { runs = λ _. refl; waits = λ _. refl; awaits = refl };
  waiting = refl;
  caller = refl;
  threads = λ t is. let clash : ◌≡◌ {A = Option Object} (Some PageTableObject) (Some (ThreadObject t)) = is in absurd cc;
  endpoints = λ e is. let clash : ◌≡◌ {A = Option Object} (Some PageTableObject) (Some (EndpointObject e)) = is in absurd cc;
  notifications = λ n is. let clash : ◌≡◌ {A = Option Object} (Some PageTableObject) (Some (NotificationObject n)) = is in absurd cc;
}
born NewRootTable = record {
  stands = record { runs = λ _. refl; waits = λ _. refl; awaits = refl };
  waiting = refl;
  caller = refl;
  threads = λ t is. let clash : ◌≡◌ {A = Option Object} (Some RootTableObject) (Some (ThreadObject t)) = is in absurd cc;
  endpoints = λ e is. let clash : ◌≡◌ {A = Option Object} (Some RootTableObject) (Some (EndpointObject e)) = is in absurd cc;
  notifications = λ n is. let clash : ◌≡◌ {A = Option Object} (Some RootTableObject) (Some (NotificationObject n)) = is in absurd cc;
}

pub new-fine : ThreadIsSound new_thread
new-fine = record {
  registers = refl;
  words = All-replicate (λ (word : ℕ). word < 2 ^ 32) 32 0 (omega arith);
  pc = omega arith;
  priority = omega arith;
  fault_address = omega arith;
  slice = λ is. let e : false ≡ true = is in absurd cc;
}

pub new-slots : (kind : NewObject) → slot_count (object kind) ≡ slots_of_kind kind
new-slots (NewUntyped bits) = refl
new-slots NewThread = refl
new-slots NewEndpoint = refl
new-slots NewNotification = refl
new-slots (NewCNode radix) = refl
new-slots NewFrame = refl
new-slots NewPageTable = refl
new-slots NewRootTable = refl

-- the object is of its type; untyped memory is none
pub new-kind : (kind k : NewObject) → option_map kind_of (object kind) ≡ Some k → kind ≡ k
new-kind (NewUntyped bits) k is = let e : None ≡ Some k = is in absurd cc
new-kind NewThread k is = cc is
new-kind NewEndpoint k is = cc is
new-kind NewNotification k is = cc is
new-kind (NewCNode radix) k is = cc is
new-kind NewFrame k is = cc is
new-kind NewPageTable k is = cc is
new-kind NewRootTable k is = cc is

-- what the first capability names
pub record FirstNamed (kind : NewObject) (at : ℕ) (named : NewObject × ℕ) : Type 0 where
  pub same : (kind, at) ≡ named
  pub there : option_map kind_of (object kind) ≡ Some kind

pub first-named : (kind : NewObject) (at : ℕ) (named : NewObject × ℕ) → object_named (first_capability kind at) ≡ Some named
    → FirstNamed kind at named
first-named (NewUntyped bits) at named is = let e : None ≡ Some named = is in absurd cc
first-named NewThread at named is = record { same = cc is; there = refl }
first-named NewEndpoint at named is = record { same = cc is; there = refl }
first-named NewNotification at named is = record { same = cc is; there = refl }
first-named (NewCNode radix) at named is = record { same = cc is; there = refl }
first-named NewFrame at named is = record { same = cc is; there = refl }
first-named NewPageTable at named is = record { same = cc is; there = refl }
first-named NewRootTable at named is = record { same = cc is; there = refl }

-- an object has its first capability
pub named-first : (kind k : NewObject) (at : ℕ) → option_map kind_of (object kind) ≡ Some k → object_named (first_capability kind at) ≡ Some (k, at)
named-first (NewUntyped bits) k at is = let e : None ≡ Some k = is in absurd cc
named-first NewThread k at is = let e : NewThread ≡ k = cc is in ap (λ (n : NewObject). Some (n, at)) e
named-first NewEndpoint k at is = let e : NewEndpoint ≡ k = cc is in ap (λ (n : NewObject). Some (n, at)) e
named-first NewNotification k at is = let e : NewNotification ≡ k = cc is in ap (λ (n : NewObject). Some (n, at)) e
named-first (NewCNode radix) k at is = let e : NewCNode radix ≡ k = cc is in ap (λ (n : NewObject). Some (n, at)) e
named-first NewFrame k at is = let e : NewFrame ≡ k = cc is in ap (λ (n : NewObject). Some (n, at)) e
named-first NewPageTable k at is = let e : NewPageTable ≡ k = cc is in ap (λ (n : NewObject). Some (n, at)) e
named-first NewRootTable k at is = let e : NewRootTable ≡ k = cc is in ap (λ (n : NewObject). Some (n, at)) e

abbrev pub new_piece : NewObject → ℕ → Piece
new_piece kind at = record { first = at; size = 2 ^ object_bits kind }

pub first-piece : (kind : NewObject) (at : ℕ) → piece_of (first_capability kind at) ≡ Some (new_piece kind at)
first-piece (NewUntyped bits) at = refl
first-piece NewThread at = refl
first-piece NewEndpoint at = refl
first-piece NewNotification at = refl
first-piece (NewCNode radix) at = refl
first-piece NewFrame at = refl
first-piece NewPageTable at = refl
first-piece NewRootTable at = refl

-- it maps nothing, and is not empty
pub record IsFresh (c : Cap) : Type 0 where
  pub frame : frame_mapping c ≡ None
  pub table : table_mapping c ≡ None
  pub empty : is_empty c ≡ false

pub first-fresh : (kind : NewObject) (at : ℕ) → IsFresh (first_capability kind at)
first-fresh (NewUntyped bits) at = record { frame = refl; table = refl; empty = refl }
first-fresh NewThread at = record { frame = refl; table = refl; empty = refl }
first-fresh NewEndpoint at = record { frame = refl; table = refl; empty = refl }
first-fresh NewNotification at = record { frame = refl; table = refl; empty = refl }
first-fresh (NewCNode radix) at = record { frame = refl; table = refl; empty = refl }
first-fresh NewFrame at = record { frame = refl; table = refl; empty = refl }
first-fresh NewPageTable at = record { frame = refl; table = refl; empty = refl }
first-fresh NewRootTable at = record { frame = refl; table = refl; empty = refl }

pub first-table : (kind : NewObject) (at offset : ℕ) (m : Option TableMapping) → first_capability kind at ≡ PageTable offset m → at ≡ offset
first-table (NewUntyped bits) at offset m is = let e : Untyped at bits 0 ≡ PageTable offset m = is in absurd cc
first-table NewThread at offset m is = let e : Tcb at ≡ PageTable offset m = is in absurd cc
first-table NewEndpoint at offset m is = let e : Endpoint at endpoint_rights 0 ≡ PageTable offset m = is in absurd cc
first-table NewNotification at offset m is = let e : Notification at endpoint_rights 0 ≡ PageTable offset m = is in absurd cc
first-table (NewCNode radix) at offset m is = let e : CNode at radix 0 ≡ PageTable offset m = is in absurd cc
first-table NewFrame at offset m is = let e : Frame at frame_rights None ≡ PageTable offset m = is in absurd cc
first-table NewPageTable at offset m is = cc is
first-table NewRootTable at offset m is = let e : RootTable at ≡ PageTable offset m = is in absurd cc

pub first-valid : (kind : NewObject) (at : ℕ) → is_large_enough kind ≡ true → is_small_enough kind ≡ true → at % 2 ^ object_bits kind ≡ 0
    → at < 2 ^ 24 → IsCapability (first_capability kind at)
first-valid (NewUntyped bits) at large small aligned less = ((aligned, less), leb-true 4 bits large, leb-true bits 24 small, omega arith)
first-valid NewThread at large small aligned less = (aligned, less)
first-valid NewEndpoint at large small aligned less = ((aligned, less), refl, omega arith)
first-valid NewNotification at large small aligned less = ((aligned, less), refl, omega arith)
first-valid (NewCNode radix) at large small aligned less =
    let most = leb-true radix 14 small in ((aligned, less), leb-true 1 radix large, most, (omega arith, omega arith, omega (arith, most)))
first-valid NewFrame at large small aligned less = ((aligned, less), omega arith, tt)
first-valid NewPageTable at large small aligned less = ((aligned, less), tt)
first-valid NewRootTable at large small aligned less = (aligned, less)

-- a test for frames
pub frame-kind : (kind : NewObject) → is_frame kind ≡ true → kind ≡ NewFrame
frame-kind (NewUntyped bits) is = let e : false ≡ true = is in absurd cc
frame-kind NewThread is = let e : false ≡ true = is in absurd cc
frame-kind NewEndpoint is = let e : false ≡ true = is in absurd cc
frame-kind NewNotification is = let e : false ≡ true = is in absurd cc
frame-kind (NewCNode radix) is = let e : false ≡ true = is in absurd cc
frame-kind NewFrame is = refl
frame-kind NewPageTable is = let e : false ≡ true = is in absurd cc
frame-kind NewRootTable is = let e : false ≡ true = is in absurd cc
