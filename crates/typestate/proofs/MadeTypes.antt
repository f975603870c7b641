-- The types of new objects that a program may make: endpoints, notifications and frames.
use Rattle.std.proofs.Common.{ℕ, ◌≡◌, ◌≤◌, true, false, Some, List, refl, arith}
use Rattle.std.proofs.lemmas.Bool.{false≢true}
use Rattle.model.specs.Acceptance.CallRules.{may_make}
use Rattle.model.specs.Acceptance.NotedStates.{is_foreign}
use Rattle.model.specs.Capabilities.CapabilityWords.{IsCapability, IsPlace}
use Rattle.model.specs.Capabilities.Slots.{is_empty}
use Rattle.model.specs.Images.Image.{Image, Thread}
use Rattle.model.specs.Kernel.Removal.{slot_count}
use Rattle.model.specs.Kernel.Retype.{NewObject, NewUntyped, NewThread, NewEndpoint, NewNotification, NewCNode, NewFrame, NewPageTable, NewRootTable}
use Rattle.model.specs.Kernel.Retype.{first_capability, object, object_bits}

-- what holds of the three holds of each
by-type : (P : NewObject → Type 0) → P NewEndpoint → P NewNotification → P NewFrame → (new : NewObject) → may_make (Some new) ≡ true → P new
by-type P endpoint notification frame (NewUntyped bits) may = absurd (false≢true may)
by-type P endpoint notification frame NewThread may = absurd (false≢true may)
by-type P endpoint notification frame NewEndpoint may = endpoint
by-type P endpoint notification frame NewNotification may = notification
by-type P endpoint notification frame (NewCNode radix) may = absurd (false≢true may)
by-type P endpoint notification frame NewFrame may = frame
by-type P endpoint notification frame NewPageTable may = absurd (false≢true may)
by-type P endpoint notification frame NewRootTable may = absurd (false≢true may)

pub made-bits : (new : NewObject) → may_make (Some new) ≡ true → object_bits new ≤ 12
made-bits = by-type (λ new. object_bits new ≤ 12) (omega arith) (omega arith) (omega arith)

pub no-slots : (new : NewObject) → may_make (Some new) ≡ true → slot_count (object new) ≡ 0
no-slots = by-type (λ new. slot_count (object new) ≡ 0) refl refl refl

pub made-mine : (image : Image) (t : Thread) (cnodes : List ℕ) (offset : ℕ) (new : NewObject) → may_make (Some new) ≡ true
    → is_foreign image t cnodes (first_capability new offset) ≡ false
made-mine image t cnodes offset = by-type (λ new. is_foreign image t cnodes (first_capability new offset) ≡ false) refl refl refl

pub made-valid : (offset : ℕ) (new : NewObject) → may_make (Some new) ≡ true → IsPlace offset (object_bits new) → IsCapability (first_capability new offset)
made-valid offset = by-type (λ new. IsPlace offset (object_bits new) → IsCapability (first_capability new offset))
    (λ place. (place, refl, omega arith)) (λ place. (place, refl, omega arith)) (λ place. (place, omega arith, tt))

-- a first capability is none that is empty
pub first-full : (new : NewObject) (offset : ℕ) → is_empty (first_capability new offset) ≡ false
first-full (NewUntyped bits) offset = refl
first-full NewThread offset = refl
first-full NewEndpoint offset = refl
first-full NewNotification offset = refl
first-full (NewCNode radix) offset = refl
first-full NewFrame offset = refl
first-full NewPageTable offset = refl
first-full NewRootTable offset = refl
