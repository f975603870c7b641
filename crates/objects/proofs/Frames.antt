-- Calls that change records of objects leave the same objects, and keep the invariant of objects.
use Rattle.std.proofs.Common.{ℕ, ◌≡◌, ◌∙◌, ◌+◌, ◌/◌, ◌^◌, ◌<◌, ◌≤◌, ◌⊎◌, inl, inr, Bool, true, if◌then◌else◌, Option, Some, None, option_map, List, length}
use Rattle.std.proofs.Common.{refl, sym, ap, subst, arith}
use Rattle.std.proofs.lemmas.Bool.Decides.{eqb_tells}
use Rattle.model.specs.Capabilities.Slots.{IsOpen}
use Rattle.model.specs.Kernel.Kinds.{kind_at, kind_of}
use Rattle.model.specs.Kernel.Retype.{NewObject, object_bits}
use Rattle.model.specs.Kernel.Scheduling.{without_threads}
use Rattle.model.specs.Kernel.State.{Object, CNodeObject, EndpointObject, FrameObject, NotificationObject, PageTableObject, RootTableObject, State}
use Rattle.model.specs.Kernel.State.{ThreadObject, put, with_object}
use Rattle.objects.proofs.Kept.{put-there}
use Rattle.objects.specs.Frames.{FitsMemory, IsInRecord, SameBesideObjects, SameBesideRecords, SameElsewhere, SameObjects, has_record}
use Rattle.objects.specs.Waiting.{changed_at, joined, served}
use Rattle.objects.specs.declared.thread_records.records.Sending.{Sending}

-- ---- kinds

-- an object in the place of one of its kind
pub kind-put : (objects : ℕ → Option Object) (place : ℕ) (object : Object) → option_map kind_of (objects place) ≡ Some (kind_of object)
    → (offset : ℕ) → option_map kind_of (put objects place (Some object) offset) ≡ option_map kind_of (objects offset)
kind-put objects place object is offset = elim (eqb_tells offset place) [
  | inl here ↦
      ap (λ b. option_map kind_of (if b then Some object else objects offset)) here.0
      ∙ sym (ap (λ n. option_map kind_of (objects n)) here.1 ∙ is)
  | inr apart ↦ ap (option_map kind_of) (put-there objects place (Some object) offset apart.1)
]

pub kind-left : (gone : ℕ → Bool) (o : Option Object) → option_map kind_of (option_map (without_threads gone) o) ≡ option_map kind_of o
kind-left gone None = refl
kind-left gone (Some (ThreadObject t)) = refl
kind-left gone (Some (EndpointObject e)) = refl
kind-left gone (Some (NotificationObject n)) = refl
kind-left gone (Some (CNodeObject radix)) = refl
kind-left gone (Some FrameObject) = refl
kind-left gone (Some PageTableObject) = refl
kind-left gone (Some RootTableObject) = refl

pub kind-joined : (thread : ℕ) (sending : Option Sending) (o : Object) → kind_of (joined thread sending o) ≡ kind_of o
kind-joined thread sending (ThreadObject t) = refl
kind-joined thread sending (EndpointObject e) = refl
kind-joined thread sending (NotificationObject n) = refl
kind-joined thread sending (CNodeObject radix) = refl
kind-joined thread sending FrameObject = refl
kind-joined thread sending PageTableObject = refl
kind-joined thread sending RootTableObject = refl

pub kind-served : (sending : Option Sending) (o : Object) → kind_of (served sending o) ≡ kind_of o
kind-served sending (ThreadObject t) = refl
kind-served sending (EndpointObject e) = refl
kind-served sending (NotificationObject n) = refl
kind-served sending (CNodeObject radix) = refl
kind-served sending FrameObject = refl
kind-served sending PageTableObject = refl
kind-served sending RootTableObject = refl

kind-changed : (change : Object → Object) → ((x : Object) → kind_of (change x) ≡ kind_of x) → (o : Option Object) →
    option_map kind_of (option_map change o) ≡ option_map kind_of o
kind-changed change same None = refl
kind-changed change same (Some x) = ap Some (same x)

-- ---- the same objects, with the same slots and bytes

pub record Unmoved (s t : State) : Type 0 where
  pub kinds : (offset : ℕ) → kind_at t offset ≡ kind_at s offset
  pub bytes : t.bytes ≡ s.bytes
  pub slots : t.slots ≡ s.slots
  pub bits : t.memory_bits ≡ s.memory_bits

pub moved-to : (s t u : State) → t ≡ u → Unmoved s u → Unmoved s t
moved-to s t u is unmoved = subst (Unmoved s) (sym is) unmoved

pub same-state : (s : State) → Unmoved s s
same-state s = record { kinds = λ offset. refl; bytes = refl; slots = refl; bits = refl }

-- an object in the place of one of its kind
pub one-put : (s : State) (place : ℕ) (object : Object) → kind_at s place ≡ Some (kind_of object) → Unmoved s (with_object s place object)
one-put s place object is = record { kinds = kind-put s.objects place object is; bytes = refl; slots = refl; bits = refl }

-- the object at one place changes, and is of the same kind
pub one-changed : (s : State) (place : ℕ) (change : Object → Object) → ((x : Object) → kind_of (change x) ≡ kind_of x) → Unmoved s (changed_at s place change)
one-changed s place change same = record {
  kinds = λ offset. elim (eqb_tells offset place) [
    | inl here ↦
        ap (λ b. option_map kind_of (if b then option_map change (s.objects place) else s.objects offset)) here.0
        ∙ kind-changed change same (s.objects place) ∙ sym (ap (λ n. option_map kind_of (s.objects n)) here.1)
    | inr apart ↦ ap (option_map kind_of) (put-there s.objects place (option_map change (s.objects place)) offset apart.1)
  ];
  bytes = refl;
  slots = refl;
  bits = refl;
}

-- ---- one call

pub same-records : (s : State) (memory : List ℕ) → SameBesideRecords s memory memory
same-records s memory = record { size = refl; bytes = λ place apart. refl }

-- a record lies in its object
in-object : (objects : ℕ → Option Object) (place : ℕ) (held : IsInRecord objects place)
    → ((offset : ℕ) (kind : NewObject) → option_map kind_of (objects offset) ≡ Some kind → has_record kind ≡ true →
    (place < offset) ⊎ (offset + 2 ^ object_bits kind ≤ place)) → ⊥
in-object objects place held outside = elim (outside held.offset held.kind held.there held.kept) [
  | inl before ↦ let from = held.from in omega (arith, before, from)
  | inr behind ↦ let below = held.below in omega (arith, behind, below)
]

pub beside-objects : (s : State) (old new : List ℕ) → SameBesideRecords s old new → SameBesideObjects s old new
beside-objects s old new same = record { size = same.size; bytes = λ place outside. same.bytes place (λ held. in-object s.objects place held outside) }

pub same-objects : (s t : State) (old new : List ℕ) → Unmoved s t → SameBesideRecords s old new → SameObjects s t old new
same-objects s t old new unmoved same = record {
  kinds = unmoved.kinds;
  frames = λ place none. ap (λ (f : ℕ → Option ℕ). f place) unmoved.bytes ∙ none;
  bytes = record { size = same.size; bytes = λ place none outside. same.bytes place (λ held. in-object s.objects place held outside) };
}

-- a record is where it was
pub record-was : (s t : State) (place : ℕ) → ((offset : ℕ) (kind : NewObject) → kind_at t offset ≡ Some kind → kind_at s offset ≡ Some kind)
    → IsInRecord t.objects place → IsInRecord s.objects place
record-was s t place kinds held = record {
  offset = held.offset;
  kind = held.kind;
  there = kinds held.offset held.kind held.there;
  kept = held.kept;
  from = held.from;
  below = held.below;
}

-- one after another
pub records-then : (s t : State) (a b c : List ℕ) → ((offset : ℕ) (kind : NewObject) → kind_at t offset ≡ Some kind → kind_at s offset ≡ Some kind)
    → SameBesideRecords s a b → SameBesideRecords t b c → SameBesideRecords s a c
records-then s t a b c kinds one two = record {
  size = two.size ∙ one.size;
  bytes = λ place apart. two.bytes place (λ held. apart (record-was s t place kinds held)) ∙ one.bytes place apart;
}

-- what fits does where fewer objects, bytes of frames and open slots are
pub fits-less : (s t : State) (old new : List ℕ) → FitsMemory s old → t.memory_bits ≡ s.memory_bits → length new ≡ length old
    → ((slot : ℕ) → IsOpen t.slots slot → IsOpen s.slots slot) → ((place : ℕ) → s.bytes place ≡ None → t.bytes place ≡ None)
    → ((offset : ℕ) (kind : NewObject) → kind_at t offset ≡ Some kind → kind_at s offset ≡ Some kind) → FitsMemory t new
fits-less s t old new fits bits long opens none kinds =
    let before : (place : ℕ) → IsInRecord t.objects place → IsInRecord s.objects place = λ place held. record {
      offset = held.offset;
      kind = held.kind;
      there = kinds held.offset held.kind held.there;
      kept = held.kept;
      from = held.from;
      below = held.below;
    } in
    record {
      size = ap (λ (n : ℕ). 2 ^ n) bits ∙ fits.size ∙ sym long;
      frames = λ place is_open. none place (fits.frames place (opens (place / 16) is_open));
      records = λ place is_open held. fits.records place (opens (place / 16) is_open) (before place held);
      apart = λ place held. none place (fits.apart place (before place held));
      alone = λ place one two. fits.alone place (before place one) (before place two);
    }

-- ---- one call after another

pub beside-then : (s t : State) (a b c : List ℕ) → SameObjects s t a b → SameElsewhere t b c → SameElsewhere s a c
beside-then s t a b c one two = record {
  size = two.size ∙ one.bytes.size;
  bytes = λ place none outside.
      two.bytes place (one.frames place none) (λ offset kind is. outside offset kind (sym (one.kinds offset) ∙ is)) ∙ one.bytes.bytes place none outside;
}

pub objects-then : (s t u : State) (a b c : List ℕ) → SameObjects s t a b → SameObjects t u b c → SameObjects s u a c
objects-then s t u a b c one two = record {
  kinds = λ offset. two.kinds offset ∙ one.kinds offset;
  frames = λ place none. two.frames place (one.frames place none);
  bytes = beside-then s t a b c one two.bytes;
}

-- ---- one call that leaves the objects, by the state that it makes

pub unmoved-objects : {s t u : State} {old new : List ℕ} → t ≡ u → Unmoved s u → SameBesideRecords s old new → SameObjects s t old new
unmoved-objects is unmoved same = same-objects _ _ _ _ (moved-to _ _ _ is unmoved) same

pub put-objects : {s t : State} {old new : List ℕ} (place : ℕ) (object : Object) → t ≡ with_object s place object
    → kind_at s place ≡ Some (kind_of object) → SameBesideRecords s old new → SameObjects s t old new
put-objects place object is there = unmoved-objects is (one-put _ place object there)

pub served-objects : {s t : State} {old new : List ℕ} (place : ℕ) (sending : Option Sending) → t ≡ changed_at s place (served sending)
    → SameBesideRecords s old new → SameObjects s t old new
served-objects place sending is = unmoved-objects is (one-changed _ place (served sending) (kind-served sending))

pub joined-objects : {s t : State} {old new : List ℕ} (place thread : ℕ) (sending : Option Sending) → t ≡ changed_at s place (joined thread sending)
    → SameBesideRecords s old new → SameObjects s t old new
joined-objects place thread sending is = unmoved-objects is (one-changed _ place (joined thread sending) (kind-joined thread sending))
