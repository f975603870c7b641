-- What a change of threads and queues leaves alone: shape, slots, memory and mappings.
use Rattle.std.proofs.Common.{ℕ, ◌≡◌, ◌∙◌, ◌/◌, Bool, true, List, Option, Some, None, option_map, refl, sym, ap, subst}
use Rattle.std.specs.Option.{option_map_or}
use Rattle.model.specs.Capabilities.Slots.{is_within}
use Rattle.model.specs.Kernel.Kinds.{kind_at, kind_of}
use Rattle.model.specs.Kernel.Removal.{slot_count}
use Rattle.model.specs.Kernel.Retype.{NewObject, NewThread, NewEndpoint, NewNotification, NewCNode, NewFrame, NewPageTable, NewRootTable}
use Rattle.model.specs.Kernel.Soundness.{HasShape, HasSlot, of_boot_area, of_object, IsSound, MappingsAreSound, MemoryIsSound, SlotsAreSound, ThreadsAreSound}
use Rattle.model.specs.Kernel.State.{State, Object, ThreadObject, EndpointObject, NotificationObject, CNodeObject, FrameObject, PageTableObject}
use Rattle.model.specs.Kernel.State.{RootTableObject, EndpointState, NotificationState, ThreadState}
use Rattle.soundness.proofs.Pieces.{slots-by_kind, slots_of_kind}

-- ---- objects of a type

pub thread-kind : (o : Option Object) → option_map kind_of o ≡ Some NewThread → (t : ThreadState) × (o ≡ Some (ThreadObject t))
thread-kind (Some (ThreadObject t)) is = (t, refl)
thread-kind None is = let e : None ≡ Some NewThread = is in absurd cc
thread-kind (Some (EndpointObject x)) is = let e : Some NewEndpoint ≡ Some NewThread = is in absurd cc
thread-kind (Some (NotificationObject x)) is = let e : Some NewNotification ≡ Some NewThread = is in absurd cc
thread-kind (Some (CNodeObject x)) is = let e : Some (NewCNode x) ≡ Some NewThread = is in absurd cc
thread-kind (Some FrameObject) is = let e : Some NewFrame ≡ Some NewThread = is in absurd cc
thread-kind (Some PageTableObject) is = let e : Some NewPageTable ≡ Some NewThread = is in absurd cc
thread-kind (Some RootTableObject) is = let e : Some NewRootTable ≡ Some NewThread = is in absurd cc

pub endpoint-kind : (o : Option Object) → option_map kind_of o ≡ Some NewEndpoint → (e : EndpointState) × (o ≡ Some (EndpointObject e))
endpoint-kind (Some (EndpointObject e)) is = (e, refl)
endpoint-kind None is = let e : None ≡ Some NewEndpoint = is in absurd cc
endpoint-kind (Some (ThreadObject x)) is = let e : Some NewThread ≡ Some NewEndpoint = is in absurd cc
endpoint-kind (Some (NotificationObject x)) is = let e : Some NewNotification ≡ Some NewEndpoint = is in absurd cc
endpoint-kind (Some (CNodeObject x)) is = let e : Some (NewCNode x) ≡ Some NewEndpoint = is in absurd cc
endpoint-kind (Some FrameObject) is = let e : Some NewFrame ≡ Some NewEndpoint = is in absurd cc
endpoint-kind (Some PageTableObject) is = let e : Some NewPageTable ≡ Some NewEndpoint = is in absurd cc
endpoint-kind (Some RootTableObject) is = let e : Some NewRootTable ≡ Some NewEndpoint = is in absurd cc

pub notification-kind : (o : Option Object) → option_map kind_of o ≡ Some NewNotification
    → (n : NotificationState) × (o ≡ Some (NotificationObject n))
notification-kind (Some (NotificationObject n)) is = (n, refl)
notification-kind None is = let e : None ≡ Some NewNotification = is in absurd cc
notification-kind (Some (ThreadObject x)) is = let e : Some NewThread ≡ Some NewNotification = is in absurd cc
notification-kind (Some (EndpointObject x)) is = let e : Some NewEndpoint ≡ Some NewNotification = is in absurd cc
notification-kind (Some (CNodeObject x)) is = let e : Some (NewCNode x) ≡ Some NewNotification = is in absurd cc
notification-kind (Some FrameObject) is = let e : Some NewFrame ≡ Some NewNotification = is in absurd cc
notification-kind (Some PageTableObject) is = let e : Some NewPageTable ≡ Some NewNotification = is in absurd cc
notification-kind (Some RootTableObject) is = let e : Some NewRootTable ≡ Some NewNotification = is in absurd cc

-- ---- the rest

pub record RestIsSound (s : State) : Type 0 where
  pub shape : HasShape s
  pub slots : SlotsAreSound s
  pub memory : MemoryIsSound s
  pub mappings : MappingsAreSound s

pub rest-of : (s : State) → IsSound s → RestIsSound s
rest-of s sound = record { shape = sound.shape; slots = sound.slots; memory = sound.memory; mappings = sound.mappings }

pub sound-of : (s : State) → RestIsSound s → ThreadsAreSound s → IsSound s
sound-of s rest threads = record { shape = rest.shape; slots = rest.slots; memory = rest.memory; mappings = rest.mappings; threads = threads }

module _ (s : State) (objects : ℕ → Option Object) (ready : ℕ → List ℕ) (masked pending : ℕ → Bool)
    (kinds : (offset : ℕ) → option_map kind_of (objects offset) ≡ kind_at s offset) where
  abbrev changed : State
  changed = record s { objects = objects; ready = ready; masked = masked; pending = pending }

  same-slots : (offset : ℕ) → slot_count (objects offset) ≡ slot_count (s.objects offset)
  same-slots offset = slots-by_kind (objects offset) ∙ ap (λ (o : Option NewObject). option_map_or slots_of_kind o 0) (kinds offset)
      ∙ sym (slots-by_kind (s.objects offset))

  has-slot : (slot : ℕ) → HasSlot s slot → HasSlot changed slot
  has-slot slot (of_boot_area less) = of_boot_area less
  has-slot slot (of_object offset is) = of_object offset (subst (λ (n : ℕ). is_within (offset / 16) n slot ≡ true) (sym (same-slots offset)) is)

  had-slot : (slot : ℕ) → HasSlot changed slot → HasSlot s slot
  had-slot slot (of_boot_area less) = of_boot_area less
  had-slot slot (of_object offset is) = of_object offset (subst (λ (n : ℕ). is_within (offset / 16) n slot ≡ true) (same-slots offset) is)

  was-thread : (thread : ℕ) (t : ThreadState) → objects thread ≡ Some (ThreadObject t)
      → (u : ThreadState) × (s.objects thread ≡ Some (ThreadObject u))
  was-thread thread t is = thread-kind (s.objects thread) (sym (kinds thread) ∙ ap (option_map kind_of) is)

  pub rest-kept : RestIsSound s → RestIsSound changed
  rest-kept rest = record {
    shape = record {
      least_bits = rest.shape.least_bits;
      most_bits = rest.shape.most_bits;
      least_radix = rest.shape.least_radix;
      most_radix = rest.shape.most_radix;
      room = rest.shape.room;
    };
    slots = record {
      derivation = rest.slots.derivation;
      there = λ slot. (
        (λ is. has-slot slot ((rest.slots.there slot).0 is)),
        (λ has. (rest.slots.there slot).1 (had-slot slot has)),
      );
      cspace = λ thread t is full. let was = was-thread thread t is in rest.slots.cspace thread was.0 was.1 full;
      vspace = λ thread t is full. let was = was-thread thread t is in rest.slots.vspace thread was.0 was.1 full;
      buffer = λ thread t is full. let was = was-thread thread t is in rest.slots.buffer thread was.0 was.1 full;
      bindings = rest.slots.bindings;
    };
    memory = record {
      inside = rest.memory.inside;
      lies = rest.memory.lies;
      named = λ slot kind offset is. kinds offset ∙ rest.memory.named slot kind offset is;
      live = λ offset kind is. rest.memory.live offset kind (sym (kinds offset) ∙ is);
      bytes = λ place. (
        (λ is. kinds _ ∙ (rest.memory.bytes place).0 is),
        (λ is. (rest.memory.bytes place).1 (sym (kinds _) ∙ is)),
      );
      small = rest.memory.small;
    };
    mappings = record {
      frame_root = λ slot mapping is. kinds mapping.root ∙ rest.mappings.frame_root slot mapping is;
      frame_table = rest.mappings.frame_table;
      table_root = λ slot mapping is. kinds mapping.root ∙ rest.mappings.table_root slot mapping is;
      one_page = rest.mappings.one_page;
      one_region = rest.mappings.one_region;
      one_table = rest.mappings.one_table;
    };
  }
