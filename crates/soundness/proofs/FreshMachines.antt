-- The empty machine is sound: all of its slots are empty, and there are no objects.
use Rattle.std.proofs.Common.{ℕ, ◌≡◌, ◌+◌, ◌/◌, ◌==◌, ◌&&◌, ◌≤◌, Bool, true, false, not, is_some, if◌then◌else◌, Option, Some, None, option_map, List, [], refl}
use Rattle.std.proofs.Common.{sym, ◌∙◌, ap, subst, arith, nat_lt}
use Rattle.std.specs.Option.{option_map_or}
use Rattle.std.proofs.lemmas.Bool.{ltb-true, lt-ltb}
use Rattle.model.specs.declared.capabilities.Cap.{Cap}
use Rattle.model.specs.declared.capabilities.Cap.TheVariants.{Empty, PageTable}
use Rattle.model.specs.Capabilities.CapabilityKinds.{frame_mapping, table_mapping}
use Rattle.model.specs.Capabilities.CapabilityWords.{IsCapability}
use Rattle.model.specs.Capabilities.Slots.{IsFull, capability_at, empty_entry, is_empty, is_within, parent_at}
use Rattle.model.specs.Kernel.AddressSpaces.{maps_page, maps_region}
use Rattle.model.specs.Kernel.Kinds.{kind_of, object_named, piece_of}
use Rattle.model.specs.Shared.Lists.{times_in}
use Rattle.model.specs.Kernel.Removal.{is_slot_of, slot_count}
use Rattle.model.specs.Kernel.Scheduling.{is_runnable}
use Rattle.model.specs.Kernel.Setup.{boot_area}
use Rattle.model.specs.Kernel.Soundness.{HasShape, of_boot_area, of_object, IsSound, is_blocked_on, SlotsAreSound, MemoryIsSound, MappingsAreSound}
use Rattle.model.specs.Kernel.Soundness.{ThreadsAreSound, waiting_at}
use Rattle.model.specs.Kernel.State.{State, as_thread, boot_area_slots, new_thread, thread_at}
use Rattle.model.proofs.Depths.{depth-none}

-- a state in which there is nothing yet
record IsBare (s : State) : Type 0 where
  empty : (slot : ℕ) → capability_at s.slots slot ≡ Empty
  roots : (slot : ℕ) → parent_at s.slots slot ≡ None
  open_slots : (slot : ℕ) → is_some (s.slots slot) ≡ nat_lt slot (boot_area_slots s.boot_radix)
  objects : (offset : ℕ) → s.objects offset ≡ None
  bytes : (place : ℕ) → s.bytes place ≡ None
  ready : (priority : ℕ) → s.ready priority ≡ []

module _ (s : State) (bare : IsBare s) where
  not-full : (slot : ℕ) → IsFull s.slots slot → ⊥
  not-full slot full = let e : not (is_empty Empty) ≡ true = subst (λ (c : Cap). not (is_empty c) ≡ true) (bare.empty slot) full in cc

  no-piece : {A : Type 0} (slot : ℕ) (of : Cap → Option A) (x : A) → of Empty ≡ None → of (capability_at s.slots slot) ≡ Some x → ⊥
  no-piece slot of x none is = let e : None ≡ Some x = sym none ∙ sym (ap of (bare.empty slot)) ∙ is in cc

  no-object : {A : Type 0} (offset : ℕ) (x : A) (of : Option A) → of ≡ None → of ≡ Some x → ⊥
  no-object offset x of none is = let e : None ≡ Some x = sym none ∙ is in cc

  no-slot : (offset slot : ℕ) → is_slot_of s offset slot ≡ true → ⊥
  no-slot offset slot is =
      let e : is_within (offset / 16) 0 slot ≡ true = subst (λ o. is_within (offset / 16) (slot_count o) slot ≡ true) (bare.objects offset) is in
      grind (arith, e)

  not-mapped : (slot : ℕ) (test : Cap → Bool) → test Empty ≡ false → test (capability_at s.slots slot) ≡ true → ⊥
  not-mapped slot test none is = let e : false ≡ true = sym none ∙ sym (ap test (bare.empty slot)) ∙ is in cc

  slots-sound : SlotsAreSound s
  slots-sound = record {
    derivation = record {
      valid = λ slot. subst IsCapability (sym (bare.empty slot)) tt;
      child_full = λ slot parent is. absurd (no-object slot parent (parent_at s.slots slot) (bare.roots slot) is);
      parent_full = λ slot parent is. absurd (no-object slot parent (parent_at s.slots slot) (bare.roots slot) is);
      shallow = λ slot. let none = depth-none 256 (parent_at s.slots) slot (bare.roots slot) in omega (arith, none);
    };
    there = λ slot. (
      (λ is. of_boot_area (ltb-true slot (boot_area_slots s.boot_radix) (sym (bare.open_slots slot) ∙ is))),
      (λ has. elim has [
        | of_boot_area less ↦ bare.open_slots slot ∙ lt-ltb slot (boot_area_slots s.boot_radix) less
        | of_object offset is ↦ absurd (no-slot offset slot is)
      ]),
    );
    cspace = λ thread t is. absurd (no-object thread _ (s.objects thread) (bare.objects thread) is);
    vspace = λ thread t is. absurd (no-object thread _ (s.objects thread) (bare.objects thread) is);
    buffer = λ thread t is. absurd (no-object thread _ (s.objects thread) (bare.objects thread) is);
    bindings = λ line less full. absurd (not-full _ full);
  }

  memory-sound : MemoryIsSound s
  memory-sound = record {
    inside = λ slot p is. absurd (no-piece slot piece_of p refl is);
    lies = λ a b p q differ is other. absurd (no-piece a piece_of p refl is);
    named = λ slot kind offset is. absurd (no-piece slot object_named (kind, offset) refl is);
    live = λ offset kind is. absurd (no-object offset kind (option_map kind_of (s.objects offset)) (ap (option_map kind_of) (bare.objects offset)) is);
    bytes = λ place. (
      (λ is. let e : is_some (s.bytes place) ≡ false = ap is_some (bare.bytes place) in let f : false ≡ true = sym e ∙ is in cc),
      (λ is. absurd (no-object place _ (option_map kind_of (s.objects _)) (ap (option_map kind_of) (bare.objects _)) is)),
    );
    small = λ place byte is. absurd (no-object place byte (s.bytes place) (bare.bytes place) is);
  }

  mappings-sound : MappingsAreSound s
  mappings-sound = record {
    frame_root = λ slot mapping is. absurd (no-piece slot frame_mapping mapping refl is);
    frame_table = λ slot mapping is. absurd (no-piece slot frame_mapping mapping refl is);
    table_root = λ slot mapping is. absurd (no-piece slot table_mapping mapping refl is);
    one_page = λ a b root page is other. absurd (not-mapped a (maps_page root page) refl is);
    one_region = λ a b root region is other. absurd (not-mapped a (maps_region root region) refl is);
    one_table = λ a b offset m n is other. let e : Empty ≡ PageTable offset m = sym (bare.empty a) ∙ is in cc;
  }

  threads-sound : ThreadsAreSound s
  threads-sound = record {
    threads = λ thread t is. absurd (no-object thread _ (s.objects thread) (bare.objects thread) is);
    ready = λ thread priority.
        ap (λ (l : List ℕ). times_in l thread) (bare.ready priority)
        ∙ sym (ap (λ o. if option_map_or (λ t. is_runnable t.status && t.priority == priority) (as_thread o) false then 1 else 0) (bare.objects thread));
    queued = λ thread queue.
        ap (λ o. times_in (waiting_at o) thread) (bare.objects queue)
        ∙ sym (ap (λ o. if option_map_or (λ t. is_blocked_on queue t.status) (as_thread o) false then 1 else 0) (bare.objects thread));
    one_sided = λ offset e is. absurd (no-object offset _ (s.objects offset) (bare.objects offset) is);
    senders = λ offset e is. absurd (no-object offset _ (s.objects offset) (bare.objects offset) is);
    words = λ offset n is. absurd (no-object offset _ (s.objects offset) (bare.objects offset) is);
    idle = λ offset n is. absurd (no-object offset _ (s.objects offset) (bare.objects offset) is);
    callers = λ thread caller is.
        absurd (no-object thread caller (thread_at s thread).caller (ap (λ o. (option_map_or (λ t. t) (as_thread o) new_thread).caller) (bare.objects thread))
        is);
    one_right = λ a b caller is other.
        absurd (no-object a caller (thread_at s a).caller (ap (λ o. (option_map_or (λ t. t) (as_thread o) new_thread).caller) (bare.objects a)) is);
  }

-- ---- the empty machine

empty-capability : (b : Bool) → option_map_or (λ held. held.capability) (if b then Some empty_entry else None) Empty ≡ Empty
empty-capability true = refl
empty-capability false = refl

no-parent : (b : Bool) → option_map_or (λ held. held.parent) (if b then Some empty_entry else None) None ≡ None
no-parent true = refl
no-parent false = refl

there-if : (b : Bool) → is_some (if b then Some empty_entry else None) ≡ b
there-if true = refl
there-if false = refl

fresh-bare : (bits radix : ℕ) → IsBare (boot_area bits radix)
unfolding boot_area
fresh-bare bits radix = record {
  empty = λ slot. empty-capability (nat_lt slot (boot_area_slots radix));
  roots = λ slot. no-parent (nat_lt slot (boot_area_slots radix));
  open_slots = λ slot. there-if (nat_lt slot (boot_area_slots radix));
  objects = λ offset. refl;
  bytes = λ place. refl;
  ready = λ priority. refl;
}

fresh-shape : (bits radix : ℕ) → 16 ≤ bits → bits ≤ 24 → 1 ≤ radix → radix ≤ 14 → radix + 5 ≤ bits → HasShape (boot_area bits radix)
unfolding boot_area
fresh-shape bits radix least most low high room = record { least_bits = least; most_bits = most; least_radix = low; most_radix = high; room = room }

pub fresh-sound : (bits radix : ℕ) → 16 ≤ bits → bits ≤ 24 → 1 ≤ radix → radix ≤ 14 → radix + 5 ≤ bits → IsSound (boot_area bits radix)
fresh-sound bits radix least most low high room =
    let s = boot_area bits radix in
    let bare = fresh-bare bits radix in
    record {
      shape = fresh-shape bits radix least most low high room;
      slots = slots-sound s bare;
      memory = memory-sound s bare;
      mappings = mappings-sound s bare;
      threads = threads-sound s bare;
    }
