-- Where the slots of sound states lie: each belongs to one object or to the boot area, inside memory.
use Rattle.std.proofs.Common.{ℕ, ◌≡◌, ◌≢◌, ◌∙◌, ◌+◌, ◌*◌, ◌/◌, ◌^◌, ◌<◌, ◌≤◌, inl, inr, IsSome, IsTrue, Option, Some, None, option_map, refl, sym, ap, subst}
use Rattle.std.proofs.Common.{arith}
use Rattle.std.specs.Option.{option_map_or}
use Rattle.std.proofs.lemmas.Bool.Decides.{eqb_tells}
use Rattle.std.proofs.lemmas.Nat.{pow-add}
use Rattle.std.proofs.Math.Pow.{pow_mono}
use Rattle.model.proofs.SlotChanges.{bounds-within, within-bounds}
use Rattle.model.specs.Capabilities.CapabilityKinds.{cnode_of, frame_of, root_of}
use Rattle.model.specs.Capabilities.Slots.{IsFull, IsOpen, Slots, capability_at}
use Rattle.model.specs.Kernel.Interrupts.{signal_of}
use Rattle.model.specs.declared.capabilities.Cap.{Cap}
use Rattle.model.specs.Kernel.Kinds.{AreApart, Names, kind_at, kind_of, object_named, piece_of_object}
use Rattle.model.specs.Kernel.Removal.{is_slot_of, slot_count}
use Rattle.model.specs.Kernel.Retype.{NewObject, NewThread, NewCNode, object_bits}
use Rattle.model.specs.Kernel.Soundness.{HasShape, HasSlot, of_boot_area, of_object, MemoryIsSound, SlotsAreSound, Lies, apart, same, within, around}
use Rattle.model.specs.Kernel.State.{State, ThreadObject, ThreadState, binding_slot, boot_area_end, boot_area_slots, buffer_slot, cspace_slot, vspace_slot}
use Rattle.model.specs.Kernel.State.{with_slots}
use Rattle.soundness.proofs.Pieces.{named-piece, named-unused, slots-by_kind, slots-fit, slots_of_kind}

-- a slot of an object, by the object's type
pub record StandsIn (s : State) (offset slot : ℕ) : Type 0 where
  pub kind : NewObject
  pub is : kind_at s offset ≡ Some kind
  pub low : offset / 16 ≤ slot
  pub high : slot < offset / 16 + slots_of_kind kind

stands-by : (s : State) (offset slot : ℕ) (kind : Option NewObject) → kind_at s offset ≡ kind → offset / 16 ≤ slot
    → slot < offset / 16 + option_map_or slots_of_kind kind 0 → StandsIn s offset slot
stands-by s offset slot None is low high = absurd (omega arith)
stands-by s offset slot (Some kind) is low high = record { kind = kind; is = is; low = low; high = high }

pub slot-stands : (s : State) (offset slot : ℕ) → IsTrue (is_slot_of s offset slot) → StandsIn s offset slot
slot-stands s offset slot is =
    let bounds = within-bounds (offset / 16) (slot_count (s.objects offset)) slot is in
    stands-by s offset slot (kind_at s offset) refl bounds.0
    (subst (λ (n : ℕ). slot < offset / 16 + n) (slots-by_kind (s.objects offset)) bounds.1)

pub stands-slot : (s : State) (offset slot : ℕ) → StandsIn s offset slot → IsTrue (is_slot_of s offset slot)
stands-slot s offset slot stands =
    let count : slot_count (s.objects offset) ≡ slots_of_kind stands.kind = slots-by_kind (s.objects offset)
    ∙ ap (λ (o : Option NewObject). option_map_or slots_of_kind o 0) stands.is in
    bounds-within (offset / 16) (slot_count (s.objects offset)) slot stands.low (subst (λ (n : ℕ). slot < offset / 16 + n) (sym count) stands.high)

module _ (s : State) (memory : MemoryIsSound s) where
  -- an object's memory lies after the boot area and inside memory
  pub object-inside : (offset : ℕ) (kind : NewObject) → kind_at s offset ≡ Some kind
      → (boot_area_end s.boot_radix ≤ offset) × (offset + 2 ^ object_bits kind ≤ 2 ^ s.memory_bits)
  object-inside offset kind is =
      let name = memory.live offset kind is in
      memory.inside name.0 (piece_of_object (kind, offset)) (named-piece (capability_at s.slots name.0) (kind, offset) name.1)

  lies-apart : (a b x y : ℕ) (j k : NewObject) → a ≢ b → Names j a (capability_at s.slots x) → Names k b (capability_at s.slots y)
      → Lies s.slots x y (piece_of_object (j, a)) (piece_of_object (k, b)) → AreApart (piece_of_object (j, a)) (piece_of_object (k, b))
  lies-apart a b x y j k differ one other (apart is) = is
  lies-apart a b x y j k differ one other (same kind offset first second) =
      let e : Some (j, a) ≡ Some (k, b) = sym one ∙ first ∙ sym second ∙ other in
      absurd (differ (ap (λ (o : Option (NewObject × ℕ)). option_map_or (λ (n : NewObject × ℕ). n.1) o 0) e))
  lies-apart a b x y j k differ one other (within used is inside below) =
      let e : None ≡ Some used = sym (named-unused (capability_at s.slots y) (k, b) other) ∙ is in absurd cc
  lies-apart a b x y j k differ one other (around used is inside below) =
      let e : None ≡ Some used = sym (named-unused (capability_at s.slots x) (j, a) one) ∙ is in absurd cc

  -- two objects lie apart
  pub objects-apart : (a b : ℕ) (j k : NewObject) → a ≢ b → kind_at s a ≡ Some j → kind_at s b ≡ Some k
      → AreApart (piece_of_object (j, a)) (piece_of_object (k, b))
  objects-apart a b j k differ one other =
      let x = memory.live a j one in
      let y = memory.live b k other in
      lies-apart a b x.0 y.0 j k differ x.1 y.1
      (memory.lies x.0 y.0 (piece_of_object (j, a)) (piece_of_object (k, b))
      (λ e. differ (ap (λ (o : Option (NewObject × ℕ)). option_map_or (λ (n : NewObject × ℕ). n.1) o 0)
      (sym x.1 ∙ ap (λ (z : ℕ). object_named (capability_at s.slots z)) e ∙ y.1)))
      (named-piece (capability_at s.slots x.0) (j, a) x.1) (named-piece (capability_at s.slots y.0) (k, b) y.1))

  -- a slot lies in one object
  pub one-object : (a b slot : ℕ) → StandsIn s a slot → StandsIn s b slot → a ≡ b
  one-object a b slot one other = elim (eqb_tells a b) [
    | inl here ↦ here.1
    | inr differ ↦
        let fit = slots-fit one.kind in
        let fits = slots-fit other.kind in
        let low = one.low in
        let high = one.high in
        let lower = other.low in
        let higher = other.high in
        elim (objects-apart a b one.kind other.kind differ.1 one.is other.is) [
          | inl before ↦ absurd (omega (arith, before, fit, high, lower))
          | inr behind ↦ absurd (omega (arith, behind, fits, higher, low))
        ]
  ]

  -- and not in the boot area
  pub behind-boot_area : (offset slot : ℕ) → StandsIn s offset slot → boot_area_slots s.boot_radix ≤ slot
  behind-boot_area offset slot stands =
      let first = (object-inside offset stands.kind stands.is).0 in
      let low = stands.low in
      omega (arith, first, low)

  -- and inside memory
  pub stands-near : (offset slot : ℕ) → StandsIn s offset slot → slot < 2 ^ s.memory_bits / 16
  stands-near offset slot stands =
      let last = (object-inside offset stands.kind stands.is).1 in
      let fit = slots-fit stands.kind in
      let high = stands.high in
      omega (arith, last, fit, high)

boot-near : (radix bits slot : ℕ) → radix + 5 ≤ bits → 16 ≤ bits → slot < 2 ^ radix + 64 → slot < 2 ^ bits / 16
boot-near radix bits slot room least less =
    let split : 2 ^ (radix + 5) ≡ 2 ^ radix * 2 ^ 5 = pow-add 2 radix 5 in
    let wide : 2 ^ (radix + 5) ≤ 2 ^ bits = pow_mono room in
    let large : 2 ^ 16 ≤ 2 ^ bits = pow_mono least in
    omega (arith, split, wide, large, less)

pub slot-near : (s : State) → HasShape s → MemoryIsSound s → (slot : ℕ) → HasSlot s slot → slot < 2 ^ s.memory_bits / 16
slot-near s shape memory slot (of_boot_area less) =
    boot-near s.boot_radix s.memory_bits slot shape.room shape.least_bits less
slot-near s shape memory slot (of_object offset is) = stands-near s memory offset slot (slot-stands s offset slot is)

-- ---- slots of CNodes

-- a slot that a call can name: of the boot CNode or of another
pub data IsPlain (s : State) (slot : ℕ) : Type 0 where
  of_boot_cnode : slot < 2 ^ s.boot_radix → IsPlain s slot
  of_cnode : (offset radix : ℕ) → kind_at s offset ≡ Some (NewCNode radix) → offset / 16 ≤ slot → slot < offset / 16 + 2 ^ radix → IsPlain s slot

pub plain-open : (s : State) → SlotsAreSound s → (slot : ℕ) → IsPlain s slot → IsOpen s.slots slot
plain-open s slots slot (of_boot_cnode less) = (slots.there slot).1 (of_boot_area (omega (arith, less)))
plain-open s slots slot (of_cnode offset radix is low high) =
    (slots.there slot).1 (of_object offset (stands-slot s offset slot (record { kind = NewCNode radix; is = is; low = low; high = high })))

-- What a slot may hold, if it is one of a thread or of a line.
pub record MayHold (s : State) (slot : ℕ) (capability : Cap) : Type 0 where
  pub cspace : (thread : ℕ) (t : ThreadState) → s.objects thread ≡ Some (ThreadObject t) → slot ≡ cspace_slot thread → IsSome (cnode_of capability)
  pub vspace : (thread : ℕ) (t : ThreadState) → s.objects thread ≡ Some (ThreadObject t) → slot ≡ vspace_slot thread → IsSome (root_of capability)
  pub buffer : (thread : ℕ) (t : ThreadState) → s.objects thread ≡ Some (ThreadObject t) → slot ≡ buffer_slot thread → IsSome (frame_of capability)
  pub line : (number : ℕ) → number < 64 → slot ≡ binding_slot s number → IsSome (signal_of capability)

pub thread-slot : (s : State) (thread slot index : ℕ) (t : ThreadState) → s.objects thread ≡ Some (ThreadObject t) → index < 3
    → slot ≡ thread / 16 + index → StandsIn s thread slot
thread-slot s thread slot index t is less at =
    record { kind = NewThread; is = ap (option_map kind_of) is; low = omega (arith, at); high = omega (arith, at, less) }

plain-no_thread : (s : State) → MemoryIsSound s → (slot thread : ℕ) → IsPlain s slot → (stands : StandsIn s thread slot)
    → StandsIn.kind stands ≡ NewThread → ⊥
plain-no_thread s memory slot thread (of_boot_cnode less) stands is = let behind = behind-boot_area s memory thread slot stands in omega (arith, behind, less)
plain-no_thread s memory slot thread (of_cnode offset radix cnode low high) stands is =
    let e : thread ≡ offset = one-object s memory thread offset slot stands (record { kind = NewCNode radix; is = cnode; low = low; high = high }) in
    let clash : Some NewThread ≡ Some (NewCNode radix) = ap (λ (k : NewObject). Some k) (sym is) ∙ sym stands.is ∙ ap (kind_at s) e ∙ cnode in
    cc

pub plain-no_line : (s : State) → MemoryIsSound s → (slot number : ℕ) → number < 64 → IsPlain s slot → slot ≡ binding_slot s number → ⊥
plain-no_line s memory slot number less (of_boot_cnode low) is = omega (arith, low, is)
plain-no_line s memory slot number less (of_cnode offset radix cnode low high) is =
    let behind = behind-boot_area s memory offset slot (record { kind = NewCNode radix; is = cnode; low = low; high = high }) in omega (arith, behind, less, is)

-- a slot of a CNode is none of a thread or of a line
pub plain-may_hold : (s : State) → MemoryIsSound s → (slot : ℕ) (capability : Cap) → IsPlain s slot → MayHold s slot capability
unfolding thread-slot
plain-may_hold s memory slot capability plain = record {
  cspace = λ thread t is at. absurd (plain-no_thread s memory slot thread plain (thread-slot s thread slot 0 t is (omega arith) at) refl);
  vspace = λ thread t is at. absurd (plain-no_thread s memory slot thread plain (thread-slot s thread slot 1 t is (omega arith) at) refl);
  buffer = λ thread t is at. absurd (plain-no_thread s memory slot thread plain (thread-slot s thread slot 2 t is (omega arith) at) refl);
  line = λ number less at. absurd (plain-no_line s memory slot number less plain at);
}

-- what a full slot holds it may hold
pub full-may_hold : (s : State) → SlotsAreSound s → (slot : ℕ) → IsFull s.slots slot → MayHold s slot (capability_at s.slots slot)
full-may_hold s slots slot full = record {
  cspace = λ thread t is at. subst (λ (x : ℕ). IsSome (cnode_of (capability_at s.slots x))) (sym at)
      (slots.cspace thread t is (subst (IsFull s.slots) at full));
  vspace = λ thread t is at. subst (λ (x : ℕ). IsSome (root_of (capability_at s.slots x))) (sym at) (slots.vspace thread t is (subst (IsFull s.slots) at full));
  buffer = λ thread t is at. subst (λ (x : ℕ). IsSome (frame_of (capability_at s.slots x))) (sym at)
      (slots.buffer thread t is (subst (IsFull s.slots) at full));
  line = λ number less at. subst (λ (x : ℕ). IsSome (signal_of (capability_at s.slots x))) (sym at)
      (slots.bindings number less (subst (IsFull s.slots) at full));
}

-- with other slots they are the same places
pub plain-still : (s : State) (new : Slots) (slot : ℕ) → IsPlain s slot → IsPlain (with_slots s new) slot
plain-still s new slot (of_boot_cnode less) = of_boot_cnode less
plain-still s new slot (of_cnode offset radix is low high) = of_cnode offset radix is low high

pub may-still : (s : State) (new : Slots) (slot : ℕ) (capability : Cap) → MayHold s slot capability → MayHold (with_slots s new) slot capability
may-still s new slot capability may = record { cspace = may.cspace; vspace = may.vspace; buffer = may.buffer; line = may.line }

-- ---- slots of threads and lines

pub own-slot_open : (s : State) → SlotsAreSound s → (thread slot : ℕ) → StandsIn s thread slot → IsOpen s.slots slot
own-slot_open s slots thread slot stands = (slots.there slot).1 (of_object thread (stands-slot s thread slot stands))

-- a slot is one thread's slot of one number
not-two : (s : State) (memory : MemoryIsSound s) (a b slot i j : ℕ) (t u : ThreadState) → s.objects a ≡ Some (ThreadObject t)
    → s.objects b ≡ Some (ThreadObject u) → i < 3 → j < 3 → i ≢ j → slot ≡ a / 16 + i → slot ≡ b / 16 + j → ⊥
not-two s memory a b slot i j t u one other few less differ first second =
    let same = one-object s memory a b slot (thread-slot s a slot i t one few first) (thread-slot s b slot j u other less second) in
    differ (omega (arith, ap (λ (n : ℕ). n / 16) same, first, second))

not-line : (s : State) → MemoryIsSound s → (thread slot number : ℕ) → StandsIn s thread slot → number < 64 → slot ≡ binding_slot s number → ⊥
not-line s memory thread slot number stands less is = let behind = behind-boot_area s memory thread slot stands in omega (arith, behind, less, is)

-- the first slot of a thread may hold a CNode, the second a root table, and the third a frame
pub cspace-may_hold : (s : State) → MemoryIsSound s → (thread : ℕ) (t : ThreadState) (capability : Cap)
    → s.objects thread ≡ Some (ThreadObject t) → IsSome (cnode_of capability)
    → MayHold s (cspace_slot thread) capability
cspace-may_hold s memory thread t capability is some =
    let own = cspace_slot thread in
    record {
      cspace = λ _ _ _ _. some;
      vspace = λ other u there at. absurd (not-two s memory thread other own 0 1 t u is there (omega arith) (omega arith) (λ e. omega (arith, e)) refl at);
      buffer = λ other u there at. absurd (not-two s memory thread other own 0 2 t u is there (omega arith) (omega arith) (λ e. omega (arith, e)) refl at);
      line = λ number less at. absurd (not-line s memory thread own number (thread-slot s thread own 0 t is (omega arith) refl) less at);
    }

pub vspace-may_hold : (s : State) → MemoryIsSound s → (thread : ℕ) (t : ThreadState) (capability : Cap)
    → s.objects thread ≡ Some (ThreadObject t) → IsSome (root_of capability)
    → MayHold s (vspace_slot thread) capability
vspace-may_hold s memory thread t capability is some =
    let own = vspace_slot thread in
    record {
      cspace = λ other u there at. absurd (not-two s memory thread other own 1 0 t u is there (omega arith) (omega arith) (λ e. omega (arith, e)) refl at);
      vspace = λ _ _ _ _. some;
      buffer = λ other u there at. absurd (not-two s memory thread other own 1 2 t u is there (omega arith) (omega arith) (λ e. omega (arith, e)) refl at);
      line = λ number less at. absurd (not-line s memory thread own number (thread-slot s thread own 1 t is (omega arith) refl) less at);
    }

pub buffer-may_hold : (s : State) → MemoryIsSound s → (thread : ℕ) (t : ThreadState) (capability : Cap)
    → s.objects thread ≡ Some (ThreadObject t) → IsSome (frame_of capability)
    → MayHold s (buffer_slot thread) capability
buffer-may_hold s memory thread t capability is some =
    let own = buffer_slot thread in
    record {
      cspace = λ other u there at. absurd (not-two s memory thread other own 2 0 t u is there (omega arith) (omega arith) (λ e. omega (arith, e)) refl at);
      vspace = λ other u there at. absurd (not-two s memory thread other own 2 1 t u is there (omega arith) (omega arith) (λ e. omega (arith, e)) refl at);
      buffer = λ _ _ _ _. some;
      line = λ number less at. absurd (not-line s memory thread own number (thread-slot s thread own 2 t is (omega arith) refl) less at);
    }

pub line-may_hold : (s : State) → MemoryIsSound s → (number : ℕ) (capability : Cap) → number < 64 → IsSome (signal_of capability)
    → MayHold s (binding_slot s number) capability
line-may_hold s memory number capability less some = record {
  cspace = λ thread t is at.
      absurd (not-line s memory thread (binding_slot s number) number (thread-slot s thread (binding_slot s number) 0 t is (omega arith) at) less refl);
  vspace = λ thread t is at.
      absurd (not-line s memory thread (binding_slot s number) number (thread-slot s thread (binding_slot s number) 1 t is (omega arith) at) less refl);
  buffer = λ thread t is at.
      absurd (not-line s memory thread (binding_slot s number) number (thread-slot s thread (binding_slot s number) 2 t is (omega arith) at) less refl);
  line = λ _ _ _. some;
}

pub line-open : (s : State) → SlotsAreSound s → (number : ℕ) → number < 64 → IsOpen s.slots (binding_slot s number)
line-open s slots number less = (slots.there (binding_slot s number)).1 (of_boot_area (omega (arith, less)))
