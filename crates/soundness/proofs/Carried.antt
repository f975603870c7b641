-- A change of the slots after which each holds what a slot held before, or a copy of it, keeps soundness.
use Rattle.std.proofs.Common.{ℕ, ◌≡◌, ◌≢◌, ◌∙◌, ◌/◌, ◌^◌, ◌<◌, inl, inr, Bool, true, false, not, is_some, List, [], ◌∷◌, Option, Some, None, refl, sym, ap}
use Rattle.std.proofs.Common.{arith}
use Rattle.std.specs.List.{list_any}
use Rattle.std.specs.Option.{option_map_or}
use Rattle.std.proofs.lemmas.Bool.{or_cases}
use Rattle.std.proofs.lemmas.Bool.Decides.{eqb_tells}
use Rattle.std.proofs.lemmas.List.Folds.{list_any_at}
use Rattle.std.proofs.lemmas.List.FromFn.{get_or-range_with_len, length-range_with_len}
use Rattle.model.proofs.Ancestors.{full-open}
use Rattle.model.proofs.SlotChanges.{full-capability}
use Rattle.model.specs.declared.capabilities.Cap.{Cap}
use Rattle.model.specs.declared.capabilities.Cap.TheVariants.{Empty, Untyped, Endpoint, Notification, CNode, Frame, PageTable, Tcb, RootTable, InterruptControl}
use Rattle.model.specs.declared.capabilities.Cap.TheVariants.{InterruptHandler}
use Rattle.model.specs.declared.capabilities.FrameMapping.{FrameMapping}
use Rattle.model.specs.declared.capabilities.TableMapping.{TableMapping}
use Rattle.model.specs.Capabilities.CapabilityKinds.{frame_mapping, table_mapping}
use Rattle.model.specs.Capabilities.Slots.{Descendant, IsDerivation, IsFull, IsOpen, Slots, capability_at}
use Rattle.model.specs.Kernel.AddressSpaces.{is_page, is_region, is_region_taken, maps_region, region_pages}
use Rattle.model.specs.Kernel.Kinds.{Piece, object_named, piece_of, used_of}
use Rattle.model.specs.Kernel.Soundness.{HasShape, HasSlot, of_boot_area, of_object, IsSound, MappingsAreSound, MemoryIsSound, SlotsAreSound, ThreadsAreSound}
use Rattle.model.specs.Kernel.Soundness.{Lies, apart, same, within, around}
use Rattle.model.specs.Kernel.State.{State, holds_some, slot_numbers, slots_of, with_slots}
use Rattle.soundness.proofs.Pieces.{piece-named}
use Rattle.soundness.proofs.Places.{MayHold, slot-near}

-- ---- slots

pub has-slot : (s : State) (new : Slots) (slot : ℕ) → HasSlot s slot → HasSlot (with_slots s new) slot
has-slot s new slot (of_boot_area less) = of_boot_area less
has-slot s new slot (of_object offset is) = of_object offset is

pub had-slot : (s : State) (new : Slots) (slot : ℕ) → HasSlot (with_slots s new) slot → HasSlot s slot
had-slot s new slot (of_boot_area less) = of_boot_area less
had-slot s new slot (of_object offset is) = of_object offset is

-- the same slots are open, and each may hold what it holds
pub slots-carried : (s : State) (new : Slots) → SlotsAreSound s → IsDerivation new → ((slot : ℕ) → is_some (new slot) ≡ is_some (s.slots slot))
    → ((slot : ℕ) → IsFull new slot → MayHold s slot (capability_at new slot)) → SlotsAreSound (with_slots s new)
slots-carried s new slots tree there_too may = record {
  derivation = tree;
  there = λ slot. (
    (λ is. has-slot s new slot ((slots.there slot).0 (sym (there_too slot) ∙ is))),
    (λ has. there_too slot ∙ (slots.there slot).1 (had-slot s new slot has)),
  );
  cspace = λ thread t is full. (may _ full).cspace thread t is refl;
  vspace = λ thread t is full. (may _ full).vspace thread t is refl;
  buffer = λ thread t is full. (may _ full).buffer thread t is refl;
  bindings = λ number less full. (may _ full).line number less refl;
}

-- ---- memory

-- What each slot names is what its origin named. A slot that holds a copy has the origin of the copied one.
pub record Carries (old new : Slots) (origin : ℕ → ℕ) : Type 0 where
  pub object : (slot : ℕ) → object_named (capability_at new slot) ≡ object_named (capability_at old (origin slot))
  pub piece : (slot : ℕ) → piece_of (capability_at new slot) ≡ piece_of (capability_at old (origin slot))
  pub used : (slot : ℕ) → used_of (capability_at new slot) ≡ used_of (capability_at old (origin slot))
  pub descends : (root slot : ℕ) (part : Piece) → used_of (capability_at new root) ≡ Some part → Descendant old (origin root) (origin slot)
      → Descendant new root slot
  pub kept : (slot : ℕ) → IsFull old slot → (x : ℕ) × (origin x ≡ slot)
  pub twins : (a b : ℕ) → a ≢ b → origin a ≡ origin b → used_of (capability_at new a) ≡ None

lies-carried : (old new : Slots) (origin : ℕ → ℕ) (a b : ℕ) (p q : Piece) → Carries old new origin → Lies old (origin a) (origin b) p q
    → Lies new a b p q
lies-carried old new origin a b p q carries (apart is) = apart is
lies-carried old new origin a b p q carries (same kind offset one other) = same kind offset (carries.object a ∙ one) (carries.object b ∙ other)
lies-carried old new origin a b p q carries (within part is inside below) =
    within part (carries.used b ∙ is) inside (carries.descends b a part (carries.used b ∙ is) below)
lies-carried old new origin a b p q carries (around part is inside below) =
    around part (carries.used a ∙ is) inside (carries.descends a b part (carries.used a ∙ is) below)

pub full-unless : {A : Type 0} (c : Cap) (of : Cap → Option A) (x : A) → of Empty ≡ None → of c ≡ Some x
    → not (Rattle.model.specs.Capabilities.Slots.is_empty c) ≡ true
full-unless c of x none is = full-capability c (λ e. let clash : None ≡ Some x = sym none ∙ ap of (sym e) ∙ is in cc)

pub memory-carried : (s : State) (new : Slots) (origin : ℕ → ℕ) → MemoryIsSound s → Carries s.slots new origin → MemoryIsSound (with_slots s new)
memory-carried s new origin memory carries = record {
  inside = λ slot p is. memory.inside (origin slot) p (sym (carries.piece slot) ∙ is);
  lies = λ a b p q differ one other. elim (eqb_tells (origin a) (origin b)) [
    | inl twin ↦
        let named = piece-named (capability_at new a) p (carries.twins a b differ twin.1) one in
        same named.0.0 named.0.1 named.1 (carries.object b ∙ ap (λ (x : ℕ). object_named (capability_at s.slots x)) (sym twin.1) ∙ sym (carries.object a)
        ∙ named.1)
    | inr distinct ↦
        lies-carried s.slots new origin a b p q carries
        (memory.lies (origin a) (origin b) p q distinct.1 (sym (carries.piece a) ∙ one) (sym (carries.piece b) ∙ other))
  ];
  named = λ slot kind offset is. memory.named (origin slot) kind offset (sym (carries.object slot) ∙ is);
  live = λ offset kind is.
      let was = memory.live offset kind is in
      let there = carries.kept was.0 (full-unless (capability_at s.slots was.0) object_named (kind, offset) refl was.1) in
      (there.0, carries.object there.0 ∙ ap (λ (x : ℕ). object_named (capability_at s.slots x)) there.1 ∙ was.1);
  bytes = memory.bytes;
  small = memory.small;
}

-- ---- mappings

-- Mappings stay with their capabilities, or go; a copy has none.
pub record CarriesMappings (old new : Slots) (origin : ℕ → ℕ) : Type 0 where
  pub frame : (slot : ℕ) (mapping : FrameMapping) → frame_mapping (capability_at new slot) ≡ Some mapping
      → frame_mapping (capability_at old (origin slot)) ≡ Some mapping
  pub table : (slot : ℕ) → table_mapping (capability_at new slot) ≡ table_mapping (capability_at old (origin slot))
  pub page_table : (slot offset : ℕ) (mapping : Option TableMapping) → capability_at new slot ≡ PageTable offset mapping
      → capability_at old (origin slot) ≡ PageTable offset mapping
  pub one_frame : (a b : ℕ) (m n : FrameMapping) → origin a ≡ origin b → frame_mapping (capability_at new a) ≡ Some m
      → frame_mapping (capability_at new b) ≡ Some n → a ≡ b
  pub one_table : (a b offset : ℕ) (mapping : Option TableMapping) → origin a ≡ origin b → capability_at new a ≡ PageTable offset mapping → a ≡ b

pub some-passes : {A : Type 0} (o : Option A) (test : A → Bool) → option_map_or test o false ≡ true → (x : A) × (o ≡ Some x) × (test x ≡ true)
some-passes None test is = let e : false ≡ true = is in absurd cc
some-passes (Some x) test is = (x, refl, is)

pub table-of : (c : Cap) (mapping : TableMapping) → table_mapping c ≡ Some mapping → (offset : ℕ) × (c ≡ PageTable offset (Some mapping))
table-of (PageTable offset m) mapping is = (offset, ap (PageTable offset) is)
table-of Empty mapping is = let e : None ≡ Some mapping = is in absurd cc
table-of (Untyped a b c) mapping is = let e : None ≡ Some mapping = is in absurd cc
table-of (Endpoint a b c) mapping is = let e : None ≡ Some mapping = is in absurd cc
table-of (Notification a b c) mapping is = let e : None ≡ Some mapping = is in absurd cc
table-of (CNode a b c) mapping is = let e : None ≡ Some mapping = is in absurd cc
table-of (Frame a b c) mapping is = let e : None ≡ Some mapping = is in absurd cc
table-of (Tcb a) mapping is = let e : None ≡ Some mapping = is in absurd cc
table-of (RootTable a) mapping is = let e : None ≡ Some mapping = is in absurd cc
table-of InterruptControl mapping is = let e : None ≡ Some mapping = is in absurd cc
table-of (InterruptHandler a) mapping is = let e : None ≡ Some mapping = is in absurd cc

any-one : (test : ℕ → Bool) (l : List ℕ) → list_any test l ≡ true → (n : ℕ) × (test n ≡ true)
any-one test [] is = let e : false ≡ true = is in absurd cc
any-one test (n ∷ l) is = elim (or_cases (test n) (list_any test l) is) [ inl here ↦ (n, here) | inr later ↦ any-one test l later ]

-- what some slot holds
pub held-by : (s : State) (test : Cap → Bool) → holds_some s test ≡ true → (slot : ℕ) × (test (capability_at s.slots slot) ≡ true)
held-by s test is = any-one (λ slot. test (capability_at s.slots slot)) (slots_of s) is

pub held-at : (s : State) (test : Cap → Bool) (slot : ℕ) → slot < 2 ^ s.memory_bits / 16 → test (capability_at s.slots slot) ≡ true
    → holds_some s test ≡ true
unfolding slot_numbers
held-at s test slot less is =
    let at = get_or-range_with_len 0 (2 ^ s.memory_bits / 16) slot 0 less in
    let size = length-range_with_len 0 (2 ^ s.memory_bits / 16) in
    let place = λ (x : ℕ). test (capability_at s.slots x) in
    list_any_at place _ slot 0 (omega (arith, size, less)) (ap place (at ∙ omega arith) ∙ is)

-- a full slot lies inside memory
pub full-near : (s : State) → HasShape s → SlotsAreSound s → MemoryIsSound s → (slot : ℕ) → IsFull s.slots slot → slot < 2 ^ s.memory_bits / 16
full-near s shape slots memory slot full = slot-near s shape memory slot ((slots.there slot).0 (full-open s.slots slot full))

-- a region that was taken still is
pub taken-carried : (s : State) (new : Slots) (origin : ℕ → ℕ) (root region : ℕ) → ((slot : ℕ) → IsFull new slot → slot < 2 ^ s.memory_bits / 16)
    → ((slot : ℕ) → IsFull s.slots slot → (x : ℕ) × (origin x ≡ slot)) →
    ((slot : ℕ) → table_mapping (capability_at new slot) ≡ table_mapping (capability_at s.slots (origin slot)))
    → is_region_taken s root region ≡ true → is_region_taken (with_slots s new) root region ≡ true
taken-carried s new origin root region near kept table is =
    let was = held-by s (maps_region root region) is in
    let mapping = some-passes (table_mapping (capability_at s.slots was.0)) (is_region root region) was.1 in
    let there = kept was.0 (full-unless (capability_at s.slots was.0) table_mapping mapping.0 refl mapping.1) in
    let e : table_mapping (capability_at new there.0) ≡ Some mapping.0 = table there.0 ∙ ap (λ (x : ℕ). table_mapping (capability_at s.slots x)) there.1
    ∙ mapping.1 in
    held-at (with_slots s new) (maps_region root region) there.0
    (near there.0 (full-unless (capability_at new there.0) table_mapping mapping.0 refl e))
    (ap (λ (o : Option TableMapping). option_map_or (is_region root region) o false) e ∙ mapping.2)

pub mappings-carried : (s : State) (new : Slots) (origin : ℕ → ℕ) → MappingsAreSound s → ((slot : ℕ) → IsFull new slot → slot < 2 ^ s.memory_bits / 16)
    → ((slot : ℕ) → IsFull s.slots slot → (x : ℕ) × (origin x ≡ slot)) → CarriesMappings s.slots new origin → MappingsAreSound (with_slots s new)
mappings-carried s new origin mappings near kept maps =
    let taken = λ (root region : ℕ). taken-carried s new origin root region near kept maps.table in
    record {
      frame_root = λ slot mapping is. mappings.frame_root (origin slot) mapping (maps.frame slot mapping is);
      frame_table = λ slot mapping is. taken mapping.root (mapping.page / region_pages)
          (mappings.frame_table (origin slot) mapping (maps.frame slot mapping is));
      table_root = λ slot mapping is. mappings.table_root (origin slot) mapping (sym (maps.table slot) ∙ is);
      one_page = λ a b root page one other.
          let m = some-passes (frame_mapping (capability_at new a)) (is_page root page) one in
          let n = some-passes (frame_mapping (capability_at new b)) (is_page root page) other in
          maps.one_frame a b m.0 n.0
          (mappings.one_page (origin a) (origin b) root page
          (ap (λ (o : Option FrameMapping). option_map_or (is_page root page) o false) (maps.frame a m.0 m.1) ∙ m.2)
          (ap (λ (o : Option FrameMapping). option_map_or (is_page root page) o false) (maps.frame b n.0 n.1) ∙ n.2))
          m.1 n.1;
      one_region = λ a b root region one other.
          let m = some-passes (table_mapping (capability_at new a)) (is_region root region) one in
          let c = table-of (capability_at new a) m.0 m.1 in
          maps.one_table a b c.0 (Some m.0)
          (mappings.one_region (origin a) (origin b) root region
          (ap (λ (o : Option TableMapping). option_map_or (is_region root region) o false) (sym (maps.table a)) ∙ one)
          (ap (λ (o : Option TableMapping). option_map_or (is_region root region) o false) (sym (maps.table b)) ∙ other))
          c.1;
      one_table = λ a b offset m n one other.
          maps.one_table a b offset m (mappings.one_table (origin a) (origin b) offset m n (maps.page_table a offset m one) (maps.page_table b offset n other))
          one;
    }

-- ---- the whole

pub shape-carried : (s : State) (new : Slots) → HasShape s → HasShape (with_slots s new)
shape-carried s new shape = record {
  least_bits = shape.least_bits;
  most_bits = shape.most_bits;
  least_radix = shape.least_radix;
  most_radix = shape.most_radix;
  room = shape.room;
}

pub threads-carried : (s : State) (new : Slots) → ThreadsAreSound s → ThreadsAreSound (with_slots s new)
threads-carried s new threads = record {
  threads = threads.threads;
  ready = threads.ready;
  queued = threads.queued;
  one_sided = threads.one_sided;
  senders = threads.senders;
  words = threads.words;
  idle = threads.idle;
  callers = threads.callers;
  one_right = threads.one_right;
}

pub sound-carried : (s : State) (new : Slots) (origin : ℕ → ℕ) → IsSound s → IsDerivation new → ((slot : ℕ) → is_some (new slot) ≡ is_some (s.slots slot))
    → ((slot : ℕ) → IsFull new slot → MayHold s slot (capability_at new slot)) → Carries s.slots new origin → CarriesMappings s.slots new origin
    → IsSound (with_slots s new)
sound-carried s new origin sound tree there_too may carries maps =
    let slots = slots-carried s new sound.slots tree there_too may in
    let memory = memory-carried s new origin sound.memory carries in
    let shape = shape-carried s new sound.shape in
    record {
      shape = shape;
      slots = slots;
      memory = memory;
      mappings = mappings-carried s new origin sound.mappings (λ slot full. full-near (with_slots s new) shape slots memory slot full) carries.kept maps;
      threads = threads-carried s new sound.threads;
    }
