-- What a removal leaves of memory and mappings: what lies inside untyped memory still descends from it, and what maps a page or a region did.
use Rattle.std.proofs.Common.{ℕ, ◌≡◌, ◌∙◌, ◌==◌, ◌-◌, ◌/◌, ◌%◌, ◌&&◌, ◌||◌, Bool, true, false, not, is_some, if◌then◌else◌, Option, Some, None, refl, sym, ap}
use Rattle.std.proofs.Common.{subst}
use Rattle.std.specs.Option.{option_map_or}
use Rattle.std.specs.List.{list_any}
use Rattle.std.proofs.Math.Bool.{and-false}
use Rattle.std.proofs.lemmas.Bool.{eqb-true}
use Rattle.model.specs.declared.capabilities.Cap.{Cap}
use Rattle.model.specs.declared.capabilities.Cap.TheVariants.{Empty, Untyped, Endpoint, Notification, CNode, Frame, PageTable, Tcb, RootTable, InterruptControl}
use Rattle.model.specs.declared.capabilities.Cap.TheVariants.{InterruptHandler}
use Rattle.model.specs.declared.capabilities.FrameMapping.{FrameMapping}
use Rattle.model.specs.declared.capabilities.TableMapping.{TableMapping}
use Rattle.model.specs.Capabilities.CapabilityKinds.{frame_mapping, names_object, table_mapping}
use Rattle.model.specs.Capabilities.Slots.{Descendant, capability_at, parent_at}
use Rattle.model.specs.Kernel.AddressSpaces.{is_page, is_region, is_region_taken, maps_region, page_size, region_pages}
use Rattle.model.specs.Kernel.Kinds.{Names, Piece, frame_around, kind_at, object_named, piece_of, used_of}
use Rattle.model.specs.Kernel.Removal.{SlotSet, bytes_kept, ends, ends_root, frame_loses, is_root_at, is_some_slot, kept, loses_last_child, new_parent}
use Rattle.model.specs.Kernel.Removal.{some_inside, some_outside, table_loses}
use Rattle.model.specs.Kernel.Retype.{NewObject, NewFrame, NewRootTable}
use Rattle.model.specs.Kernel.Soundness.{Lies, apart, same, within, around, MappingsAreSound, MemoryIsSound}
use Rattle.model.specs.Kernel.State.{State, slots_of}
use Rattle.removal_laws.proofs.Laws.{bool-iff, both, found-at, found-same, found-where, join, kind-names, named_as, object-kind, root-kind, slot-some}
use Rattle.soundness.proofs.Carried.{full-unless, held-at, held-by, some-passes, table-of}
use Rattle.soundness.proofs.Jumps.{some-child}
use Rattle.soundness.proofs.LeftSlots.{Removes, capability-left, child-stays, descends-left, full-was, held, kind-gone, kind-stays, kind-was, left, near}
use Rattle.soundness.proofs.LeftSlots.{parent-left, slots-left, stays-if}

-- ---- single capabilities

used-kept : (s : State) (set : SlotSet) (y : ℕ) (c : Cap) → loses_last_child s set y ≡ false → used_of (kept s set y c) ≡ used_of c
used-kept s set y (Untyped o b w) stays = ap (λ l. used_of (Untyped o b (if l then 0 else w))) stays
used-kept s set y (Frame f rights (Some m)) stays = elim (frame_loses s set m) as (λ l. used_of (if l then Frame f rights None else Frame f rights
    (Some m)) ≡ None) [ true ↦ refl | false ↦ refl ]
used-kept s set y (PageTable t (Some m)) stays = elim (table_loses s set m) as (λ l. used_of (if l then PageTable t None else PageTable t
    (Some m)) ≡ None) [ true ↦ refl | false ↦ refl ]
used-kept s set y (Frame f rights None) stays = refl
used-kept s set y (PageTable t None) stays = refl
used-kept s set y Empty stays = refl
used-kept s set y (Endpoint o rights b) stays = refl
used-kept s set y (Notification o rights b) stays = refl
used-kept s set y (CNode o radix g) stays = refl
used-kept s set y (Tcb o) stays = refl
used-kept s set y (RootTable o) stays = refl
used-kept s set y InterruptControl stays = refl
used-kept s set y (InterruptHandler line) stays = refl

-- a mapping that stays was there, and is not lost
frame-kept : (s : State) (set : SlotSet) (y : ℕ) (c : Cap) (m : FrameMapping) → frame_mapping (kept s set y c) ≡ Some m
    → (frame_mapping c ≡ Some m) × (frame_loses s set m ≡ false)
frame-kept s set y (Frame f rights (Some n)) m is = elim (frame_loses s set n) as (λ l. frame_loses s set n ≡ l
    → frame_mapping (if l then Frame f rights None else Frame f rights (Some n)) ≡ Some m → (Some n ≡ Some m) × (frame_loses s set m ≡ false)) [
      | true ↦ λ _ so. let clash : None ≡ Some m = so in absurd cc
      | false ↦ λ stays so. (so, let e : n ≡ m = cc so in ap (frame_loses s set) (sym e) ∙ stays)
    ] refl is
frame-kept s set y (PageTable t (Some n)) m is = elim (table_loses s set n)
    as (λ l. frame_mapping (if l then PageTable t None else PageTable t (Some n)) ≡ Some m
    → (None ≡ Some m) × (frame_loses s set m ≡ false)) [
      | true ↦ λ so. let clash : None ≡ Some m = so in absurd cc
      | false ↦ λ so. let clash : None ≡ Some m = so in absurd cc
    ] is
frame-kept s set y (Frame f rights None) m is = let clash : None ≡ Some m = is in absurd cc
frame-kept s set y (PageTable t None) m is = let clash : None ≡ Some m = is in absurd cc
frame-kept s set y Empty m is = let clash : None ≡ Some m = is in absurd cc
frame-kept s set y (Untyped o b w) m is = let clash : None ≡ Some m = is in absurd cc
frame-kept s set y (Endpoint o rights b) m is = let clash : None ≡ Some m = is in absurd cc
frame-kept s set y (Notification o rights b) m is = let clash : None ≡ Some m = is in absurd cc
frame-kept s set y (CNode o radix g) m is = let clash : None ≡ Some m = is in absurd cc
frame-kept s set y (Tcb o) m is = let clash : None ≡ Some m = is in absurd cc
frame-kept s set y (RootTable o) m is = let clash : None ≡ Some m = is in absurd cc
frame-kept s set y InterruptControl m is = let clash : None ≡ Some m = is in absurd cc
frame-kept s set y (InterruptHandler line) m is = let clash : None ≡ Some m = is in absurd cc

table-kept : (s : State) (set : SlotSet) (y : ℕ) (c : Cap) (m : TableMapping) → table_mapping (kept s set y c) ≡ Some m
    → (table_mapping c ≡ Some m) × (table_loses s set m ≡ false)
table-kept s set y (PageTable t (Some n)) m is = elim (table_loses s set n) as (λ l. table_loses s set n ≡ l
    → table_mapping (if l then PageTable t None else PageTable t (Some n)) ≡ Some m → (Some n ≡ Some m) × (table_loses s set m ≡ false)) [
      | true ↦ λ _ so. let clash : None ≡ Some m = so in absurd cc
      | false ↦ λ stays so. (so, let e : n ≡ m = cc so in ap (table_loses s set) (sym e) ∙ stays)
    ] refl is
table-kept s set y (Frame f rights (Some n)) m is = elim (frame_loses s set n)
    as (λ l. table_mapping (if l then Frame f rights None else Frame f rights (Some n)) ≡ Some m
    → (None ≡ Some m) × (table_loses s set m ≡ false)) [
      | true ↦ λ so. let clash : None ≡ Some m = so in absurd cc
      | false ↦ λ so. let clash : None ≡ Some m = so in absurd cc
    ] is
table-kept s set y (Frame f rights None) m is = let clash : None ≡ Some m = is in absurd cc
table-kept s set y (PageTable t None) m is = let clash : None ≡ Some m = is in absurd cc
table-kept s set y Empty m is = let clash : None ≡ Some m = is in absurd cc
table-kept s set y (Untyped o b w) m is = let clash : None ≡ Some m = is in absurd cc
table-kept s set y (Endpoint o rights b) m is = let clash : None ≡ Some m = is in absurd cc
table-kept s set y (Notification o rights b) m is = let clash : None ≡ Some m = is in absurd cc
table-kept s set y (CNode o radix g) m is = let clash : None ≡ Some m = is in absurd cc
table-kept s set y (Tcb o) m is = let clash : None ≡ Some m = is in absurd cc
table-kept s set y (RootTable o) m is = let clash : None ≡ Some m = is in absurd cc
table-kept s set y InterruptControl m is = let clash : None ≡ Some m = is in absurd cc
table-kept s set y (InterruptHandler line) m is = let clash : None ≡ Some m = is in absurd cc

table-stays : (s : State) (set : SlotSet) (y : ℕ) (c : Cap) (m : TableMapping) → table_mapping c ≡ Some m → table_loses s set m ≡ false
    → table_mapping (kept s set y c) ≡ Some m
table-stays s set y c m is stays =
    let page_table = table-of c m is in
    ap (λ (d : Cap). table_mapping (kept s set y d)) page_table.1
    ∙ ap (λ l. table_mapping (if l then PageTable page_table.0 None else PageTable page_table.0 (Some m))) stays

-- what is a page table was that
page_table-was : (s : State) (set : SlotSet) (y : ℕ) (c : Cap) (offset : ℕ) (m : Option TableMapping) → kept s set y c ≡ PageTable offset m
    → (n : Option TableMapping) × (c ≡ PageTable offset n)
page_table-was s set y (PageTable t (Some n)) offset m is = (
  Some n,
  elim (table_loses s set n) as (λ l. (if l then PageTable t None else PageTable t (Some n)) ≡ PageTable offset m →
      PageTable t (Some n) ≡ PageTable offset (Some n)) [
        | true ↦ λ so. let e : t ≡ offset = cc so in ap (λ (o : ℕ). PageTable o (Some n)) e
        | false ↦ λ so. let e : t ≡ offset = cc so in ap (λ (o : ℕ). PageTable o (Some n)) e
      ] is,
)
page_table-was s set y (PageTable t None) offset m is = (None, let e : t ≡ offset = cc is in ap (λ (o : ℕ). PageTable o None) e)
page_table-was s set y (Frame f rights (Some n)) offset m is = absurd (elim (frame_loses s set n) as (λ l. (if l then Frame f rights None else Frame f rights
    (Some n)) ≡ PageTable offset m → ⊥) [
      | true ↦ λ so. let clash : Frame f rights None ≡ PageTable offset m = so in cc
      | false ↦ λ so. let clash : Frame f rights (Some n) ≡ PageTable offset m = so in cc
    ] is)
page_table-was s set y (Frame f rights None) offset m is = let clash : Frame f rights None ≡ PageTable offset m = is in absurd cc
page_table-was s set y Empty offset m is = let clash : Empty ≡ PageTable offset m = is in absurd cc
page_table-was s set y (Untyped o b w) offset m is = let clash : Untyped o b _ ≡ PageTable offset m = is in absurd cc
page_table-was s set y (Endpoint o rights b) offset m is = let clash : Endpoint o rights b ≡ PageTable offset m = is in absurd cc
page_table-was s set y (Notification o rights b) offset m is = let clash : Notification o rights b ≡ PageTable offset m = is in absurd cc
page_table-was s set y (CNode o radix g) offset m is = let clash : CNode o radix g ≡ PageTable offset m = is in absurd cc
page_table-was s set y (Tcb o) offset m is = let clash : Tcb o ≡ PageTable offset m = is in absurd cc
page_table-was s set y (RootTable o) offset m is = let clash : RootTable o ≡ PageTable offset m = is in absurd cc
page_table-was s set y InterruptControl offset m is = let clash : InterruptControl ≡ PageTable offset m = is in absurd cc
page_table-was s set y (InterruptHandler line) offset m is = let clash : InterruptHandler line ≡ PageTable offset m = is in absurd cc

module _ (s : State) (set : SlotSet) (r : Removes s set) where
  -- ---- memory

  object-held : (y : ℕ) → set y ≡ false → object_named (capability_at (left s set).slots y) ≡ object_named (capability_at s.slots y)
  object-held y stays = held s set r object_named (λ o b v w. refl) (λ f q m n. refl) (λ t m n. refl) y stays

  piece-held : (y : ℕ) → set y ≡ false → piece_of (capability_at (left s set).slots y) ≡ piece_of (capability_at s.slots y)
  piece-held y stays = held s set r piece_of (λ o b v w. refl) (λ f q m n. refl) (λ t m n. refl) y stays

  piece-was : (y : ℕ) (p : Piece) → piece_of (capability_at (left s set).slots y) ≡ Some p → (set y ≡ false) × (piece_of (capability_at s.slots y) ≡ Some p)
  piece-was y p is = let stays = stays-if s set r piece_of p y refl is in (stays, sym (piece-held y stays) ∙ is)

  -- untyped memory from which something descends keeps its watermark
  keeps-child : (root y : ℕ) → Descendant (left s set).slots root y → set root ≡ false → loses_last_child s set root ≡ false
  keeps-child root y below stays =
      let child = some-child (left s set).slots root y below in
      let child_stays = child-stays s set r child.0 root child.1 in
      let parent : new_parent s set child.0 ≡ Some root = sym (parent-left s set r child.0 child_stays) ∙ child.1 in
      let place = near s set r child.0 (full-was s set r child.0 ((slots-left s set r).derivation.child_full child.0 root child.1)) in
      let some = found-at s.memory_bits child.0 (λ c. not (set c) && is_some_slot root (new_parent s set c)) place
      (join (not (set child.0)) _ (ap not child_stays)
      (slot-some root (new_parent s set child.0) parent)) in
      let had = list_any (λ c. set c && is_some_slot root (parent_at s.slots c)) (slots_of s) in
      ap (λ b. had && not b) some ∙ and-false had

  used-held : (root y : ℕ) (part : Piece) → set root ≡ false → set y ≡ false → Descendant s.slots root y → used_of (capability_at s.slots root) ≡ Some part
      → used_of (capability_at (left s set).slots root) ≡ Some part
  used-held root y part root_stays stays below is =
      ap used_of (capability-left s set r root root_stays)
      ∙ used-kept s set root (capability_at s.slots root) (keeps-child root y (descends-left s set r root y root_stays stays below) root_stays)
      ∙ is

  lies-left : (a b : ℕ) (p q : Piece) → set a ≡ false → set b ≡ false → Lies s.slots a b p q → Lies (left s set).slots a b p q
  lies-left a b p q one two (apart is) = apart is
  lies-left a b p q one two (same kind offset first second) = same kind offset (object-held a one ∙ first) (object-held b two ∙ second)
  lies-left a b p q one two (within part is inside below) = within part (used-held b a part two one below is) inside (descends-left s set r b a two one below)
  lies-left a b p q one two (around part is inside below) = around part (used-held a b part one two below is) inside (descends-left s set r a b one two below)

  -- what is named from outside the set does not end
  not-ending : (y : ℕ) (kind : NewObject) (offset : ℕ) → set y ≡ false → Names kind offset (capability_at s.slots y) → ends s set offset ≡ false
  not-ending y kind offset stays named =
      let place = near s set r y (full-unless (capability_at s.slots y) object_named (kind, offset) refl named) in
      let beside : some_outside s set (names_object offset) ≡ true =
      found-at s.memory_bits y (λ x. not (set x) && names_object offset (capability_at s.slots x)) place (join (not (set y)) _ (ap not stays) (kind-names
      (capability_at s.slots y) kind offset named))
      in
      ap (λ b. some_inside s set (names_object offset) && not b) beside ∙ and-false (some_inside s set (names_object offset))

  -- an object that does not end is named from outside
  record NamedOutside (kind : NewObject) (offset : ℕ) : Type 0 where
    slot : ℕ
    stays : set slot ≡ false
    names : Names kind offset (capability_at s.slots slot)

  named-beside : (kind : NewObject) (offset : ℕ) → kind_at s offset ≡ Some kind → some_outside s set (names_object offset) ≡ true → NamedOutside kind offset
  named-beside kind offset is beside =
      let place = found-where s.memory_bits (λ x. not (set x) && names_object offset (capability_at s.slots x)) beside in
      let parts = both (not (set place.0)) _ place.1 in
      let named = object-kind (capability_at s.slots place.0) offset parts.1 in
      let clash : Some named.0 ≡ Some kind = sym (r.sound.memory.named place.0 named.0 offset named.1) ∙ is in
      let e : named.0 ≡ kind = cc in
      record {
        slot = place.0;
        stays = elim (set place.0) as (λ b. not b ≡ true → b ≡ false) [ true ↦ λ no. let f : false ≡ true = no in absurd cc | false ↦ λ _. refl ] parts.0;
        names = named.1 ∙ ap (λ (k : NewObject). named_as k offset) e;
      }

  named-outside : (kind : NewObject) (offset : ℕ) → kind_at s offset ≡ Some kind → ends s set offset ≡ false → NamedOutside kind offset
  named-outside kind offset is stays =
      let live = r.sound.memory.live offset kind is in
      elim (set live.0) as (λ b. set live.0 ≡ b → NamedOutside kind offset) [
        | false ↦ λ out. record { slot = live.0; stays = out; names = live.1 }
        | true ↦ λ member.
            let place = near s set r live.0 (full-unless (capability_at s.slots live.0) object_named (kind, offset) refl live.1) in
            let some : some_inside s set (names_object offset) ≡ true =
            found-at s.memory_bits live.0 (λ x. set x && names_object offset (capability_at s.slots x)) place (join (set live.0) _ member (kind-names
            (capability_at s.slots live.0) kind offset live.1))
            in
            elim (some_outside s set (names_object offset)) as (λ b. some_outside s set (names_object offset) ≡ b → NamedOutside kind offset) [
              | true ↦ λ beside. named-beside kind offset is beside
              | false ↦ λ none.
                  let clash : false ≡ true = sym stays ∙ ap (λ b. b && not (some_outside s set (names_object offset))) some ∙ ap not none in
                  absurd cc
            ] refl
      ] refl

  bytes-by : (place : ℕ) (gone : Bool) → ends s set (frame_around place) ≡ gone → (is_some (if gone then None else s.bytes place) ≡ true
      → kind_at (left s set) (frame_around place) ≡ Some NewFrame)
      × (kind_at (left s set) (frame_around place) ≡ Some NewFrame → is_some (if gone then None else s.bytes place) ≡ true)
  bytes-by place true gone = (
    (λ is. let clash : false ≡ true = is in absurd cc),
    (λ is. let clash : None ≡ Some NewFrame = sym (kind-gone s set r (frame_around place) gone) ∙ is in absurd cc),
  )
  bytes-by place false stays = (
    (λ is. kind-stays s set r (frame_around place) stays ∙ (r.sound.memory.bytes place).0 is),
    (λ is. (r.sound.memory.bytes place).1 (sym (kind-stays s set r (frame_around place) stays) ∙ is)),
  )

  byte-was : (place byte : ℕ) → bytes_kept s set place ≡ Some byte → s.bytes place ≡ Some byte
  byte-was place byte is = elim (ends s set (place - place % page_size)) as (λ b. (if b then None else s.bytes place) ≡ Some byte → s.bytes place ≡ Some byte) [
    | true ↦ λ so. let clash : None ≡ Some byte = so in absurd cc
    | false ↦ λ so. so
  ] is

  pub memory-left : MemoryIsSound (left s set)
  memory-left = record {
    inside = λ y p is. r.sound.memory.inside y p (piece-was y p is).1;
    lies = λ a b p q differ one two.
        let first = piece-was a p one in
        let second = piece-was b q two in
        lies-left a b p q first.0 second.0 (r.sound.memory.lies a b p q differ first.1 second.1);
    named = λ y kind offset is.
        let stays = stays-if s set r object_named (kind, offset) y refl is in
        let was : Names kind offset (capability_at s.slots y) = sym (object-held y stays) ∙ is in
        kind-stays s set r offset (not-ending y kind offset stays was) ∙ r.sound.memory.named y kind offset was;
    live = λ offset kind is.
        let was = kind-was s set r offset kind is in
        let name = named-outside kind offset was.1 was.0 in
        (NamedOutside.slot name, object-held (NamedOutside.slot name) (NamedOutside.stays name) ∙ NamedOutside.names name);
    bytes = λ place. bytes-by place (ends s set (frame_around place)) refl;
    small = λ place byte is. r.sound.memory.small place byte (byte-was place byte is);
  }

  -- ---- mappings

  -- root tables alone are named where one is
  only-root : (root y : ℕ) → kind_at s root ≡ Some NewRootTable → is_root_at root (capability_at s.slots y) ≡ names_object root (capability_at s.slots y)
  only-root root y is = bool-iff (is_root_at root (capability_at s.slots y)) (names_object root (capability_at s.slots y))
      (root-names root (capability_at s.slots y))
      (λ names.
      let named = object-kind (capability_at s.slots y) root names in
      let clash : Some named.0 ≡ Some NewRootTable = sym (r.sound.memory.named y named.0 root named.1) ∙ is in
      let e : named.0 ≡ NewRootTable = cc in
      let root_is : capability_at s.slots y ≡ RootTable root = root-kind (capability_at s.slots y) root (named.1 ∙ ap (λ (k : NewObject). named_as k root) e) in
      subst (λ (c : Cap). names_object root c ≡ true → is_root_at root c ≡ true) (sym root_is) (λ n. n) names)
    where
      root-names : (root : ℕ) (c : Cap) → is_root_at root c ≡ true → names_object root c ≡ true
      root-names root (RootTable o) is = is
      root-names root Empty is = let clash : false ≡ true = is in absurd cc
      root-names root (Untyped o b w) is = let clash : false ≡ true = is in absurd cc
      root-names root (Endpoint o rights b) is = let clash : false ≡ true = is in absurd cc
      root-names root (Notification o rights b) is = let clash : false ≡ true = is in absurd cc
      root-names root (CNode o radix g) is = let clash : false ≡ true = is in absurd cc
      root-names root (Frame f rights m) is = let clash : false ≡ true = is in absurd cc
      root-names root (PageTable t m) is = let clash : false ≡ true = is in absurd cc
      root-names root (Tcb o) is = let clash : false ≡ true = is in absurd cc
      root-names root InterruptControl is = let clash : false ≡ true = is in absurd cc
      root-names root (InterruptHandler line) is = let clash : false ≡ true = is in absurd cc

  root-ends : (root : ℕ) → kind_at s root ≡ Some NewRootTable → ends_root s set root ≡ ends s set root
  root-ends root is =
      let same_at = λ (y : ℕ). only-root root y is in
      ap (λ b. b && not (some_outside s set (is_root_at root))) (found-same s.memory_bits _ _ (λ y. ap (λ b. set y && b) (same_at y)))
      ∙ ap (λ b. some_inside s set (names_object root) && not b) (found-same s.memory_bits _ _ (λ y. ap (λ b. not (set y) && b) (same_at y)))

  root-left : (root : ℕ) → kind_at s root ≡ Some NewRootTable → ends_root s set root ≡ false → kind_at (left s set) root ≡ Some NewRootTable
  root-left root is stays = kind-stays s set r root (sym (root-ends root is) ∙ stays) ∙ is

  -- a frame's mapping that is left
  record FrameWas (y : ℕ) (m : FrameMapping) : Type 0 where
    was : frame_mapping (capability_at s.slots y) ≡ Some m
    root_stays : ends_root s set m.root ≡ false
    table_stays : some_inside s set (maps_region m.root (m.page / region_pages)) ≡ false

  neither : (a b : Bool) → (a || b) ≡ false → (a ≡ false) × (b ≡ false)
  neither false b is = (refl, is)
  neither true b is = let clash : true ≡ false = is in absurd cc

  frame-was : (y : ℕ) (m : FrameMapping) → frame_mapping (capability_at (left s set).slots y) ≡ Some m → FrameWas y m
  frame-was y m is =
      let stays = stays-if s set r frame_mapping m y refl is in
      let parts = frame-kept s set y (capability_at s.slots y) m (ap frame_mapping (sym (capability-left s set r y stays)) ∙ is) in
      let lost = neither (ends_root s set m.root) _ parts.1 in
      record { was = parts.0; root_stays = lost.0; table_stays = lost.1 }

  table-was : (y : ℕ) (m : TableMapping) → table_mapping (capability_at (left s set).slots y) ≡ Some m → (table_mapping (capability_at s.slots y) ≡ Some m)
      × (ends_root s set m.root ≡ false)
  table-was y m is =
      let stays = stays-if s set r table_mapping m y refl is in
      table-kept s set y (capability_at s.slots y) m (ap table_mapping (sym (capability-left s set r y stays)) ∙ is)

  page_table-left : (y offset : ℕ) (m : Option TableMapping) → capability_at (left s set).slots y ≡ PageTable offset m → (n : Option TableMapping)
      × (capability_at s.slots y ≡ PageTable offset n)
  page_table-left y offset m is =
      let stays = stays-if s set r object_named _ y refl (ap object_named is) in
      page_table-was s set y (capability_at s.slots y) offset m (sym (capability-left s set r y stays) ∙ is)

  region-left : (root region : ℕ) → ends_root s set root ≡ false → some_inside s set (maps_region root region) ≡ false → is_region_taken s root region ≡ true
      → is_region_taken (left s set) root region ≡ true
  region-left root region root_stays table_stays taken =
      let was = held-by s (maps_region root region) taken in
      let mapping = some-passes (table_mapping (capability_at s.slots was.0)) (is_region root region) was.1 in
      let place = near s set r was.0 (full-unless (capability_at s.slots was.0) table_mapping mapping.0 refl mapping.1) in
      let stays : set was.0 ≡ false = elim (set was.0) as (λ b. set was.0 ≡ b → b ≡ false) [
        | true ↦ λ member.
            let inside = found-at s.memory_bits was.0 (λ x. set x && maps_region root region (capability_at s.slots x)) place
            (join (set was.0) _ member was.1) in
            let clash : false ≡ true = sym table_stays ∙ inside in
            absurd cc
        | false ↦ λ _. refl
      ] refl in
      let same_root : mapping.0.root ≡ root = eqb-true mapping.0.root root (both (mapping.0.root == root) _ mapping.2).0 in
      let now : table_mapping (capability_at (left s set).slots was.0) ≡ Some mapping.0 =
      ap table_mapping (capability-left s set r was.0 stays)
      ∙ table-stays s set was.0 (capability_at s.slots was.0) mapping.0 mapping.1 (ap (ends_root s set) same_root
      ∙ root_stays)
      in
      held-at (left s set) (maps_region root region) was.0 place (ap (λ (o : Option TableMapping). option_map_or (is_region root region) o false) now
      ∙ mapping.2)

  pub mappings-left : MappingsAreSound (left s set)
  mappings-left =
      let before = r.sound.mappings in
      record {
        frame_root = λ y m is. let was = frame-was y m is in root-left m.root (before.frame_root y m (FrameWas.was was)) (FrameWas.root_stays was);
        frame_table = λ y m is.
            let was = frame-was y m is in
            region-left m.root (m.page / region_pages) (FrameWas.root_stays was) (FrameWas.table_stays was) (before.frame_table y m (FrameWas.was was));
        table_root = λ y m is. let was = table-was y m is in root-left m.root (before.table_root y m was.0) was.1;
        one_page = λ a b root page one two.
            let m = some-passes (frame_mapping (capability_at (left s set).slots a)) (is_page root page) one in
            let n = some-passes (frame_mapping (capability_at (left s set).slots b)) (is_page root page) two in
            before.one_page a b root page
            (ap (λ (o : Option FrameMapping). option_map_or (is_page root page) o false) (FrameWas.was (frame-was a m.0 m.1)) ∙ m.2)
            (ap (λ (o : Option FrameMapping). option_map_or (is_page root page) o false) (FrameWas.was (frame-was b n.0 n.1)) ∙ n.2);
        one_region = λ a b root region one two.
            let m = some-passes (table_mapping (capability_at (left s set).slots a)) (is_region root region) one in
            let n = some-passes (table_mapping (capability_at (left s set).slots b)) (is_region root region) two in
            before.one_region a b root region
            (ap (λ (o : Option TableMapping). option_map_or (is_region root region) o false) (table-was a m.0 m.1).0 ∙ m.2)
            (ap (λ (o : Option TableMapping). option_map_or (is_region root region) o false) (table-was b n.0 n.1).0 ∙ n.2);
        one_table = λ a b offset m n one two.
            let first = page_table-left a offset m one in
            let second = page_table-left b offset n two in
            before.one_table a b offset first.0 second.0 first.1 second.1;
      }
