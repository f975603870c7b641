-- Another capability to the same in a slot keeps soundness.
use Rattle.std.proofs.Common.{ℕ, ◌≡◌, ◌≢◌, ◌∙◌, ◌==◌, ◌/◌, ◌^◌, ◌<◌, ◌⊎◌, inl, inr, true, false, not, is_some, Option, Some, None, refl, sym, ap, subst}
use Rattle.std.specs.Option.{option_map_or}
use Rattle.std.proofs.lemmas.Bool.{and_parts, eqb-true}
use Rattle.std.proofs.lemmas.Bool.Decides.{eqb_tells}
use Rattle.model.proofs.Ancestors.{full-open}
use Rattle.model.proofs.Derivations.{derivation-recapped}
use Rattle.model.proofs.SlotChanges.{capability_of, parent_of, entry-other, entry-same}
use Rattle.model.specs.declared.capabilities.Cap.{Cap}
use Rattle.model.specs.declared.capabilities.Cap.TheVariants.{Empty, PageTable}
use Rattle.model.specs.declared.capabilities.FrameMapping.{FrameMapping}
use Rattle.model.specs.declared.capabilities.TableMapping.{TableMapping}
use Rattle.model.specs.declared.slot_entries.Entry.{Entry}
use Rattle.model.specs.Capabilities.CapabilityKinds.{frame_mapping, table_mapping}
use Rattle.model.specs.Capabilities.CapabilityWords.{IsCapability}
use Rattle.model.specs.Capabilities.Slots.{Descendant, child, deeper, IsDerivation, IsFull, Slots, capability_at, is_empty, parent_at, recapped}
use Rattle.model.specs.Kernel.AddressSpaces.{is_page, is_page_taken, is_region, is_region_taken, maps_page, maps_region, region_pages}
use Rattle.model.specs.Kernel.Kinds.{kind_at, object_named, piece_of, used_of}
use Rattle.model.specs.Kernel.Retype.{NewRootTable}
use Rattle.model.specs.Kernel.Soundness.{IsSound, MappingsAreSound}
use Rattle.model.specs.Kernel.State.{State, with_slots}
use Rattle.soundness.proofs.Carried.{Carries, CarriesMappings, full-near, full-unless, held-at, held-by, memory-carried, shape-carried, slots-carried}
use Rattle.soundness.proofs.Carried.{some-passes, sound-carried, taken-carried, threads-carried}
use Rattle.soundness.proofs.Places.{MayHold, full-may_hold}

-- what is asked of the capability that comes into a full slot
pub record Recaps (s : State) (slot : ℕ) (capability : Cap) : Type 0 where
  pub full : IsFull s.slots slot
  pub valid : IsCapability capability
  pub object : object_named capability ≡ object_named (capability_at s.slots slot)
  pub piece : piece_of capability ≡ piece_of (capability_at s.slots slot)
  pub used : used_of capability ≡ used_of (capability_at s.slots slot)
  pub filled : is_empty capability ≡ false
  pub may : MayHold s slot capability

module _ (s : State) (slot : ℕ) (capability : Cap) (sound : IsSound s) (recaps : Recaps s slot capability) where
  abbrev old : Slots
  old = s.slots

  new : Slots
  new = recapped s.slots slot capability

  held-here : new slot ≡ Some (record { capability = capability; parent = parent_at old slot })
  unfolding new
  held-here = entry-same s.slots slot (Some (record { capability = capability; parent = parent_at old slot }))

  held-other : (x : ℕ) → x ≢ slot → new x ≡ old x
  unfolding new
  held-other x other = entry-other s.slots slot (Some (record { capability = capability; parent = parent_at old slot })) x other

  -- what follows for the slot and for the others
  either : (P : ℕ → Type 0) → P slot → ((x : ℕ) → x ≢ slot → P x) → (x : ℕ) → P x
  either P at other x = elim (eqb_tells x slot) [ inl here ↦ subst P (sym here.1) at | inr apart ↦ other x apart.1 ]

  by-slot : {A : Type 0} (of : Cap → A) → of capability ≡ of (capability_at old slot) → (x : ℕ) → of (capability_at new x) ≡ of (capability_at old x)
  by-slot of same =
      either (λ x. of (capability_at new x) ≡ of (capability_at old x))
      (ap (λ (o : Option Entry). of (capability_of o)) held-here ∙ same)
      (λ x other. ap (λ (o : Option Entry). of (capability_of o)) (held-other x other))

  parents : (x : ℕ) → parent_at new x ≡ parent_at old x
  parents = either (λ x. parent_at new x ≡ parent_at old x) (ap parent_of held-here) (λ x other. ap parent_of (held-other x other))

  descends-still : (root x : ℕ) → Descendant old root x → Descendant new root x
  descends-still root x (child _ is) = child x (parents x ∙ is)
  descends-still root x (deeper _ up is below) = deeper x up (parents x ∙ is) (descends-still root up below)

  carries : Carries old new (λ x. x)
  carries = record {
    object = by-slot object_named recaps.object;
    piece = by-slot piece_of recaps.piece;
    used = by-slot used_of recaps.used;
    descends = λ root x part is below. descends-still root x below;
    kept = λ x _. (x, refl);
    twins = λ a b differ twin. absurd (differ twin);
  }

  open-still : (x : ℕ) → is_some (new x) ≡ is_some (old x)
  open-still = either (λ x. is_some (new x) ≡ is_some (old x)) (ap is_some held-here ∙ sym (full-open s.slots slot recaps.full))
      (λ x other. ap is_some (held-other x other))

  may-still : (x : ℕ) → IsFull new x → MayHold s x (capability_at new x)
  may-still = either (λ x. IsFull new x → MayHold s x (capability_at new x))
      (λ _. subst (λ (o : Option Entry). MayHold s slot (capability_of o)) (sym held-here) recaps.may)
      (λ x other full.
      let same : capability_at new x ≡ capability_at old x = ap capability_of (held-other x other) in
      subst (λ (c : Cap). MayHold s x c) (sym same) (full-may_hold s sound.slots x (subst (λ (c : Cap). not (is_empty c) ≡ true) same full)))

  not-empty : capability ≢ Empty
  not-empty e = let clash : false ≡ true = sym recaps.filled ∙ ap is_empty e in cc

  pub recapped-derivation : IsDerivation (recapped s.slots slot capability)
  recapped-derivation = derivation-recapped s.slots slot capability sound.slots.derivation recaps.valid not-empty

  carries-mappings : table_mapping capability ≡ table_mapping (capability_at s.slots slot) →
      ((m : FrameMapping) → frame_mapping capability ≡ Some m → frame_mapping (capability_at s.slots slot) ≡ Some m)
      → ((offset : ℕ) (m : Option TableMapping) → capability ≡ PageTable offset m → capability_at s.slots slot ≡ PageTable offset m) →
      CarriesMappings old new (λ x. x)
  carries-mappings table frame page_table = record {
    frame = λ x m. either (λ x. frame_mapping (capability_at new x) ≡ Some m → frame_mapping (capability_at old x) ≡ Some m)
        (λ is. frame m (ap (λ (o : Option Entry). frame_mapping (capability_of o)) (sym held-here) ∙ is))
        (λ x other is. ap (λ (o : Option Entry). frame_mapping (capability_of o)) (sym (held-other x other)) ∙ is) x;
    table = by-slot table_mapping table;
    page_table = λ x offset m. either (λ x. capability_at new x ≡ PageTable offset m → capability_at old x ≡ PageTable offset m)
        (λ is. page_table offset m (sym (ap capability_of held-here) ∙ is)) (λ x other is. sym (ap capability_of (held-other x other)) ∙ is) x;
    one_frame = λ a b m n twin one other. twin;
    one_table = λ a b offset m twin is. twin;
  }

  -- with the same mappings
  pub recapped-sound : table_mapping capability ≡ table_mapping (capability_at s.slots slot) →
      ((m : FrameMapping) → frame_mapping capability ≡ Some m → frame_mapping (capability_at s.slots slot) ≡ Some m)
      → ((offset : ℕ) (m : Option TableMapping) → capability ≡ PageTable offset m → capability_at s.slots slot ≡ PageTable offset m)
      → IsSound (with_slots s (recapped s.slots slot capability))
  unfolding new
  recapped-sound table frame page_table = sound-carried s new (λ x. x) sound recapped-derivation open-still may-still carries
      (carries-mappings table frame page_table)

  new-derivation : IsDerivation new
  unfolding new
  new-derivation = recapped-derivation

  -- with mappings that are sound by themselves
  mapped-sound : (((x : ℕ) → IsFull new x → x < 2 ^ s.memory_bits / 16) → MappingsAreSound (with_slots s new)) → IsSound (with_slots s new)
  mapped-sound mappings =
      let slots = slots-carried s new sound.slots new-derivation open-still may-still in
      let memory = memory-carried s new (λ x. x) sound.memory carries in
      let shape = shape-carried s new sound.shape in
      record {
        shape = shape;
        slots = slots;
        memory = memory;
        mappings = mappings (λ x full. full-near (with_slots s new) shape slots memory x full);
        threads = threads-carried s new sound.threads;
      }

  old-near : (x : ℕ) → IsFull s.slots x → x < 2 ^ s.memory_bits / 16
  old-near x full = full-near s sound.shape sound.slots sound.memory x full

  -- ---- a frame that is mapped

  module _ (m : FrameMapping) (here : frame_mapping capability ≡ Some m) (table : table_mapping capability ≡ table_mapping (capability_at s.slots slot))
      (page_table : (offset : ℕ) (n : Option TableMapping) → capability ≡ PageTable offset n → capability_at s.slots slot ≡ PageTable offset n)
      (root : kind_at s m.root ≡ Some NewRootTable) (region : is_region_taken s m.root (m.page / region_pages) ≡ true)
      (free : is_page_taken s m.root m.page ≡ false) where
    frame-at : (x : ℕ) (n : FrameMapping) → frame_mapping (capability_at new x) ≡ Some n
        → ((x ≡ slot) × (n ≡ m)) ⊎ ((x ≢ slot) × (frame_mapping (capability_at old x) ≡ Some n))
    frame-at x n is = elim (eqb_tells x slot) [
      | inl at ↦
          let e : Some m ≡ Some n = sym here ∙ ap (λ (o : Option Entry). frame_mapping (capability_of o)) (sym held-here)
          ∙ ap (λ (y : ℕ). frame_mapping (capability_at new y)) (sym at.1) ∙ is in
          inl (at.1, let f : m ≡ n = cc in sym f)
      | inr other ↦ inr (other.1, ap (λ (o : Option Entry). frame_mapping (capability_of o)) (sym (held-other x other.1)) ∙ is)
    ]

    -- nobody else maps its page
    not-mapped : (x : ℕ) (n k : FrameMapping) (root page : ℕ) → n ≡ m → is_page root page n ≡ true
        → frame_mapping (capability_at old x) ≡ Some k → is_page root page k ≡ true → ⊥
    not-mapped x n k root page same is other too =
        let parts = and_parts (n.root == root) (n.page == page) is in
        let a : m.root ≡ root = ap (λ (n : FrameMapping). n.root) (sym same) ∙ eqb-true n.root root parts.0 in
        let b : m.page ≡ page = ap (λ (n : FrameMapping). n.page) (sym same) ∙ eqb-true n.page page parts.1 in
        let taken : is_page_taken s root page ≡ true =
        held-at s (maps_page root page) x (old-near x (full-unless (capability_at s.slots x) frame_mapping k refl other))
        (ap (λ (o : Option FrameMapping). option_map_or (is_page root page) o false) other ∙ too) in
        let clash : true ≡ false = sym taken ∙ ap (λ (r : ℕ). is_page_taken s r page) (sym a) ∙ ap (is_page_taken s m.root) (sym b) ∙ free in
        cc

    framed-mappings : ((x : ℕ) → IsFull new x → x < 2 ^ s.memory_bits / 16) → MappingsAreSound (with_slots s new)
    framed-mappings near =
        let mappings = sound.mappings in
        let tables = by-slot table_mapping table in
        let taken = λ (root region : ℕ). taken-carried s new (λ x. x) root region near carries.kept tables in
        let was_table : (x offset : ℕ) (n : Option TableMapping) → capability_at new x ≡ PageTable offset n → capability_at old x ≡ PageTable offset n =
        λ x offset n.
        either (λ x. capability_at new x ≡ PageTable offset n → capability_at old x ≡ PageTable offset n)
        (λ is. page_table offset n (sym (ap capability_of held-here) ∙ is)) (λ x other is. sym (ap capability_of (held-other x other)) ∙ is) x in
        record {
          frame_root = λ x n is. elim (frame-at x n is) [
            | inl at ↦ ap (λ (n : FrameMapping). kind_at s n.root) at.1 ∙ root
            | inr other ↦ mappings.frame_root x n other.1
          ];
          frame_table = λ x n is. elim (frame-at x n is) [
            | inl at ↦ taken n.root (n.page / region_pages) (ap (λ (n : FrameMapping). is_region_taken s n.root (n.page / region_pages)) at.1 ∙ region)
            | inr other ↦ taken n.root (n.page / region_pages) (mappings.frame_table x n other.1)
          ];
          table_root = λ x n is. mappings.table_root x n (sym (tables x) ∙ is);
          one_page = λ a b root page one other.
              let k = some-passes (frame_mapping (capability_at new a)) (is_page root page) one in
              let n = some-passes (frame_mapping (capability_at new b)) (is_page root page) other in
              elim (frame-at a k.0 k.1) [
                | inl at ↦ elim (frame-at b n.0 n.1) [
                  | inl too ↦ at.0 ∙ sym too.0
                  | inr apart ↦ absurd (not-mapped b k.0 n.0 root page at.1 k.2 apart.1 n.2)
                ]
                | inr apart ↦ elim (frame-at b n.0 n.1) [
                  | inl at ↦ absurd (not-mapped a n.0 k.0 root page at.1 n.2 apart.1 k.2)
                  | inr too ↦
                      mappings.one_page a b root page
                      (ap (λ (o : Option FrameMapping). option_map_or (is_page root page) o false) apart.1 ∙ k.2)
                      (ap (λ (o : Option FrameMapping). option_map_or (is_page root page) o false) too.1 ∙ n.2)
                ]
              ];
          one_region = λ a b root region one other.
              mappings.one_region a b root region
              (ap (λ (o : Option TableMapping). option_map_or (is_region root region) o false) (sym (tables a)) ∙ one)
              (ap (λ (o : Option TableMapping). option_map_or (is_region root region) o false) (sym (tables b)) ∙ other);
          one_table = λ a b offset k n one other. mappings.one_table a b offset k n (was_table a offset k one) (was_table b offset n other);
        }

    pub framed-sound : IsSound (with_slots s (recapped s.slots slot capability))
    unfolding new
    framed-sound = mapped-sound framed-mappings

  -- ---- a page table that is mapped

  module _ (m : TableMapping) (offset : ℕ) (is_table : capability ≡ PageTable offset (Some m))
      (unmapped_before : capability_at s.slots slot ≡ PageTable offset None)
      (root : kind_at s m.root ≡ Some NewRootTable) (free : is_region_taken s m.root m.region ≡ false) where
    frames : (x : ℕ) → frame_mapping (capability_at new x) ≡ frame_mapping (capability_at old x)
    frames = by-slot frame_mapping (ap frame_mapping is_table ∙ sym (ap frame_mapping unmapped_before))

    table-at : (x : ℕ) (n : TableMapping) → table_mapping (capability_at new x) ≡ Some n
        → ((x ≡ slot) × (n ≡ m)) ⊎ ((x ≢ slot) × (table_mapping (capability_at old x) ≡ Some n))
    table-at x n is = elim (eqb_tells x slot) [
      | inl at ↦
          let e : Some m ≡ Some n = sym (ap table_mapping is_table) ∙ ap (λ (o : Option Entry). table_mapping (capability_of o)) (sym held-here)
          ∙ ap (λ (y : ℕ). table_mapping (capability_at new y)) (sym at.1) ∙ is in
          inl (at.1, let f : m ≡ n = cc in sym f)
      | inr other ↦ inr (other.1, ap (λ (o : Option Entry). table_mapping (capability_of o)) (sym (held-other x other.1)) ∙ is)
    ]

    no-region : (x : ℕ) (n k : TableMapping) (root region : ℕ) → n ≡ m → is_region root region n ≡ true
        → table_mapping (capability_at old x) ≡ Some k → is_region root region k ≡ true → ⊥
    no-region x n k root region same is other too =
        let parts = and_parts (n.root == root) (n.region == region) is in
        let a : m.root ≡ root = ap (λ (n : TableMapping). n.root) (sym same) ∙ eqb-true n.root root parts.0 in
        let b : m.region ≡ region = ap (λ (n : TableMapping). n.region) (sym same) ∙ eqb-true n.region region parts.1 in
        let taken : is_region_taken s root region ≡ true =
        held-at s (maps_region root region) x (old-near x (full-unless (capability_at s.slots x) table_mapping k refl other))
        (ap (λ (o : Option TableMapping). option_map_or (is_region root region) o false) other ∙ too) in
        let clash : true ≡ false = sym taken ∙ ap (λ (r : ℕ). is_region_taken s r region) (sym a) ∙ ap (is_region_taken s m.root) (sym b) ∙ free in
        cc

    taken-still : (root region : ℕ) → ((x : ℕ) → IsFull new x → x < 2 ^ s.memory_bits / 16) → is_region_taken s root region ≡ true
        → is_region_taken (with_slots s new) root region ≡ true
    taken-still root region near is =
        let was = held-by s (maps_region root region) is in
        let mapping = some-passes (table_mapping (capability_at s.slots was.0)) (is_region root region) was.1 in
        let other : was.0 ≢ slot = λ e.
        (let clash : None ≡ Some mapping.0 = sym (ap table_mapping unmapped_before) ∙ ap (λ (y : ℕ). table_mapping (capability_at s.slots y)) (sym e)
        ∙ mapping.1 in cc) in
        let same : capability_at new was.0 ≡ capability_at s.slots was.0 = ap capability_of (held-other was.0 other) in
        held-at (with_slots s new) (maps_region root region) was.0
        (near was.0 (full-unless (capability_at new was.0) table_mapping mapping.0 refl (ap table_mapping same ∙ mapping.1)))
        (ap (maps_region root region) same ∙ was.1)

    table-was : (x o : ℕ) (n : Option TableMapping) → capability_at new x ≡ PageTable o n
        → (k : Option TableMapping) × (capability_at old x ≡ PageTable o k)
    table-was x o n is = elim (eqb_tells x slot) [
      | inl at ↦
          let e : PageTable offset (Some m) ≡ PageTable o n = sym is_table ∙ ap capability_of (sym held-here) ∙ ap (capability_at new) (sym at.1) ∙ is in
          let f : offset ≡ o = cc in
          (None, ap (capability_at old) at.1 ∙ unmapped_before ∙ ap (λ (o : ℕ). PageTable o None) f)
      | inr other ↦ (n, sym (ap capability_of (held-other x other.1)) ∙ is)
    ]

    tabled-mappings : ((x : ℕ) → IsFull new x → x < 2 ^ s.memory_bits / 16) → MappingsAreSound (with_slots s new)
    tabled-mappings near =
        let mappings = sound.mappings in
        record {
          frame_root = λ x n is. mappings.frame_root x n (sym (frames x) ∙ is);
          frame_table = λ x n is. taken-still n.root (n.page / region_pages) near (mappings.frame_table x n (sym (frames x) ∙ is));
          table_root = λ x n is. elim (table-at x n is) [
            | inl at ↦ ap (λ (n : TableMapping). kind_at s n.root) at.1 ∙ root
            | inr other ↦ mappings.table_root x n other.1
          ];
          one_page = λ a b root page one other.
              mappings.one_page a b root page
              (ap (λ (o : Option FrameMapping). option_map_or (is_page root page) o false) (sym (frames a)) ∙ one)
              (ap (λ (o : Option FrameMapping). option_map_or (is_page root page) o false) (sym (frames b)) ∙ other);
          one_region = λ a b root region one other.
              let k = some-passes (table_mapping (capability_at new a)) (is_region root region) one in
              let n = some-passes (table_mapping (capability_at new b)) (is_region root region) other in
              elim (table-at a k.0 k.1) [
                | inl at ↦ elim (table-at b n.0 n.1) [
                  | inl too ↦ at.0 ∙ sym too.0
                  | inr apart ↦ absurd (no-region b k.0 n.0 root region at.1 k.2 apart.1 n.2)
                ]
                | inr apart ↦ elim (table-at b n.0 n.1) [
                  | inl at ↦ absurd (no-region a n.0 k.0 root region at.1 n.2 apart.1 k.2)
                  | inr too ↦
                      mappings.one_region a b root region
                      (ap (λ (o : Option TableMapping). option_map_or (is_region root region) o false) apart.1 ∙ k.2)
                      (ap (λ (o : Option TableMapping). option_map_or (is_region root region) o false) too.1 ∙ n.2)
                ]
              ];
          one_table = λ a b o k n one other.
              let first = table-was a o k one in let second = table-was b o n other in mappings.one_table a b o first.0 second.0 first.1 second.1;
        }

    pub tabled-sound : IsSound (with_slots s (recapped s.slots slot capability))
    unfolding new
    tabled-sound = mapped-sound tabled-mappings
