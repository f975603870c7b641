-- A page table that is unmapped, with the frames in its region, keeps soundness.
use Rattle.std.proofs.Common.{ℕ, ◌≡◌, ◌≢◌, ◌∙◌, ◌==◌, ◌/◌, ◌^◌, ◌<◌, inl, inr, Bool, true, false, not, is_some, if◌then◌else◌, Option, Some, None, option_map}
use Rattle.std.proofs.Common.{refl, sym, ap, subst, arith}
use Rattle.std.specs.Option.{option_map_or}
use Rattle.std.proofs.lemmas.Bool.{and_from, and_parts, eq-eqb, eqb-true}
use Rattle.std.proofs.lemmas.Bool.Decides.{eqb_tells}
use Rattle.model.proofs.Ancestors.{full-open}
use Rattle.model.proofs.Depths.{depth-same}
use Rattle.model.proofs.SlotChanges.{capability_of, parent_of, entry-other, entry-same}
use Rattle.model.specs.declared.capabilities.Cap.{Cap}
use Rattle.model.specs.declared.capabilities.Cap.TheVariants.{Empty, Untyped, Endpoint, Notification, CNode, Frame, PageTable, Tcb, RootTable, InterruptControl}
use Rattle.model.specs.declared.capabilities.Cap.TheVariants.{InterruptHandler}
use Rattle.model.specs.declared.capabilities.FrameMapping.{FrameMapping}
use Rattle.model.specs.declared.capabilities.TableMapping.{TableMapping}
use Rattle.model.specs.declared.rights.Rights.{Rights}
use Rattle.model.specs.declared.slot_entries.Entry.{Entry}
use Rattle.model.specs.Capabilities.CapabilityKinds.{cnode_of, frame_mapping, frame_of, root_of, table_mapping, unmapped}
use Rattle.model.specs.Capabilities.CapabilityWords.{IsCapability}
use Rattle.model.specs.Capabilities.Slots.{Descendant, child, deeper, IsDerivation, IsFull, Slots, capability_at, is_empty, is_full, parent_at, recapped}
use Rattle.model.specs.Kernel.AddressSpaces.{is_page, is_region, is_region_taken, maps_region, region_pages}
use Rattle.model.specs.Kernel.Interrupts.{signal_of}
use Rattle.model.specs.Kernel.Kinds.{object_named, piece_of, used_of}
use Rattle.model.specs.Kernel.MappingCalls.{is_in_region, lies_in_region, without_region, without_table}
use Rattle.model.specs.Kernel.Soundness.{IsSound, MappingsAreSound}
use Rattle.model.specs.Kernel.State.{State, with_slots}
use Rattle.soundness.proofs.Carried.{Carries, full-near, full-unless, held-at, held-by, memory-carried, shape-carried, slots-carried, some-passes}
use Rattle.soundness.proofs.Carried.{threads-carried}
use Rattle.soundness.proofs.Places.{MayHold, full-may_hold}

-- ---- one capability

abbrev left : TableMapping → Cap → Cap
left table c = if lies_in_region table c then unmapped c else c

-- what stays of a capability
record IsLeft (table : TableMapping) (c d : Cap) : Type 0 where
  object : object_named d ≡ object_named c
  piece : piece_of d ≡ piece_of c
  used : used_of d ≡ used_of c
  empty : is_empty d ≡ is_empty c
  table_kept : table_mapping d ≡ table_mapping c
  frame : (n : FrameMapping) → frame_mapping d ≡ Some n → (frame_mapping c ≡ Some n) × (is_in_region table n ≡ false)
  page_table : (offset : ℕ) (n : Option TableMapping) → d ≡ PageTable offset n → c ≡ PageTable offset n
  valid : IsCapability c → IsCapability d
  cnode : cnode_of d ≡ cnode_of c
  root : root_of d ≡ root_of c
  frame_named : frame_of d ≡ frame_of c
  signal : signal_of d ≡ signal_of c

left-same : (table : TableMapping) (c : Cap) → frame_mapping c ≡ None → IsLeft table c c
left-same table c none = record {
  object = refl;
  piece = refl;
  used = refl;
  empty = refl;
  table_kept = refl;
  frame = λ n is. let e : None ≡ Some n = sym none ∙ is in absurd cc;
  page_table = λ _ _ is. is;
  valid = λ v. v;
  cnode = refl;
  root = refl;
  frame_named = refl;
  signal = refl;
}

left-frame : (table : TableMapping) (a : ℕ) (r : Rights) (m : FrameMapping) (b : Bool) → is_in_region table m ≡ b
    → IsLeft table (Frame a r (Some m)) (if b then Frame a r None else Frame a r (Some m))
left-frame table a r m true is = record {
  object = refl;
  piece = refl;
  used = refl;
  empty = refl;
  table_kept = refl;
  frame = λ n so. let e : None ≡ Some n = so in absurd cc;
  page_table = λ offset n so. let e : Frame a r None ≡ PageTable offset n = so in absurd cc;
  valid = λ v. (v.0, v.1, tt);
  cnode = refl;
  root = refl;
  frame_named = refl;
  signal = refl;
}
left-frame table a r m false is = record {
  object = refl;
  piece = refl;
  used = refl;
  empty = refl;
  table_kept = refl;
  frame = λ n so. (so, let e : m ≡ n = cc so in ap (is_in_region table) (sym e) ∙ is);
  page_table = λ offset n so. let e : Frame a r (Some m) ≡ PageTable offset n = so in absurd cc;
  valid = λ v. v;
  cnode = refl;
  root = refl;
  frame_named = refl;
  signal = refl;
}

left-is : (table : TableMapping) (c : Cap) → IsLeft table c (left table c)
left-is table Empty = left-same table Empty refl
left-is table (Untyped a b d) = left-same table (Untyped a b d) refl
left-is table (Endpoint a r b) = left-same table (Endpoint a r b) refl
left-is table (Notification a r b) = left-same table (Notification a r b) refl
left-is table (CNode a r g) = left-same table (CNode a r g) refl
left-is table (Frame a r None) = left-same table (Frame a r None) refl
left-is table (Frame a r (Some m)) = left-frame table a r m (is_in_region table m) refl
left-is table (PageTable a m) = left-same table (PageTable a m) refl
left-is table (Tcb a) = left-same table (Tcb a) refl
left-is table (RootTable a) = left-same table (RootTable a) refl
left-is table InterruptControl = left-same table InterruptControl refl
left-is table (InterruptHandler a) = left-same table (InterruptHandler a) refl

-- a mapping in the region of a table
region-inside : (table : TableMapping) (n : FrameMapping) → is_region n.root (n.page / region_pages) table ≡ true → is_in_region table n ≡ true
region-inside table n is =
    let parts = and_parts (table.root == n.root) (table.region == n.page / region_pages) is in
    let a : n.root ≡ table.root = sym (eqb-true table.root n.root parts.0) in
    let b : n.page / region_pages ≡ table.region = sym (eqb-true table.region (n.page / region_pages) parts.1) in
    and_from (n.root == table.root) (n.page / region_pages == table.region) (eq-eqb n.root table.root a) (eq-eqb (n.page / region_pages) table.region b)

-- ---- derivation

-- the same parents, and capabilities that are full where they were
pub derivation-kept : (old new : Slots) → IsDerivation old → ((x : ℕ) → parent_at new x ≡ parent_at old x) → ((x : ℕ) → is_full new x ≡ is_full old x)
    → ((x : ℕ) → IsCapability (capability_at new x)) → IsDerivation new
derivation-kept old new tree parents full valid = record {
  valid = valid;
  child_full = λ s p is. full s ∙ tree.child_full s p (sym (parents s) ∙ is);
  parent_full = λ s p is. full p ∙ tree.parent_full s p (sym (parents s) ∙ is);
  shallow = λ s. omega (arith, depth-same 256 (parent_at old) (parent_at new) parents s, tree.shallow s);
}

module _ (s : State) (slot offset : ℕ) (table : TableMapping) (sound : IsSound s) (full : IsFull s.slots slot)
    (is : capability_at s.slots slot ≡ PageTable offset (Some table)) where
  abbrev old : Slots
  old = s.slots

  middle : Slots
  middle = recapped s.slots slot (PageTable offset None)

  new : Slots
  new = without_region (recapped s.slots slot (PageTable offset None)) table

  middle-here : middle slot ≡ Some (record { capability = PageTable offset None; parent = parent_at old slot })
  unfolding middle
  middle-here = entry-same s.slots slot (Some (record { capability = PageTable offset None; parent = parent_at old slot }))

  middle-other : (x : ℕ) → x ≢ slot → middle x ≡ old x
  unfolding middle
  middle-other x other = entry-other s.slots slot (Some (record { capability = PageTable offset None; parent = parent_at old slot })) x other

  left-capability : (o : Option Entry) → capability_of (option_map (without_table table) o) ≡ left table (capability_of o)
  left-capability None = refl
  left-capability (Some held) = refl

  left-parent : (o : Option Entry) → parent_of (option_map (without_table table) o) ≡ parent_of o
  left-parent None = refl
  left-parent (Some held) = refl

  left-open : (o : Option Entry) → is_some (option_map (without_table table) o) ≡ is_some o
  left-open None = refl
  left-open (Some held) = refl

  held-new : (x : ℕ) → capability_at new x ≡ left table (capability_at middle x)
  unfolding new middle
  held-new x = left-capability (recapped s.slots slot (PageTable offset None) x)

  either : (P : ℕ → Type 0) → P slot → ((x : ℕ) → x ≢ slot → P x) → (x : ℕ) → P x
  either P at other x = elim (eqb_tells x slot) [ inl here ↦ subst P (sym here.1) at | inr apart_x ↦ other x apart_x.1 ]

  -- what depends on the capability in the same way, whatever a page table maps
  by-slot : {A : Type 0} (of : Cap → A) → of (PageTable offset None) ≡ of (PageTable offset (Some table)) → (x : ℕ)
      → of (capability_at middle x) ≡ of (capability_at old x)
  by-slot of same =
      either (λ x. of (capability_at middle x) ≡ of (capability_at old x))
      (ap (λ (o : Option Entry). of (capability_of o)) middle-here ∙ same ∙ ap of (sym is))
      (λ x other. ap (λ (o : Option Entry). of (capability_of o)) (middle-other x other))

  facts : (x : ℕ) → IsLeft table (capability_at middle x) (capability_at new x)
  facts x = subst (IsLeft table (capability_at middle x)) (sym (held-new x)) (left-is table (capability_at middle x))

  parents : (x : ℕ) → parent_at new x ≡ parent_at old x
  unfolding new middle
  parents x =
      left-parent (recapped s.slots slot (PageTable offset None) x)
      ∙ either (λ x. parent_at middle x ≡ parent_at old x) (ap parent_of middle-here) (λ x other. ap parent_of (middle-other x other)) x

  open-still : (x : ℕ) → is_some (new x) ≡ is_some (old x)
  unfolding new middle
  open-still x =
      left-open (recapped s.slots slot (PageTable offset None) x)
      ∙ either (λ x. is_some (middle x) ≡ is_some (old x)) (ap is_some middle-here ∙ sym (full-open s.slots slot full))
      (λ x other. ap is_some (middle-other x other)) x

  full-still : (x : ℕ) → is_full new x ≡ is_full old x
  full-still x = ap not (IsLeft.empty (facts x) ∙ by-slot is_empty refl x)

  valid-middle : (x : ℕ) → IsCapability (capability_at middle x)
  valid-middle = either (λ x. IsCapability (capability_at middle x))
      (subst (λ (o : Option Entry). IsCapability (capability_of o)) (sym middle-here)
      (let valid : IsCapability (PageTable offset (Some table)) = subst IsCapability is (sound.slots.derivation.valid slot) in (valid.0, tt)))
      (λ x other. subst (λ (o : Option Entry). IsCapability (capability_of o)) (sym (middle-other x other)) (sound.slots.derivation.valid x))

  tree : IsDerivation new
  tree = derivation-kept s.slots new sound.slots.derivation parents full-still (λ x. IsLeft.valid (facts x) (valid-middle x))

  descends-still : (root x : ℕ) → Descendant old root x → Descendant new root x
  descends-still root x (child _ is) = child x (parents x ∙ is)
  descends-still root x (deeper _ up is below) = deeper x up (parents x ∙ is) (descends-still root up below)

  carries : Carries old new (λ x. x)
  carries = record {
    object = λ x. IsLeft.object (facts x) ∙ by-slot object_named refl x;
    piece = λ x. IsLeft.piece (facts x) ∙ by-slot piece_of refl x;
    used = λ x. IsLeft.used (facts x) ∙ by-slot used_of refl x;
    descends = λ root x part is below. descends-still root x below;
    kept = λ x _. (x, refl);
    twins = λ a b differ twin. absurd (differ twin);
  }

  may-still : (x : ℕ) → IsFull new x → MayHold s x (capability_at new x)
  may-still x filled =
      let may = full-may_hold s sound.slots x (sym (full-still x) ∙ filled) in
      let cnode = IsLeft.cnode (facts x) ∙ by-slot cnode_of refl x in
      let root = IsLeft.root (facts x) ∙ by-slot root_of refl x in
      let frame = IsLeft.frame_named (facts x) ∙ by-slot frame_of refl x in
      let signal = IsLeft.signal (facts x) ∙ by-slot signal_of refl x in
      record {
        cspace = λ thread t there at. ap is_some cnode ∙ may.cspace thread t there at;
        vspace = λ thread t there at. ap is_some root ∙ may.vspace thread t there at;
        buffer = λ thread t there at. ap is_some frame ∙ may.buffer thread t there at;
        line = λ number less at. ap is_some signal ∙ may.line number less at;
      }

  -- ---- mappings

  frame-was : (x : ℕ) (n : FrameMapping) → frame_mapping (capability_at new x) ≡ Some n
      → (frame_mapping (capability_at old x) ≡ Some n) × (is_in_region table n ≡ false)
  frame-was x n so = let was = IsLeft.frame (facts x) n so in (sym (by-slot frame_mapping refl x) ∙ was.0, was.1)

  table-here : table_mapping (capability_at new slot) ≡ None
  table-here = IsLeft.table_kept (facts slot) ∙ ap (λ (o : Option Entry). table_mapping (capability_of o)) middle-here

  table-other : (x : ℕ) → x ≢ slot → table_mapping (capability_at new x) ≡ table_mapping (capability_at old x)
  table-other x other = IsLeft.table_kept (facts x) ∙ ap (λ (o : Option Entry). table_mapping (capability_of o)) (middle-other x other)

  table-was : (x : ℕ) (n : TableMapping) → table_mapping (capability_at new x) ≡ Some n → table_mapping (capability_at old x) ≡ Some n
  table-was x n so = elim (eqb_tells x slot) [
    | inl at ↦ let e : None ≡ Some n = sym table-here ∙ ap (λ (y : ℕ). table_mapping (capability_at new y)) (sym at.1) ∙ so in absurd cc
    | inr other ↦ sym (table-other x other.1) ∙ so
  ]

  page_table-was : (x o : ℕ) (n : Option TableMapping) → capability_at new x ≡ PageTable o n
      → (k : Option TableMapping) × (capability_at old x ≡ PageTable o k)
  page_table-was x o n so =
      let was = IsLeft.page_table (facts x) o n so in
      elim (eqb_tells x slot) [
        | inl at ↦
            let e : PageTable offset None ≡ PageTable o n = ap capability_of (sym middle-here) ∙ ap (capability_at middle) (sym at.1) ∙ was in
            let f : offset ≡ o = cc in
            (Some table, ap (capability_at old) at.1 ∙ is ∙ ap (λ (o : ℕ). PageTable o (Some table)) f)
        | inr other ↦ (n, sym (ap capability_of (middle-other x other.1)) ∙ was)
      ]

  -- a region of a frame that stays mapped is another one
  taken-still : (n : FrameMapping) → ((x : ℕ) → IsFull new x → x < 2 ^ s.memory_bits / 16) → is_in_region table n ≡ false
      → is_region_taken s n.root (n.page / region_pages) ≡ true
      → is_region_taken (with_slots s new) n.root (n.page / region_pages) ≡ true
  taken-still n near outside taken =
      let root = n.root in
      let region = n.page / region_pages in
      let was = held-by s (maps_region root region) taken in
      let mapping = some-passes (table_mapping (capability_at s.slots was.0)) (is_region root region) was.1 in
      let other : was.0 ≢ slot = λ e.
      (let same : Some table ≡ Some mapping.0 = ap table_mapping (sym is) ∙ ap (λ (y : ℕ). table_mapping (capability_at s.slots y)) (sym e) ∙ mapping.1 in
      let f : table ≡ mapping.0 = cc in
      let inside : is_in_region table n ≡ true = region-inside table n (subst (λ (m : TableMapping). is_region root region m ≡ true) (sym f) mapping.2) in
      let clash : false ≡ true = sym outside ∙ inside in
      cc) in
      let same = table-other was.0 other in
      held-at (with_slots s new) (maps_region root region) was.0
      (near was.0 (full-unless (capability_at new was.0) table_mapping mapping.0 refl (same ∙ mapping.1)))
      (ap (λ (o : Option TableMapping). option_map_or (is_region root region) o false) same ∙ was.1)

  mappings : ((x : ℕ) → IsFull new x → x < 2 ^ s.memory_bits / 16) → MappingsAreSound (with_slots s new)
  mappings near =
      let before = sound.mappings in
      record {
        frame_root = λ x n so. before.frame_root x n (frame-was x n so).0;
        frame_table = λ x n so. let was = frame-was x n so in taken-still n near was.1 (before.frame_table x n was.0);
        table_root = λ x n so. before.table_root x n (table-was x n so);
        one_page = λ a b root page one other.
            let k = some-passes (frame_mapping (capability_at new a)) (is_page root page) one in
            let n = some-passes (frame_mapping (capability_at new b)) (is_page root page) other in
            before.one_page a b root page
            (ap (λ (o : Option FrameMapping). option_map_or (is_page root page) o false) (frame-was a k.0 k.1).0 ∙ k.2)
            (ap (λ (o : Option FrameMapping). option_map_or (is_page root page) o false) (frame-was b n.0 n.1).0 ∙ n.2);
        one_region = λ a b root region one other.
            let k = some-passes (table_mapping (capability_at new a)) (is_region root region) one in
            let n = some-passes (table_mapping (capability_at new b)) (is_region root region) other in
            before.one_region a b root region
            (ap (λ (o : Option TableMapping). option_map_or (is_region root region) o false) (table-was a k.0 k.1) ∙ k.2)
            (ap (λ (o : Option TableMapping). option_map_or (is_region root region) o false) (table-was b n.0 n.1) ∙ n.2);
        one_table = λ a b o k n one other.
            let first = page_table-was a o k one in let second = page_table-was b o n other in before.one_table a b o first.0 second.0 first.1 second.1;
      }

  pub unmapped-sound : IsSound (with_slots s (without_region (recapped s.slots slot (PageTable offset None)) table))
  unfolding new
  unmapped-sound =
      let slots = slots-carried s new sound.slots tree open-still may-still in
      let memory = memory-carried s new (λ x. x) sound.memory carries in
      let shape = shape-carried s new sound.shape in
      record {
        shape = shape;
        slots = slots;
        memory = memory;
        mappings = mappings (λ x filled. full-near (with_slots s new) shape slots memory x filled);
        threads = threads-carried s new sound.threads;
      }
