-- Capabilities that lose their mappings as a table ends.
use Rattle.std.proofs.Common.{◌≡◌, ◌∙◌, ℕ, ◌/◌, ◌^◌, inl, inr, Bool, true, false, Option, Some, None, refl, sym, ap, subst}
use Rattle.std.specs.Prelude.{if◌then◌else◌}
use Rattle.std.specs.Option.{option_map}
use Rattle.std.proofs.lemmas.Bool.{eq-eqb}
use Rattle.std.proofs.lemmas.Bool.Decides.{eqb_tells}
use Rattle.model.specs.Capabilities.CapabilityKinds.{frame_mapping, table_mapping, unmapped}
use Rattle.model.specs.Kernel.MappingCalls.{lies_in_region}
use Rattle.model.specs.Capabilities.Slots.{Slots}
use Rattle.model.specs.declared.capabilities.Cap.{Cap}
use Rattle.model.specs.declared.capabilities.Cap.TheVariants.{Empty, Untyped, Endpoint, Notification, CNode, Frame, PageTable, Tcb, RootTable, InterruptControl}
use Rattle.model.specs.declared.capabilities.Cap.TheVariants.{InterruptHandler}
use Rattle.model.specs.declared.capabilities.FrameMapping.{FrameMapping}
use Rattle.model.specs.declared.capabilities.TableMapping.{TableMapping}
use Rattle.model.specs.declared.rights.Rights.{Rights}
use Rattle.model.specs.declared.slot_entries.Entry.{Entry}
use Rattle.model.proofs.SlotChanges.{capability_of, parent_of}
use Rattle.vspace.specs.Endings.{Ended, GoesWith, IsMappedIn, NoneUnder}
use Rattle.vspace.specs.Regions.{unmapped_entry, without_going}

-- ---- capabilities

-- what is unmapped has no mapping
pub no-frame : (c : Cap) → frame_mapping (unmapped c) ≡ None
no-frame (Frame _ _ _) = refl
no-frame (PageTable _ _) = refl
no-frame Empty = refl
no-frame (Untyped _ _ _) = refl
no-frame (Endpoint _ _ _) = refl
no-frame (Notification _ _ _) = refl
no-frame (CNode _ _ _) = refl
no-frame (Tcb _) = refl
no-frame (RootTable _) = refl
no-frame InterruptControl = refl
no-frame (InterruptHandler _) = refl

pub no-table : (c : Cap) → table_mapping (unmapped c) ≡ None
no-table (Frame _ _ _) = refl
no-table (PageTable _ _) = refl
no-table Empty = refl
no-table (Untyped _ _ _) = refl
no-table (Endpoint _ _ _) = refl
no-table (Notification _ _ _) = refl
no-table (CNode _ _ _) = refl
no-table (Tcb _) = refl
no-table (RootTable _) = refl
no-table InterruptControl = refl
no-table (InterruptHandler _) = refl

pub entry-unmapped : (held : Option Entry) → capability_of (option_map unmapped_entry held) ≡ unmapped (capability_of held)
entry-unmapped None = refl
entry-unmapped (Some held) = refl

pub not_frame : (now old : Option Entry) (f : ℕ) (r : Rights) (m : FrameMapping) → now ≡ option_map unmapped_entry old →
    capability_of now ≡ Frame f r (Some m) → ⊥
not_frame now old f r m is held =
    let e : unmapped (capability_of old) ≡ Frame f r (Some m) = sym (entry-unmapped old) ∙ sym (ap capability_of is) ∙ held in
    let clash : None ≡ Some m = sym (no-frame (capability_of old)) ∙ ap frame_mapping e in
    cc

pub not_table : (now old : Option Entry) (t : ℕ) (m : TableMapping) → now ≡ option_map unmapped_entry old → capability_of now ≡ PageTable t (Some m) → ⊥
not_table now old t m is held =
    let e : unmapped (capability_of old) ≡ PageTable t (Some m) = sym (entry-unmapped old) ∙ sym (ap capability_of is) ∙ held in
    let clash : None ≡ Some m = sym (no-table (capability_of old)) ∙ ap table_mapping e in
    cc

-- a page table's capability without its mapping
pub table-entry : (held : Option Entry) (t : ℕ) (o : Option TableMapping) → capability_of held ≡ PageTable t o →
    option_map unmapped_entry held ≡ Some (record { capability = PageTable t None; parent = parent_of held })
table-entry None t o is = absurd (cc)
table-entry (Some held) t o is = ap (λ (c : Cap). Some (record { capability = unmapped c; parent = held.parent })) is

-- regions that are among others
pub mapped-more : (g h : ℕ → ℕ → Type 0) → ((root region : ℕ) → g root region → h root region) → (c : Cap) → IsMappedIn g c → IsMappedIn h c
mapped-more g h more (Frame f r (Some m)) is = more m.root (m.page / 2 ^ 10) is
mapped-more g h more (PageTable t (Some m)) is = more m.root m.region is
mapped-more g h more _ is = absurd is

-- ---- one region's frames

-- a mapping in a region
pub stands-mapped : (goes : ℕ → ℕ → Type 0) (m : TableMapping) (c : Cap) → lies_in_region m c ≡ true → goes m.root m.region → IsMappedIn goes c
stands-mapped goes m (Frame f r (Some k)) inside is = elim (eqb_tells k.root m.root) [
  | inl a ↦ elim (eqb_tells (k.page / 2 ^ 10) m.region) [
    | inl b ↦ subst (λ (root : ℕ). goes root (k.page / 2 ^ 10)) (sym a.1) (subst (λ (region : ℕ). goes m.root region) (sym b.1) is)
    | inr b ↦ absurd (let outside : lies_in_region m (Frame f r (Some k)) ≡ false = rw (a.0, b.0) refl in cc)
  ]
  | inr a ↦ absurd (let outside : lies_in_region m (Frame f r (Some k)) ≡ false = rw a.0 refl in cc)
]
stands-mapped goes m (Frame f r None) inside is = absurd (cc)
stands-mapped goes m (PageTable _ _) inside is = absurd (cc)
stands-mapped goes m Empty inside is = absurd (cc)
stands-mapped goes m (Untyped _ _ _) inside is = absurd (cc)
stands-mapped goes m (Endpoint _ _ _) inside is = absurd (cc)
stands-mapped goes m (Notification _ _ _) inside is = absurd (cc)
stands-mapped goes m (CNode _ _ _) inside is = absurd (cc)
stands-mapped goes m (Tcb _) inside is = absurd (cc)
stands-mapped goes m (RootTable _) inside is = absurd (cc)
stands-mapped goes m InterruptControl inside is = absurd (cc)
stands-mapped goes m (InterruptHandler _) inside is = absurd (cc)

pub stands-here : (m : TableMapping) (f : ℕ) (r : Rights) (k : FrameMapping) → k.root ≡ m.root → k.page / 2 ^ 10 ≡ m.region →
    lies_in_region m (Frame f r (Some k)) ≡ true
stands-here m f r k root region = rw (eq-eqb k.root m.root root, eq-eqb (k.page / 2 ^ 10) m.region region) refl

-- what becomes of an entry
pub without-inside : (goes : Cap → Bool) (held : Option Entry) → goes (capability_of held) ≡ true →
    option_map (without_going goes) held ≡ option_map unmapped_entry held
without-inside goes None inside = refl
without-inside goes (Some held) inside =
    ap (λ (b : Bool). Some (record { capability = if b then unmapped held.capability else held.capability; parent = held.parent })) inside

pub without-outside : (goes : Cap → Bool) (held : Option Entry) → goes (capability_of held) ≡ false → option_map (without_going goes) held ≡ held
without-outside goes None outside = refl
without-outside goes (Some held) outside =
    ap (λ (b : Bool). Some (record { capability = if b then unmapped held.capability else held.capability; parent = held.parent })) outside

-- nothing is left under the table
pub ended-gone : (old now : Slots) (offset : ℕ) → ((y : ℕ) → Ended old offset y (now y)) → NoneUnder now offset
ended-gone old now offset ended = record {
  frames = λ page maps. elim (ended maps.slot) [
    | inl lost ↦ not_frame (now maps.slot) (old maps.slot) maps.frame maps.frame_rights _ lost.1 maps.held
    | inr kept ↦ kept.0 (subst (λ (c : Cap). IsMappedIn (GoesWith old offset) c) (sym (sym (ap capability_of kept.1) ∙ maps.held)) (inl refl))
  ];
  tables = λ region table maps. elim (ended maps.slot) [
    | inl lost ↦ not_table (now maps.slot) (old maps.slot) table _ lost.1 maps.held
    | inr kept ↦ kept.0 (subst (λ (c : Cap). IsMappedIn (GoesWith old offset) c) (sym (sym (ap capability_of kept.1) ∙ maps.held)) (inl refl))
  ];
  itself = λ root region maps. elim (ended maps.slot) [
    | inl lost ↦ not_table (now maps.slot) (old maps.slot) offset _ lost.1 maps.held
    | inr kept ↦
        let was = sym (ap capability_of kept.1) ∙ maps.held in
        kept.0 (subst (λ (c : Cap). IsMappedIn (GoesWith old offset) c) (sym was) (inr (record { slot = maps.slot; held = was })))
  ];
}
