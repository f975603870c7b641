-- A capability without mapping is put in an empty slot: the tables and the mappings agree as before.
use Rattle.std.proofs.Common.{◌≡◌, ◌≢◌, ◌∙◌, ℕ, ◌+◌, ◌*◌, ◌/◌, ◌%◌, ◌^◌, ◌<◌, ◌⊎◌, inl, inr, Option, Some, None, List, refl, sym, ap, subst}
use Rattle.std.proofs.lemmas.Bool.Decides.{eqb_tells}
use Rattle.model.specs.Shared.Bytes.{word_at}
use Rattle.model.specs.Capabilities.CapabilityWords.{IsCapability}
use Rattle.model.specs.Capabilities.Slots.{IsOpen, Slots, capability_at, inserted}
use Rattle.model.specs.Machine.Sv32.{leaf_word}
use Rattle.model.specs.declared.capabilities.Cap.{Cap}
use Rattle.model.specs.declared.capabilities.Cap.TheVariants.{Empty, Untyped, Endpoint, Notification, CNode, Frame, PageTable, Tcb, RootTable, InterruptControl}
use Rattle.model.specs.declared.capabilities.Cap.TheVariants.{InterruptHandler}
use Rattle.model.specs.declared.capabilities.FrameMapping.{FrameMapping}
use Rattle.model.specs.declared.capabilities.TableMapping.{TableMapping}
use Rattle.model.specs.declared.rights.Rights.{Rights}
use Rattle.model.specs.declared.slot_entries.Entry.{Entry}
use Rattle.model.proofs.SlotChanges.{capability_of, entry-other, entry-same}
use Rattle.vspace.specs.Agreement.{IsNewPageTable, IsNewRoot, MayBePut}
use Rattle.vspace.proofs.AgreementCarried.{open-some}
use Rattle.vspace.specs.Tables.{Holds, IsTable, MapsFrame, MapsTable, TablesAgree}

pub record PutStep (slots : Slots) (memory : List ℕ) (x : ℕ) (c : Cap) : Type 0 where
  pub agree : TablesAgree slots memory
  pub is_open : slots x ≢ None
  pub empty : capability_at slots x ≡ Empty
  pub may : MayBePut slots memory c

abbrev new_entry : Cap → Option ℕ → Option Entry
new_entry c parent = Some (record { capability = c; parent = parent })

-- what is held afterwards is the new capability, or was held before
put-before : (slots : Slots) (x : ℕ) (c : Cap) (parent : Option ℕ) (y : ℕ) (v : Cap) → capability_at (inserted slots x c parent) y ≡ v →
    ((y ≡ x) × (c ≡ v)) ⊎ (capability_at slots y ≡ v)
put-before slots x c parent y v held =
    let new : Slots = inserted slots x c parent in
    elim (eqb_tells y x) [
      | inl same ↦ inl (same.1, sym (ap capability_of (entry-same slots x (new_entry c parent))) ∙ sym (ap (capability_at new) same.1) ∙ held)
      | inr other ↦ inr (sym (ap capability_of (entry-other slots x (new_entry c parent) y other.1)) ∙ held)
    ]

-- what was held before is held afterwards
put-after : (slots : Slots) (memory : List ℕ) (x : ℕ) (c : Cap) (parent : Option ℕ) → PutStep slots memory x c → (y : ℕ) (v : Cap) → v ≢ Empty →
    capability_at slots y ≡ v → capability_at (inserted slots x c parent) y ≡ v
put-after slots memory x c parent step y v some held =
    ap capability_of (entry-other slots x (new_entry c parent) y (λ same. some (sym held ∙ ap (capability_at slots) same ∙ step.empty))) ∙ held

put-table_stands : (slots : Slots) (memory : List ℕ) (x : ℕ) (c : Cap) (parent : Option ℕ) → PutStep slots memory x c → (table : ℕ) →
    IsTable slots memory table → IsTable (inserted slots x c parent) memory table
put-table_stands slots memory x c parent step table stands = record {
  aligned = stands.aligned;
  within = stands.within;
  outside = λ place low high.
      let closed = stands.outside place low high in
      entry-other slots x (new_entry c parent) (place / 16) (λ same. step.is_open (sym (ap slots same) ∙ closed)) ∙ closed;
}

put-maps_table : (slots : Slots) (memory : List ℕ) (x : ℕ) (c : Cap) (parent : Option ℕ) → PutStep slots memory x c → (root region table : ℕ) →
    MapsTable slots root region table → MapsTable (inserted slots x c parent) root region table
put-maps_table slots memory x c parent step root region table maps = record {
  slot = maps.slot;
  held = put-after slots memory x c parent step maps.slot _ (λ e. cc e) maps.held;
}

put-maps_frame : (slots : Slots) (memory : List ℕ) (x : ℕ) (c : Cap) (parent : Option ℕ) → PutStep slots memory x c → (root page : ℕ) →
    MapsFrame slots root page → MapsFrame (inserted slots x c parent) root page
put-maps_frame slots memory x c parent step root page maps = record {
  slot = maps.slot;
  frame = maps.frame;
  frame_rights = maps.frame_rights;
  allowed = maps.allowed;
  held = put-after slots memory x c parent step maps.slot _ (λ e. cc e) maps.held;
}

-- ---- the capabilities afterwards

may-valid : (slots : Slots) (memory : List ℕ) (c : Cap) → MayBePut slots memory c → IsCapability c
may-valid slots memory (Frame _ _ (Some _)) may = absurd may
may-valid slots memory (Frame _ _ None) may = may
may-valid slots memory (PageTable _ (Some _)) may = absurd may
may-valid slots memory (PageTable _ None) may = may.0
may-valid slots memory (RootTable _) may = may.0
may-valid slots memory Empty may = may
may-valid slots memory (Untyped _ _ _) may = may
may-valid slots memory (Endpoint _ _ _) may = may
may-valid slots memory (Notification _ _ _) may = may
may-valid slots memory (CNode _ _ _) may = may
may-valid slots memory (Tcb _) may = may
may-valid slots memory InterruptControl may = may
may-valid slots memory (InterruptHandler _) may = may

put-valid : (slots : Slots) (memory : List ℕ) (x : ℕ) (c : Cap) (parent : Option ℕ) → PutStep slots memory x c → (y : ℕ) →
    IsCapability (capability_at (inserted slots x c parent) y)
put-valid slots memory x c parent step y =
    elim (put-before slots x c parent y (capability_at (inserted slots x c parent) y) refl) [
      | inl new ↦ subst (λ (v : Cap). IsCapability v) new.1 (may-valid slots memory c step.may)
      | inr old ↦ subst (λ (v : Cap). IsCapability v) old (step.agree.valid y)
    ]

-- a root table was one before, or is new
put-root : (slots : Slots) (memory : List ℕ) (x : ℕ) (c : Cap) (parent : Option ℕ) → PutStep slots memory x c → (y root : ℕ) →
    capability_at (inserted slots x c parent) y ≡ RootTable root → Holds slots (RootTable root) ⊎ ((c ≡ RootTable root) × IsNewRoot slots memory root)
put-root slots memory x c parent step y root held = elim (put-before slots x c parent y _ held) [
  | inl new ↦
      let may : MayBePut slots memory (RootTable root) = subst (λ (v : Cap). MayBePut slots memory v) new.1 step.may in
      elim (may.1) [
        | inl copy ↦ inl copy
        | inr fresh ↦ inr (new.1, fresh)
      ]
  | inr old ↦ inl (y, old)
]

-- a page table was one before, or is new and unmapped
new-table : (slots : Slots) (memory : List ℕ) (table : ℕ) (m : Option TableMapping) → MayBePut slots memory (PageTable table m) → (m ≡ None)
    × IsNewPageTable slots memory table
new-table slots memory table None may = (refl, may.1)
new-table slots memory table (Some m) may = absurd may

abbrev IsPutTable : Slots → List ℕ → ℕ → Cap → ℕ → ℕ → Option TableMapping → Type 0
IsPutTable slots memory x c y table m = (y ≡ x) × (c ≡ PageTable table m) × (m ≡ None) × IsNewPageTable slots memory table

put-table : (slots : Slots) (memory : List ℕ) (x : ℕ) (c : Cap) (parent : Option ℕ) → PutStep slots memory x c → (y table : ℕ) (m : Option TableMapping) →
    capability_at (inserted slots x c parent) y ≡ PageTable table m → IsPutTable slots memory x c y table m ⊎ (capability_at slots y ≡ PageTable table m)
put-table slots memory x c parent step y table m held = elim (put-before slots x c parent y _ held) [
  | inl new ↦
      let fresh = new-table slots memory table m (subst (λ (v : Cap). MayBePut slots memory v) new.1 step.may) in
      inl (new.0, new.1, fresh.0, fresh.1)
  | inr old ↦ inr old
]

-- what has a mapping was there before
put-mapped_table : (slots : Slots) (memory : List ℕ) (x : ℕ) (c : Cap) (parent : Option ℕ) → PutStep slots memory x c → (y table : ℕ) (m : TableMapping) →
    capability_at (inserted slots x c parent) y ≡ PageTable table (Some m) → capability_at slots y ≡ PageTable table (Some m)
put-mapped_table slots memory x c parent step y table m held = elim (put-before slots x c parent y _ held) [
  | inl new ↦ let may : MayBePut slots memory (PageTable table (Some m)) = subst (λ (v : Cap). MayBePut slots memory v) new.1 step.may in absurd may
  | inr old ↦ old
]

put-mapped_frame : (slots : Slots) (memory : List ℕ) (x : ℕ) (c : Cap) (parent : Option ℕ) → PutStep slots memory x c →
    (y frame : ℕ) (r : Rights) (m : FrameMapping) → capability_at (inserted slots x c parent) y ≡ Frame frame r (Some m) →
    capability_at slots y ≡ Frame frame r (Some m)
put-mapped_frame slots memory x c parent step y frame r m held = elim (put-before slots x c parent y _ held) [
  | inl new ↦ let may : MayBePut slots memory (Frame frame r (Some m)) = subst (λ (v : Cap). MayBePut slots memory v) new.1 step.may in absurd may
  | inr old ↦ old
]

-- ---- field by field

put-roots : (slots : Slots) (memory : List ℕ) (x : ℕ) (c : Cap) (parent : Option ℕ) → PutStep slots memory x c → (y root : ℕ) →
    capability_at (inserted slots x c parent) y ≡ RootTable root → IsTable slots memory root
put-roots slots memory x c parent step y root held = elim (put-root slots memory x c parent step y root held) [
  | inl copy ↦ step.agree.roots copy.0 root copy.1
  | inr fresh ↦ fresh.1.blank.stands
]

put-tables : (slots : Slots) (memory : List ℕ) (x : ℕ) (c : Cap) (parent : Option ℕ) → PutStep slots memory x c → (y table : ℕ) (m : Option TableMapping) →
    capability_at (inserted slots x c parent) y ≡ PageTable table m → IsTable slots memory table
put-tables slots memory x c parent step y table m held = elim (put-table slots memory x c parent step y table m held) [
  | inl fresh ↦ fresh.3.blank.stands
  | inr old ↦ step.agree.tables y table m old
]

put-leaves : (slots : Slots) (memory : List ℕ) (x : ℕ) (c : Cap) (parent : Option ℕ) → PutStep slots memory x c →
    (y frame : ℕ) (r : Rights) (m : FrameMapping) → capability_at (inserted slots x c parent) y ≡ Frame frame r (Some m)
    → (table : ℕ) × MapsTable (inserted slots x c parent) m.root (m.page / 2 ^ 10) table
    × (word_at memory (table + 4 * (m.page % 2 ^ 10)) ≡ leaf_word frame m.rights.0)
put-leaves slots memory x c parent step y frame r m held =
    let leaf = step.agree.leaves y frame r m (put-mapped_frame slots memory x c parent step y frame r m held) in
    (leaf.0, put-maps_table slots memory x c parent step m.root (m.page / 2 ^ 10) leaf.0 leaf.1, leaf.2)

put-only_pointers : (slots : Slots) (memory : List ℕ) (x : ℕ) (c : Cap) (parent : Option ℕ) → PutStep slots memory x c → (y root region : ℕ) →
    capability_at (inserted slots x c parent) y ≡ RootTable root → region < 2 ^ 10
    → (word_at memory (root + 4 * region) ≡ 0) ⊎ ((table : ℕ) × MapsTable (inserted slots x c parent) root region table)
put-only_pointers slots memory x c parent step y root region held few = elim (put-root slots memory x c parent step y root held) [
  | inl copy ↦ elim (step.agree.only_pointers copy.0 root region copy.1 few) [
    | inl zero ↦ inl zero
    | inr maps ↦ inr (maps.0, put-maps_table slots memory x c parent step root region maps.0 maps.1)
  ]
  | inr fresh ↦ inl (fresh.1.blank.zero region few)
]

put-only_leaves : (slots : Slots) (memory : List ℕ) (x : ℕ) (c : Cap) (parent : Option ℕ) → PutStep slots memory x c →
    (y table : ℕ) (m : TableMapping) (i : ℕ) → capability_at (inserted slots x c parent) y ≡ PageTable table (Some m) → i < 2 ^ 10
    → (word_at memory (table + 4 * i) ≡ 0) ⊎ MapsFrame (inserted slots x c parent) m.root (2 ^ 10 * m.region + i)
put-only_leaves slots memory x c parent step y table m i held few =
    elim (step.agree.only_leaves y table m i (put-mapped_table slots memory x c parent step y table m held) few) [
      | inl zero ↦ inl zero
      | inr maps ↦ inr (put-maps_frame slots memory x c parent step m.root (2 ^ 10 * m.region + i) maps)
    ]

put-blank : (slots : Slots) (memory : List ℕ) (x : ℕ) (c : Cap) (parent : Option ℕ) → PutStep slots memory x c → (y table i : ℕ) →
    capability_at (inserted slots x c parent) y ≡ PageTable table None → i < 2 ^ 10 → word_at memory (table + 4 * i) ≡ 0
put-blank slots memory x c parent step y table i held few = elim (put-table slots memory x c parent step y table None held) [
  | inl fresh ↦ fresh.3.blank.zero i few
  | inr old ↦ step.agree.blank y table i old few
]

put-one_table : (slots : Slots) (memory : List ℕ) (x : ℕ) (c : Cap) (parent : Option ℕ) → PutStep slots memory x c →
    (a b table : ℕ) (m n : Option TableMapping) → capability_at (inserted slots x c parent) a ≡ PageTable table m →
    capability_at (inserted slots x c parent) b ≡ PageTable table n → a ≡ b
put-one_table slots memory x c parent step a b table m n ha hb = elim (put-table slots memory x c parent step a table m ha) [
  | inl one ↦ elim (put-table slots memory x c parent step b table n hb) [
    | inl two ↦ one.0 ∙ sym two.0
    | inr old ↦ absurd (one.3.no_page_table b n old)
  ]
  | inr was ↦ elim (put-table slots memory x c parent step b table n hb) [
    | inl two ↦ absurd (two.3.no_page_table a m was)
    | inr old ↦ step.agree.one_table a b table m n was old
  ]
]

put-apart : (slots : Slots) (memory : List ℕ) (x : ℕ) (c : Cap) (parent : Option ℕ) → PutStep slots memory x c →
    (a b root table : ℕ) (m : Option TableMapping) → capability_at (inserted slots x c parent) a ≡ RootTable root →
    capability_at (inserted slots x c parent) b ≡ PageTable table m → root ≢ table
put-apart slots memory x c parent step a b root table m ha hb = λ same. elim (put-root slots memory x c parent step a root ha) [
  | inl copy ↦ elim (put-table slots memory x c parent step b table m hb) [
    | inl fresh ↦ fresh.3.no_root copy.0 (copy.1 ∙ ap RootTable same)
    | inr old ↦ step.agree.apart copy.0 b root table m copy.1 old same
  ]
  | inr one ↦ elim (put-table slots memory x c parent step b table m hb) [
    | inl fresh ↦ let clash : RootTable root ≡ PageTable table m = sym one.0 ∙ fresh.1 in absurd (cc clash)
    | inr old ↦ one.1.no_page_table b m (old ∙ ap (λ t. PageTable t m) (sym same))
  ]
]

put-mapped_apart : (slots : Slots) (memory : List ℕ) (x : ℕ) (c : Cap) (parent : Option ℕ) → PutStep slots memory x c →
    (a b t table : ℕ) (m : TableMapping) (n : Option TableMapping) → capability_at (inserted slots x c parent) a ≡ PageTable t (Some m) →
    capability_at (inserted slots x c parent) b ≡ PageTable table n → m.root ≢ table
put-mapped_apart slots memory x c parent step a b t table m n ha hb =
    let was = put-mapped_table slots memory x c parent step a t m ha in
    elim (put-table slots memory x c parent step b table n hb) [
      | inl fresh ↦ fresh.3.no_mapped_root a t m was
      | inr old ↦ step.agree.mapped_apart a b t table m n was old
    ]

agree-put_step : (slots : Slots) (memory : List ℕ) (x : ℕ) (c : Cap) (parent : Option ℕ) → PutStep slots memory x c →
    TablesAgree (inserted slots x c parent) memory
agree-put_step slots memory x c parent step =
    let stay = λ (t : ℕ) (stands : IsTable slots memory t). put-table_stands slots memory x c parent step t stands in
    let mapped = λ (y t : ℕ) (m : TableMapping) (held : capability_at (inserted slots x c parent) y ≡ PageTable t (Some m)).
    put-mapped_table slots memory x c parent step y t m held in
    let frames = λ (y f : ℕ) (r : Rights) (m : FrameMapping) (held : capability_at (inserted slots x c parent) y ≡ Frame f r (Some m)).
    put-mapped_frame slots memory x c parent step y f r m held in
    record {
      valid = put-valid slots memory x c parent step;
      roots = λ y t held. stay t (put-roots slots memory x c parent step y t held);
      tables = λ y t m held. stay t (put-tables slots memory x c parent step y t m held);
      mapped_roots = λ y t m held. stay m.root (step.agree.mapped_roots y t m (mapped y t m held));
      pointers = λ y t m held. step.agree.pointers y t m (mapped y t m held);
      frames = λ y f r m held. step.agree.frames y f r m (frames y f r m held);
      leaves = put-leaves slots memory x c parent step;
      only_pointers = put-only_pointers slots memory x c parent step;
      only_leaves = put-only_leaves slots memory x c parent step;
      blank = put-blank slots memory x c parent step;
      one_table = put-one_table slots memory x c parent step;
      one_frame = λ a b f g r q m n ha hb. step.agree.one_frame a b f g r q m n (frames a f r m ha) (frames b g q n hb);
      apart = put-apart slots memory x c parent step;
      mapped_apart = put-mapped_apart slots memory x c parent step;
    }

pub agree-put : (slots : Slots) (memory : List ℕ) (x : ℕ) (c : Cap) (parent : Option ℕ) → TablesAgree slots memory → IsOpen slots x →
    capability_at slots x ≡ Empty → MayBePut slots memory c → TablesAgree (inserted slots x c parent) memory
agree-put slots memory x c parent agree is_open empty may =
    agree-put_step slots memory x c parent (record { agree = agree; is_open = open-some slots x is_open; empty = empty; may = may })
