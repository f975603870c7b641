-- Mapping a page table keeps the tables and the mappings in agreement.
use Rattle.std.proofs.Common.{◌≡◌, ◌≢◌, ◌∙◌, ℕ, ◌+◌, ◌*◌, ◌/◌, ◌%◌, ◌^◌, ◌<◌, ◌⊎◌, inl, inr, true, false, Option, Some, None, List, refl, sym, ap, subst, arith}
use Rattle.std.proofs.lemmas.Bool.{eq-eqb}
use Rattle.std.proofs.lemmas.Bool.Decides.{eqb_tells}
use Rattle.model.specs.Kernel.AddressSpaces.{maps_region}
use Rattle.model.specs.Shared.Bytes.{word_at, word_bytes, written}
use Rattle.model.specs.Capabilities.CapabilityWords.{IsCapability}
use Rattle.model.specs.Capabilities.Slots.{SameOutside, Slots, capability_at, recapped}
use Rattle.model.specs.Machine.Sv32.{leaf_word, table_word}
use Rattle.model.specs.declared.capabilities.Cap.{Cap}
use Rattle.model.specs.declared.capabilities.Cap.TheVariants.{Frame, PageTable, RootTable}
use Rattle.model.specs.declared.capabilities.FrameMapping.{FrameMapping}
use Rattle.model.specs.declared.capabilities.TableMapping.{TableMapping}
use Rattle.model.specs.declared.rights.Rights.{Rights}
use Rattle.vspace.specs.Tables.{Holds, IsTable, MapsFrame, MapsTable, TablesAgree}
use Rattle.vspace.proofs.FrameSteps.{index_small}
use Rattle.vspace.proofs.Steps.{capability-recapped_same, held-before, held-after, table-after, entry-one, entry-differs, word-kept, word-new, size-kept}

-- A page table that was not mapped, at x, is mapped for a free region, and its root table has the pointer then.
pub record TableStep (slots : Slots) (memory after : List ℕ) (x t : ℕ) (m : TableMapping) : Type 0 where
  pub agree : TablesAgree slots memory
  pub was : capability_at slots x ≡ PageTable t None
  pub is_open : slots x ≢ None
  pub fine : IsCapability (PageTable t (Some m))
  pub rooted : Holds slots (RootTable m.root)
  pub free : (slot : ℕ) → maps_region m.root m.region (capability_at slots slot) ≡ false
  pub same : SameOutside slots (written memory (m.root + 4 * m.region) (word_bytes (table_word t))) after

abbrev pub slots_after : Slots → ℕ → ℕ → TableMapping → Slots
slots_after slots x t m = recapped slots x (PageTable t (Some m))

few_regions : (slots : Slots) (memory after : List ℕ) (x t : ℕ) (m : TableMapping) → TableStep slots memory after x t m → m.region < 2 ^ 10
few_regions slots memory after x t m step = omega (arith, step.fine.1.1)

root_stands : (slots : Slots) (memory after : List ℕ) (x t : ℕ) (m : TableMapping) → TableStep slots memory after x t m → IsTable slots memory m.root
root_stands slots memory after x t m step = step.agree.roots step.rooted.0 m.root step.rooted.1

table_stands : (slots : Slots) (memory after : List ℕ) (x t : ℕ) (m : TableMapping) → TableStep slots memory after x t m → IsTable slots memory t
table_stands slots memory after x t m step = step.agree.tables x t None step.was

small_word : (t : ℕ) → t < 2 ^ 24 → table_word t < 2 ^ 32
small_word t near = omega (arith, near)

new_word : (slots : Slots) (memory after : List ℕ) (x t : ℕ) (m : TableMapping) → TableStep slots memory after x t m →
    word_at after (m.root + 4 * m.region) ≡ table_word t
new_word slots memory after x t m step = word-new slots memory after m.root m.region (table_word t) (small_word t step.fine.0.1)
    (root_stands slots memory after x t m step) (few_regions slots memory after x t m step) step.same

-- a word elsewhere
kept_word : (slots : Slots) (memory after : List ℕ) (x t : ℕ) (m : TableMapping) → TableStep slots memory after x t m → (u i : ℕ) → IsTable slots memory u →
    i < 2 ^ 10 → u + 4 * i ≢ m.root + 4 * m.region → word_at after (u + 4 * i) ≡ word_at memory (u + 4 * i)
kept_word slots memory after x t m step u i stands few differ =
    word-kept slots memory after u i m.root m.region _ stands few (root_stands slots memory after x t m step) (few_regions slots memory after x t m step) differ
    step.same

-- a word of a page table
table_word_kept : (slots : Slots) (memory after : List ℕ) (x t : ℕ) (m : TableMapping) → TableStep slots memory after x t m →
    (y u i : ℕ) (o : Option TableMapping) → capability_at slots y ≡ PageTable u o → i < 2 ^ 10 → word_at after (u + 4 * i) ≡ word_at memory (u + 4 * i)
table_word_kept slots memory after x t m step y u i o held few =
    let stands = step.agree.tables y u o held in
    let root = root_stands slots memory after x t m step in
    kept_word slots memory after x t m step u i stands few
    (entry-differs u m.root i m.region stands.aligned root.aligned few (few_regions slots memory after x t m step)
    (λ e. step.agree.apart step.rooted.0 y m.root u o step.rooted.1 held (sym e)))

-- no other capability maps the region
not_elsewhere : (slots : Slots) (memory after : List ℕ) (x t : ℕ) (m : TableMapping) → TableStep slots memory after x t m → (y u : ℕ) (n : TableMapping) →
    capability_at slots y ≡ PageTable u (Some n) → n.root ≡ m.root → n.region ≡ m.region → ⊥
not_elsewhere slots memory after x t m step y u n held a b =
    let own : maps_region m.root m.region (PageTable u (Some n)) ≡ true = rw (eq-eqb n.root m.root a, eq-eqb n.region m.region b) refl in
    let there : maps_region m.root m.region (capability_at slots y) ≡ true = ap (maps_region m.root m.region) held ∙ own in
    let none = step.free y in
    cc

-- the pointer of another page table
pointer_kept : (slots : Slots) (memory after : List ℕ) (x t : ℕ) (m : TableMapping) → TableStep slots memory after x t m → (y u : ℕ) (n : TableMapping) →
    capability_at slots y ≡ PageTable u (Some n) → word_at after (n.root + 4 * n.region) ≡ table_word u
pointer_kept slots memory after x t m step y u n held =
    let stands = step.agree.mapped_roots y u n held in
    let root = root_stands slots memory after x t m step in
    let fine : IsCapability (PageTable u (Some n)) = subst (λ (c : Cap). IsCapability c) held (step.agree.valid y) in
    let few : n.region < 2 ^ 10 = omega (arith, fine.1.1) in
    kept_word slots memory after x t m step n.root n.region stands few (λ e.
    let one = entry-one n.root m.root n.region m.region stands.aligned root.aligned few (few_regions slots memory after x t m step) e in
    not_elsewhere slots memory after x t m step y u n held one.0 one.1)
    ∙ step.agree.pointers y u n held

-- ---- capabilities

-- a capability afterwards is the new one, or was there before, at another slot
before : (slots : Slots) (memory after : List ℕ) (x t : ℕ) (m : TableMapping) → TableStep slots memory after x t m → (y : ℕ) (v : Cap) →
    capability_at (slots_after slots x t m) y ≡ v → ((y ≡ x) × (PageTable t (Some m) ≡ v)) ⊎ ((y ≢ x) × (capability_at slots y ≡ v))
before slots memory after x t m step y v held = held-before slots x (PageTable t (Some m)) y v held

root_was : (slots : Slots) (memory after : List ℕ) (x t : ℕ) (m : TableMapping) → TableStep slots memory after x t m → (y u : ℕ) →
    capability_at (slots_after slots x t m) y ≡ RootTable u → capability_at slots y ≡ RootTable u
root_was slots memory after x t m step y u held = elim (before slots memory after x t m step y _ held) [ inl new ↦ absurd (cc (new.1)) | inr old ↦ old.1 ]

frame_was : (slots : Slots) (memory after : List ℕ) (x t : ℕ) (m : TableMapping) → TableStep slots memory after x t m →
    (y f : ℕ) (r : Rights) (o : Option FrameMapping) → capability_at (slots_after slots x t m) y ≡ Frame f r o → capability_at slots y ≡ Frame f r o
frame_was slots memory after x t m step y f r o held = elim (before slots memory after x t m step y _ held) [ inl new ↦ absurd (cc (new.1)) | inr old ↦ old.1 ]

table_stays : (slots : Slots) (memory after : List ℕ) (x t : ℕ) (m : TableMapping) → TableStep slots memory after x t m → (root region u : ℕ) →
    MapsTable slots root region u → MapsTable (slots_after slots x t m) root region u
table_stays slots memory after x t m step root region u maps = record {
  slot = maps.slot;
  held = held-after slots x _ (PageTable t (Some m)) maps.slot _ step.was maps.held (λ e. cc);
}

frame_stays : (slots : Slots) (memory after : List ℕ) (x t : ℕ) (m : TableMapping) → TableStep slots memory after x t m → (root page : ℕ) →
    MapsFrame slots root page → MapsFrame (slots_after slots x t m) root page
frame_stays slots memory after x t m step root page maps = record {
  slot = maps.slot;
  frame = maps.frame;
  frame_rights = maps.frame_rights;
  allowed = maps.allowed;
  held = held-after slots x _ (PageTable t (Some m)) maps.slot _ step.was maps.held (λ e. cc);
}

new_table : (slots : Slots) (memory after : List ℕ) (x t : ℕ) (m : TableMapping) → TableStep slots memory after x t m →
    MapsTable (slots_after slots x t m) m.root m.region t
new_table slots memory after x t m step = record { slot = x; held = capability-recapped_same slots x (PageTable t (Some m)) }

-- a page table's capability afterwards was one of that table before
abbrev TableWas : Slots → ℕ → ℕ → Type 0
TableWas slots y u = (o : Option TableMapping) × (capability_at slots y ≡ PageTable u o)

table_was : (slots : Slots) (memory after : List ℕ) (x t : ℕ) (m : TableMapping) → TableStep slots memory after x t m → (y u : ℕ) (o : Option TableMapping) →
    capability_at (slots_after slots x t m) y ≡ PageTable u o → TableWas slots y u
table_was slots memory after x t m step y u o held = elim (before slots memory after x t m step y _ held) [
  | inl new ↦
      let one : t ≡ u = cc (new.1) in
      (None, ap (capability_at slots) new.0 ∙ step.was ∙ ap (λ (n : ℕ). PageTable n None) one)
  | inr old ↦ (o, old.1)
]

-- ---- each part of the agreement

valid-after : (slots : Slots) (memory after : List ℕ) (x t : ℕ) (m : TableMapping) → TableStep slots memory after x t m → (y : ℕ) →
    IsCapability (capability_at (slots_after slots x t m) y)
valid-after slots memory after x t m step y = elim (before slots memory after x t m step y (capability_at (slots_after slots x t m) y) refl) [
  | inl new ↦ subst (λ (c : Cap). IsCapability c) new.1 step.fine
  | inr old ↦ subst (λ (c : Cap). IsCapability c) old.1 (step.agree.valid y)
]

pointers-after : (slots : Slots) (memory after : List ℕ) (x t : ℕ) (m : TableMapping) → TableStep slots memory after x t m → (y u : ℕ) (n : TableMapping) →
    capability_at (slots_after slots x t m) y ≡ PageTable u (Some n) → word_at after (n.root + 4 * n.region) ≡ table_word u
pointers-after slots memory after x t m step y u n held = elim (before slots memory after x t m step y _ held) [
  | inl new ↦
      let one : t ≡ u = cc (new.1) in
      let same : m ≡ n = cc (new.1) in
      ap (λ (k : TableMapping). word_at after (k.root + 4 * k.region)) (sym same) ∙ new_word slots memory after x t m step ∙ ap table_word one
  | inr old ↦ pointer_kept slots memory after x t m step y u n old.1
]

only_pointers-after : (slots : Slots) (memory after : List ℕ) (x t : ℕ) (m : TableMapping) → TableStep slots memory after x t m → (y root region : ℕ) →
    capability_at slots y ≡ RootTable root → region < 2 ^ 10 →
    (word_at after (root + 4 * region) ≡ 0) ⊎ ((u : ℕ) × MapsTable (slots_after slots x t m) root region u)
only_pointers-after slots memory after x t m step y root region held few =
    let stands = step.agree.roots y root held in
    let at = root_stands slots memory after x t m step in
    elim (eqb_tells (root + 4 * region) (m.root + 4 * m.region)) [
      | inl here ↦
          let one = entry-one root m.root region m.region stands.aligned at.aligned few (few_regions slots memory after x t m step) here.1 in
          inr (
            t,
            subst (λ (k : ℕ). MapsTable (slots_after slots x t m) k region t) (sym one.0)
                (subst (λ (k : ℕ). MapsTable (slots_after slots x t m) m.root k t) (sym one.1) (new_table slots memory after x t m step)),
          )
      | inr other ↦
          let kept = kept_word slots memory after x t m step root region stands few other.1 in
          elim (step.agree.only_pointers y root region held few) [
            | inl zero ↦ inl (kept ∙ zero)
            | inr maps ↦ inr (maps.0, table_stays slots memory after x t m step root region maps.0 maps.1)
          ]
    ]

only_leaves-after : (slots : Slots) (memory after : List ℕ) (x t : ℕ) (m : TableMapping) → TableStep slots memory after x t m →
    (y u : ℕ) (n : TableMapping) (i : ℕ) → capability_at (slots_after slots x t m) y ≡ PageTable u (Some n) → i < 2 ^ 10 →
    (word_at after (u + 4 * i) ≡ 0) ⊎ MapsFrame (slots_after slots x t m) n.root (2 ^ 10 * n.region + i)
only_leaves-after slots memory after x t m step y u n i held few = elim (before slots memory after x t m step y _ held) [
  | inl new ↦
      let one : t ≡ u = cc (new.1) in
      let kept = table_word_kept slots memory after x t m step x t i None step.was few in
      inl (ap (λ (k : ℕ). word_at after (k + 4 * i)) (sym one) ∙ kept ∙ step.agree.blank x t i step.was few)
  | inr old ↦
      let kept = table_word_kept slots memory after x t m step y u i (Some n) old.1 few in
      elim (step.agree.only_leaves y u n i old.1 few) [
        | inl zero ↦ inl (kept ∙ zero)
        | inr maps ↦ inr (frame_stays slots memory after x t m step n.root (2 ^ 10 * n.region + i) maps)
      ]
]

leaves-after : (slots : Slots) (memory after : List ℕ) (x t : ℕ) (m : TableMapping) → TableStep slots memory after x t m →
    (y f : ℕ) (r : Rights) (n : FrameMapping) → capability_at slots y ≡ Frame f r (Some n) → (u : ℕ)
    × MapsTable (slots_after slots x t m) n.root (n.page / 2 ^ 10) u × (word_at after (u + 4 * (n.page % 2 ^ 10)) ≡ leaf_word f n.rights.0)
leaves-after slots memory after x t m step y f r n held =
    let leaf = step.agree.leaves y f r n held in (
      leaf.0,
      table_stays slots memory after x t m step n.root (n.page / 2 ^ 10) leaf.0 leaf.1,
      table_word_kept slots memory after x t m step leaf.1.slot leaf.0 (n.page % 2 ^ 10) _ leaf.1.held (index_small n.page) ∙ leaf.2,
    )

pub agree-table_mapped : (slots : Slots) (memory after : List ℕ) (x t : ℕ) (m : TableMapping) → TableStep slots memory after x t m →
    TablesAgree (slots_after slots x t m) after
agree-table_mapped slots memory after x t m step =
    let size = size-kept slots memory after m.root m.region _ (root_stands slots memory after x t m step) (few_regions slots memory after x t m step)
    step.same in
    let stay = λ (u : ℕ) (stands : IsTable slots memory u). table-after slots memory after x (PageTable t (Some m)) u step.is_open size stands in
    record {
      valid = valid-after slots memory after x t m step;
      roots = λ y u held. stay u (step.agree.roots y u (root_was slots memory after x t m step y u held));
      tables = λ y u o held. let was = table_was slots memory after x t m step y u o held in stay u (step.agree.tables y u was.0 was.1);
      mapped_roots = λ y u n held. elim (before slots memory after x t m step y _ held) [
        | inl new ↦
            let same : m ≡ n = cc (new.1) in
            subst (λ (k : TableMapping). IsTable (slots_after slots x t m) after k.root) same (stay m.root (root_stands slots memory after x t m step))
        | inr old ↦ stay n.root (step.agree.mapped_roots y u n old.1)
      ];
      pointers = pointers-after slots memory after x t m step;
      frames = λ y f r n held. omega (arith, step.agree.frames y f r n (frame_was slots memory after x t m step y f r (Some n) held), size);
      leaves = λ y f r n held. leaves-after slots memory after x t m step y f r n (frame_was slots memory after x t m step y f r (Some n) held);
      only_pointers = λ y root region held few. only_pointers-after slots memory after x t m step y root region
          (root_was slots memory after x t m step y root held) few;
      only_leaves = only_leaves-after slots memory after x t m step;
      blank = λ y u i held few. elim (before slots memory after x t m step y _ held) [
        | inl new ↦ absurd (cc (new.1))
        | inr old ↦ table_word_kept slots memory after x t m step y u i None old.1 few ∙ step.agree.blank y u i old.1 few
      ];
      one_table = λ a b u n k ha hb.
          let wa = table_was slots memory after x t m step a u n ha in
          let wb = table_was slots memory after x t m step b u k hb in
          step.agree.one_table a b u wa.0 wb.0 wa.1 wb.1;
      one_frame = λ a b f g r q n k ha hb root page. step.agree.one_frame a b f g r q n k (frame_was slots memory after x t m step a f r (Some n) ha)
          (frame_was slots memory after x t m step b g q (Some k) hb) root page;
      apart = λ a b root u n ha hb.
          let wb = table_was slots memory after x t m step b u n hb in
          step.agree.apart a b root u wb.0 (root_was slots memory after x t m step a root ha) wb.1;
      mapped_apart = λ a b v u n k ha hb.
          let wb = table_was slots memory after x t m step b u k hb in
          elim (before slots memory after x t m step a _ ha) [
            | inl new ↦
                let same : m ≡ n = cc (new.1) in
                subst (λ (j : TableMapping). j.root ≢ u) same (step.agree.apart step.rooted.0 b m.root u wb.0 step.rooted.1 wb.1)
            | inr old ↦ step.agree.mapped_apart a b v u n wb.0 old.1 wb.1
          ];
    }
