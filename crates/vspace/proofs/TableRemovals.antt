-- Unmapping a page table in whose region no frame is mapped keeps the tables and the mappings in agreement.
use Rattle.std.proofs.Common.{◌≡◌, ◌≢◌, ◌∙◌, ℕ, ◌+◌, ◌*◌, ◌/◌, ◌%◌, ◌^◌, ◌<◌, ◌⊎◌, inl, inr, Option, Some, None, List, refl, sym, ap, subst, arith}
use Rattle.std.proofs.lemmas.Bool.Decides.{eqb_tells}
use Rattle.model.specs.Shared.Bytes.{word_at, word_bytes, written}
use Rattle.model.specs.Capabilities.CapabilityWords.{IsCapability}
use Rattle.model.specs.Capabilities.Slots.{SameOutside, Slots, capability_at, recapped}
use Rattle.model.specs.Machine.Sv32.{leaf_word, table_word}
use Rattle.model.specs.declared.capabilities.Cap.{Cap}
use Rattle.model.specs.declared.capabilities.Cap.TheVariants.{Frame, PageTable, RootTable}
use Rattle.model.specs.declared.capabilities.FrameMapping.{FrameMapping}
use Rattle.model.specs.declared.capabilities.TableMapping.{TableMapping}
use Rattle.model.specs.declared.rights.Rights.{Rights}
use Rattle.vspace.specs.Tables.{IsTable, MapsFrame, MapsTable, TablesAgree}
use Rattle.vspace.proofs.FrameSteps.{index_small, region_or_zero, root_or_zero}
use Rattle.vspace.proofs.Steps.{capability-recapped_other, held-before, held-after, table-after, entry-one, entry-differs, word-kept, word-new, size-kept}
use Rattle.vspace.proofs.Unmapping.{table-one}

-- A page table that was mapped, at x, is mapped no more, and its pointer is zero then.
pub record TableRemoval (slots : Slots) (memory after : List ℕ) (x t : ℕ) (m : TableMapping) : Type 0 where
  pub agree : TablesAgree slots memory
  pub was : capability_at slots x ≡ PageTable t (Some m)
  pub is_open : slots x ≢ None
  pub fine : IsCapability (PageTable t None)
  pub empty : (y f : ℕ) (r : Rights) (n : FrameMapping) → capability_at slots y ≡ Frame f r (Some n) → n.root ≡ m.root → n.page / 2 ^ 10 ≡ m.region → ⊥
  pub same : SameOutside slots (written memory (m.root + 4 * m.region) (word_bytes 0)) after

abbrev pub slots_after : Slots → ℕ → ℕ → Slots
slots_after slots x t = recapped slots x (PageTable t None)

few_regions : (slots : Slots) (memory after : List ℕ) (x t : ℕ) (m : TableMapping) → TableRemoval slots memory after x t m → m.region < 2 ^ 10
few_regions slots memory after x t m step =
    let fine : IsCapability (PageTable t (Some m)) = subst (λ (c : Cap). IsCapability c) step.was (step.agree.valid x) in
    omega (arith, fine.1.1)

root_stands : (slots : Slots) (memory after : List ℕ) (x t : ℕ) (m : TableMapping) → TableRemoval slots memory after x t m → IsTable slots memory m.root
root_stands slots memory after x t m step = step.agree.mapped_roots x t m step.was

new_word : (slots : Slots) (memory after : List ℕ) (x t : ℕ) (m : TableMapping) → TableRemoval slots memory after x t m →
    word_at after (m.root + 4 * m.region) ≡ 0
new_word slots memory after x t m step = word-new slots memory after m.root m.region 0 (omega arith) (root_stands slots memory after x t m step)
    (few_regions slots memory after x t m step) step.same

kept_word : (slots : Slots) (memory after : List ℕ) (x t : ℕ) (m : TableMapping) → TableRemoval slots memory after x t m → (u i : ℕ) → IsTable slots memory u →
    i < 2 ^ 10 → u + 4 * i ≢ m.root + 4 * m.region → word_at after (u + 4 * i) ≡ word_at memory (u + 4 * i)
kept_word slots memory after x t m step u i stands few differ =
    word-kept slots memory after u i m.root m.region 0 stands few (root_stands slots memory after x t m step) (few_regions slots memory after x t m step) differ
    step.same

table_word_kept : (slots : Slots) (memory after : List ℕ) (x t : ℕ) (m : TableMapping) → TableRemoval slots memory after x t m →
    (y u i : ℕ) (o : Option TableMapping) → capability_at slots y ≡ PageTable u o → i < 2 ^ 10 → word_at after (u + 4 * i) ≡ word_at memory (u + 4 * i)
table_word_kept slots memory after x t m step y u i o held few =
    let stands = step.agree.tables y u o held in
    let root = root_stands slots memory after x t m step in
    kept_word slots memory after x t m step u i stands few
    (entry-differs u m.root i m.region stands.aligned root.aligned few (few_regions slots memory after x t m step)
    (λ e. step.agree.mapped_apart x y t u m o step.was held (sym e)))

-- another page table is mapped elsewhere
elsewhere : (slots : Slots) (memory after : List ℕ) (x t : ℕ) (m : TableMapping) → TableRemoval slots memory after x t m → (y u : ℕ) (n : TableMapping) →
    y ≢ x → capability_at slots y ≡ PageTable u (Some n) → n.root + 4 * n.region ≢ m.root + 4 * m.region
elsewhere slots memory after x t m step y u n differ held = λ e.
    let stands = step.agree.mapped_roots y u n held in
    let root = root_stands slots memory after x t m step in
    let fine : IsCapability (PageTable u (Some n)) = subst (λ (c : Cap). IsCapability c) held (step.agree.valid y) in
    let one = entry-one n.root m.root n.region m.region stands.aligned root.aligned (omega (arith, fine.1.1)) (few_regions slots memory after x t m step) e in
    let table = table-one slots memory step.agree y x u t n m held step.was one.0 one.1 in
    differ (step.agree.one_table y x t (Some n) (Some m) (held ∙ ap (λ (k : ℕ). PageTable k (Some n)) table) step.was)

pointer_kept : (slots : Slots) (memory after : List ℕ) (x t : ℕ) (m : TableMapping) → TableRemoval slots memory after x t m → (y u : ℕ) (n : TableMapping) →
    y ≢ x → capability_at slots y ≡ PageTable u (Some n) → word_at after (n.root + 4 * n.region) ≡ table_word u
pointer_kept slots memory after x t m step y u n differ held =
    let fine : IsCapability (PageTable u (Some n)) = subst (λ (c : Cap). IsCapability c) held (step.agree.valid y) in
    kept_word slots memory after x t m step n.root n.region (step.agree.mapped_roots y u n held) (omega (arith, fine.1.1))
    (elsewhere slots memory after x t m step y u n differ held)
    ∙ step.agree.pointers y u n held

-- ---- capabilities

before : (slots : Slots) (memory after : List ℕ) (x t : ℕ) (m : TableMapping) → TableRemoval slots memory after x t m → (y : ℕ) (v : Cap) →
    capability_at (slots_after slots x t) y ≡ v → ((y ≡ x) × (PageTable t None ≡ v)) ⊎ ((y ≢ x) × (capability_at slots y ≡ v))
before slots memory after x t m step y v held = held-before slots x (PageTable t None) y v held

root_was : (slots : Slots) (memory after : List ℕ) (x t : ℕ) (m : TableMapping) → TableRemoval slots memory after x t m → (y u : ℕ) →
    capability_at (slots_after slots x t) y ≡ RootTable u → capability_at slots y ≡ RootTable u
root_was slots memory after x t m step y u held = elim (before slots memory after x t m step y _ held) [ inl new ↦ absurd (cc (new.1)) | inr old ↦ old.1 ]

frame_was : (slots : Slots) (memory after : List ℕ) (x t : ℕ) (m : TableMapping) → TableRemoval slots memory after x t m →
    (y f : ℕ) (r : Rights) (o : Option FrameMapping) → capability_at (slots_after slots x t) y ≡ Frame f r o → capability_at slots y ≡ Frame f r o
frame_was slots memory after x t m step y f r o held = elim (before slots memory after x t m step y _ held) [ inl new ↦ absurd (cc (new.1)) | inr old ↦ old.1 ]

mapped_was : (slots : Slots) (memory after : List ℕ) (x t : ℕ) (m : TableMapping) → TableRemoval slots memory after x t m → (y u : ℕ) (n : TableMapping) →
    capability_at (slots_after slots x t) y ≡ PageTable u (Some n) → (y ≢ x) × (capability_at slots y ≡ PageTable u (Some n))
mapped_was slots memory after x t m step y u n held = elim (before slots memory after x t m step y _ held) [ inl new ↦ absurd (cc (new.1)) | inr old ↦ old ]

table_stays : (slots : Slots) (memory after : List ℕ) (x t : ℕ) (m : TableMapping) → TableRemoval slots memory after x t m →
    (root region u : ℕ) (maps : MapsTable slots root region u) → maps.slot ≢ x → MapsTable (slots_after slots x t) root region u
table_stays slots memory after x t m step root region u maps differ = record {
  slot = maps.slot;
  held = capability-recapped_other slots x (PageTable t None) maps.slot differ ∙ maps.held;
}

frame_stays : (slots : Slots) (memory after : List ℕ) (x t : ℕ) (m : TableMapping) → TableRemoval slots memory after x t m → (root page : ℕ) →
    MapsFrame slots root page → MapsFrame (slots_after slots x t) root page
frame_stays slots memory after x t m step root page maps = record {
  slot = maps.slot;
  frame = maps.frame;
  frame_rights = maps.frame_rights;
  allowed = maps.allowed;
  held = held-after slots x _ (PageTable t None) maps.slot _ step.was maps.held (λ e. cc);
}

-- the mapping that went is this one
gone : (slots : Slots) (memory after : List ℕ) (x t : ℕ) (m : TableMapping) → TableRemoval slots memory after x t m →
    (root region u : ℕ) (maps : MapsTable slots root region u) → maps.slot ≡ x → (root ≡ m.root) × (region ≡ m.region)
gone slots memory after x t m step root region u maps same =
    let e : PageTable u (Some (record { root = root; region = region })) ≡ PageTable t (Some m) = sym maps.held ∙ ap (capability_at slots) same ∙ step.was in
    let mapping : Some (record { root = root; region = region }) ≡ Some m = cc in
    (ap root_or_zero mapping, ap region_or_zero mapping)

abbrev TableWas : Slots → ℕ → ℕ → Type 0
TableWas slots y u = (o : Option TableMapping) × (capability_at slots y ≡ PageTable u o)

table_was : (slots : Slots) (memory after : List ℕ) (x t : ℕ) (m : TableMapping) → TableRemoval slots memory after x t m → (y u : ℕ) (o : Option TableMapping) →
    capability_at (slots_after slots x t) y ≡ PageTable u o → TableWas slots y u
table_was slots memory after x t m step y u o held = elim (before slots memory after x t m step y _ held) [
  | inl new ↦
      let one : t ≡ u = cc (new.1) in
      (Some m, ap (capability_at slots) new.0 ∙ step.was ∙ ap (λ (n : ℕ). PageTable n (Some m)) one)
  | inr old ↦ (o, old.1)
]

-- ---- each part of the agreement

valid-after : (slots : Slots) (memory after : List ℕ) (x t : ℕ) (m : TableMapping) → TableRemoval slots memory after x t m → (y : ℕ) →
    IsCapability (capability_at (slots_after slots x t) y)
valid-after slots memory after x t m step y = elim (before slots memory after x t m step y (capability_at (slots_after slots x t) y) refl) [
  | inl new ↦ subst (λ (c : Cap). IsCapability c) new.1 step.fine
  | inr old ↦ subst (λ (c : Cap). IsCapability c) old.1 (step.agree.valid y)
]

only_pointers-after : (slots : Slots) (memory after : List ℕ) (x t : ℕ) (m : TableMapping) → TableRemoval slots memory after x t m → (y root region : ℕ) →
    capability_at slots y ≡ RootTable root → region < 2 ^ 10 →
    (word_at after (root + 4 * region) ≡ 0) ⊎ ((u : ℕ) × MapsTable (slots_after slots x t) root region u)
only_pointers-after slots memory after x t m step y root region held few =
    let stands = step.agree.roots y root held in
    elim (eqb_tells (root + 4 * region) (m.root + 4 * m.region)) [
      | inl here ↦ inl (ap (word_at after) here.1 ∙ new_word slots memory after x t m step)
      | inr other ↦
          let kept = kept_word slots memory after x t m step root region stands few other.1 in
          elim (step.agree.only_pointers y root region held few) [
            | inl zero ↦ inl (kept ∙ zero)
            | inr maps ↦ inr (
              maps.0,
              table_stays slots memory after x t m step root region maps.0 maps.1 (λ e.
                  let was = gone slots memory after x t m step root region maps.0 maps.1 e in
                  other.1 (omega (arith, was.0, was.1))),
            )
          ]
    ]

only_leaves-after : (slots : Slots) (memory after : List ℕ) (x t : ℕ) (m : TableMapping) → TableRemoval slots memory after x t m →
    (y u : ℕ) (n : TableMapping) (i : ℕ) → capability_at slots y ≡ PageTable u (Some n) → i < 2 ^ 10 →
    (word_at after (u + 4 * i) ≡ 0) ⊎ MapsFrame (slots_after slots x t) n.root (2 ^ 10 * n.region + i)
only_leaves-after slots memory after x t m step y u n i held few =
    let kept = table_word_kept slots memory after x t m step y u i (Some n) held few in
    elim (step.agree.only_leaves y u n i held few) [
      | inl zero ↦ inl (kept ∙ zero)
      | inr maps ↦ inr (frame_stays slots memory after x t m step n.root (2 ^ 10 * n.region + i) maps)
    ]

leaves-after : (slots : Slots) (memory after : List ℕ) (x t : ℕ) (m : TableMapping) → TableRemoval slots memory after x t m →
    (y f : ℕ) (r : Rights) (n : FrameMapping) → capability_at slots y ≡ Frame f r (Some n) → (u : ℕ)
    × MapsTable (slots_after slots x t) n.root (n.page / 2 ^ 10) u × (word_at after (u + 4 * (n.page % 2 ^ 10)) ≡ leaf_word f n.rights.0)
leaves-after slots memory after x t m step y f r n held =
    let leaf = step.agree.leaves y f r n held in (
      leaf.0,
      table_stays slots memory after x t m step n.root (n.page / 2 ^ 10) leaf.0 leaf.1 (λ e.
          let was = gone slots memory after x t m step n.root (n.page / 2 ^ 10) leaf.0 leaf.1 e in
          step.empty y f r n held was.0 was.1),
      table_word_kept slots memory after x t m step leaf.1.slot leaf.0 (n.page % 2 ^ 10) _ leaf.1.held (index_small n.page) ∙ leaf.2,
    )

-- the entries of the table are zero
blank-new : (slots : Slots) (memory after : List ℕ) (x t : ℕ) (m : TableMapping) → TableRemoval slots memory after x t m → (i : ℕ) → i < 2 ^ 10 →
    word_at after (t + 4 * i) ≡ 0
blank-new slots memory after x t m step i few =
    table_word_kept slots memory after x t m step x t i (Some m) step.was few
    ∙ elim (step.agree.only_leaves x t m i step.was few) [
      | inl zero ↦ zero
      | inr maps ↦ absurd (step.empty maps.slot maps.frame maps.frame_rights _ maps.held refl (omega (arith, few)))
    ]

pub agree-table_unmapped : (slots : Slots) (memory after : List ℕ) (x t : ℕ) (m : TableMapping) → TableRemoval slots memory after x t m →
    TablesAgree (slots_after slots x t) after
agree-table_unmapped slots memory after x t m step =
    let size = size-kept slots memory after m.root m.region 0 (root_stands slots memory after x t m step) (few_regions slots memory after x t m step)
    step.same in
    let stay = λ (u : ℕ) (stands : IsTable slots memory u). table-after slots memory after x (PageTable t None) u step.is_open size stands in
    record {
      valid = valid-after slots memory after x t m step;
      roots = λ y u held. stay u (step.agree.roots y u (root_was slots memory after x t m step y u held));
      tables = λ y u o held. let was = table_was slots memory after x t m step y u o held in stay u (step.agree.tables y u was.0 was.1);
      mapped_roots = λ y u n held. stay n.root (step.agree.mapped_roots y u n (mapped_was slots memory after x t m step y u n held).1);
      pointers = λ y u n held. let was = mapped_was slots memory after x t m step y u n held in pointer_kept slots memory after x t m step y u n was.0 was.1;
      frames = λ y f r n held. omega (arith, step.agree.frames y f r n (frame_was slots memory after x t m step y f r (Some n) held), size);
      leaves = λ y f r n held. leaves-after slots memory after x t m step y f r n (frame_was slots memory after x t m step y f r (Some n) held);
      only_pointers = λ y root region held few. only_pointers-after slots memory after x t m step y root region
          (root_was slots memory after x t m step y root held) few;
      only_leaves = λ y u n i held few. only_leaves-after slots memory after x t m step y u n i (mapped_was slots memory after x t m step y u n held).1 few;
      blank = λ y u i held few. elim (before slots memory after x t m step y _ held) [
        | inl new ↦
            let one : t ≡ u = cc (new.1) in
            ap (λ (k : ℕ). word_at after (k + 4 * i)) (sym one) ∙ blank-new slots memory after x t m step i few
        | inr old ↦ table_word_kept slots memory after x t m step y u i None old.1 few ∙ step.agree.blank y u i old.1 few
      ];
      one_table = λ a b u n k ha hb.
          let wa = table_was slots memory after x t m step a u n ha in
          let wb = table_was slots memory after x t m step b u k hb in
          step.agree.one_table a b u wa.0 wb.0 wa.1 wb.1;
      one_frame = λ a b f g r q n k ha hb root page. step.agree.one_frame a b f g r q n k (frame_was slots memory after x t m step a f r (Some n) ha)
          (frame_was slots memory after x t m step b g q (Some k) hb) root page;
      apart = λ a b root u n ha hb.
          let wb = table_was slots memory after x t m step b u n hb in
          step.agree.apart a b root u wb.0 (root_was slots memory after x t m step a root ha) wb.1;
      mapped_apart = λ a b v u n k ha hb.
          let wb = table_was slots memory after x t m step b u k hb in
          step.agree.mapped_apart a b v u n wb.0 (mapped_was slots memory after x t m step a v n ha).1 wb.1;
    }
