-- A frame's capability gets another mapping, and one entry of a page table that is mapped another word.
use Rattle.std.proofs.Common.{◌≡◌, ◌≢◌, ◌∙◌, ℕ, ◌+◌, ◌*◌, ◌/◌, ◌%◌, ◌^◌, ◌<◌, ◌≤◌, ◌⊎◌, inl, inr, Option, Some, None, List, length, refl, sym, ap, subst, arith}
use Rattle.model.specs.Shared.Bytes.{word_at, word_bytes, written}
use Rattle.model.specs.Capabilities.CapabilityWords.{IsCapability}
use Rattle.model.specs.Capabilities.Slots.{SameOutside, Slots, capability_at, recapped}
use Rattle.model.specs.Machine.Sv32.{leaf_word}
use Rattle.model.specs.declared.capabilities.Cap.{Cap}
use Rattle.model.specs.declared.capabilities.Cap.TheVariants.{Frame, PageTable, RootTable}
use Rattle.model.specs.declared.capabilities.FrameMapping.{FrameMapping}
use Rattle.model.specs.declared.capabilities.TableMapping.{TableMapping}
use Rattle.model.specs.declared.rights.Rights.{Rights}
use Rattle.vspace.specs.Tables.{IsTable, MapsFrame, MapsTable, TablesAgree}
use Rattle.vspace.proofs.Steps.{held-before, held-after, table-after, entry-differs, word-kept, size-kept}

pub record FrameStep (slots : Slots) (memory after : List ℕ) (x f : ℕ) (r : Rights) (o c : Option FrameMapping) (table j word : ℕ) (tm : TableMapping) : Type
    0 where
  pub agree : TablesAgree slots memory
  pub was : capability_at slots x ≡ Frame f r o
  pub is_open : slots x ≢ None
  pub fine : IsCapability (Frame f r c)
  pub at_slot : ℕ
  pub at_held : capability_at slots at_slot ≡ PageTable table (Some tm)
  pub few : j < 2 ^ 10
  pub same : SameOutside slots (written memory (table + 4 * j) (word_bytes word)) after

abbrev pub slots_after : Slots → ℕ → ℕ → Rights → Option FrameMapping → Slots
slots_after slots x f r c = recapped slots x (Frame f r c)

pub index_small : (n : ℕ) → n % 2 ^ 10 < 2 ^ 10
index_small n = omega arith

-- the page table that the entry is in
pub table_stands : (slots : Slots) (memory after : List ℕ) (x f : ℕ) (r : Rights) (o c : Option FrameMapping) (table j word : ℕ) (tm : TableMapping) →
    FrameStep slots memory after x f r o c table j word tm → IsTable slots memory table
table_stands slots memory after x f r o c table j word tm step = step.agree.tables step.at_slot _ _ step.at_held

pub size_stays : (slots : Slots) (memory after : List ℕ) (x f : ℕ) (r : Rights) (o c : Option FrameMapping) (table j word : ℕ) (tm : TableMapping) →
    FrameStep slots memory after x f r o c table j word tm → length after ≡ length memory
size_stays slots memory after x f r o c table j word tm step =
    size-kept slots memory after table j word (table_stands slots memory after x f r o c table j word tm step) step.few step.same

-- a table that is another one keeps its words
pub other_word : (slots : Slots) (memory after : List ℕ) (x f : ℕ) (r : Rights) (o c : Option FrameMapping) (table j word : ℕ) (tm : TableMapping) →
    FrameStep slots memory after x f r o c table j word tm → (t i : ℕ) → IsTable slots memory t → i < 2 ^ 10 → t ≢ table →
    word_at after (t + 4 * i) ≡ word_at memory (t + 4 * i)
other_word slots memory after x f r o c table j word tm step t i stands few differ =
    let at = table_stands slots memory after x f r o c table j word tm step in
    word-kept slots memory after t i table j word stands few at step.few (entry-differs t table i j stands.aligned at.aligned few step.few differ) step.same

-- a page table is mapped once
pub one_mapping : (slots : Slots) (memory : List ℕ) → TablesAgree slots memory → (a b table : ℕ) (m n : Option TableMapping) →
    capability_at slots a ≡ PageTable table m → capability_at slots b ≡ PageTable table n → m ≡ n
one_mapping slots memory agree a b table m n ha hb =
    let same = agree.one_table a b table m n ha hb in
    let e : PageTable table m ≡ PageTable table n = sym ha ∙ ap (capability_at slots) same ∙ hb in
    cc

abbrev pub root_or_zero : Option TableMapping → ℕ
root_or_zero None = 0
root_or_zero (Some m) = m.root

abbrev pub region_or_zero : Option TableMapping → ℕ
region_or_zero None = 0
region_or_zero (Some m) = m.region

-- the mapping of a page table stays
pub table_stays : (slots : Slots) (x f : ℕ) (r : Rights) (o : Option FrameMapping) (c : Cap) (root region table : ℕ) → capability_at slots x ≡ Frame f r o →
    MapsTable slots root region table → MapsTable (recapped slots x c) root region table
table_stays slots x f r o c root region table was maps = record {
  slot = maps.slot;
  held = held-after slots x _ c maps.slot _ was maps.held (λ e. cc);
}

pub region_small : (slots : Slots) (memory : List ℕ) → TablesAgree slots memory → (y t : ℕ) (n : TableMapping) → capability_at slots y ≡ PageTable t (Some n) →
    n.region < 2 ^ 10
region_small slots memory agree y t n held =
    let fine : IsCapability (PageTable t (Some n)) = subst (λ (c : Cap). IsCapability c) held (agree.valid y) in
    omega (arith, fine.1.1)

-- ---- what stays of the agreement

valid-kept : (slots : Slots) (memory after : List ℕ) (x f : ℕ) (r : Rights) (o c : Option FrameMapping) (table j word : ℕ) (tm : TableMapping) →
    FrameStep slots memory after x f r o c table j word tm → (y : ℕ) → IsCapability (capability_at (slots_after slots x f r c) y)
valid-kept slots memory after x f r o c table j word tm step y =
    elim (held-before slots x (Frame f r c) y (capability_at (slots_after slots x f r c) y) refl) [
      | inl new ↦ subst (λ (v : Cap). IsCapability v) new.1 step.fine
      | inr old ↦ subst (λ (v : Cap). IsCapability v) old.1 (step.agree.valid y)
    ]

-- a capability that is no frame is an old one
not_new : (slots : Slots) (x f : ℕ) (r : Rights) (o : Option FrameMapping) (y : ℕ) (v : Cap) → v ≢ Frame f r o →
    capability_at (recapped slots x (Frame f r o)) y ≡ v → capability_at slots y ≡ v
not_new slots x f r o y v differ held = elim (held-before slots x (Frame f r o) y v held) [
  | inl new ↦ absurd (differ (sym new.1))
  | inr old ↦ old.1
]

pub root_was : (slots : Slots) (x f : ℕ) (r : Rights) (c : Option FrameMapping) (y t : ℕ) → capability_at (slots_after slots x f r c) y ≡ RootTable t →
    capability_at slots y ≡ RootTable t
root_was slots x f r c y t held = not_new slots x f r c y (RootTable t) (λ e. cc) held

pub table_was : (slots : Slots) (x f : ℕ) (r : Rights) (c : Option FrameMapping) (y t : ℕ) (m : Option TableMapping) →
    capability_at (slots_after slots x f r c) y ≡ PageTable t m → capability_at slots y ≡ PageTable t m
table_was slots x f r c y t m held = not_new slots x f r c y (PageTable t m) (λ e. cc) held

only_pointers-kept : (slots : Slots) (memory after : List ℕ) (x f : ℕ) (r : Rights) (o c : Option FrameMapping) (table j word : ℕ) (tm : TableMapping) →
    FrameStep slots memory after x f r o c table j word tm → (y root region : ℕ) → capability_at slots y ≡ RootTable root → region < 2 ^ 10 →
    (word_at after (root + 4 * region) ≡ 0) ⊎ ((t : ℕ) × MapsTable (slots_after slots x f r c) root region t)
only_pointers-kept slots memory after x f r o c table j word tm step y root region held few =
    let kept = other_word slots memory after x f r o c table j word tm step root region (step.agree.roots y root held) few
    (step.agree.apart y step.at_slot root table _ held step.at_held) in
    elim (step.agree.only_pointers y root region held few) [
      | inl zero ↦ inl (kept ∙ zero)
      | inr maps ↦ inr (maps.0, table_stays slots x f r o (Frame f r c) root region maps.0 step.was maps.1)
    ]

-- what is to be shown of frames that are mapped, and of the leaves
pub record LeavesAgree (slots : Slots) (memory : List ℕ) : Type 0 where
  pub frames : (slot frame : ℕ) (r : Rights) (m : FrameMapping) → capability_at slots slot ≡ Frame frame r (Some m) → frame + 2 ^ 12 ≤ length memory
  pub leaves : (slot frame : ℕ) (r : Rights) (m : FrameMapping) → capability_at slots slot ≡ Frame frame r (Some m)
      → (table : ℕ) × MapsTable slots m.root (m.page / 2 ^ 10) table × (word_at memory (table + 4 * (m.page % 2 ^ 10)) ≡ leaf_word frame m.rights.0)
  pub only_leaves : (slot table : ℕ) (m : TableMapping) (i : ℕ) → capability_at slots slot ≡ PageTable table (Some m) → i < 2 ^ 10
      → (word_at memory (table + 4 * i) ≡ 0) ⊎ MapsFrame slots m.root (2 ^ 10 * m.region + i)
  pub one_frame : (a b f g : ℕ) (r q : Rights) (m n : FrameMapping) → capability_at slots a ≡ Frame f r (Some m) → capability_at slots b ≡ Frame g q (Some n)
      → m.root ≡ n.root → m.page ≡ n.page → a ≡ b

pub agree-after : (slots : Slots) (memory after : List ℕ) (x f : ℕ) (r : Rights) (o c : Option FrameMapping) (table j word : ℕ) (tm : TableMapping) →
    FrameStep slots memory after x f r o c table j word tm → LeavesAgree (slots_after slots x f r c) after → TablesAgree (slots_after slots x f r c) after
agree-after slots memory after x f r o c table j word tm step shown =
    let size = size_stays slots memory after x f r o c table j word tm step in
    let stay = λ (t : ℕ) (stands : IsTable slots memory t). table-after slots memory after x (Frame f r c) t step.is_open size stands in
    let tables = λ (y t : ℕ) (m : Option TableMapping) (held : capability_at (slots_after slots x f r c) y ≡ PageTable t m).
    table_was slots x f r c y t m held in
    let roots = λ (y t : ℕ) (held : capability_at (slots_after slots x f r c) y ≡ RootTable t). root_was slots x f r c y t held in
    record {
      valid = valid-kept slots memory after x f r o c table j word tm step;
      roots = λ y t held. stay t (step.agree.roots y t (roots y t held));
      tables = λ y t m held. stay t (step.agree.tables y t m (tables y t m held));
      mapped_roots = λ y t n held. stay n.root (step.agree.mapped_roots y t n (tables y t (Some n) held));
      pointers = λ y t n held.
          let was = tables y t (Some n) held in
          let region : n.region < 2 ^ 10 = region_small slots memory step.agree y t n was in
          other_word slots memory after x f r o c table j word tm step n.root n.region (step.agree.mapped_roots y t n was) region
          (step.agree.mapped_apart y step.at_slot t table n _ was step.at_held)
          ∙ step.agree.pointers y t n was;
      frames = shown.frames;
      leaves = shown.leaves;
      only_pointers = λ y t region held few. only_pointers-kept slots memory after x f r o c table j word tm step y t region (roots y t held) few;
      only_leaves = shown.only_leaves;
      blank = λ y t i held few.
          let was = tables y t None held in
          other_word slots memory after x f r o c table j word tm step t i (step.agree.tables y t None was) few (λ e.
          let there : capability_at slots y ≡ PageTable table None = was ∙ ap (λ u. PageTable u None) e in
          let same = one_mapping slots memory step.agree y step.at_slot table _ _ there step.at_held in
          cc)
          ∙ step.agree.blank y t i was few;
      one_table = λ a b t n k ha hb. step.agree.one_table a b t n k (tables a t n ha) (tables b t k hb);
      one_frame = shown.one_frame;
      apart = λ a b t u n ha hb. step.agree.apart a b t u n (roots a t ha) (tables b u n hb);
      mapped_apart = λ a b t u n k ha hb. step.agree.mapped_apart a b t u n k (tables a t (Some n) ha) (tables b u k hb);
    }
