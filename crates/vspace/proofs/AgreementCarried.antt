-- Where each table and each mapping of the new slots was in the old ones, and none that is mapped was lost, the
-- tables agree as before.
use Rattle.std.proofs.Common.{◌≡◌, ◌≢◌, ◌∙◌, ℕ, ◌+◌, ◌*◌, ◌/◌, ◌%◌, ◌^◌, ◌<◌, ◌⊎◌, inl, inr, Option, Some, None, IsSome, List, length, refl, sym, subst, arith}
use Rattle.model.specs.Shared.Bytes.{word_at}
use Rattle.model.specs.Capabilities.CapabilityWords.{IsCapability}
use Rattle.model.specs.Capabilities.Slots.{IsOpen, Slots, capability_at}
use Rattle.model.specs.Machine.Sv32.{leaf_word, table_word}
use Rattle.model.specs.declared.capabilities.Cap.TheVariants.{Empty, Frame, PageTable, RootTable}
use Rattle.model.specs.declared.capabilities.FrameMapping.{FrameMapping}
use Rattle.model.specs.declared.capabilities.TableMapping.{TableMapping}
use Rattle.model.specs.declared.rights.Rights.{Rights}
use Rattle.model.specs.declared.slot_entries.Entry.{Entry}
use Rattle.vspace.specs.Kept.{IsNamedTable}
use Rattle.vspace.proofs.Names.{names-mapped_root, names-root, names-table}
use Rattle.vspace.specs.Tables.{Holds, IsTable, MapsFrame, MapsTable, TablesAgree}
use Rattle.vspace.proofs.FrameSteps.{index_small, region_small}

-- an open slot holds something
pub open-some : (slots : Slots) (x : ℕ) → IsOpen slots x → slots x ≢ None
open-some slots x is_open = λ none. let clash : IsOpen (λ s. None) x = subst (λ (held : Option Entry). IsSome held) none is_open in absurd (cc clash)

-- where what the new slots hold of tables and mappings was before
pub record Carries (old new : Slots) : Type 0 where
  pub origin : ℕ → ℕ
  pub one : (a b : ℕ) → capability_at new a ≢ Empty → capability_at new b ≢ Empty → origin a ≡ origin b → a ≡ b
  pub valid : (y : ℕ) → IsCapability (capability_at new y)
  pub roots : (y root : ℕ) → capability_at new y ≡ RootTable root → capability_at old (origin y) ≡ RootTable root
  pub tables : (y table : ℕ) (m : Option TableMapping) → capability_at new y ≡ PageTable table m → capability_at old (origin y) ≡ PageTable table m
  pub frames : (y frame : ℕ) (r : Rights) (m : FrameMapping) → capability_at new y ≡ Frame frame r (Some m) →
      capability_at old (origin y) ≡ Frame frame r (Some m)
  pub kept_tables : (y table : ℕ) (m : TableMapping) → capability_at old y ≡ PageTable table (Some m) → Holds new (PageTable table (Some m))
  pub kept_frames : (y frame : ℕ) (r : Rights) (m : FrameMapping) → capability_at old y ≡ Frame frame r (Some m) → Holds new (Frame frame r (Some m))

-- tables are as before, with the same words
pub record Stays (old new : Slots) (before after : List ℕ) : Type 0 where
  pub size : length after ≡ length before
  pub stands : (table : ℕ) → IsNamedTable old table → IsTable old before table → IsTable new after table
  pub words : (table i : ℕ) → IsNamedTable old table → IsTable old before table → i < 2 ^ 10 → word_at after (table + 4 * i) ≡ word_at before (table + 4 * i)

-- ---- mappings

carried-maps_table : (old new : Slots) → Carries old new → (root region table : ℕ) → MapsTable old root region table → MapsTable new root region table
carried-maps_table old new carry root region table maps =
    let there = carry.kept_tables maps.slot table _ maps.held in
    record { slot = there.0; held = there.1 }

carried-maps_frame : (old new : Slots) → Carries old new → (root page : ℕ) → MapsFrame old root page → MapsFrame new root page
carried-maps_frame old new carry root page maps =
    let there = carry.kept_frames maps.slot maps.frame maps.frame_rights _ maps.held in
    record { slot = there.0; frame = maps.frame; frame_rights = maps.frame_rights; allowed = maps.allowed; held = there.1 }

-- ---- field by field

carried-pointers : (old new : Slots) (before after : List ℕ) → TablesAgree old before → Carries old new → Stays old new before after →
    (y table : ℕ) (m : TableMapping) → capability_at new y ≡ PageTable table (Some m) → word_at after (m.root + 4 * m.region) ≡ table_word table
carried-pointers old new before after agree carry stay y table m held =
    let was = carry.tables y table (Some m) held in
    let few : m.region < 2 ^ 10 = region_small old before agree (carry.origin y) table m was in
    stay.words m.root m.region (names-mapped_root old (carry.origin y) table m was) (agree.mapped_roots (carry.origin y) table m was) few
    ∙ agree.pointers (carry.origin y) table m was

carried-leaves : (old new : Slots) (before after : List ℕ) → TablesAgree old before → Carries old new → Stays old new before after →
    (y frame : ℕ) (r : Rights) (m : FrameMapping) → capability_at new y ≡ Frame frame r (Some m)
    → (table : ℕ) × MapsTable new m.root (m.page / 2 ^ 10) table × (word_at after (table + 4 * (m.page % 2 ^ 10)) ≡ leaf_word frame m.rights.0)
carried-leaves old new before after agree carry stay y frame r m held =
    let leaf = agree.leaves (carry.origin y) frame r m (carry.frames y frame r m held) in
    let at : IsTable old before leaf.0 = agree.tables leaf.1.slot leaf.0 _ leaf.1.held in
    let kept = stay.words leaf.0 (m.page % 2 ^ 10) (names-table old leaf.1.slot leaf.0 _ leaf.1.held) at (index_small m.page) in
    (leaf.0, carried-maps_table old new carry m.root (m.page / 2 ^ 10) leaf.0 leaf.1, kept ∙ leaf.2)

carried-only_pointers : (old new : Slots) (before after : List ℕ) → TablesAgree old before → Carries old new → Stays old new before after →
    (y root region : ℕ) → capability_at new y ≡ RootTable root → region < 2 ^ 10
    → (word_at after (root + 4 * region) ≡ 0) ⊎ ((table : ℕ) × MapsTable new root region table)
carried-only_pointers old new before after agree carry stay y root region held few =
    let was = carry.roots y root held in
    let kept = stay.words root region (names-root old (carry.origin y) root was) (agree.roots (carry.origin y) root was) few in
    elim (agree.only_pointers (carry.origin y) root region was few) [
      | inl zero ↦ inl (kept ∙ zero)
      | inr maps ↦ inr (maps.0, carried-maps_table old new carry root region maps.0 maps.1)
    ]

table-word : (old new : Slots) (before after : List ℕ) → TablesAgree old before → Carries old new → Stays old new before after →
    (y table : ℕ) (m : Option TableMapping) (i : ℕ) → capability_at new y ≡ PageTable table m → i < 2 ^ 10 →
    word_at after (table + 4 * i) ≡ word_at before (table + 4 * i)
table-word old new before after agree carry stay y table m i held few =
    let was = carry.tables y table m held in
    stay.words table i (names-table old (carry.origin y) table m was) (agree.tables (carry.origin y) table m was) few

carried-only_leaves : (old new : Slots) (before after : List ℕ) → TablesAgree old before → Carries old new → Stays old new before after →
    (y table : ℕ) (m : TableMapping) (i : ℕ) → capability_at new y ≡ PageTable table (Some m) → i < 2 ^ 10
    → (word_at after (table + 4 * i) ≡ 0) ⊎ MapsFrame new m.root (2 ^ 10 * m.region + i)
carried-only_leaves old new before after agree carry stay y table m i held few =
    let kept = table-word old new before after agree carry stay y table (Some m) i held few in
    elim (agree.only_leaves (carry.origin y) table m i (carry.tables y table (Some m) held) few) [
      | inl zero ↦ inl (kept ∙ zero)
      | inr maps ↦ inr (carried-maps_frame old new carry m.root (2 ^ 10 * m.region + i) maps)
    ]

carried-one_table : (old new : Slots) (before : List ℕ) → TablesAgree old before → Carries old new → (a b table : ℕ) (m n : Option TableMapping) →
    capability_at new a ≡ PageTable table m → capability_at new b ≡ PageTable table n → a ≡ b
carried-one_table old new before agree carry a b table m n ha hb =
    let same = agree.one_table (carry.origin a) (carry.origin b) table m n (carry.tables a table m ha) (carry.tables b table n hb) in
    carry.one a b (λ e. let clash : PageTable table m ≡ Empty = sym ha ∙ e in cc clash) (λ e. let clash : PageTable table n ≡ Empty = sym hb ∙ e in cc clash)
    same

carried-one_frame : (old new : Slots) (before : List ℕ) → TablesAgree old before → Carries old new → (a b f g : ℕ) (r q : Rights) (m n : FrameMapping) →
    capability_at new a ≡ Frame f r (Some m) → capability_at new b ≡ Frame g q (Some n) → m.root ≡ n.root → m.page ≡ n.page → a ≡ b
carried-one_frame old new before agree carry a b f g r q m n ha hb root page =
    let same = agree.one_frame (carry.origin a) (carry.origin b) f g r q m n (carry.frames a f r m ha) (carry.frames b g q n hb) root page in
    carry.one a b (λ e. let clash : Frame f r (Some m) ≡ Empty = sym ha ∙ e in cc clash) (λ e. let clash : Frame g q (Some n) ≡ Empty = sym hb ∙ e in cc clash)
    same

pub agree-carried : (old new : Slots) (before after : List ℕ) → TablesAgree old before → Carries old new → Stays old new before after → TablesAgree new after
agree-carried old new before after agree carry stay =
    let origin = carry.origin in
    record {
      valid = carry.valid;
      roots = λ y t held. let was = carry.roots y t held in stay.stands t (names-root old (origin y) t was) (agree.roots (origin y) t was);
      tables = λ y t m held. let was = carry.tables y t m held in stay.stands t (names-table old (origin y) t m was) (agree.tables (origin y) t m was);
      mapped_roots = λ y t m held.
          let was = carry.tables y t (Some m) held in
          stay.stands m.root (names-mapped_root old (origin y) t m was) (agree.mapped_roots (origin y) t m was);
      pointers = carried-pointers old new before after agree carry stay;
      frames = λ y f r m held. let fits = agree.frames (origin y) f r m (carry.frames y f r m held) in omega (arith, fits, stay.size);
      leaves = carried-leaves old new before after agree carry stay;
      only_pointers = carried-only_pointers old new before after agree carry stay;
      only_leaves = carried-only_leaves old new before after agree carry stay;
      blank = λ y t i held few. table-word old new before after agree carry stay y t None i held few
          ∙ agree.blank (origin y) t i (carry.tables y t None held) few;
      one_table = carried-one_table old new before agree carry;
      one_frame = carried-one_frame old new before agree carry;
      apart = λ a b t u m ha hb. agree.apart (origin a) (origin b) t u m (carry.roots a t ha) (carry.tables b u m hb);
      mapped_apart = λ a b t u m n ha hb. agree.mapped_apart (origin a) (origin b) t u m n (carry.tables a t (Some m) ha) (carry.tables b u n hb);
    }

-- ---- memory is the same, or at least in the tables

-- no slot was opened
pub stays-closed : (old new : Slots) (memory : List ℕ) → ((y : ℕ) → old y ≡ None → new y ≡ None) → Stays old new memory memory
stays-closed old new memory closed_stay = record {
  size = refl;
  stands = λ table named is. record {
    aligned = is.aligned;
    within = is.within;
    outside = λ place low high. closed_stay (place / 16) (is.outside place low high);
  };
  words = λ table i named is few. refl;
}
