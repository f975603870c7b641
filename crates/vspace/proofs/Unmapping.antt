-- Unmapping a frame keeps the tables and the mappings in agreement.
use Rattle.std.proofs.Common.{◌≡◌, ◌≢◌, ◌∙◌, ℕ, ◌+◌, ◌*◌, ◌/◌, ◌%◌, ◌^◌, ◌<◌, ◌⊎◌, inl, inr, Option, Some, None, List, sym, ap, arith}
use Rattle.std.proofs.lemmas.Bool.Decides.{eqb_tells}
use Rattle.model.specs.Shared.Bytes.{word_at}
use Rattle.model.specs.Capabilities.Slots.{Slots, capability_at}
use Rattle.model.specs.Machine.Sv32.{leaf_word, table_word}
use Rattle.model.specs.declared.capabilities.Cap.TheVariants.{Frame, PageTable}
use Rattle.model.specs.declared.capabilities.FrameMapping.{FrameMapping}
use Rattle.model.specs.declared.capabilities.TableMapping.{TableMapping}
use Rattle.model.specs.declared.rights.Rights.{Rights}
use Rattle.vspace.specs.Tables.{MapsFrame, MapsTable, TablesAgree}
use Rattle.vspace.proofs.Steps.{capability-recapped_other, held-before, entry-one, word-kept, word-new}
use Rattle.vspace.proofs.FrameSteps.{FrameStep, agree-after, index_small, one_mapping, region_or_zero, root_or_zero, size_stays, slots_after, table_stands}
use Rattle.vspace.proofs.FrameSteps.{table_stays, table_was}
use Rattle.vspace.proofs.Mapping.{table_of}

-- A frame that was mapped, at x, is mapped no more, and its leaf is zero then.
pub record UnmapStep (slots : Slots) (memory after : List ℕ) (x f : ℕ) (r : Rights) (m : FrameMapping) (table : ℕ) : Type 0 where
  pub step : FrameStep slots memory after x f r (Some m) None table (m.page % 2 ^ 10) 0 (table_of m)

abbrev frame_root : Option FrameMapping → ℕ
frame_root None = 0
frame_root (Some m) = m.root

abbrev frame_page : Option FrameMapping → ℕ
frame_page None = 0
frame_page (Some m) = m.page

not_unmapped : (slots : Slots) (x f : ℕ) (r : Rights) (y g : ℕ) (q : Rights) (n : FrameMapping) →
    capability_at (slots_after slots x f r None) y ≡ Frame g q (Some n) → (y ≢ x) × (capability_at slots y ≡ Frame g q (Some n))
not_unmapped slots x f r y g q n held = elim (held-before slots x (Frame f r None) y _ held) [
  | inl new ↦ absurd (cc (new.1))
  | inr old ↦ old
]

-- the root table's pointer says which page table it is
table_word-one : (t u : ℕ) → t % 2 ^ 12 ≡ 0 → u % 2 ^ 12 ≡ 0 → table_word t ≡ table_word u → t ≡ u
table_word-one t u a b same = omega (arith, a, b, same)

pub table-one : (slots : Slots) (memory : List ℕ) → TablesAgree slots memory → (a b t u : ℕ) (m n : TableMapping) →
    capability_at slots a ≡ PageTable t (Some m) → capability_at slots b ≡ PageTable u (Some n) → m.root ≡ n.root → m.region ≡ n.region → t ≡ u
table-one slots memory agree a b t u m n ha hb root region =
    let place : m.root + 4 * m.region ≡ n.root + 4 * n.region = omega (arith, root, region) in
    table_word-one t u (agree.tables a t _ ha).aligned (agree.tables b u _ hb).aligned
    (sym (agree.pointers a t m ha) ∙ ap (word_at memory) place ∙ agree.pointers b u n hb)

leaves-kept : (slots : Slots) (memory after : List ℕ) (x f : ℕ) (r : Rights) (m : FrameMapping) (table : ℕ) → UnmapStep slots memory after x f r m table →
    (y g : ℕ) (q : Rights) (n : FrameMapping) → y ≢ x → capability_at slots y ≡ Frame g q (Some n) → (t : ℕ)
    × MapsTable (slots_after slots x f r None) n.root (n.page / 2 ^ 10) t × (word_at after (t + 4 * (n.page % 2 ^ 10)) ≡ leaf_word g n.rights.0)
leaves-kept slots memory after x f r m table step y g q n differ held =
    let leaf = step.step.agree.leaves y g q n held in
    let t = leaf.0 in
    let maps = leaf.1 in
    let stands = step.step.agree.tables maps.slot t _ maps.held in
    let at = table_stands _ _ _ _ _ _ _ _ _ _ _ _ step.step in (
      t,
      table_stays slots x f r (Some m) (Frame f r None) n.root (n.page / 2 ^ 10) t step.step.was maps,
      word-kept slots memory after t (n.page % 2 ^ 10) table (m.page % 2 ^ 10) 0 stands (index_small n.page) at (index_small m.page) (λ e.
          let one = entry-one t table (n.page % 2 ^ 10) (m.page % 2 ^ 10) stands.aligned at.aligned (index_small n.page) (index_small m.page) e in
          let there : capability_at slots maps.slot ≡ PageTable table (Some (record { root = n.root; region = n.page / 2 ^ 10 })) = maps.held
          ∙ ap (λ u. PageTable u (Some (record { root = n.root; region = n.page / 2 ^ 10 }))) one.0 in
          let same = one_mapping slots memory step.step.agree maps.slot step.step.at_slot table _ _ there step.step.at_held in
          let root : n.root ≡ m.root = ap root_or_zero same in
          let region : n.page / 2 ^ 10 ≡ m.page / 2 ^ 10 = ap region_or_zero same in
          differ (step.step.agree.one_frame y x g f q r n m held step.step.was root (omega (arith, region, one.1)))) step.step.same
          ∙ leaf.2,
    )

only_leaves-kept : (slots : Slots) (memory after : List ℕ) (x f : ℕ) (r : Rights) (m : FrameMapping) (table : ℕ) → UnmapStep slots memory after x f r m table →
    (y t : ℕ) (n : TableMapping) (i : ℕ) → capability_at slots y ≡ PageTable t (Some n) → i < 2 ^ 10 →
    (word_at after (t + 4 * i) ≡ 0) ⊎ MapsFrame (slots_after slots x f r None) n.root (2 ^ 10 * n.region + i)
only_leaves-kept slots memory after x f r m table step y t n i held few =
    let stands = step.step.agree.tables y t _ held in
    let at = table_stands _ _ _ _ _ _ _ _ _ _ _ _ step.step in
    elim (eqb_tells (t + 4 * i) (table + 4 * (m.page % 2 ^ 10))) [
      | inl here ↦ inl (ap (word_at after) here.1 ∙ word-new slots memory after table (m.page % 2 ^ 10) 0 (omega arith) at (index_small m.page) step.step.same)
      | inr other ↦
          let kept = word-kept slots memory after t i table (m.page % 2 ^ 10) 0 stands few at (index_small m.page) other.1 step.step.same in
          elim (step.step.agree.only_leaves y t n i held few) [
            | inl zero ↦ inl (kept ∙ zero)
            | inr maps ↦ elim (eqb_tells maps.slot x) [
              | inl same ↦
                  let e : Frame maps.frame maps.frame_rights (Some (record { root = n.root; page = 2 ^ 10 * n.region + i; rights = maps.allowed })) ≡ Frame f r
                  (Some m) = sym maps.held ∙ ap (capability_at slots) same.1 ∙ step.step.was in
                  let mapping : Some (record { root = n.root; page = 2 ^ 10 * n.region + i; rights = maps.allowed }) ≡ Some m = cc in
                  let root : n.root ≡ m.root = ap frame_root mapping in
                  let page : 2 ^ 10 * n.region + i ≡ m.page = ap frame_page mapping in
                  let one = table-one slots memory step.step.agree y step.step.at_slot t table n (table_of m) held step.step.at_held root
                  (omega (arith, page, few)) in
                  absurd (other.1 (omega (arith, one, page, few)))
              | inr apart ↦ inr (record {
                slot = maps.slot;
                frame = maps.frame;
                frame_rights = maps.frame_rights;
                allowed = maps.allowed;
                held = capability-recapped_other slots x (Frame f r None) maps.slot apart.1 ∙ maps.held;
              })
            ]
          ]
    ]

pub agree-unmapped : (slots : Slots) (memory after : List ℕ) (x f : ℕ) (r : Rights) (m : FrameMapping) (table : ℕ) →
    UnmapStep slots memory after x f r m table → TablesAgree (slots_after slots x f r None) after
agree-unmapped slots memory after x f r m table step =
    let size = size_stays _ _ _ _ _ _ _ _ _ _ _ _ step.step in
    agree-after slots memory after x f r (Some m) None table (m.page % 2 ^ 10) 0 (table_of m) step.step (record {
      frames = λ y g q n held. omega (arith, step.step.agree.frames y g q n (not_unmapped slots x f r y g q n held).1, size);
      leaves = λ y g q n held.
          let old = not_unmapped slots x f r y g q n held in
          leaves-kept slots memory after x f r m table step y g q n old.0 old.1;
      only_leaves = λ y t n i held few. only_leaves-kept slots memory after x f r m table step y t n i (table_was slots x f r None y t (Some n) held) few;
      one_frame = λ a b g h p q n k ha hb root page. step.step.agree.one_frame a b g h p q n k (not_unmapped slots x f r a g p n ha).1
          (not_unmapped slots x f r b h q k hb).1 root page;
    })
