-- Mapping a frame keeps the tables and the mappings in agreement.
use Rattle.std.proofs.Common.{◌≡◌, ◌∙◌, ℕ, ◌+◌, ◌*◌, ◌/◌, ◌%◌, ◌^◌, ◌<◌, ◌≤◌, ◌⊎◌, inl, inr, true, false, Some, None, List, length, refl, sym, ap, subst, arith}
use Rattle.std.proofs.lemmas.Bool.{eq-eqb}
use Rattle.std.proofs.lemmas.Bool.Decides.{eqb_tells}
use Rattle.model.specs.Kernel.AddressSpaces.{maps_page}
use Rattle.model.specs.Shared.Bytes.{word_at}
use Rattle.model.specs.Capabilities.Slots.{Slots, capability_at, recapped}
use Rattle.model.specs.Machine.Sv32.{leaf_word}
use Rattle.model.specs.declared.capabilities.Cap.{Cap}
use Rattle.model.specs.declared.capabilities.Cap.TheVariants.{Frame, PageTable}
use Rattle.model.specs.declared.capabilities.FrameMapping.{FrameMapping}
use Rattle.model.specs.declared.capabilities.TableMapping.{TableMapping}
use Rattle.model.specs.declared.rights.Rights.{Rights}
use Rattle.vspace.specs.Tables.{MapsFrame, MapsTable, TablesAgree}
use Rattle.vspace.proofs.Steps.{capability-recapped_same, held-before, held-after, entry-one, word-kept, word-new}
use Rattle.vspace.proofs.FrameSteps.{FrameStep, agree-after, index_small, one_mapping, region_or_zero, root_or_zero, size_stays, slots_after, table_stands}
use Rattle.vspace.proofs.FrameSteps.{table_stays, table_was}

abbrev pub table_of : FrameMapping → TableMapping
table_of m = record { root = m.root; region = m.page / 2 ^ 10 }

-- A frame that was not mapped, at x, is mapped at a free page, whose table has the leaf then.
pub record MapStep (slots : Slots) (memory after : List ℕ) (x f : ℕ) (r : Rights) (m : FrameMapping) (table : ℕ) : Type 0 where
  pub step : FrameStep slots memory after x f r None (Some m) table (m.page % 2 ^ 10) (leaf_word f m.rights.0) (table_of m)
  pub fits : f + 2 ^ 12 ≤ length memory
  pub free : (slot : ℕ) → maps_page m.root m.page (capability_at slots slot) ≡ false
  pub small : leaf_word f m.rights.0 < 2 ^ 32

maps_page-own : (f : ℕ) (r : Rights) (n : FrameMapping) (root page : ℕ) → n.root ≡ root → n.page ≡ page → maps_page root page (Frame f r (Some n)) ≡ true
maps_page-own f r n root page a b = rw (eq-eqb n.root root a, eq-eqb n.page page b) refl

-- no other capability maps the page
not_elsewhere : (slots : Slots) (memory after : List ℕ) (x f : ℕ) (r : Rights) (m : FrameMapping) (table : ℕ) → MapStep slots memory after x f r m table →
    (y g : ℕ) (q : Rights) (n : FrameMapping) → capability_at slots y ≡ Frame g q (Some n) → n.root ≡ m.root → n.page ≡ m.page → ⊥
not_elsewhere slots memory after x f r m table step y g q n held a b =
    let yes : maps_page m.root m.page (capability_at slots y) ≡ true = ap (maps_page m.root m.page) held ∙ maps_page-own g q n m.root m.page a b in
    let no = step.free y in
    cc

frame_stays : (slots : Slots) (x f : ℕ) (r : Rights) (c : Cap) (root page : ℕ) → capability_at slots x ≡ Frame f r None → MapsFrame slots root page →
    MapsFrame (recapped slots x c) root page
frame_stays slots x f r c root page was maps = record {
  slot = maps.slot;
  frame = maps.frame;
  frame_rights = maps.frame_rights;
  allowed = maps.allowed;
  held = held-after slots x _ c maps.slot _ was maps.held (λ e. cc);
}

own_table : (slots : Slots) (memory after : List ℕ) (x f : ℕ) (r : Rights) (m : FrameMapping) (table : ℕ) → MapStep slots memory after x f r m table →
    MapsTable slots m.root (m.page / 2 ^ 10) table
own_table slots memory after x f r m table step = record { slot = step.step.at_slot; held = step.step.at_held }

leaves-new : (slots2 : Slots) (after : List ℕ) (f g : ℕ) (r q : Rights) (m n : FrameMapping) (table : ℕ) → Frame f r (Some m) ≡ Frame g q (Some n) →
    MapsTable slots2 m.root (m.page / 2 ^ 10) table → word_at after (table + 4 * (m.page % 2 ^ 10)) ≡ leaf_word f m.rights.0 → (t : ℕ)
    × MapsTable slots2 n.root (n.page / 2 ^ 10) t × (word_at after (t + 4 * (n.page % 2 ^ 10)) ≡ leaf_word g n.rights.0)
leaves-new slots2 after f g r q m n table e maps is =
    let same_mapping : m ≡ n = cc in
    let same_frame : f ≡ g = cc in
    let P : FrameMapping → ℕ → Type 0 = λ k h. (t : ℕ) × MapsTable slots2 k.root (k.page / 2 ^ 10) t
    × (word_at after (t + 4 * (k.page % 2 ^ 10)) ≡ leaf_word h k.rights.0) in
    subst (P n) same_frame (subst (λ (k : FrameMapping). P k f) same_mapping (table, maps, is))

leaves-old : (slots : Slots) (memory after : List ℕ) (x f : ℕ) (r : Rights) (m : FrameMapping) (table : ℕ) → MapStep slots memory after x f r m table →
    (y g : ℕ) (q : Rights) (n : FrameMapping) → capability_at slots y ≡ Frame g q (Some n) → (t : ℕ)
    × MapsTable (slots_after slots x f r (Some m)) n.root (n.page / 2 ^ 10) t × (word_at after (t + 4 * (n.page % 2 ^ 10)) ≡ leaf_word g n.rights.0)
leaves-old slots memory after x f r m table step y g q n held =
    let leaf = step.step.agree.leaves y g q n held in
    let t = leaf.0 in
    let maps = leaf.1 in
    let stands = step.step.agree.tables maps.slot t _ maps.held in
    let at = table_stands _ _ _ _ _ _ _ _ _ _ _ _ step.step in (
      t,
      table_stays slots x f r None (Frame f r (Some m)) n.root (n.page / 2 ^ 10) t step.step.was maps,
      word-kept slots memory after t (n.page % 2 ^ 10) table (m.page % 2 ^ 10) _ stands (index_small n.page) at (index_small m.page) (λ e.
          let one = entry-one t table (n.page % 2 ^ 10) (m.page % 2 ^ 10) stands.aligned at.aligned (index_small n.page) (index_small m.page) e in
          let there : capability_at slots maps.slot ≡ PageTable table (Some (record { root = n.root; region = n.page / 2 ^ 10 })) = maps.held
          ∙ ap (λ u. PageTable u (Some (record { root = n.root; region = n.page / 2 ^ 10 }))) one.0 in
          let same = one_mapping slots memory step.step.agree maps.slot step.step.at_slot table _ _ there step.step.at_held in
          let root : n.root ≡ m.root = ap root_or_zero same in
          let region : n.page / 2 ^ 10 ≡ m.page / 2 ^ 10 = ap region_or_zero same in
          not_elsewhere slots memory after x f r m table step y g q n held root (omega (arith, region, one.1))) step.step.same
          ∙ leaf.2,
    )

-- the entries of a page table that is mapped
only_leaves-old : (slots : Slots) (memory after : List ℕ) (x f : ℕ) (r : Rights) (m : FrameMapping) (table : ℕ) → MapStep slots memory after x f r m table →
    (y t : ℕ) (n : TableMapping) (i : ℕ) → capability_at slots y ≡ PageTable t (Some n) → i < 2 ^ 10 →
    (word_at after (t + 4 * i) ≡ 0) ⊎ MapsFrame (slots_after slots x f r (Some m)) n.root (2 ^ 10 * n.region + i)
only_leaves-old slots memory after x f r m table step y t n i held few =
    let stands = step.step.agree.tables y t _ held in
    let at = table_stands _ _ _ _ _ _ _ _ _ _ _ _ step.step in
    elim (eqb_tells (t + 4 * i) (table + 4 * (m.page % 2 ^ 10))) [
      | inl here ↦
          let one = entry-one t table i (m.page % 2 ^ 10) stands.aligned at.aligned few (index_small m.page) here.1 in
          let there : capability_at slots y ≡ PageTable table (Some n) = held ∙ ap (λ u. PageTable u (Some n)) one.0 in
          let same = one_mapping slots memory step.step.agree y step.step.at_slot table _ _ there step.step.at_held in
          let root : m.root ≡ n.root = sym (ap root_or_zero same) in
          let region : n.region ≡ m.page / 2 ^ 10 = ap region_or_zero same in
          let page : m.page ≡ 2 ^ 10 * n.region + i = omega (arith, region, one.1) in
          let new : MapsFrame (slots_after slots x f r (Some m)) m.root m.page = record {
            slot = x;
            frame = f;
            frame_rights = r;
            allowed = m.rights;
            held = capability-recapped_same slots x (Frame f r (Some m));
          } in
          inr (subst (λ (k : ℕ). MapsFrame (slots_after slots x f r (Some m)) n.root k) page
          (subst (λ (k : ℕ). MapsFrame (slots_after slots x f r (Some m)) k m.page) root new))
      | inr other ↦
          let kept = word-kept slots memory after t i table (m.page % 2 ^ 10) _ stands few at (index_small m.page) other.1 step.step.same in
          elim (step.step.agree.only_leaves y t n i held few) [
            | inl zero ↦ inl (kept ∙ zero)
            | inr maps ↦ inr (frame_stays slots x f r (Frame f r (Some m)) n.root (2 ^ 10 * n.region + i) step.step.was maps)
          ]
    ]

one_frame-new : (slots : Slots) (memory after : List ℕ) (x f : ℕ) (r : Rights) (m : FrameMapping) (table : ℕ) → MapStep slots memory after x f r m table →
    (a b g h : ℕ) (p q : Rights) (n k : FrameMapping) → capability_at (slots_after slots x f r (Some m)) a ≡ Frame g p (Some n) →
    capability_at (slots_after slots x f r (Some m)) b ≡ Frame h q (Some k) → n.root ≡ k.root → n.page ≡ k.page → a ≡ b
one_frame-new slots memory after x f r m table step a b g h p q n k ha hb root page =
    elim (held-before slots x (Frame f r (Some m)) a _ ha) [
      | inl na ↦ elim (held-before slots x (Frame f r (Some m)) b _ hb) [
        | inl nb ↦ na.0 ∙ sym nb.0
        | inr ob ↦
            let same : m ≡ n = cc (na.1) in
            absurd (not_elsewhere slots memory after x f r m table step b h q k ob.1 (sym (ap (λ o. o.root) same ∙ root)) (sym (ap (λ o. o.page) same ∙ page)))
      ]
      | inr oa ↦ elim (held-before slots x (Frame f r (Some m)) b _ hb) [
        | inl nb ↦
            let same : m ≡ k = cc (nb.1) in
            absurd (not_elsewhere slots memory after x f r m table step a g p n oa.1 (root ∙ sym (ap (λ o. o.root) same)) (page ∙ sym (ap (λ o. o.page) same)))
        | inr ob ↦ step.step.agree.one_frame a b g h p q n k oa.1 ob.1 root page
      ]
    ]

pub agree-mapped : (slots : Slots) (memory after : List ℕ) (x f : ℕ) (r : Rights) (m : FrameMapping) (table : ℕ) → MapStep slots memory after x f r m table →
    TablesAgree (slots_after slots x f r (Some m)) after
agree-mapped slots memory after x f r m table step =
    let size = size_stays _ _ _ _ _ _ _ _ _ _ _ _ step.step in
    let at = table_stands _ _ _ _ _ _ _ _ _ _ _ _ step.step in
    agree-after slots memory after x f r None (Some m) table (m.page % 2 ^ 10) (leaf_word f m.rights.0) (table_of m) step.step (record {
      frames = λ y g q n held. elim (held-before slots x (Frame f r (Some m)) y _ held) [
        | inl new ↦ let same : f ≡ g = cc (new.1) in omega (arith, step.fits, size, same)
        | inr old ↦ omega (arith, step.step.agree.frames y g q n old.1, size)
      ];
      leaves = λ y g q n held. elim (held-before slots x (Frame f r (Some m)) y _ held) [
        | inl new ↦ leaves-new (slots_after slots x f r (Some m)) after f g r q m n table new.1
            (table_stays slots x f r None (Frame f r (Some m)) m.root (m.page / 2 ^ 10) table step.step.was (own_table slots memory after x f r m table step))
            (word-new slots memory after table (m.page % 2 ^ 10) _ step.small at (index_small m.page) step.step.same)
        | inr old ↦ leaves-old slots memory after x f r m table step y g q n old.1
      ];
      only_leaves = λ y t n i held few. only_leaves-old slots memory after x f r m table step y t n i (table_was slots x f r (Some m) y t (Some n) held) few;
      one_frame = one_frame-new slots memory after x f r m table step;
    })
