-- Page tables that agree with capabilities have the leaves of the frames that capabilities map, and no others.
use Rattle.std.proofs.Common.{ℕ, ◌≡◌, ◌∙◌, ◌+◌, ◌-◌, ◌*◌, ◌/◌, ◌%◌, ◌^◌, ◌<◌, ◌≤◌, ◌==◌, ◌&&◌, ◌||◌, inl, inr, true, false, not, nat_le, if◌then◌else◌, Option}
use Rattle.std.proofs.Common.{Some, None, List, length, refl, sym, ap, subst, arith}
use Rattle.std.proofs.Math.Logic.{∥∥₁_elim, ∥∥₁_map}
use Rattle.std.specs.Coded.{coded_option, coded_ℕ}
use base.Stored.{Coded-set}
use Rattle.std.proofs.lemmas.Bool.Decides.{nat_tests}
use Rattle.packed_slots.specs.cached_slots.Mappings.{IsMapped, LeavesAgree}
use Rattle.model.specs.Capabilities.CapabilityWords.{AreMappingRights, IsCapability}
use Rattle.model.specs.Capabilities.Slots.{Slots}
use Rattle.model.specs.Kernel.State.{State}
use Rattle.model.specs.Machine.Sv32.{◌>>=◌, entry_at, is_leaf, is_valid, leaf_word, page_address, place_of, table_word}
use Rattle.model.specs.Shared.Bytes.{word_at}
use Rattle.model.specs.declared.capabilities.Cap.{Cap}
use Rattle.model.specs.declared.capabilities.Cap.TheVariants.{Frame, RootTable}
use Rattle.objects.specs.Lives.{Parts, state_in}
use Rattle.objects.specs.Tables.{state_of}
use Rattle.user_memory.specs.Views.{IsUsable}
use Rattle.vspace.specs.Tables.{Holds, MapsFrame, MapsTable, TablesAgree}
use Rattle.packed_slots.specs.cached_slots.KeptLeaves.{leaf_of}

-- ---- the entries that the kernel writes

pointer-valid : (table : ℕ) → is_valid (table_word table) ≡ true
pointer-valid table =
    let v : (table_word table / 2 ^ 0 % 2 == 1) ≡ true = grind (arith, nat_tests) in
    let w : (table_word table / 2 ^ 2 % 2 == 1) ≡ false = grind (arith, nat_tests) in
    let r : (table_word table / 2 ^ 1 % 2 == 1) ≡ false = grind (arith, nat_tests) in
    rw (v, w, r) refl

pointer-no_leaf : (table : ℕ) → is_leaf (table_word table) ≡ false
pointer-no_leaf table =
    let r : (table_word table / 2 ^ 1 % 2 == 1) ≡ false = grind (arith, nat_tests) in
    let x : (table_word table / 2 ^ 3 % 2 == 1) ≡ false = grind (arith, nat_tests) in
    rw (r, x) refl

pointer-names : (table : ℕ) → table % 2 ^ 12 ≡ 0 → place_of (page_address (table_word table)) ≡ Some table
pointer-names table aligned =
    let address : page_address (table_word table) ≡ 2 ^ 31 + table = omega arith in
    let above : nat_le (2 ^ 31) (2 ^ 31 + table) ≡ true = grind (arith, nat_tests) in
    let back : 2 ^ 31 + table - 2 ^ 31 ≡ table = omega arith in
    rw (address, above, back) refl

leaf-valid : (frame rights : ℕ) → AreMappingRights rights → is_valid (leaf_word frame rights) ≡ true
leaf-valid frame rights known =
    let v : (leaf_word frame rights / 2 ^ 0 % 2 == 1) ≡ true = grind (arith, nat_tests) in
    let r : leaf_word frame rights / 2 ^ 1 % 2 ≡ rights / 2 % 2 = omega arith in
    let w : leaf_word frame rights / 2 ^ 2 % 2 ≡ rights % 2 = omega arith in
    let known_r : ((rights / 2 % 2 == 1) || not (rights % 2 == 1)) ≡ true = grind (arith, nat_tests) in
    rw (v, r, w) known_r

leaf-leaf : (frame rights : ℕ) → AreMappingRights rights → is_leaf (leaf_word frame rights) ≡ true
leaf-leaf frame rights known =
    let r : leaf_word frame rights / 2 ^ 1 % 2 ≡ rights / 2 % 2 = omega arith in
    let x : leaf_word frame rights / 2 ^ 3 % 2 ≡ rights / 4 % 2 = omega arith in
    let known_x : ((rights / 2 % 2 == 1) || (rights / 4 % 2 == 1)) ≡ true = grind (arith, nat_tests) in
    rw (r, x) known_x

-- ---- the entries that memory has

entry-there : (memory : List ℕ) (table number entry : ℕ) → table + 4 * number + 4 ≤ length memory → word_at memory (table + 4 * number) ≡ entry →
    is_valid entry ≡ true
    → entry_at memory table number ≡ Some entry
unfolding entry_at
entry-there memory table number entry fits is valid =
    let inside : nat_le (table + 4 * number + 4) (length memory) ≡ true = grind (arith, nat_tests) in
    rw (inside, is, valid) refl

entry-none : (memory : List ℕ) (table number : ℕ) → word_at memory (table + 4 * number) ≡ 0 → entry_at memory table number ≡ None
unfolding entry_at
entry-none memory table number is =
    elim (nat_le (table + 4 * number + 4) (length memory))
    as (λ b. (if b && is_valid (word_at memory (table + 4 * number)) then Some (word_at memory (table + 4 * number)) else None) ≡ None) [
      | true ↦ rw is refl
      | false ↦ refl
    ]

-- ---- the leaf of a page

abbrev if_leaf : ℕ → Option ℕ
if_leaf last = if is_leaf last then Some last else None

no-region : (memory : List ℕ) (root page : ℕ) → entry_at memory root (page / 2 ^ 10) ≡ None → leaf_of memory root page ≡ None
unfolding leaf_of
no-region memory root page none = rw none refl

in-region : (memory : List ℕ) (root page table : ℕ) → entry_at memory root (page / 2 ^ 10) ≡ Some (table_word table) → table % 2 ^ 12 ≡ 0
    → leaf_of memory root page ≡ (entry_at memory table (page % 2 ^ 10) >>= if_leaf)
unfolding leaf_of
in-region memory root page table there aligned = rw (there, pointer-no_leaf table, pointer-names table aligned) refl

module _ (slots : Slots) (memory : List ℕ) (agree : TablesAgree slots memory) where
  -- by the table that a capability maps for its region
  through-table : (root page table : ℕ) → page < 2 ^ 20 → MapsTable slots root (page / 2 ^ 10) table
      → leaf_of memory root page ≡ (entry_at memory table (page % 2 ^ 10) >>= if_leaf)
  through-table root page table near maps =
      let top = agree.mapped_roots maps.slot table _ maps.held in
      let stands = agree.tables maps.slot table _ maps.held in
      in-region memory root page table
      (entry-there memory root (page / 2 ^ 10) (table_word table) (omega (arith, top.within, near)) (agree.pointers maps.slot table _ maps.held)
      (pointer-valid table))
      stands.aligned

  leaf-mapped : (root page leaf : ℕ) → IsMapped slots root page leaf → leaf_of memory root page ≡ Some leaf
  leaf-mapped root page leaf m =
      let slot = m.maps.slot in
      let rights = m.maps.frame_rights in
      let held = m.maps.capability in
      let fine : IsCapability (Frame m.frame rights (Some (record { root = root; page = page; rights = m.allowed }))) =
      subst (λ (c : Cap). IsCapability c) held (agree.valid slot) in
      let near : page < 2 ^ 20 = omega (arith, fine.2.1) in
      let known = fine.2.2 in
      let there = agree.leaves slot m.frame rights _ held in
      let table = there.0 in
      let stands = agree.tables there.1.slot table _ there.1.held in
      let word = leaf_word m.frame m.allowed.0 in
      through-table root page table near there.1
      ∙ ap (λ o. o >>= if_leaf) (entry-there memory table (page % 2 ^ 10) word (omega (arith, stands.within)) there.2 (leaf-valid m.frame m.allowed.0 known))
      ∙ ap (λ b. if b then Some word else None) (leaf-leaf m.frame m.allowed.0 known)
      ∙ ap (λ w. Some w) (sym m.word)

  frame-mapped : (root page : ℕ) (maps : MapsFrame slots root page) → IsMapped slots root page (leaf_word maps.frame maps.allowed.0)
  frame-mapped root page maps = record {
    frame = maps.frame;
    allowed = maps.allowed;
    maps = record { slot = maps.slot; frame_rights = maps.frame_rights; capability = maps.held };
    word = refl;
  }

  -- the leaf of a page is that of the frame that is mapped there
  its-frame : (root page leaf : ℕ) → leaf_of memory root page ≡ Some leaf → MapsFrame slots root page → IsMapped slots root page leaf
  its-frame root page leaf is maps =
      let own = leaf-mapped root page (leaf_word maps.frame maps.allowed.0) (frame-mapped root page maps) in
      let both : Some (leaf_word maps.frame maps.allowed.0) ≡ Some leaf = sym own ∙ is in
      let same : leaf_word maps.frame maps.allowed.0 ≡ leaf = cc in
      subst (λ w. IsMapped slots root page w) same (frame-mapped root page maps)

  no-leaf : (leaf : ℕ) {A : Type 0} (o : Option ℕ) → o ≡ None → o ≡ Some leaf → A
  no-leaf leaf o none some = absurd (let clash : None ≡ Some leaf = sym none ∙ some in cc)

  in-table : (root page leaf table : ℕ) → page < 2 ^ 20 → MapsTable slots root (page / 2 ^ 10) table → leaf_of memory root page ≡ Some leaf →
      IsMapped slots root page leaf
  in-table root page leaf table near maps is = elim (agree.only_leaves maps.slot table _ (page % 2 ^ 10) maps.held (omega arith)) [
    | inl blank ↦
        no-leaf leaf (leaf_of memory root page)
        (through-table root page table near maps ∙ ap (λ o. o >>= if_leaf) (entry-none memory table (page % 2 ^ 10) blank)) is
    | inr frame ↦ its-frame root page leaf is
        (subst (λ p. MapsFrame slots root p) (let e : 2 ^ 10 * (page / 2 ^ 10) + page % 2 ^ 10 ≡ page = omega arith in e) frame)
  ]

  mapped-leaf : (root page leaf : ℕ) → Holds slots (RootTable root) → page < 2 ^ 20 → leaf_of memory root page ≡ Some leaf → IsMapped slots root page leaf
  mapped-leaf root page leaf rooted near is = elim (agree.only_pointers rooted.0 root (page / 2 ^ 10) rooted.1 (omega (arith, near))) [
    | inl blank ↦ no-leaf leaf (leaf_of memory root page) (no-region memory root page (entry-none memory root (page / 2 ^ 10) blank)) is
    | inr maps ↦ in-table root page leaf maps.0 near maps.1 is
  ]

-- memory under a root table has the leaves that are mapped, and no others
pub usable-leaves : (s : State) (memory : List ℕ) (root : Option ℕ) (table : ℕ) → ∥ IsUsable s memory root ∥₁ → root ≡ Some table →
    LeavesAgree s.slots memory table
usable-leaves s memory root table usable is = record {
  leaves = λ top page leaf m. ∥∥₁_elim usable (Coded-set (coded_option coded_ℕ) _ _) (λ u. leaf-mapped s.slots memory u.agrees.tables top page leaf m);
  only = λ page leaf near found. ∥∥₁_map usable (λ u. mapped-leaf s.slots memory u.agrees.tables table page leaf (u.rooted table is) near found);
}

-- and so has that of a kernel
pub kernel-leaves : {S : Type 0} (slots : S → Slots) (memory : S → List ℕ) (root : Option ℕ) (table : ℕ) {parts kernel : Parts S} → parts ≡ kernel
    → ∥ IsUsable (state_in slots memory kernel) (memory kernel.store) root ∥₁ → root ≡ Some table → LeavesAgree (slots parts.store) (memory parts.store) table
unfolding state_of
kernel-leaves slots memory root table {parts} {kernel} same usable is =
    subst (λ k. LeavesAgree (slots k.store) (memory k.store) table) (sym same)
    (usable-leaves (state_in slots memory kernel) (memory kernel.store) root table usable is)
