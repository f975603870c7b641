-- What the entries of a region's page table say of the frames that are mapped in the region.
use Rattle.std.proofs.Common.{◌≡◌, ◌≢◌, ◌∙◌, ℕ, ◌+◌, ◌-◌, ◌*◌, ◌/◌, ◌%◌, ◌^◌, ◌<◌, inl, inr, true, false, Option, Some, None, List, refl, sym, ap, subst, arith}
use Rattle.std.specs.Prelude.{nat_le}
use Rattle.std.proofs.lemmas.Bool.{eq-eqb}
use Rattle.std.proofs.lemmas.Bool.Decides.{eqb_tells, nat_tests}
use Rattle.model.specs.Shared.Bytes.{word_at}
use Rattle.model.specs.Capabilities.CapabilityKinds.{names_object}
use Rattle.model.specs.Capabilities.CapabilityWords.{IsPlace}
use Rattle.model.specs.Capabilities.Slots.{Slots, capability_at}
use Rattle.model.specs.Kernel.MappingCalls.{lies_in_region}
use Rattle.model.specs.Machine.Sv32.{leaf_word, page_address, place_of}
use Rattle.model.specs.declared.capabilities.Cap.{Cap}
use Rattle.model.specs.declared.capabilities.Cap.TheVariants.{Empty, Untyped, Endpoint, Notification, CNode, Frame, PageTable, Tcb, RootTable, InterruptControl}
use Rattle.model.specs.declared.capabilities.Cap.TheVariants.{InterruptHandler}
use Rattle.model.specs.declared.capabilities.FrameMapping.{FrameMapping}
use Rattle.model.specs.declared.capabilities.TableMapping.{TableMapping}
use Rattle.model.specs.declared.rights.Rights.{Rights}
use Rattle.slots.specs.Listed.{is_naming}
use Rattle.vspace.specs.Regions.{goes_along}
use Rattle.vspace.specs.declared.extents.Extent.{Extent}
use Rattle.vspace.specs.Tables.{MapsFrame, MapsTable, TablesAgree}
use Rattle.vspace.proofs.EndedTables.{stands-here}
use Rattle.vspace.proofs.LostMappings.{IsLess, less-frame}
use Rattle.vspace.proofs.Sweeps.{along-region}
use Rattle.vspace.proofs.Taken.{page-leaf}
use Rattle.vspace.proofs.Writes.{frame-place}

-- a leaf names its frame
leaf-place : (f rights : ℕ) → f % 2 ^ 12 ≡ 0 → place_of (page_address (leaf_word f rights)) ≡ Some f
leaf-place f rights aligned =
    let address : page_address (leaf_word f rights) ≡ 2 ^ 31 + f = omega arith in
    let above : nat_le (2 ^ 31) (2 ^ 31 + f) ≡ true = grind (arith, nat_tests) in
    let back : 2 ^ 31 + f - 2 ^ 31 ≡ f = omega arith in
    rw (address, above, back) refl

-- a frame is mapped at an entry of a region's page table
abbrev pub MapsEntry : Slots → TableMapping → ℕ → Type 0
MapsEntry slots m i = MapsFrame slots m.root (2 ^ 10 * m.region + i)

abbrev mapped_at : TableMapping → ℕ → Rights → FrameMapping
mapped_at m i allowed = record { root = m.root; page = 2 ^ 10 * m.region + i; rights = allowed }

entry-inside : (slots : Slots) (m : TableMapping) (i : ℕ) → i < 2 ^ 10 → (maps : MapsEntry slots m i) →
    lies_in_region m (Frame maps.frame maps.frame_rights (Some (mapped_at m i maps.allowed))) ≡ true
entry-inside slots m i few maps = stands-here m maps.frame maps.frame_rights (mapped_at m i maps.allowed) refl (omega (arith, few))

module _ (slots : Slots) (memory : List ℕ) (agree : TablesAgree slots memory) (x table : ℕ) (m : TableMapping)
    (held : capability_at slots x ≡ PageTable table (Some m)) (i : ℕ) (few : i < 2 ^ 10) where
  pub entry-leaf : (maps : MapsEntry slots m i) → word_at memory (table + 4 * i) ≡ leaf_word maps.frame maps.allowed.0
  entry-leaf maps =
      let page : ℕ = 2 ^ 10 * m.region + i in
      let region : m.region ≡ page / 2 ^ 10 = omega (arith, few) in
      let here : page % 2 ^ 10 ≡ i = omega (arith, few) in
      let over : MapsTable slots m.root (page / 2 ^ 10) table =
      record { slot = x; held = held ∙ ap (λ (n : ℕ). PageTable table (Some (record { root = m.root; region = n }))) region } in
      sym (ap (λ (n : ℕ). word_at memory (table + 4 * n)) here)
      ∙ page-leaf slots memory m.root page table agree over maps.slot maps.frame maps.frame_rights maps.allowed maps.held

  -- the frame that is read is the one that is mapped
  pub entry-names : (word : ℕ) → word ≡ word_at memory (table + 4 * i) → (maps : MapsEntry slots m i) → (word ≢ 0)
      × (place_of (page_address word) ≡ Some maps.frame)
  entry-names word is maps =
      let leaf : word ≡ leaf_word maps.frame maps.allowed.0 = is ∙ entry-leaf maps in (
        λ zero. omega (arith, zero, leaf),
        ap (λ (w : ℕ). place_of (page_address w)) leaf ∙ leaf-place maps.frame maps.allowed.0
            (frame-place slots memory maps.slot maps.frame maps.frame_rights _ agree maps.held).0.0,
      )

  pub entry-place : (word found : ℕ) → word ≡ word_at memory (table + 4 * i) → word ≢ 0 → place_of (page_address word) ≡ Some found → IsPlace found 12
  entry-place word found is some names = elim (agree.only_leaves x table m i held few) [
    | inl zero ↦ absurd (some (is ∙ zero))
    | inr maps ↦
        let there = (entry-names word is maps).1 in
        let one : maps.frame ≡ found = cc in
        subst (λ (f : ℕ). IsPlace f 12) one (frame-place slots memory maps.slot maps.frame maps.frame_rights _ agree maps.held).0
  ]

-- ---- clearing one entry after another

module _ (old now : Slots) (m : TableMapping) (less : IsLess old now) where
  -- what is mapped at an entry was mapped there before
  entry-before : (i : ℕ) (maps : MapsEntry now m i) → MapsEntry old m i
  entry-before i maps = record {
    slot = maps.slot;
    frame = maps.frame;
    frame_rights = maps.frame_rights;
    allowed = maps.allowed;
    held = less-frame old now less maps.slot maps.frame maps.frame_rights _ maps.held;
  }

  pub entry-found : (i : ℕ) (result : Option ℕ) → ((maps : MapsEntry old m i) → result ≡ Some maps.frame) → (maps : MapsEntry now m i) →
      result ≡ Some maps.frame
  unfolding entry-before
  entry-found i result found maps = found (entry-before i maps)

  pub entries-next : (number : ℕ) → ((i : ℕ) → i < number → MapsEntry old m i → ⊥) → (MapsEntry now m number → ⊥) → (i : ℕ) → i < number + 1 →
      MapsEntry now m i → ⊥
  entries-next number before here i below maps = elim (eqb_tells i number) [
    | inl same ↦ here (subst (λ (n : ℕ). MapsEntry now m n) same.1 maps)
    | inr other ↦ before i (omega (arith, below, other.1)) (entry-before i maps)
  ]

-- the capability that is mapped at an entry names its frame, and lies in the region
pub entry-naming : (slots : Slots) (m : TableMapping) (i frame : ℕ) (maps : MapsEntry slots m i) → frame ≡ maps.frame → is_naming slots frame maps.slot ≡ true
entry-naming slots m i frame maps same = ap (names_object frame) maps.held ∙ eq-eqb maps.frame frame (sym same)

pub entry-free : (slots : Slots) (extent : Extent) (m : TableMapping) (i : ℕ) → i < 2 ^ 10 → (maps : MapsEntry slots m i) →
    goes_along extent m (capability_at slots maps.slot) ≡ false → ⊥
entry-free slots extent m i few maps stays =
    let along = along-region extent m (capability_at slots maps.slot) (ap (lies_in_region m) maps.held ∙ entry-inside slots m i few maps) in
    let clash : true ≡ false = sym along ∙ stays in
    absurd cc

-- where no entry is left none lies in the region
module _ (slots : Slots) (m : TableMapping) (none : (i : ℕ) → i < 2 ^ 10 → MapsEntry slots m i → ⊥) where
  frame-outside : (y f : ℕ) (r : Rights) (k : FrameMapping) → capability_at slots y ≡ Frame f r (Some k) → lies_in_region m (Frame f r (Some k)) ≡ false
  frame-outside y f r k held = elim (eqb_tells k.root m.root) [
    | inl a ↦ elim (eqb_tells (k.page / 2 ^ 10) m.region) [
      | inl b ↦
          let page : k.page ≡ 2 ^ 10 * m.region + k.page % 2 ^ 10 = omega (arith, b.1) in
          absurd (none (k.page % 2 ^ 10) (omega arith) (record {
            slot = y;
            frame = f;
            frame_rights = r;
            allowed = k.rights;
            held = held
                ∙ ap (λ (n : ℕ). Frame f r (Some (record { root = n; page = k.page; rights = k.rights }))) a.1
                ∙ ap (λ (n : ℕ). Frame f r (Some (record { root = m.root; page = n; rights = k.rights }))) page;
          }))
      | inr b ↦ rw (a.0, b.0) refl
    ]
    | inr a ↦ rw a.0 refl
  ]

  cap-outside : (y : ℕ) (c : Cap) → capability_at slots y ≡ c → lies_in_region m c ≡ false
  cap-outside y (Frame f r (Some k)) held = frame-outside y f r k held
  cap-outside y (Frame f r None) held = refl
  cap-outside y (PageTable _ _) held = refl
  cap-outside y Empty held = refl
  cap-outside y (Untyped _ _ _) held = refl
  cap-outside y (Endpoint _ _ _) held = refl
  cap-outside y (Notification _ _ _) held = refl
  cap-outside y (CNode _ _ _) held = refl
  cap-outside y (Tcb _) held = refl
  cap-outside y (RootTable _) held = refl
  cap-outside y InterruptControl held = refl
  cap-outside y (InterruptHandler _) held = refl

  pub none-inside : (y : ℕ) → lies_in_region m (capability_at slots y) ≡ false
  none-inside y = cap-outside y (capability_at slots y) refl
