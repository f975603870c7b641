-- A new object leaves the page tables and the mappings in agreement: its slots are opened or its page is zeroed, it begins,
-- and its capability is put.
use Rattle.std.proofs.Common.{ℕ, ◌≡◌, ◌∙◌, ◌+◌, ◌*◌, ◌/◌, ◌%◌, ◌^◌, ◌<◌, ◌≤◌, ◌⊎◌, inl, inr, true, false, Option, Some, None, List, length, refl, sym, ap}
use Rattle.std.proofs.Common.{subst, arith}
use Rattle.std.specs.Prelude.{slice_index}
use Rattle.model.specs.Capabilities.CapabilityWords.{IsCapability}
use Rattle.model.specs.Capabilities.Slots.{SameOutside, Slots, capability_at}
use Rattle.model.specs.Kernel.AddressSpaces.{page_size}
use Rattle.model.specs.Kernel.Kinds.{kind_at}
use Rattle.model.specs.Kernel.Removal.{slot_count}
use Rattle.model.specs.Kernel.Retype.{NewObject, NewUntyped, NewThread, NewEndpoint, NewNotification, NewCNode, NewFrame, NewPageTable, NewRootTable}
use Rattle.model.specs.Kernel.Retype.{first_capability, object, object_bits, with_new_slots}
use Rattle.model.specs.Kernel.State.{State}
use Rattle.model.specs.Shared.Bytes.{word_at}
use Rattle.model.specs.declared.capabilities.Cap.{Cap}
use Rattle.model.specs.declared.capabilities.Cap.TheVariants.{PageTable}
use Rattle.model.specs.declared.capabilities.TableMapping.{TableMapping}
use Rattle.model.proofs.SlotChanges.{capability-opened, within-bounds}
use Rattle.kernel_invariant.proofs.GrownPlaces.{page-is, slots-inside}
use Rattle.kernel_invariant.proofs.RoomsMade.{alone, no-slots, slots-opened}
use Rattle.kernel_invariant.specs.Growing.{Growing}
use Rattle.kernel_invariant.specs.Rooms.{RoomMade, has_page}
use Rattle.objects.specs.Frames.{SameBesideObjects, has_record}
use Rattle.vspace.specs.Agreement.{IsNewPageTable, MayBePut}
use Rattle.vspace.specs.Kept.{IsNamedTable, NamesTable}
use Rattle.vspace.specs.Tables.{TablesAgree}
use Rattle.vspace.proofs.Laws.{agree-beside, agree-opened, agree-outside, named-stands}

-- ---- what may be put

word-zero : (bytes : List ℕ) (at : ℕ) → ((k : ℕ) → at ≤ k → k < at + 4 → slice_index bytes k ≡ 0) → word_at bytes at ≡ 0
word-zero bytes at zero =
    let first = zero at (omega arith) (omega arith) in
    let second = zero (at + 1) (omega arith) (omega arith) in
    let third = zero (at + 2) (omega arith) (omega arith) in
    let fourth = zero (at + 3) (omega arith) (omega arith) in
    omega (arith, first, second, third, fourth)

-- a first capability may be put, if a page is blank and new
pub may-first : (slots : Slots) (memory : List ℕ) (kind : NewObject) (place : ℕ) → IsCapability (first_capability kind place)
    → (has_page kind ≡ true → IsNewPageTable slots memory place) → MayBePut slots memory (first_capability kind place)
may-first slots memory NewPageTable place valid new = (valid, new refl)
may-first slots memory NewRootTable place valid new =
    let fresh = new refl in (valid, inr (record { blank = fresh.blank; no_page_table = fresh.no_page_table }))
may-first slots memory NewFrame place valid new = valid
may-first slots memory (NewUntyped bits) place valid new = valid
may-first slots memory (NewCNode radix) place valid new = valid
may-first slots memory NewThread place valid new = valid
may-first slots memory NewEndpoint place valid new = valid
may-first slots memory NewNotification place valid new = valid

-- ---- slots are opened, or a page is zeroed

module _ (t : State) (kind : NewObject) (place to : ℕ) (old : List ℕ) (growing : Growing t old place to)
    (fits : place + 2 ^ object_bits kind ≤ to) (multiple : place % 16 ≡ 0) where
  abbrev wider : Slots
  wider = with_new_slots (alone kind place) t.slots

  none-there : (s : ℕ) → place / 16 ≤ s → s < place / 16 + slot_count (object kind) → t.slots s ≡ None
  none-there s low high =
      let its = slots-inside kind in
      let at : 16 * s / 16 ≡ s = omega arith in
      ap t.slots (sym at) ∙ growing.free.slots (16 * s) (omega (arith, low, multiple)) (omega (arith, high, multiple, its, fits))

  pub wider-held : (y : ℕ) → capability_at wider y ≡ capability_at t.slots y
  wider-held y =
      let count : ℕ = slot_count (object kind) in
      ap (λ (s : Slots). capability_at s y) (slots-opened kind place count t.slots refl)
      ∙ (capability-opened t.slots (place / 16) count y (λ u inside. let at = within-bounds (place / 16) count u inside in none-there u at.0 at.1)).0

  -- opened slots name no table
  pub named-old : (table : ℕ) → IsNamedTable wider table → IsNamedTable t.slots table
  named-old table named = (named.0, subst (λ (c : Cap). NamesTable c table) (wider-held named.0) named.1)

  pub named-apart : (table : ℕ) → IsNamedTable wider table → (table + page_size ≤ place) ⊎ (to ≤ table)
  named-apart table named = growing.tables table (named-old table named)

  pub agree-wider : TablesAgree wider old
  agree-wider =
      let count : ℕ = slot_count (object kind) in
      let its = slots-inside kind in
      subst (λ (s : Slots). TablesAgree s old) (sym (slots-opened kind place count t.slots refl))
      (agree-opened t.slots old (place / 16) count growing.agrees.tables none-there
      (λ table p named low high. elim (growing.tables table named) [
        | inl before ↦ inr (omega (arith, before, low, multiple))
        | inr behind ↦ inl (omega (arith, behind, high, multiple, its, fits))
      ]))

  module _ (made : List ℕ) (room : RoomMade t.slots wider old made kind place) where
    pub agree-made : TablesAgree wider made
    agree-made = agree-beside wider old made agree-wider (record {
      size = room.size;
      bytes = λ table p named low high.
          room.bytes p ((named-stands wider old table agree-wider named).outside p low high) (elim (named-apart table named) [
            | inl before ↦ inl (omega (arith, before, high))
            | inr behind ↦ inr (omega (arith, behind, low, fits))
          ]);
    })

    -- ---- the object begins

    module _ (b : State) (begun : List ℕ) (same : SameBesideObjects b made begun)
        (kinds : (offset : ℕ) (k : NewObject) → kind_at b offset ≡ Some k → (kind_at t offset ≡ Some k) ⊎ ((offset ≡ place) × (k ≡ kind))) where
      pub agree-begun : TablesAgree wider begun
      agree-begun = agree-beside wider made begun agree-made (record {
        size = same.size;
        bytes = λ table p named low high. same.bytes p (λ offset k there kept. elim (kinds offset k there) [
          | inl was ↦ growing.agrees.records table p offset k (named-old table named) low high was kept
          | inr now ↦
              let here = now.0 in
              let size : 2 ^ object_bits k ≡ 2 ^ object_bits kind = ap (λ (n : NewObject). 2 ^ object_bits n) now.1 in
              elim (named-apart table named) [
                | inl before ↦ inl (omega (arith, before, high, here))
                | inr behind ↦ inr (omega (arith, behind, low, here, size, fits))
              ]
        ]);
      })

      -- ---- its capability is put

      module _ (new : List ℕ) (outside : SameOutside wider begun new) where
        pub agree-new : TablesAgree wider new
        agree-new = agree-outside wider begun new agree-begun outside

        pub size-new : length new ≡ length old
        size-new = outside.size ∙ same.size ∙ room.size

        closed-page : has_page kind ≡ true → (p : ℕ) → place ≤ p → p < place + page_size → wider (p / 16) ≡ None
        closed-page paged p low high =
            let page = page-is kind paged in
            let wide : 2 ^ object_bits kind ≡ page_size = ap (λ (n : ℕ). 2 ^ n) page.bits in
            ap (λ (s : Slots). s (p / 16)) (no-slots kind place t.slots page.slots) ∙ growing.free.slots p low (omega (arith, high, wide, fits))

        -- where the page is, no record of an object lies
        no-record : has_page kind ≡ true → (p : ℕ) → place ≤ p → p < place + page_size
            → (offset : ℕ) (k : NewObject) → kind_at b offset ≡ Some k → has_record k ≡ true → (p < offset) ⊎ (offset + 2 ^ object_bits k ≤ p)
        no-record paged p low high offset k there kept =
            let page = page-is kind paged in
            let wide : 2 ^ object_bits kind ≡ page_size = ap (λ (n : ℕ). 2 ^ n) page.bits in
            elim (kinds offset k there) [
              | inl was ↦ elim (growing.free.objects offset k was) [
                | inl before ↦ inr (omega (arith, before, low))
                | inr behind ↦ inl (omega (arith, behind, high, wide, fits))
              ]
              | inr now ↦ absurd (let clash : true ≡ false = sym kept ∙ ap has_record now.1 ∙ page.records in cc)
            ]

        page-zero : has_page kind ≡ true → (p : ℕ) → place ≤ p → p < place + page_size → slice_index new p ≡ 0
        page-zero paged p low high =
            outside.bytes p (closed-page paged p low high) ∙ same.bytes p (no-record paged p low high) ∙ room.page paged p low high

        named-elsewhere : has_page kind ≡ true → IsNamedTable wider place → ⊥
        named-elsewhere paged named =
            let wide : 2 ^ object_bits kind ≡ page_size = ap (λ (n : ℕ). 2 ^ n) (page-is kind paged).bits in
            elim (named-apart place named) [
              | inl before ↦ omega (arith, before)
              | inr behind ↦ omega (arith, behind, wide, fits)
            ]

        names-own : (slots : Slots) (y table : ℕ) (m : Option TableMapping) → capability_at slots y ≡ PageTable table m → IsNamedTable slots table
        names-own slots y table None held = (y, subst (λ (c : Cap). NamesTable c table) (sym held) refl)
        names-own slots y table (Some m) held = (y, subst (λ (c : Cap). NamesTable c table) (sym held) (inl refl))

        module _ (aligned : place % 2 ^ object_bits kind ≡ 0) where
          new-page : has_page kind ≡ true → IsNewPageTable wider new place
          new-page paged =
              let bits = (page-is kind paged).bits in
              let wide : 2 ^ object_bits kind ≡ page_size = ap (λ (n : ℕ). 2 ^ n) bits in
              let inside = growing.inside in
              let whole = growing.agrees.size in
              let size = size-new in
              record {
                blank = record {
                  stands = record {
                    aligned = ap (λ (n : ℕ). place % 2 ^ n) (sym bits) ∙ aligned;
                    within = omega (arith, wide, inside, whole, size, fits);
                    outside = closed-page paged;
                  };
                  zero = λ i few. word-zero new (place + 4 * i) (λ k low high. page-zero paged k (omega (arith, low)) (omega (arith, high, few)));
                };
                no_page_table = λ y m held. named-elsewhere paged (names-own wider y place m held);
                no_root = λ y held. named-elsewhere paged (y, subst (λ (c : Cap). NamesTable c place) (sym held) refl);
                no_mapped_root = λ y other m held root. named-elsewhere paged (y, subst (λ (c : Cap). NamesTable c place) (sym held) (inr (sym root)));
              }

          pub may-new : IsCapability (first_capability kind place) → MayBePut wider new (first_capability kind place)
          may-new valid = may-first wider new kind place valid new-page
