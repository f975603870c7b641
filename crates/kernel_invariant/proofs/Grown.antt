-- Where there is room for objects that come one after another, there is room after the first of them.
use Rattle.std.proofs.Common.{ℕ, ◌≡◌, ◌≢◌, ◌∙◌, ◌+◌, ◌*◌, ◌/◌, ◌%◌, ◌^◌, ◌<◌, ◌≤◌, ◌⊎◌, inl, inr, true, false, Option, Some, None, List, length, refl, sym, ap}
use Rattle.std.proofs.Common.{subst, arith}
use Rattle.std.specs.Prelude.{IsSome}
use Rattle.std.proofs.lemmas.Bool.Decides.{eqb_tells}
use Rattle.model.specs.Capabilities.CapabilityWords.{IsCapability}
use Rattle.model.specs.Capabilities.Slots.{IsOpen, SameOutside, Slots, capability_at, empty_entry, inserted}
use Rattle.model.specs.Kernel.AddressSpaces.{page_size}
use Rattle.model.specs.Kernel.Kinds.{kind_at}
use Rattle.model.specs.Kernel.Removal.{slot_count}
use Rattle.model.specs.Kernel.Retype.{NewObject, first_capability, is_frame, is_large_enough, is_small_enough, object, object_bits, with_new_slots}
use Rattle.model.specs.Kernel.State.{State}
use Rattle.model.specs.declared.capabilities.Cap.{Cap}
use Rattle.model.specs.declared.slot_entries.Entry.{Entry}
use Rattle.model.proofs.SlotChanges.{capability_of, entry-other, entry-same}
use Rattle.kernel_invariant.proofs.GrownPlaces.{IsNewTable, byte-after, frame-page, kind-after, new-table, page-is, sixteenth, slot-wider, slots-after}
use Rattle.kernel_invariant.proofs.GrownTables.{agree-new, may-new, named-old, size-new}
use Rattle.kernel_invariant.proofs.RoomsMade.{alone}
use Rattle.kernel_invariant.specs.Growing.{Growing, one_placed}
use Rattle.kernel_invariant.specs.Rooms.{RoomMade}
use Rattle.objects.specs.Frames.{SameBesideObjects, has_record}
use Rattle.soundness.specs.Unused.{IsFree}
use Rattle.vspace.specs.Kept.{IsNamedTable, NamesTable}
use Rattle.vspace.specs.Tables.{TablesAgree}
use Rattle.vspace.proofs.Laws.{agree-put}

-- what is where after the object, whatever the bytes are
module _ (t : State) (kind : NewObject) (place slot parent to : ℕ) (old : List ℕ) (growing : Growing t old place to)
    (fits : place + 2 ^ object_bits kind ≤ to) (multiple : place % 16 ≡ 0) (empty : t.slots slot ≡ Some empty_entry) where
  abbrev wider : Slots
  wider = with_new_slots (alone kind place) t.slots

  abbrev after : State
  after = one_placed t kind place slot parent

  abbrev first : Option Entry
  first = Some (record { capability = first_capability kind place; parent = Some parent })

  -- ---- slots

  was-open : IsOpen t.slots slot
  was-open = subst (λ (e : Option Entry). IsSome e) (sym empty) refl

  closed-there : (p : ℕ) → place ≤ p → p < to → IsOpen t.slots (p / 16) → ⊥
  closed-there p low high is_open =
      let none = growing.free.slots p low high in let clash : false ≡ true = subst (λ (e : Option Entry). IsSome e) none is_open in cc

  slot-there : after.slots slot ≡ first
  slot-there = ap (λ (s : Slots). s slot) (slots-after t kind place slot parent) ∙ entry-same wider slot first

  slot-beside : (y : ℕ) → y ≢ slot → after.slots y ≡ wider y
  slot-beside y apart = ap (λ (s : Slots). s y) (slots-after t kind place slot parent) ∙ entry-other wider slot first y apart

  -- a slot was open, or it is one of the new object's
  open-after : (p : ℕ) → IsOpen after.slots (p / 16)
      → IsOpen t.slots (p / 16) ⊎ ((place ≤ p) × (p < place + 2 ^ object_bits kind) × (0 < slot_count (object kind)))
  open-after p is_open = elim (eqb_tells (p / 16) slot) [
    | inl here ↦ inl (subst (λ (n : ℕ). IsOpen t.slots n) (sym here.1) was-open)
    | inr apart ↦
        let wide : IsOpen wider (p / 16) = subst (λ (e : Option Entry). IsSome e) (slot-beside (p / 16) apart.1) is_open in
        elim (slot-wider t kind place slot parent multiple (p / 16)) [
          | inl same ↦ inl (subst (λ (e : Option Entry). IsSome e) same wide)
          | inr its ↦ let low = its.0 in let high = its.1 in inr (omega (arith, low), omega (arith, high), its.2)
        ]
  ]

  -- a table was named, or it is the new object
  named-after : (table : ℕ) → IsNamedTable after.slots table → IsNamedTable t.slots table ⊎ IsNewTable kind place table
  named-after table named = elim (eqb_tells named.0 slot) [
    | inl here ↦
        let held : capability_at after.slots named.0 ≡ first_capability kind place = ap (capability_at after.slots) here.1 ∙ ap capability_of slot-there in
        inr (new-table kind place table (subst (λ (c : Cap). NamesTable c table) held named.1))
    | inr apart ↦
        let held : capability_at after.slots named.0 ≡ capability_at wider named.0 = ap capability_of (slot-beside named.0 apart.1) in
        inl (named-old t kind place to old growing fits multiple table (named.0, subst (λ (c : Cap). NamesTable c table) held named.1))
  ]

  -- ---- bytes

  byte-elsewhere : (p : ℕ) → (p < place) ⊎ (place + 2 ^ object_bits kind ≤ p) → after.bytes p ≡ t.bytes p
  byte-elsewhere p beside = elim (byte-after t kind place slot parent p) [
    | inl same ↦ same
    | inr its ↦
        let low = its.1 in
        let high = its.2 in
        absurd (elim beside [ inl before ↦ omega (arith, before, low) | inr behind ↦ omega (arith, behind, high) ])
  ]

  byte-frameless : is_frame kind ≡ false → (p : ℕ) → after.bytes p ≡ t.bytes p
  byte-frameless frameless p = elim (byte-after t kind place slot parent p) [
    | inl same ↦ same
    | inr its ↦ absurd (let clash : true ≡ false = sym its.0 ∙ frameless in cc)
  ]

  -- no byte of a frame lies in an open slot
  slots-agree : (p : ℕ) → IsOpen after.slots (p / 16) → after.bytes p ≡ None
  slots-agree p is_open = elim (byte-after t kind place slot parent p) [
    | inl same ↦ same ∙ elim (open-after p is_open) [
      | inl was ↦ growing.agrees.slots p was
      | inr its ↦ let high = its.1 in growing.free.bytes p its.0 (omega (arith, high, fits))
    ]
    | inr framed ↦
        let high = framed.2 in
        let none = (page-is kind (frame-page kind framed.0)).slots in
        absurd (elim (open-after p is_open) [
          | inl was ↦ closed-there p framed.1 (omega (arith, high, fits)) was
          | inr its ↦ let some = its.2 in omega (arith, some, none)
        ])
  ]

  -- nor in a table
  frames-agree : (table p : ℕ) → IsNamedTable after.slots table → table ≤ p → p < table + page_size → after.bytes p ≡ None
  frames-agree table p named low high = elim (named-after table named) [
    | inl was ↦
        let beside : (p < place) ⊎ (place + 2 ^ object_bits kind ≤ p) = elim (growing.tables table was) [
          | inl before ↦ inl (omega (arith, before, high))
          | inr behind ↦ inr (omega (arith, behind, low, fits))
        ] in
        byte-elsewhere p beside ∙ growing.agrees.frames table p was low high
    | inr fresh ↦
        let here = fresh.here in
        let wide : 2 ^ object_bits kind ≡ page_size = ap (λ (n : ℕ). 2 ^ n) (page-is kind fresh.page).bits in
        byte-frameless fresh.frames p ∙ growing.free.bytes p (omega (arith, here, low)) (omega (arith, here, high, wide, fits))
  ]

  -- ---- objects

  records-agree : (table p offset : ℕ) (k : NewObject) → IsNamedTable after.slots table → table ≤ p → p < table + page_size
      → kind_at after offset ≡ Some k → has_record k ≡ true → (p < offset) ⊎ (offset + 2 ^ object_bits k ≤ p)
  records-agree table p offset k named low high there kept = elim (named-after table named) [
    | inl old_table ↦ elim (kind-after t kind place slot parent offset k there) [
      | inl old_object ↦ growing.agrees.records table p offset k old_table low high old_object kept
      | inr now ↦
          let here = now.0 in
          let size : 2 ^ object_bits k ≡ 2 ^ object_bits kind = ap (λ (n : NewObject). 2 ^ object_bits n) now.1 in
          elim (growing.tables table old_table) [
            | inl before ↦ inl (omega (arith, before, high, here))
            | inr behind ↦ inr (omega (arith, behind, low, here, size, fits))
          ]
    ]
    | inr fresh ↦
        let page = page-is kind fresh.page in
        let wide : 2 ^ object_bits kind ≡ page_size = ap (λ (n : ℕ). 2 ^ n) page.bits in
        let at = fresh.here in
        elim (kind-after t kind place slot parent offset k there) [
          | inl old_object ↦ elim (growing.free.objects offset k old_object) [
            | inl before ↦ inr (omega (arith, before, low, at))
            | inr behind ↦ inl (omega (arith, behind, high, at, wide, fits))
          ]
          | inr now ↦ absurd (let clash : true ≡ false = sym kept ∙ ap has_record now.1 ∙ page.records in cc)
        ]
  ]

  -- ---- after the object

  free-after : IsFree after (place + 2 ^ object_bits kind) to
  free-after = record {
    objects = λ offset k there. elim (kind-after t kind place slot parent offset k there) [
      | inl was ↦ elim (growing.free.objects offset k was) [
        | inl before ↦ inl (omega (arith, before))
        | inr behind ↦ inr behind
      ]
      | inr now ↦
          let here = now.0 in
          let size : 2 ^ object_bits k ≡ 2 ^ object_bits kind = ap (λ (n : NewObject). 2 ^ object_bits n) now.1 in
          inl (omega (arith, here, size))
    ];
    slots = λ p low high.
        let from : place ≤ p = omega (arith, low) in
        elim (after.slots (p / 16)) as (λ e. after.slots (p / 16) ≡ e → e ≡ None) [
          | None ↦ λ is. refl
          | Some held ↦ λ is. absurd (elim (open-after p (subst (λ (e : Option Entry). IsSome e) (sym is) refl)) [
            | inl was ↦ closed-there p from high was
            | inr its ↦ let below = its.1 in omega (arith, below, low)
          ])
        ] refl;
    bytes = λ p low high. byte-elsewhere p (inr low) ∙ growing.free.bytes p (omega (arith, low)) high;
  }

  tables-after : (table : ℕ) → IsNamedTable after.slots table → (table + page_size ≤ place + 2 ^ object_bits kind) ⊎ (to ≤ table)
  tables-after table named = elim (named-after table named) [
    | inl was ↦ elim (growing.tables table was) [ inl before ↦ inl (omega (arith, before)) | inr behind ↦ inr behind ]
    | inr fresh ↦
        let here = fresh.here in
        let wide : 2 ^ object_bits kind ≡ page_size = ap (λ (n : ℕ). 2 ^ n) (page-is kind fresh.page).bits in
        inl (omega (arith, here, wide))
  ]

  -- only the page tables need the bytes
  growing-after : (new : List ℕ) → length new ≡ length old → TablesAgree (inserted wider slot (first_capability kind place) (Some parent)) new
      → Growing after new (place + 2 ^ object_bits kind) to
  growing-after new long tables = record {
    agrees = record {
      tables = subst (λ (s : Slots). TablesAgree s new) (sym (slots-after t kind place slot parent)) tables;
      size = growing.agrees.size ∙ sym long;
      slots = slots-agree;
      frames = frames-agree;
      records = records-agree;
    };
    free = free-after;
    tables = tables-after;
    inside = growing.inside;
  }

  -- the slot for the capability is still open and empty
  slot-waits : wider slot ≡ Some empty_entry
  slot-waits = elim (slot-wider t kind place slot parent multiple slot) [
    | inl same ↦ same ∙ empty
    | inr its ↦
        let low = its.0 in
        let high = its.1 in
        let at : 16 * slot / 16 ≡ slot = omega arith in
        absurd (closed-there (16 * slot) low (omega (arith, high, fits)) (subst (λ (n : ℕ). IsOpen t.slots n) (sym at) was-open))
  ]

pub grown : (t b : State) (kind : NewObject) (place slot parent to : ℕ) (room : Slots) (old made begun new : List ℕ)
    → Growing t old place to → place + 2 ^ object_bits kind ≤ to → place % 2 ^ object_bits kind ≡ 0
    → is_large_enough kind ≡ true → is_small_enough kind ≡ true → IsCapability (first_capability kind place)
    → t.slots slot ≡ Some empty_entry → RoomMade t.slots room old made kind place
    → ((offset : ℕ) (k : NewObject) → kind_at b offset ≡ Some k → (kind_at t offset ≡ Some k) ⊎ ((offset ≡ place) × (k ≡ kind)))
    → SameBesideObjects b made begun → SameOutside room begun new
    → Growing (one_placed t kind place slot parent) new (place + 2 ^ object_bits kind) to
grown t b kind place slot parent to room old made begun new growing fits aligned large small valid empty room_made kinds begins puts =
    let wide : Slots = with_new_slots (alone kind place) t.slots in
    let multiple = sixteenth kind place large aligned in
    let is_made : RoomMade t.slots wide old made kind place = subst (λ (s : Slots). RoomMade t.slots s old made kind place) room_made.slots room_made in
    let is_put : SameOutside wide begun new = subst (λ (s : Slots). SameOutside s begun new) room_made.slots puts in
    let tables = agree-new t kind place to old growing fits multiple made is_made b begun begins kinds new is_put in
    let may = may-new t kind place to old growing fits multiple made is_made b begun begins kinds new is_put aligned valid in
    let waits = slot-waits t kind place slot parent to old growing fits multiple empty in
    growing-after t kind place slot parent to old growing fits multiple empty new
    (size-new t kind place to old growing fits multiple made is_made b begun begins kinds new is_put)
    (agree-put wide new slot (first_capability kind place) (Some parent) tables
    (subst (λ (e : Option Entry). IsSome e) (sym waits) refl) (ap capability_of waits) may)
