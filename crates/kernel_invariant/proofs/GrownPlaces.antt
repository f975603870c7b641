-- What one new object and its capability add to a state, and that they add it in the object's own memory.
use Rattle.std.proofs.Common.{ℕ, ◌≡◌, ◌≢◌, ◌∙◌, ◌==◌, ◌&&◌, ◌+◌, ◌*◌, ◌-◌, ◌/◌, ◌%◌, ◌^◌, ◌<◌, ◌≤◌, ◌⊎◌, inl, inr, Bool, true, false, if◌then◌else◌, Option}
use Rattle.std.proofs.Common.{Some, option_map, refl, sym, ap, subst, arith}
use Rattle.std.specs.Option.{option_map_or}
use Rattle.std.proofs.lemmas.Bool.{leb-true}
use Rattle.std.proofs.lemmas.Bool.Decides.{eqb_tells}
use Rattle.std.proofs.lemmas.Nat.{mod-pow-add, pow-add}
use Rattle.model.specs.Capabilities.Slots.{Slots, empty_entry, inserted, is_within}
use Rattle.model.specs.Kernel.Kinds.{kind_at, kind_of}
use Rattle.model.specs.Kernel.Removal.{slot_count}
use Rattle.model.specs.Kernel.Retype.{NewObject, NewUntyped, NewThread, NewEndpoint, NewNotification, NewCNode, NewFrame, NewPageTable, NewRootTable}
use Rattle.model.specs.Kernel.Retype.{first_capability, is_frame, is_large_enough, object, object_bits, some_new, with_new_slots}
use Rattle.model.specs.Kernel.State.{Object, State}
use Rattle.model.specs.declared.slot_entries.Entry.{Entry}
use Rattle.model.proofs.SlotChanges.{bounds-within, within-bounds}
use Rattle.kernel_invariant.proofs.RoomsMade.{alone, slots-alone, some-alone}
use Rattle.kernel_invariant.specs.Growing.{one_placed}
use Rattle.kernel_invariant.specs.Rooms.{has_page}
use Rattle.objects.specs.Frames.{has_record}
use Rattle.removal_laws.proofs.Laws.{both}
use Rattle.vspace.specs.Kept.{NamesTable}

-- ---- kinds

sixteen : (offset more : ℕ) → offset % 2 ^ (more + 4) ≡ 0 → offset % 16 ≡ 0
sixteen offset more multiple = let split = mod-pow-add offset more 4 in omega (arith, split, multiple)

-- a multiple of an object's size is one of sixteen
pub sixteenth : (kind : NewObject) (place : ℕ) → is_large_enough kind ≡ true → place % 2 ^ object_bits kind ≡ 0 → place % 16 ≡ 0
sixteenth (NewUntyped bits) place large multiple =
    let least = leb-true 4 bits large in
    let wide : bits - 4 + 4 ≡ bits = omega (arith, least) in
    sixteen place (bits - 4) (ap (λ (n : ℕ). place % 2 ^ n) wide ∙ multiple)
sixteenth (NewCNode radix) place large multiple = sixteen place radix multiple
sixteenth NewThread place large multiple = omega (arith, multiple)
sixteenth NewEndpoint place large multiple = multiple
sixteenth NewNotification place large multiple = multiple
sixteenth NewFrame place large multiple = omega (arith, multiple)
sixteenth NewPageTable place large multiple = omega (arith, multiple)
sixteenth NewRootTable place large multiple = omega (arith, multiple)

-- an object is as large as its slots
pub slots-inside : (kind : NewObject) → 16 * slot_count (object kind) ≤ 2 ^ object_bits kind
slots-inside (NewUntyped bits) = omega arith
slots-inside (NewCNode radix) = let split = pow-add 2 radix 4 in omega (arith, split)
slots-inside NewThread = omega arith
slots-inside NewEndpoint = omega arith
slots-inside NewNotification = omega arith
slots-inside NewFrame = omega arith
slots-inside NewPageTable = omega arith
slots-inside NewRootTable = omega arith

-- a page has no slots, and the kernel keeps no record of it
pub record IsPage (kind : NewObject) : Type 0 where
  pub bits : object_bits kind ≡ 12
  pub slots : slot_count (object kind) ≡ 0
  pub records : has_record kind ≡ false

pub page-is : (kind : NewObject) → has_page kind ≡ true → IsPage kind
page-is NewFrame paged = record { bits = refl; slots = refl; records = refl }
page-is NewPageTable paged = record { bits = refl; slots = refl; records = refl }
page-is NewRootTable paged = record { bits = refl; slots = refl; records = refl }
page-is (NewUntyped bits) paged = absurd (let clash : false ≡ true = paged in cc)
page-is (NewCNode radix) paged = absurd (let clash : false ≡ true = paged in cc)
page-is NewThread paged = absurd (let clash : false ≡ true = paged in cc)
page-is NewEndpoint paged = absurd (let clash : false ≡ true = paged in cc)
page-is NewNotification paged = absurd (let clash : false ≡ true = paged in cc)

pub frame-page : (kind : NewObject) → is_frame kind ≡ true → has_page kind ≡ true
frame-page NewFrame framed = refl
frame-page NewPageTable framed = refl
frame-page NewRootTable framed = refl
frame-page (NewUntyped bits) framed = framed
frame-page (NewCNode radix) framed = framed
frame-page NewThread framed = framed
frame-page NewEndpoint framed = framed
frame-page NewNotification framed = framed

-- a table that a first capability names is the new object, which is a page and no frame
pub record IsNewTable (kind : NewObject) (place table : ℕ) : Type 0 where
  pub here : table ≡ place
  pub page : has_page kind ≡ true
  pub frames : is_frame kind ≡ false

pub new-table : (kind : NewObject) (place table : ℕ) → NamesTable (first_capability kind place) table → IsNewTable kind place table
new-table NewPageTable place table names = record { here = names; page = refl; frames = refl }
new-table NewRootTable place table names = record { here = names; page = refl; frames = refl }
new-table NewFrame place table names = absurd names
new-table (NewUntyped bits) place table names = absurd names
new-table (NewCNode radix) place table names = absurd names
new-table NewThread place table names = absurd names
new-table NewEndpoint place table names = absurd names
new-table NewNotification place table names = absurd names

kind-new : (kind : NewObject) (was : Option Object) (k : NewObject) → option_map kind_of (option_map_or Some (object kind) was) ≡ Some k
    → (option_map kind_of was ≡ Some k) ⊎ (k ≡ kind)
kind-new (NewUntyped bits) was k is = inl is
kind-new (NewCNode radix) was k is = let e : Some (NewCNode radix) ≡ Some k = is in inr cc
kind-new NewThread was k is = let e : Some NewThread ≡ Some k = is in inr cc
kind-new NewEndpoint was k is = let e : Some NewEndpoint ≡ Some k = is in inr cc
kind-new NewNotification was k is = let e : Some NewNotification ≡ Some k = is in inr cc
kind-new NewFrame was k is = let e : Some NewFrame ≡ Some k = is in inr cc
kind-new NewPageTable was k is = let e : Some NewPageTable ≡ Some k = is in inr cc
kind-new NewRootTable was k is = let e : Some NewRootTable ≡ Some k = is in inr cc

-- ---- the state with the new object

module _ (t : State) (kind : NewObject) (place slot parent : ℕ) where
  abbrev pub after : State
  after = one_placed t kind place slot parent

  -- the slots with those of the object
  abbrev pub wider : Slots
  wider = with_new_slots (alone kind place) t.slots

  -- an object was there, or it is the new one
  pub kind-after : (offset : ℕ) (k : NewObject) → kind_at after offset ≡ Some k → (kind_at t offset ≡ Some k) ⊎ ((offset ≡ place) × (k ≡ kind))
  kind-after offset k is =
      let at : some_new (alone kind place) (λ p. p == offset) ≡ (place == offset) = some-alone kind place (λ p. p == offset) in
      elim (eqb_tells place offset) [
        | inl here ↦
            elim (kind-new kind (t.objects offset) k
            (subst (λ b. option_map kind_of (if b then option_map_or Some (object kind) (t.objects offset) else t.objects offset) ≡ Some k) (at ∙ here.0) is)) [
              | inl was ↦ inl was
              | inr now ↦ inr (sym here.1, now)
            ]
        | inr apart ↦ inl (subst (λ b. option_map kind_of (if b then option_map_or Some (object kind) (t.objects offset) else t.objects offset) ≡ Some k)
            (at ∙ apart.0) is)
      ]

  -- a byte is as it was, or it lies in the new object, which is a frame
  pub byte-after : (p : ℕ) → (after.bytes p ≡ t.bytes p) ⊎ ((is_frame kind ≡ true) × (place ≤ p) × (p < place + 2 ^ object_bits kind))
  byte-after p =
      let test : Bool = is_frame kind && is_within place (1 * 2 ^ object_bits kind) p in
      elim test as (λ b. test ≡ b → ((if b then Some 0 else t.bytes p) ≡ t.bytes p) ⊎
      ((is_frame kind ≡ true) × (place ≤ p) × (p < place + 2 ^ object_bits kind))) [
        | true ↦ λ is.
            let parts = both (is_frame kind) (is_within place (1 * 2 ^ object_bits kind) p) is in
            let bounds = within-bounds place (1 * 2 ^ object_bits kind) p parts.1 in
            let high = bounds.1 in
            inr (parts.0, bounds.0, omega (arith, high))
        | false ↦ λ is. inl refl
      ] refl

  -- the object's slots are opened, and its capability is put
  not-within : (s : ℕ) → s ≢ slot → is_within slot 1 s ≡ false
  not-within s apart = elim (is_within slot 1 s) as (λ b. is_within slot 1 s ≡ b → b ≡ false) [
    | true ↦ λ is. let bounds = within-bounds slot 1 s is in let low = bounds.0 in let high = bounds.1 in absurd (apart (omega (arith, low, high)))
    | false ↦ λ is. refl
  ] refl

  slot-after : (s : ℕ) → after.slots s ≡ inserted wider slot (first_capability kind place) (Some parent) s
  slot-after s =
      let held : ℕ → Option Entry = λ p. Some (record { capability = first_capability kind p; parent = Some parent }) in
      let there : ℕ = place + (s - slot) * 2 ^ object_bits kind in
      elim (eqb_tells s slot) [
        | inl here ↦
            let same = here.1 in
            let none : s - slot ≡ 0 = omega (arith, same) in
            let at : there ≡ place = ap (λ (n : ℕ). place + n * 2 ^ object_bits kind) none ∙ omega arith in
            ap (λ b. if b then held there else wider s) (bounds-within slot 1 s (omega (arith, same)) (omega (arith, same)))
            ∙ ap held at ∙ sym (ap (λ b. if b then held place else wider s) here.0)
        | inr apart ↦
            ap (λ b. if b then held there else wider s) (not-within s apart.1)
            ∙ sym (ap (λ b. if b then held place else wider s) apart.0)
      ]

  pub slots-after : after.slots ≡ inserted wider slot (first_capability kind place) (Some parent)
  slots-after = λ i s. slot-after s i

  -- a slot is as it was, or it lies in the object's memory
  pub slot-wider : place % 16 ≡ 0 → (y : ℕ) → (wider y ≡ t.slots y) ⊎
      ((place ≤ 16 * y) × (16 * y + 16 ≤ place + 2 ^ object_bits kind) × (0 < slot_count (object kind)))
  slot-wider multiple y =
      let count : ℕ = slot_count (object kind) in
      elim (is_within (place / 16) count y) as (λ b. is_within (place / 16) count y ≡ b
      → (wider y ≡ t.slots y) ⊎ ((place ≤ 16 * y) × (16 * y + 16 ≤ place + 2 ^ object_bits kind) × (0 < slot_count (object kind)))) [
        | true ↦ λ is.
            let bounds = within-bounds (place / 16) count y is in
            let low = bounds.0 in
            let high = bounds.1 in
            let its = slots-inside kind in
            inr (omega (arith, low, multiple), omega (arith, high, multiple, its), omega (arith, low, high))
        | false ↦ λ is. inl (slots-alone kind place y t.slots ∙ ap (λ b. if b then Some empty_entry else t.slots y) is)
      ] refl
