-- What one object more makes of the state: its record, its bytes and its capability.
use Rattle.std.proofs.Common.{ℕ, ◌≡◌, ◌≢◌, ◌∙◌, ◌==◌, ◌&&◌, ◌+◌, ◌*◌, ◌-◌, ◌%◌, ◌^◌, ◌<◌, ◌≤◌, inl, inr, true, false, if◌then◌else◌, Option, Some, List, refl}
use Rattle.std.proofs.Common.{sym, ap, arith}
use Rattle.std.specs.Prelude.{slice_index}
use Rattle.std.specs.Option.{option_map_or}
use Rattle.std.proofs.lemmas.Bool.Decides.{eqb_tells}
use Rattle.kernel_invariant.proofs.RoomsMade.{alone, some-alone}
use Rattle.kernel_invariant.specs.Growing.{one_placed}
use Rattle.model.proofs.SlotChanges.{bounds-within, within-bounds}
use Rattle.model.specs.Capabilities.Slots.{Slots, inserted, is_within}
use Rattle.model.specs.Kernel.AddressSpaces.{page_size}
use Rattle.model.specs.Kernel.Kinds.{frame_around, kind_of}
use Rattle.model.specs.Kernel.Retype.{NewObject, NewUntyped, first_capability, object, place_of_new, some_new, with_first_capabilities, with_new_bytes}
use Rattle.model.specs.Kernel.Retype.{with_new_objects, with_new_slots}
use Rattle.model.specs.Kernel.State.{Object, State, put, with_slots}
use Rattle.model.specs.declared.slot_entries.Entry.{Entry}
use Rattle.objects.specs.Changes.{begun, is_frame_kind}
use Rattle.model.specs.Kernel.ObjectTypes.{new_object}
use Rattle.model.specs.declared.object_types.ObjectKind.{ObjectKind}
use Rattle.model.specs.declared.object_types.ObjectKind.TheVariants as kinds

-- ---- the capability

within-one : (first x : ℕ) → is_within first 1 x ≡ (x == first)
within-one first x = elim (eqb_tells x first) [
  | inl here ↦ bounds-within first 1 x (omega (arith, here.1)) (omega (arith, here.1)) ∙ sym here.0
  | inr apart ↦ not-within first x apart.1 ∙ sym apart.0
] where
  not-within : (first x : ℕ) → x ≢ first → is_within first 1 x ≡ false
  not-within first x apart = elim (is_within first 1 x) as (λ b. is_within first 1 x ≡ b → b ≡ false) [
    | true ↦ λ is. let bounds = within-bounds first 1 x is in absurd (apart (omega (arith, bounds)))
    | false ↦ λ is. refl
  ] refl

pub inserted-first : (kind : NewObject) (place slot parent : ℕ) (room : Slots)
    → inserted room slot (first_capability kind place) (Some parent) ≡ with_first_capabilities (alone kind place) slot parent room
inserted-first kind place slot parent room = λ i x. at x i where
  entry : ℕ → Option Entry
  entry n = Some (record { capability = first_capability kind n; parent = Some parent })

  at : (x : ℕ) → inserted room slot (first_capability kind place) (Some parent) x ≡ with_first_capabilities (alone kind place) slot parent room x
  at x = elim (eqb_tells x slot) [
    | inl here ↦
        let none : 0 ≡ x - slot = omega (arith, here.1) in
        let first : place ≡ place_of_new (alone kind place) 0 = omega arith in
        let same : place ≡ place_of_new (alone kind place) (x - slot) = first ∙ ap (place_of_new (alone kind place)) none in
        ap (λ b. if b then entry place else room x) here.0 ∙ ap entry same
        ∙ ap (λ b. if b then entry (place_of_new (alone kind place) (x - slot)) else room x) (sym (within-one slot x ∙ here.0))
    | inr apart ↦
        ap (λ b. if b then entry place else room x) apart.0
        ∙ ap (λ b. if b then entry (place_of_new (alone kind place) (x - slot)) else room x) (sym (within-one slot x ∙ apart.0))
  ]

-- ---- the object

new-is : (k : ObjectKind) → object (kind_of (new_object k)) ≡ Some (new_object k)
new-is kinds.Thread = refl
new-is kinds.Endpoint = refl
new-is kinds.Notification = refl
new-is (kinds.CNode radix) = refl
new-is kinds.Frame = refl
new-is kinds.PageTable = refl
new-is kinds.RootTable = refl

swapped : (a b : ℕ) → (a == b) ≡ (b == a)
swapped a b = elim (eqb_tells a b) [
  | inl here ↦ here.0 ∙ sym (elim (eqb_tells b a) [ inl same ↦ same.0 | inr apart ↦ absurd (apart.1 (sym here.1)) ])
  | inr apart ↦ apart.0 ∙ sym (elim (eqb_tells b a) [ inl same ↦ absurd (apart.1 (sym same.1)) | inr other ↦ other.0 ])
]

object-placed : (k : ObjectKind) (place : ℕ) (objects : ℕ → Option Object) (other : ℕ)
    → put objects place (Some (new_object k)) other ≡ with_new_objects (alone (kind_of (new_object k)) place) objects other
object-placed k place objects other =
    ap (λ b. if b then Some (new_object k) else objects other) (swapped other place ∙ sym (some-alone (kind_of (new_object k)) place (λ at. at == other)))
    ∙ ap (λ (o : Option Object). if some_new (alone (kind_of (new_object k)) place) (λ at. at == other) then option_map_or Some o (objects other) else
    objects other) (sym (new-is k))

-- ---- the bytes

frame-within : (place other : ℕ) → place % page_size ≡ 0 → (place == frame_around other) ≡ is_within place (1 * 2 ^ 12) other
frame-within place other aligned = elim (eqb_tells place (frame_around other)) [
  | inl here ↦ here.0 ∙ sym (bounds-within place (1 * 2 ^ 12) other (omega (arith, here.1)) (omega (arith, here.1)))
  | inr apart ↦
      apart.0 ∙ sym (elim (is_within place (1 * 2 ^ 12) other) as (λ b. is_within place (1 * 2 ^ 12) other ≡ b → b ≡ false) [
        | true ↦ λ is. let bounds = within-bounds place (1 * 2 ^ 12) other is in absurd (apart.1 (omega (arith, bounds, aligned)))
        | false ↦ λ is. refl
      ] refl)
]

byte-placed : (k : ObjectKind) (place : ℕ) (bytes : ℕ → Option ℕ) (made : List ℕ) → (is_frame_kind k ≡ true → place % page_size ≡ 0)
    → (is_frame_kind k ≡ true → (other : ℕ) → place ≤ other → other < place + page_size → slice_index made other ≡ 0) → (other : ℕ)
    → (if is_frame_kind k && (place == frame_around other) then Some (slice_index made other) else bytes other)
    ≡ with_new_bytes (alone (kind_of (new_object k)) place) bytes other
byte-placed kinds.Frame place bytes made aligned zero other =
    ap (λ b. if b then Some (slice_index made other) else bytes other) (frame-within place other (aligned refl))
    ∙ (elim (is_within place (1 * 2 ^ 12) other) as (λ b. is_within place (1 * 2 ^ 12) other ≡ b
    → (if b then Some (slice_index made other) else bytes other) ≡ (if b then Some 0 else bytes other)) [
      | true ↦ λ is. let bounds = within-bounds place (1 * 2 ^ 12) other is in ap Some (zero refl other bounds.0 (omega (arith, bounds)))
      | false ↦ λ is. refl
    ] refl)
byte-placed kinds.Thread place bytes made aligned zero other = refl
byte-placed kinds.Endpoint place bytes made aligned zero other = refl
byte-placed kinds.Notification place bytes made aligned zero other = refl
byte-placed (kinds.CNode radix) place bytes made aligned zero other = refl
byte-placed kinds.PageTable place bytes made aligned zero other = refl
byte-placed kinds.RootTable place bytes made aligned zero other = refl

-- ---- the state

pub placed-object : (s : State) (k : ObjectKind) (place slot parent : ℕ) (room now : Slots) (made : List ℕ) → (is_frame_kind k ≡ true → place % page_size ≡ 0)
    → (is_frame_kind k ≡ true → (other : ℕ) → place ≤ other → other < place + page_size → slice_index made other ≡ 0)
    → now ≡ with_first_capabilities (alone (kind_of (new_object k)) place) slot parent (with_new_slots (alone (kind_of (new_object k)) place) s.slots)
    → with_slots (begun (with_slots s room) made k place) now ≡ one_placed s (kind_of (new_object k)) place slot parent
placed-object s k place slot parent room now made aligned zero slots = λ i. record s {
  slots = slots i;
  objects = λ other. object-placed k place s.objects other i;
  bytes = λ other. byte-placed k place s.bytes made aligned zero other i;
}

same-object : (place : ℕ) (bits : ℕ) (objects : ℕ → Option Object) (other : ℕ) → objects other ≡ with_new_objects (alone (NewUntyped bits) place) objects other
same-object place bits objects other = elim (some_new (alone (NewUntyped bits) place) (λ at. at == other))
    as (λ b. objects other ≡ (if b then objects other else objects other)) [
      | true ↦ refl
      | false ↦ refl
    ]

pub placed-untyped : (s : State) (bits place slot parent : ℕ) (now : Slots)
    → now ≡ with_first_capabilities (alone (NewUntyped bits) place) slot parent (with_new_slots (alone (NewUntyped bits) place) s.slots)
    → with_slots s now ≡ one_placed s (NewUntyped bits) place slot parent
placed-untyped s bits place slot parent now slots = λ i. record s { slots = slots i; objects = λ other. same-object place bits s.objects other i }
