-- The state once one object was made: its room, its record, and its capability.
use Rattle.std.proofs.Common.{ℕ, ◌≡◌, ◌∙◌, ◌+◌, ◌%◌, ◌^◌, ◌<◌, ◌≤◌, ◌⊎◌, inl, inr, Bool, true, false, if◌then◌else◌, Option, Some, IsSome, option_map, List}
use Rattle.std.proofs.Common.{refl, sym, ap, subst, arith}
use Rattle.std.proofs.lemmas.Bool.Decides.{eqb_tells}
use Rattle.kernel_invariant.proofs.Laws.{alone, grown, inserted-first, is-open, placed-object, placed-untyped, put-closes, room-state, sixteen, slots-law}
use Rattle.kernel_invariant.proofs.Laws.{stands-law}
use Rattle.kernel_invariant.specs.Growing.{Growing, one_placed}
use Rattle.kernel_invariant.specs.Rooms.{RoomMade, has_page}
use Rattle.model.specs.Kernel.ObjectTypes.{new_object, new_type}
use Rattle.model.specs.declared.object_types.ObjectType.{ObjectType}
use Rattle.model.specs.declared.object_types.ObjectType.TheVariants.{Untyped, Object}
use Rattle.cnode_ops.proofs.object_lifetimes.Places.{room-of_open}
use Rattle.cnode_ops.specs.object_lifetimes.Beginnings.{with_begun}
use Rattle.model.specs.Capabilities.Slots.{SameOutside, Slots, empty_entry, inserted}
use Rattle.model.specs.Kernel.AddressSpaces.{page_size}
use Rattle.model.specs.Kernel.Kinds.{kind_at, kind_of}
use Rattle.model.specs.Kernel.Retype.{NewObject, first_capability, is_large_enough, is_small_enough, object_bits, with_first_capabilities, with_new_slots}
use Rattle.model.specs.Kernel.State.{State, with_slots}
use Rattle.model.specs.declared.slot_entries.Entry.{Entry}
use Rattle.objects.specs.Changes.{begun, is_frame_kind}
use Rattle.objects.specs.Frames.{SameBesideObjects}
use Rattle.objects.specs.Standing.{Standing}
use Rattle.objects.specs.Tables.{Tables, state_of}
use Rattle.model.specs.declared.object_types.ObjectKind.{ObjectKind}
use Rattle.model.specs.declared.object_types.ObjectKind.TheVariants as kinds
use Rattle.soundness.proofs.Laws.{first-valid}

-- ---- kinds

frame-paged : (k : ObjectKind) → is_frame_kind k ≡ true → has_page (kind_of (new_object k)) ≡ true
frame-paged kinds.Frame is = refl
frame-paged kinds.Thread is = is
frame-paged kinds.Endpoint is = is
frame-paged kinds.Notification is = is
frame-paged (kinds.CNode radix) is = is
frame-paged kinds.PageTable is = refl
frame-paged kinds.RootTable is = refl

frame-aligned : (k : ObjectKind) (place : ℕ) → place % 2 ^ object_bits (kind_of (new_object k)) ≡ 0 → is_frame_kind k ≡ true → place % page_size ≡ 0
frame-aligned kinds.Frame place aligned is = aligned
frame-aligned kinds.Thread place aligned is = absurd (let clash : false ≡ true = is in cc)
frame-aligned kinds.Endpoint place aligned is = absurd (let clash : false ≡ true = is in cc)
frame-aligned kinds.Notification place aligned is = absurd (let clash : false ≡ true = is in cc)
frame-aligned (kinds.CNode radix) place aligned is = absurd (let clash : false ≡ true = is in cc)
frame-aligned kinds.PageTable place aligned is = absurd (let clash : false ≡ true = is in cc)
frame-aligned kinds.RootTable place aligned is = absurd (let clash : false ≡ true = is in cc)

-- ---- the record

-- what is in the tables afterwards
kind-put : (s : State) (k : ObjectKind) (place : ℕ) (made : List ℕ) (offset : ℕ) (kind : NewObject) → kind_at (begun s made k place) offset ≡ Some kind
    → (kind_at s offset ≡ Some kind) ⊎ ((offset ≡ place) × (kind ≡ kind_of (new_object k)))
kind-put s k place made offset kind is = elim (eqb_tells offset place) [
  | inl here ↦
      let new : Some (kind_of (new_object k)) ≡ Some kind =
      sym (ap (λ (b : Bool). option_map kind_of (if b then Some (new_object k) else s.objects offset)) here.0) ∙ is in
      inr (here.1, cc)
  | inr apart ↦ inl (sym (ap (λ (b : Bool). option_map kind_of (if b then Some (new_object k) else s.objects offset)) apart.0) ∙ is)
]

kind-begun : (s : State) (kind : ObjectType) (place : ℕ) (made : List ℕ) (offset : ℕ) (k : NewObject) → kind_at (with_begun s made kind place) offset ≡ Some k
    → (kind_at s offset ≡ Some k) ⊎ ((offset ≡ place) × (k ≡ new_type kind))
kind-begun s (Untyped bits) place made offset k is = inl is
kind-begun s (Object kind) place made offset k is = kind-put s kind place made offset k is

-- ---- the capability

placed-begun : (s : State) (kind : ObjectType) (place slot parent : ℕ) (room now : Slots) (old made : List ℕ) → place % 2 ^ object_bits (new_type kind) ≡ 0
    → RoomMade s.slots room old made (new_type kind) place
    → now ≡ with_first_capabilities (alone (new_type kind) place) slot parent (with_new_slots (alone (new_type kind) place) s.slots)
    → with_slots (with_begun (with_slots s room) made kind place) now ≡ one_placed s (new_type kind) place slot parent
placed-begun s (Untyped bits) place slot parent room now old made aligned is_made slots = placed-untyped s bits place slot parent now slots
placed-begun s (Object k) place slot parent room now old made aligned is_made slots =
    placed-object s k place slot parent room now made (frame-aligned k place aligned) (λ frame. is_made.page (frame-paged k frame)) slots

-- ---- all three

module _ (o after : Tables) (slots room begun_slots now : Slots) (old made begun_bytes new : List ℕ) (kind : ObjectType) (place slot parent : ℕ)
    (stood : Standing o slots old) (growing : Growing (state_of o slots old) old place (place + 2 ^ object_bits (new_type kind)))
    (aligned : place % 2 ^ object_bits (new_type kind) ≡ 0) (large : is_large_enough (new_type kind) ≡ true)
    (is_made : RoomMade slots room old made (new_type kind) place) (same_slots : begun_slots ≡ room)
    (state : state_of after begun_slots begun_bytes ≡ with_begun (state_of o room made) made kind place)
    (beside : SameBesideObjects (state_of after begun_slots begun_bytes) made begun_bytes) (stands : Standing after begun_slots begun_bytes)
    (puts : now ≡ inserted begun_slots slot (first_capability (new_type kind) place) (Some parent)) (same : SameOutside begun_slots begun_bytes new) where
  abbrev s : State
  s = state_of o slots old

  sixteenth : place % 16 ≡ 0
  sixteenth = sixteen (new_type kind) place large aligned

  own-room : RoomMade s.slots room old made (new_type kind) place
  unfolding state_of
  own-room = is_made

  begun-state : state_of after begun_slots begun_bytes ≡ with_begun (with_slots s room) made kind place
  begun-state = state ∙ ap (λ (t : State). with_begun t made kind place)
      (room-state o slots room old made (new_type kind) place _ growing (omega arith) sixteenth is_made stood)

  placed-slots : now ≡ with_first_capabilities (alone (new_type kind) place) slot parent (with_new_slots (alone (new_type kind) place) s.slots)
  placed-slots =
      puts ∙ inserted-first (new_type kind) place slot parent begun_slots
      ∙ ap (with_first_capabilities (alone (new_type kind) place) slot parent) (same_slots ∙ own-room.slots)

  pub state-made : state_of after now new ≡ one_placed s (new_type kind) place slot parent
  state-made =
      slots-law after begun_slots now begun_bytes new stands same ∙ ap (λ (t : State). with_slots t now) begun-state
      ∙ placed-begun s kind place slot parent room now old made aligned own-room placed-slots

  module _ (small : is_small_enough (new_type kind) ≡ true) (near : place < 2 ^ 24) (empty : s.slots slot ≡ Some empty_entry) where
    -- the capability's slot is open where it is put
    still-empty : begun_slots slot ≡ Some empty_entry
    still-empty =
        ap (λ (f : Slots). f slot) same_slots
        ∙ room-of_open s (new_type kind) place old growing room sixteenth own-room.slots slot (subst (λ (e : Option Entry). IsSome e) (sym empty) refl) ∙ empty

    pub stands-made : Standing after now new
    stands-made =
        stands-law after begun_slots now begun_bytes new stands same
        (λ x none. ap (λ (f : Slots). f x) puts ∙ put-closes begun_slots slot (first_capability (new_type kind) place) (Some parent)
        (is-open begun_slots slot empty_entry still-empty) x none)

    pub growing-made : (to : ℕ) → Growing s old place to → place + 2 ^ object_bits (new_type kind) ≤ to
        → Growing (state_of after now new) new (place + 2 ^ object_bits (new_type kind)) to
    growing-made to more fits =
        subst (λ (t : State). Growing t new (place + 2 ^ object_bits (new_type kind)) to) (sym state-made)
        (grown s (with_begun (with_slots s room) made kind place) (new_type kind) place slot parent to room old made begun_bytes new more fits aligned large
        small
        (first-valid (new_type kind) place large small aligned near) empty own-room (kind-begun (with_slots s room) kind place made)
        (subst (λ (t : State). SameBesideObjects t made begun_bytes) begun-state beside) (subst (λ (r : Slots). SameOutside r begun_bytes new) same_slots same))
