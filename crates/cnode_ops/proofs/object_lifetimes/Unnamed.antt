-- No capability names what is still to be made, and untyped memory names nothing.
use Rattle.std.proofs.Common.{ℕ, ◌≡◌, ◌≢◌, ◌∙◌, ◌==◌, ◌+◌, ◌/◌, ◌^◌, ◌≤◌, inl, inr, true, false, if◌then◌else◌, Option, Some, None, pow_pos, refl, sym, ap}
use Rattle.std.proofs.Common.{subst, arith}
use Rattle.std.specs.Option.{option_map_or}
use Rattle.std.proofs.lemmas.Bool.{eq-eqb}
use Rattle.std.proofs.lemmas.Bool.Decides.{eqb_tells}
use Rattle.cnode_ops.specs.object_lifetimes.Beginnings.{NoneNamed}
use Rattle.kernel_invariant.proofs.Laws.{alone, inserted-first, slots-alone}
use Rattle.kernel_invariant.specs.Growing.{one_placed}
use Rattle.model.proofs.SlotChanges.{capability_of, entry-other, entry-same, full-not-empty}
use Rattle.model.specs.Capabilities.CapabilityKinds.{object_of}
use Rattle.model.specs.Capabilities.Slots.{IsFull, Slots, capability_at, empty_entry, inserted, is_within, parent_at, recapped}
use Rattle.model.specs.Kernel.Removal.{slot_count}
use Rattle.model.specs.Kernel.Retype.{NewObject, NewUntyped, NewThread, NewEndpoint, NewNotification, NewCNode, NewFrame, NewPageTable, NewRootTable}
use Rattle.model.specs.Kernel.Retype.{first_capability, object, object_bits, with_new_slots}
use Rattle.model.specs.Kernel.Soundness.{IsSound}
use Rattle.model.specs.Kernel.State.{State}
use Rattle.model.specs.declared.capabilities.Cap.{Cap}
use Rattle.model.specs.declared.capabilities.Cap.TheVariants.{Untyped}
use Rattle.model.specs.declared.slot_entries.Entry.{Entry}
use Rattle.removal_laws.proofs.Laws.{object-kind}
use Rattle.slots.specs.Kin.{IsKin, object_at}
use Rattle.soundness.specs.Unused.{IsFree}

-- a first capability names its own object, if it names one
first-named : (kind : NewObject) (place offset : ℕ) → object_of (first_capability kind place) ≡ Some offset → offset ≡ place
first-named (NewUntyped bits) place offset is = absurd (let clash : None ≡ Some offset = is in cc)
first-named NewThread place offset is = let e : Some place ≡ Some offset = is in cc
first-named NewEndpoint place offset is = let e : Some place ≡ Some offset = is in cc
first-named NewNotification place offset is = let e : Some place ≡ Some offset = is in cc
first-named (NewCNode radix) place offset is = let e : Some place ≡ Some offset = is in cc
first-named NewFrame place offset is = let e : Some place ≡ Some offset = is in cc
first-named NewPageTable place offset is = let e : Some place ≡ Some offset = is in cc
first-named NewRootTable place offset is = let e : Some place ≡ Some offset = is in cc

-- slots that are opened name nothing
room-named : (kind : NewObject) (place x offset : ℕ) (slots : Slots) → object_at (with_new_slots (alone kind place) slots) x ≡ Some offset →
    object_at slots x ≡ Some offset
room-named kind place x offset slots is =
    elim (is_within (place / 16) (slot_count (object kind)) x) as (λ b. object_of (capability_of (if b then Some empty_entry else slots x)) ≡ Some offset →
    object_at slots x ≡ Some offset) [
      | true ↦ λ none. absurd (let clash : None ≡ Some offset = none in cc)
      | false ↦ λ named. named
    ] (sym (ap (λ e. object_of (capability_of e)) (slots-alone kind place x slots)) ∙ is)

nameless-still : (kind : NewObject) (place parent : ℕ) (slots : Slots) → object_at slots parent ≡ None →
    object_at (with_new_slots (alone kind place) slots) parent ≡ None
nameless-still kind place parent slots none =
    elim (object_at (with_new_slots (alone kind place) slots) parent) as (λ o. object_at (with_new_slots (alone kind place) slots) parent ≡ o → o ≡ None) [
      | None ↦ λ is. refl
      | Some offset ↦ λ is. absurd (let clash : None ≡ Some offset = sym none ∙ room-named kind place parent offset slots is in cc)
    ] refl

-- the new object's capability may hang below untyped memory
pub kin-made : (slots room now : Slots) (kind : NewObject) (place parent : ℕ) (capability : Cap) → NoneNamed slots place (place + 2 ^ object_bits kind) →
    object_at slots parent ≡ None
    → room ≡ with_new_slots (alone kind place) slots → now ≡ room → capability ≡ first_capability kind place → IsKin now capability (Some parent)
kin-made slots room now kind place parent capability unnamed nameless opens same is =
    let size = pow_pos (object_bits kind) in
    let wide : now ≡ with_new_slots (alone kind place) slots = same ∙ opens in
    subst (λ (f : Slots). IsKin f capability (Some parent)) (sym wide)
    (inr (
      nameless-still kind place parent slots nameless,
      λ offset x own named.
          let here : offset ≡ place = first-named kind place offset (ap object_of (sym is) ∙ own) in
          elim (unnamed x offset (room-named kind place x offset slots named))
          [ inl before ↦ omega (arith, before, here) | inr behind ↦ omega (arith, behind, here, size) ],
    ))

-- ---- one object more

module _ (s : State) (kind : NewObject) (place slot parent : ℕ) where
  abbrev entry : Option Entry
  entry = Some (record { capability = first_capability kind place; parent = Some parent })

  abbrev wide : Slots
  wide = with_new_slots (alone kind place) s.slots

  more-slots : (one_placed s kind place slot parent).slots ≡ inserted wide slot (first_capability kind place) (Some parent)
  more-slots = sym (inserted-first kind place slot parent wide)

  beside-named : (x offset : ℕ) → x ≢ slot → object_at (one_placed s kind place slot parent).slots x ≡ Some offset → object_at s.slots x ≡ Some offset
  beside-named x offset off is =
      room-named kind place x offset s.slots
      (sym (ap (λ (f : Slots). object_of (capability_of (f x))) more-slots ∙ ap (λ e. object_of (capability_of e)) (entry-other wide slot entry x off)) ∙ is)

  own-named : (x offset : ℕ) → x ≡ slot → object_at (one_placed s kind place slot parent).slots x ≡ Some offset → offset ≡ place
  own-named x offset here is =
      first-named kind place offset
      (sym (ap (object_at (one_placed s kind place slot parent).slots) here ∙ ap (λ (f : Slots). object_of (capability_of (f slot))) more-slots
      ∙ ap (λ e. object_of (capability_of e)) (entry-same wide slot entry)) ∙ is)

  pub unnamed-more : (to : ℕ) → NoneNamed s.slots place to → NoneNamed (one_placed s kind place slot parent).slots (place + 2 ^ object_bits kind) to
  unnamed-more to unnamed x offset is =
      let size = pow_pos (object_bits kind) in
      elim (eqb_tells x slot) [
        | inl here ↦ let at = own-named x offset here.1 is in inl (omega (arith, at, size))
        | inr off ↦ elim (unnamed x offset (beside-named x offset off.1 is)) [ inl before ↦ inl (omega (arith, before, size)) | inr behind ↦ inr behind ]
      ]

  pub nameless-more : IsFull s.slots parent → s.slots slot ≡ Some empty_entry → object_at s.slots parent ≡ None →
      object_at (one_placed s kind place slot parent).slots parent ≡ None
  nameless-more full empty none =
      elim (object_at (one_placed s kind place slot parent).slots parent)
      as (λ o. object_at (one_placed s kind place slot parent).slots parent ≡ o → o ≡ None) [
        | None ↦ λ is. refl
        | Some offset ↦ λ is. absurd (let clash : None ≡ Some offset = sym none
            ∙ beside-named parent offset (full-not-empty s.slots parent slot full empty) is in cc)
      ] refl

-- room for less is there too
pub unnamed-part : (slots : Slots) (from to until : ℕ) → NoneNamed slots from to → until ≤ to → NoneNamed slots from until
unnamed-part slots from to until unnamed less x offset is =
    elim (unnamed x offset is) [ inl before ↦ inl before | inr behind ↦ inr (omega (arith, behind, less)) ]

-- ---- at first

-- where no object is, none is named
free-unnamed : (s : State) (from to : ℕ) → IsSound s → IsFree s from to → NoneNamed s.slots from to
free-unnamed s from to sound free x offset is =
    let named = object-kind (capability_at s.slots x) offset (ap (λ (o : Option ℕ). option_map_or (λ n. n == offset) o false) is ∙ eq-eqb offset offset refl) in
    let size = pow_pos (object_bits named.0) in
    elim (free.objects offset named.0 (sound.memory.named x named.0 offset named.1))
    [ inl before ↦ inl (omega (arith, before, size)) | inr behind ↦ inr behind ]

module _ (slots : Slots) (parent offset bits used : ℕ) where
  abbrev marked : Slots
  marked = recapped slots parent (Untyped offset bits used)

  abbrev mark : Option Entry
  mark = Some (record { capability = Untyped offset bits used; parent = parent_at slots parent })

  pub marked-nameless : object_at marked parent ≡ None
  marked-nameless = ap (λ e. object_of (capability_of e)) (entry-same slots parent mark)

  marked-unnamed : (from to : ℕ) → NoneNamed slots from to → NoneNamed marked from to
  marked-unnamed from to unnamed x named is = elim (eqb_tells x parent) [
    | inl here ↦ absurd (let clash : None ≡ Some named = sym marked-nameless ∙ ap (object_at marked) (sym here.1) ∙ is in cc)
    | inr off ↦ unnamed x named (sym (ap (λ e. object_of (capability_of e)) (entry-other slots parent mark x off.1)) ∙ is)
  ]

pub first-unnamed : (s : State) (parent offset bits used from to : ℕ) → IsSound s → IsFree s from to →
    NoneNamed (recapped s.slots parent (Untyped offset bits used)) from to
first-unnamed s parent offset bits used from to sound free = marked-unnamed s.slots parent offset bits used from to (free-unnamed s from to sound free)
