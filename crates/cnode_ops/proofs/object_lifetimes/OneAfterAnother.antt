-- Objects one after another: none is made at first, one more each time, and all at the end.
use Rattle.std.proofs.Common.{ℕ, ◌≡◌, ◌≢◌, ◌∙◌, ◌+◌, ◌-◌, ◌*◌, ◌/◌, ◌%◌, ◌^◌, ◌<◌, ◌≤◌, inl, inr, pow_pos, Bool, true, false, if◌then◌else◌, Option, Some, None}
use Rattle.std.proofs.Common.{IsSome, List, refl, sym, ap, subst, arith}
use Rattle.std.proofs.Math.Nat.{add-mul-mod_self_right, mul-le-mul_right}
use Rattle.kernel_invariant.proofs.Laws.{alone, inserted-first, none-yet, one-more, parent-depth, parent-full, rest-empty, sixteen, slots-opened, slots-within}
use Rattle.kernel_invariant.proofs.Laws.{window-apart}
use Rattle.kernel_invariant.specs.Growing.{Growing, one_placed}
use Rattle.cnode_ops.proofs.object_lifetimes.Places.{of-some, room-depth, room-full, room-of_open}
use Rattle.cnode_ops.proofs.object_lifetimes.Unnamed.{nameless-more, unnamed-more, unnamed-part}
use Rattle.cnode_ops.specs.object_lifetimes.Beginnings.{AreLaid, AreMade, NoneNamed}
use Rattle.model.proofs.Derivations.{derivation-inserted, derivation-opened}
use Rattle.model.proofs.SlotChanges.{bounds-within, within-bounds}
use Rattle.model.specs.Capabilities.CapabilityWords.{IsCapability}
use Rattle.model.specs.Capabilities.Slots.{IsDerivation, IsFull, IsOpen, Slots, depth_of, empty_entry, is_empty, is_within}
use Rattle.model.specs.Kernel.Removal.{slot_count}
use Rattle.model.specs.Kernel.Retype.{NewObject, NewObjects, first_capability, object, object_bits, place_of_new, size_of, with_new, with_new_slots}
use Rattle.model.specs.Kernel.State.{State}
use Rattle.model.specs.declared.capabilities.Cap.TheVariants.{Empty}
use Rattle.model.specs.declared.slot_entries.Entry.{Entry}
use Rattle.slots.specs.Kin.{object_at}
use Rattle.soundness.proofs.Laws.{first-fresh, first-valid}

-- ---- places

pub ends-before : (first count size i : ℕ) → i < count → first + i * size + size ≤ first + count * size
ends-before first count size i less =
    let whole : (i + 1) * size ≤ count * size = mul-le-mul_right size (omega (arith, less)) in
    let one : (i + 1) * size ≡ i * size + size = grind arith in
    omega (arith, whole, one)

pub next-place : (first size i : ℕ) → first + i * size + size ≡ first + (i + 1) * size
next-place first size i = grind arith

pub place-aligned : (first size i : ℕ) → first % size ≡ 0 → (first + i * size) % size ≡ 0
place-aligned first size i aligned = add-mul-mod_self_right first i size ∙ aligned

-- ---- derivation

module _ (s : State) (kind : NewObject) (place slot parent : ℕ) (memory : List ℕ) (growing : Growing s memory place (place + 2 ^ object_bits kind))
    (sixteenth : place % 16 ≡ 0) (empty : s.slots slot ≡ Some empty_entry) (full : IsFull s.slots parent) (room : depth_of s.slots parent < 255) where
  abbrev wide : Slots
  wide = with_new_slots (alone kind place) s.slots

  wide-derivation : IsDerivation s.slots → IsDerivation wide
  wide-derivation tree =
      subst IsDerivation (sym (slots-opened kind place (slot_count (object kind)) s.slots refl))
      (derivation-opened s.slots (place / 16) (slot_count (object kind)) tree (λ x inside.
      let bounds = within-bounds (place / 16) (slot_count (object kind)) x inside in
      let low = bounds.0 in
      let high = bounds.1 in
      let size = slots-within kind in
      let here : x * 16 / 16 ≡ x = omega arith in
      ap s.slots (sym here) ∙ growing.free.slots (x * 16) (omega (arith, low, sixteenth)) (omega (arith, high, size, sixteenth))))

  first-some : first_capability kind place ≢ Empty
  first-some is = let clash : true ≡ false = sym (ap is_empty is) ∙ (first-fresh kind place).empty in absurd cc

  pub derivation-placed : IsDerivation s.slots → IsCapability (first_capability kind place) → IsDerivation (one_placed s kind place slot parent).slots
  derivation-placed tree valid =
      subst IsDerivation (inserted-first kind place slot parent wide)
      (derivation-inserted wide slot (first_capability kind place) (Some parent) (wide-derivation tree)
      (room-of_open s kind place memory growing wide sixteenth refl slot (subst (λ (e : Option Entry). IsSome e) (sym empty) refl) ∙ empty) valid first-some
      (λ p is. of-some (IsFull wide) parent p (room-full s kind place memory growing wide sixteenth refl parent full) is)
      (λ p is. of-some (λ y. depth_of wide y < 255) parent p
      (subst (λ (n : ℕ). n < 255) (sym (room-depth s kind place memory growing wide sixteenth refl parent)) room) is))

-- ---- rounds

-- room for less is there too
pub growing-part : (s : State) (memory : List ℕ) (from to until : ℕ) → Growing s memory from to → until ≤ to → Growing s memory from until
growing-part s memory from to until growing less =
    let end = growing.inside in
    record {
      agrees = growing.agrees;
      free = record {
        objects = λ offset kind is. elim (growing.free.objects offset kind is) [ inl before ↦ inl before | inr behind ↦ inr (omega (arith, behind, less)) ];
        slots = λ place low high. growing.free.slots place low (omega (arith, high, less));
        bytes = λ place low high. growing.free.bytes place low (omega (arith, high, less));
      };
      tables = λ table named. elim (growing.tables table named) [ inl before ↦ inl before | inr behind ↦ inr (omega (arith, behind, less)) ];
      inside = omega (arith, end, less);
    }

pub made-none : (t : State) (memory : List ℕ) (new : NewObjects) (window parent : ℕ) → Growing t memory new.first (new.first + new.count * size_of new)
    → ((i : ℕ) → i < new.count → t.slots (window + i) ≡ Some empty_entry) → IsDerivation t.slots → IsFull t.slots parent → depth_of t.slots parent < 255
    → NoneNamed t.slots new.first (new.first + new.count * size_of new) → object_at t.slots parent ≡ None → AreMade t t memory new window parent 0
made-none t memory new window parent growing empty tree full room unnamed nameless = record {
  state = sym (none-yet t new.kind new.first window parent);
  growing = subst (λ (place : ℕ). Growing t memory place (new.first + new.count * size_of new)) (omega arith) growing;
  rest = λ i low less. empty i less;
  derivation = tree;
  full = full;
  room = room;
  unnamed = subst (λ (place : ℕ). NoneNamed t.slots place (new.first + new.count * size_of new)) (omega arith) unnamed;
  nameless = nameless;
}

module _ (t s : State) (old : List ℕ) (new : NewObjects) (window parent i : ℕ) (made : AreMade t s old new window parent i) (laid : AreLaid new)
    (less : i < new.count) where
  abbrev place : ℕ
  place = place_of_new new i

  inside : place + size_of new ≤ new.first + new.count * size_of new
  inside = ends-before new.first new.count (size_of new) i less

  pub room-for_one : Growing s old place (place + size_of new)
  room-for_one = growing-part s old place (new.first + new.count * size_of new) (place + size_of new) made.growing inside

  pub one-unnamed : NoneNamed s.slots place (place + size_of new)
  one-unnamed = unnamed-part s.slots place (new.first + new.count * size_of new) (place + size_of new) made.unnamed inside

  pub one-near : place < 2 ^ 24
  one-near = let end = inside in let near = laid.near in let size = pow_pos (object_bits new.kind) in omega (arith, end, near, size)

  pub one-aligned : place % size_of new ≡ 0
  one-aligned = place-aligned new.first (size_of new) i laid.aligned

  pub one-empty : s.slots (window + i) ≡ Some empty_entry
  one-empty = made.rest i (omega arith) less

  sixteenth : place % 16 ≡ 0
  sixteenth = sixteen new.kind place laid.large one-aligned

  window-open : (j : ℕ) → j < i → IsOpen s.slots (window + j)
  window-open j before =
      let here : is_within window i (window + j) ≡ true = bounds-within window i (window + j) (omega arith) (omega (arith, before)) in
      subst (λ (u : State). IsOpen u.slots (window + j)) (sym made.state)
      (subst (λ (b : Bool).
      IsSome (if b then Some (record { capability = first_capability new.kind (new.first + (window + j - window) * size_of new); parent = Some parent })
      else with_new_slots (record { kind = new.kind; first = new.first; count = i }) t.slots (window + j))) (sym here) refl)

  module _ (next : State) (now : List ℕ) (is : next ≡ one_placed s new.kind place (window + i) parent)
      (grows : (to : ℕ) → Growing s old place to → place + size_of new ≤ to → Growing next now (place + size_of new) to) where
    more-state : next ≡ with_new t (record { kind = new.kind; first = new.first; count = i + 1 }) window parent
    more-state =
        is ∙ ap (λ (u : State). one_placed u new.kind place (window + i) parent) made.state
        ∙ sym (one-more t new.kind new.first i window parent (λ j before.
        window-apart s new.kind place (place + size_of new) place (window + j) room-for_one.free (omega arith) (omega arith) sixteenth (window-open j before)))

    pub made-more : AreMade t next now new window parent (i + 1)
    made-more = record {
      state = more-state;
      growing = subst (λ (p : ℕ). Growing next now p (new.first + new.count * size_of new)) (next-place new.first (size_of new) i)
          (grows (new.first + new.count * size_of new) made.growing inside);
      rest = λ j low high.
          subst (λ (u : State). u.slots (window + j) ≡ Some empty_entry) (sym is)
          (rest-empty s new.kind place (window + i) parent (window + j) (λ same. omega (arith, same, low)) (made.rest j (omega (arith, low)) high));
      derivation = subst (λ (u : State). IsDerivation u.slots) (sym is)
          (derivation-placed s new.kind place (window + i) parent old room-for_one sixteenth one-empty made.full made.room made.derivation
          (first-valid new.kind place laid.large laid.small one-aligned one-near));
      full = subst (λ (u : State). IsFull u.slots parent) (sym is)
          (parent-full s new.kind place (window + i) parent place (place + size_of new) room-for_one.free (omega arith) (omega arith) sixteenth one-empty
          made.full);
      room = subst (λ (n : ℕ). n < 255) (sym (ap (λ (u : State). depth_of u.slots parent) is
          ∙ parent-depth s new.kind place (window + i) parent place (place + size_of new) room-for_one.free (omega arith) (omega arith) sixteenth one-empty
          made.derivation made.full)) made.room;
      unnamed = subst (λ (u : State). NoneNamed u.slots (place_of_new new (i + 1)) (new.first + new.count * size_of new)) (sym is)
          (subst (λ (p : ℕ). NoneNamed (one_placed s new.kind place (window + i) parent).slots p (new.first + new.count * size_of new))
          (next-place new.first (size_of new) i)
          (unnamed-more s new.kind place (window + i) parent (new.first + new.count * size_of new) made.unnamed));
      nameless = subst (λ (u : State). object_at u.slots parent ≡ None) (sym is)
          (nameless-more s new.kind place (window + i) parent made.full one-empty made.nameless);
    }

  -- the same, where place and slot have other names
  pub made-at : (next : State) (now : List ℕ) (at slot : ℕ) → at ≡ place → slot ≡ window + i → next ≡ one_placed s new.kind at slot parent
      → ((to : ℕ) → Growing s old at to → at + size_of new ≤ to → Growing next now (at + size_of new) to) → AreMade t next now new window parent (i + 1)
  made-at next now at slot at_is slot_is is grows =
      made-more next now
      (is ∙ ap (λ (p : ℕ). one_placed s new.kind p slot parent) at_is ∙ ap (λ (w : ℕ). one_placed s new.kind place w parent) slot_is)
      (subst (λ (p : ℕ). (to : ℕ) → Growing s old p to → p + size_of new ≤ to → Growing next now (p + size_of new) to) at_is grows)
