-- The parent of a full slot of a thread's is the noted one.
use Rattle.std.proofs.Common.{ℕ, suc, ◌≡◌, ◌∙◌, ◌+◌, ◌-◌, ◌/◌, ◌≤◌, Bool, true, false, if◌then◌else◌, Option, Some, None, option_and_then, option_map, List, []}
use Rattle.std.proofs.Common.{◌∷◌, refl, sym, ap, subst, arith}
use Rattle.std.specs.Prelude.{Contains}
use Rattle.std.specs.List.{find}
use Rattle.std.proofs.lemmas.Bool.Decides.{nat_tests}
use Rattle.std.proofs.lemmas.Option.{none-some, same_Some}
use Rattle.model.specs.Acceptance.Authority.{IsOwnSlot}
use Rattle.model.specs.Acceptance.NotedKernel.{key_of, noted_after, slot_of_key, slots_of_cnode, stands_in}
use Rattle.model.specs.Acceptance.NotedStates.{NotedSlot, SlotKey, is_same_key, slot_at}
use Rattle.model.specs.Acceptance.ThreadInvariants.{HasBootParent}
use Rattle.model.specs.Acceptance.ThreadRules.{reached}
use Rattle.model.specs.Capabilities.Slots.{IsFull, capability_at, is_within, parent_at}
use Rattle.model.specs.Images.Described.{Numbered}
use Rattle.model.specs.Images.Image.{Image}
use Rattle.model.specs.Images.Places.{cnode_slot, offset_of}
use Rattle.model.specs.Kernel.State.{State}
use Rattle.typestate.specs.Spaces.{StandsApart}
use Rattle.headline.specs.lookups.Found.{HasNotedParent, noted_parent}
use Rattle.headline.proofs.lookups.OwnSlots.{slot-noted}
use Rattle.headline.proofs.lookups.ThreadKeys.{HasKey, key-found}

-- ---- what has a key is there

find-passes : (test : ℕ → Bool) (xs : List ℕ) (x : ℕ) → find test xs ≡ Some x → test x ≡ true
find-passes test [] x is = absurd (none-some x is)
find-passes test (y ∷ rest) x is = elim (test y) as (λ b. test y ≡ b → (if b then Some y else find test rest) ≡ Some x → test x ≡ true) [
  | true ↦ λ passes here. ap test (sym (same_Some y x here)) ∙ passes
  | false ↦ λ _ later. find-passes test rest x later
] refl is

within-back : (first count slot : ℕ) → is_within (first + 0) count slot ≡ true → first + (slot - (first + 0)) ≡ slot
within-back first count slot is = let from : first ≤ slot = grind (arith, nat_tests) in omega (arith, from)

place-of : (image : Image) (cnodes : List ℕ) (slot : ℕ) (key : SlotKey) → key_of image cnodes slot ≡ Some key → slot_of_key image key ≡ slot
place-of image cnodes slot key is =
    elim (find (stands_in image slot) cnodes) as (λ o. find (stands_in image slot) cnodes ≡ o
    → option_map (λ cnode. let k : SlotKey = record { cnode = cnode; index = slot - cnode_slot image cnode 0 } in k) o ≡ Some key →
    slot_of_key image key ≡ slot) [
      | None ↦ λ _ clash. absurd (none-some key clash)
      | Some cnode ↦ λ at here.
          ap (slot_of_key image) (sym (same_Some _ key here))
          ∙ within-back (offset_of image cnode / 16) (slots_of_cnode image cnode) slot (find-passes (stands_in image slot) cnodes cnode at)
    ] refl is

-- ---- what is found is in the list

pub found-there : (slots : List NotedSlot) (key : SlotKey) (s : NotedSlot) → slot_at slots key ≡ Some s → Contains slots s
found-there [] key s found = absurd (none-some s found)
found-there (r ∷ rest) key s found = elim (is_same_key r.key key) as (λ b. (if b then Some r else slot_at rest key) ≡ Some s → Contains (r ∷ rest) s) [
  | true ↦ λ here. (0, omega arith, same_Some r s here)
  | false ↦ λ later. let of = found-there rest key s later in let inside = of.1 in (suc of.0, omega (arith, inside), of.2)
] found

-- ---- parents

module _ (image : Image) (cnodes : List ℕ) where
  -- a parent with a key is the slot of that key
  parent-keyed : (parent : Option ℕ) (key : SlotKey) → option_and_then (key_of image cnodes) parent ≡ Some key → parent ≡ Some (slot_of_key image key)
  parent-keyed None key is = absurd (none-some key is)
  parent-keyed (Some above) key is = ap (λ (n : ℕ). Some n) (sym (place-of image cnodes above key is))

module _ (image : Image) (t : Numbered) (stand : StandsApart image t.thread) (s : State) (slots : List NotedSlot)
    (same : noted_after image t.thread s.slots ≡ slots)
    (parents : (noted : NotedSlot) → Contains slots noted → noted.parent ≡ None → HasBootParent s (slot_of_key image noted.key)) where
  abbrev cnodes : List ℕ
  cnodes = reached image t.thread

  abbrev key_above : ℕ → Option SlotKey
  key_above slot = option_and_then (key_of image cnodes) (parent_at s.slots slot)

  module _ (slot : ℕ) (of : HasKey image cnodes slot) (full : IsFull s.slots slot) where
    abbrev full_slot : NotedSlot
    full_slot = record { key = of.key; capability = capability_at s.slots slot; parent = key_above slot }

    found-full : slot_at slots of.key ≡ Some full_slot
    found-full = slot-noted image t stand s.slots slots same slot of ∙ ap (λ b. if b then Some full_slot else None) full

    above-is : noted_parent image t.thread slots slot ≡ key_above slot
    above-is =
        ap (λ (k : Option SlotKey). option_and_then (λ (n : NotedSlot). n.parent) (option_and_then (slot_at slots) k)) of.at
        ∙ ap (option_and_then (λ (n : NotedSlot). n.parent)) found-full

    keyed-parent : HasNotedParent image t.thread s slots slot
    keyed-parent = record {
      own = λ key is. parent-keyed image cnodes (parent_at s.slots slot) key (sym above-is ∙ is);
      boot = λ none. subst (λ (n : ℕ). HasBootParent s n) of.place (parents full_slot (found-there slots of.key full_slot found-full) (sym above-is ∙ none));
    }

  pub parent-noted : (slot : ℕ) → IsOwnSlot image t.thread slot → IsFull s.slots slot → HasNotedParent image t.thread s slots slot
  parent-noted slot own full = keyed-parent slot (key-found image cnodes slot own) full
