-- A removal of a thread's slots, from noted slots to noted slots.
use Rattle.std.proofs.Common.{ℕ, ◌≡◌, ◌∙◌, ◌==◌, ◌^◌, ◌<◌, inl, inr, Bool, true, false, not, if◌then◌else◌, Option, Some, None, is_some, option_map}
use Rattle.std.proofs.Common.{option_and_then, Ok, List, refl, sym, ap, subst, arith}
use Rattle.std.specs.Option.{option_map_or}
use Rattle.std.proofs.lemmas.Bool.{eqb-true}
use Rattle.model.specs.Acceptance.NotedKernel.{key_of, noted_after, noted_entry, noted_kernel, noted_of, noted_slots, kernel_entry, slot_of_key}
use Rattle.model.specs.Acceptance.NotedStates.{NotedSlot, SlotKey, is_foreign, is_own, is_same_key, slot_at}
use Rattle.model.specs.Acceptance.ThreadRules.{reached}
use Rattle.model.specs.Capabilities.CapabilityKinds.{is_handler_of, names_object}
use Rattle.model.specs.Capabilities.Slots.{Slots, capability_at, empty_entry, is_empty}
use Rattle.model.specs.Images.Described.{described}
use Rattle.model.specs.Images.Image.{Image, Thread}
use Rattle.model.specs.Images.Places.{offset_of}
use Rattle.model.specs.Kernel.AddressSpaces.{maps_region}
use Rattle.model.specs.Kernel.Removal.{SlotSet, ancestor_outside, is_root_at, kept, kept_entry, loses_last_child, new_parent, remove, slots_emptied}
use Rattle.model.specs.Kernel.Removal.{with_bindings}
use Rattle.model.specs.Kernel.State.{State, line_slot}
use Rattle.model.specs.declared.capabilities.Cap.{Cap}
use Rattle.model.specs.declared.capabilities.Cap.TheVariants.{Empty, Untyped, Endpoint, Notification, CNode, Frame, PageTable, Tcb, RootTable, InterruptControl}
use Rattle.model.specs.declared.capabilities.Cap.TheVariants.{InterruptHandler}
use Rattle.model.specs.declared.slot_entries.Entry.{Entry}
use Rattle.typestate.specs.SlotChanges.{cap_left, heir, loses_children, slot_left, what_stays, without_gone}
use Rattle.typestate.specs.Spaces.{AreOwn, HeldInBoot, NothingLeadsOutside, StandsApart}
use Rattle.typestate.proofs.Allowed.{slots_allowed}
use Rattle.typestate.proofs.NamedKeys.{own-named}
use Rattle.typestate.proofs.RemovedNoted.{above-here, is_mine, key-same, loses-noted, parent-of, reset-full, reset-left, stay-at, stay-rise, stays-keeps}
use Rattle.typestate.proofs.RemovedOwn.{HeldElse, MayRemove, kept-is, own-same, removed-slots, reset}
use Rattle.typestate.proofs.Rising.{RiseFrom}
use Rattle.typestate.proofs.SlotMaps.{found-passes, noted-holds}
use Rattle.typestate.proofs.Standing.{after-is, back-of, back_of, found-own, noted-here, noted-there}

root-own : (image : Image) (t : Thread) (cnodes : List ℕ) (root : ℕ) (c : Cap) → is_foreign image t cnodes c ≡ false → is_root_at root c ≡ true →
    root ≡ offset_of image t.header.root
root-own image t cnodes root Empty own is = absurd (let clash : false ≡ true = is in cc)
root-own image t cnodes root (Untyped _ _ _) own is = absurd (let clash : false ≡ true = is in cc)
root-own image t cnodes root (Endpoint _ _ _) own is = absurd (let clash : false ≡ true = is in cc)
root-own image t cnodes root (Notification _ _ _) own is = absurd (let clash : false ≡ true = is in cc)
root-own image t cnodes root (CNode _ _ _) own is = absurd (let clash : false ≡ true = is in cc)
root-own image t cnodes root (Frame _ _ _) own is = absurd (let clash : false ≡ true = is in cc)
root-own image t cnodes root (PageTable _ _) own is = absurd (let clash : false ≡ true = is in cc)
root-own image t cnodes root (Tcb _) own is = absurd (let clash : false ≡ true = is in cc)
root-own image t cnodes root (RootTable offset) own is = sym (eqb-true offset root is)
    ∙ eqb-true offset (offset_of image t.header.root) (not-false (offset == offset_of image t.header.root) own)
  where
    not-false : (b : Bool) → not b ≡ false → b ≡ true
    not-false true no-one = refl
    not-false false clash = absurd (let nope : true ≡ false = clash in cc)
root-own image t cnodes root InterruptControl own is = absurd (let clash : false ≡ true = is in cc)
root-own image t cnodes root (InterruptHandler _) own is = absurd (let clash : false ≡ true = is in cc)

pub no-table : (image : Image) (t : Thread) (cnodes : List ℕ) (root region : ℕ) (c : Cap) → is_foreign image t cnodes c ≡ false →
    maps_region root region c ≡ false
no-table image t cnodes root region Empty own = refl
no-table image t cnodes root region (Untyped _ _ _) own = refl
no-table image t cnodes root region (Endpoint _ _ _) own = refl
no-table image t cnodes root region (Notification _ _ _) own = refl
no-table image t cnodes root region (CNode _ _ _) own = refl
no-table image t cnodes root region (Frame _ _ _) own = refl
no-table image t cnodes root region (PageTable _ _) own = absurd (let clash : true ≡ false = own in cc)
no-table image t cnodes root region (Tcb _) own = refl
no-table image t cnodes root region (RootTable _) own = refl
no-table image t cnodes root region InterruptControl own = refl
no-table image t cnodes root region (InterruptHandler _) own = refl

module _ (image : Image) (t : Thread) (stand : StandsApart image t) (slots : List NotedSlot) (are : AreOwn image t slots)
    (none : NothingLeadsOutside image t slots) where
  abbrev cnodes : List ℕ
  cnodes = reached image t

  abbrev all_slots : Slots
  all_slots = noted_slots image t slots

  abbrev s : State
  s = noted_kernel image t slots

  abbrev mine : ℕ → Bool
  mine = is_mine image t stand slots are

  cap-there : (slot : ℕ) → key_of image cnodes slot ≡ None → capability_at all_slots slot ≡ capability_at (described image).slots slot
  cap-there slot nowhere = ap (λ (o : Option Entry). option_map_or (λ h. h.capability) o Empty) (noted-there image t stand slots slot nowhere)

  boot-else : (slot : ℕ) → slot < 2 ^ image.header.boot_radix → key_of image cnodes slot ≡ None
  boot-else slot boot = stand.behind slot (omega (arith, boot))

  else-of : (test : Cap → Bool) → HeldInBoot image test → HeldElse s mine test
  unfolding noted_kernel described
  else-of test e = record {
    slot = e.slot;
    boot = e.boot;
    memory = omega (arith, e.boot, stand.room);
    other = ap is_some (boot-else e.slot e.boot);
    holds = ap test (cap-there e.slot (boot-else e.slot e.boot)) ∙ e.holds;
  }

  own-cap : (slot : ℕ) → mine slot ≡ true → is_foreign image t cnodes (capability_at all_slots slot) ≡ false
  own-cap slot here = elim (key_of image cnodes slot) as (λ o. key_of image cnodes slot ≡ o → is_some o ≡ true →
      is_foreign image t cnodes (capability_at all_slots slot) ≡ false) [
        | None ↦ λ _ clash. absurd (let nope : false ≡ true = clash in cc)
        | Some key ↦ λ is _. ap (is_foreign image t cnodes) (noted-holds image t slots slot key is)
            ∙ (elim (slot_at slots key) as (λ o. slot_at slots key ≡ o → is_foreign image t cnodes (option_map_or (λ r. r.capability) o Empty) ≡ false) [
              | None ↦ λ _. refl
              | Some r ↦ λ at. found-passes (λ (x : NotedSlot). is_foreign image t cnodes x.capability) (λ (x : NotedSlot). is_same_key x.key key) slots r none
                  at
            ] refl)
      ] refl here

  may : MayRemove s mine
  unfolding noted_kernel described
  may = record {
    bound = λ line few. ap is_some (stand.behind (line_slot image.header.boot_radix line) (omega (arith, few)));
    lines = λ line few. elim (stand.lines line few) [
      | inl empty ↦ inl (cap-there (line_slot image.header.boot_radix line) (stand.behind (line_slot image.header.boot_radix line) (omega (arith, few)))
          ∙ empty)
      | inr e ↦ inr (else-of (is_handler_of line) e)
    ];
    objects = λ offset. elim (stand.objects offset) [ inl few ↦ inl few | inr e ↦ inr (else-of (names_object offset) e) ];
    roots = λ slot root here is. else-of (is_root_at root)
        (subst (λ n. HeldInBoot image (is_root_at n)) (sym (root-own image t cnodes root (capability_at all_slots slot) (own-cap slot here) is)) stand.root);
    tables = λ slot root region here. no-table image t cnodes root region (capability_at all_slots slot) (own-cap slot here);
  }

  module _ (set : SlotSet) (gone : SlotKey → Bool) (same : (key : SlotKey) → is_own image cnodes key ≡ true → set (slot_of_key image key) ≡ gone key)
      (inside : (slot : ℕ) → set slot ≡ true → mine slot ≡ true) (rises : RiseFrom 0 slots) where
    abbrev every : SlotSet
    every = with_bindings s set

    abbrev after : Slots
    after = slots_emptied s every

    abbrev left : List NotedSlot
    left = without_gone gone slots

    every-is : (key : SlotKey) → is_own image cnodes key ≡ true → every (slot_of_key image key) ≡ gone key
    every-is key own = own-same s mine may set inside (slot_of_key image key) (ap is_some (own-named image t stand key own)) ∙ same key own

    lost-is : (key : SlotKey) → is_own image cnodes key ≡ true → loses_last_child s every (slot_of_key image key) ≡ loses_children gone slots key
    unfolding noted_kernel described
    lost-is key own = loses-noted image t stand slots are every gone every-is rises key own

    left-at : (key : SlotKey) → slot_at left key ≡ option_and_then (what_stays gone slots) (slot_at slots key)
    left-at key = stay-at (what_stays gone slots) (stays-keeps gone slots) slots 0 key rises

    after-gone : (key : SlotKey) → is_own image cnodes key ≡ true → gone key ≡ true → noted_of image cnodes after key ≡ slot_at left key
    unfolding noted_kernel
    after-gone key own is =
        back-of image t stand after key empty_entry
        (ap (λ b. if b then Some empty_entry else option_map (kept_entry s every (slot_of_key image key)) (all_slots (slot_of_key image key)))
        (every-is key own ∙ is))
        ∙ sym (left-at key ∙ (elim (slot_at slots key) as (λ o. slot_at slots key ≡ o → option_and_then (what_stays gone slots) o ≡ None) [
          | None ↦ λ _. refl
          | Some r ↦ λ at. ap (λ b. if b then None else Some (slot_left gone slots r))
              (ap gone (key-same image t stand slots are every gone every-is key r own at) ∙ is)
        ] refl))

    parent-left : (key : SlotKey) (r : NotedSlot) → is_own image cnodes key ≡ true → slot_at slots key ≡ Some r
        → option_and_then (key_of image cnodes) (new_parent s every (slot_of_key image key)) ≡ heir gone slots r
    unfolding noted_kernel
    parent-left key r own at =
        ap (λ o. option_and_then (key_of image cnodes) (ancestor_outside 256 every all_slots o))
        (parent-of image t stand slots are every gone every-is key r own at)
        ∙ above-here image t stand slots are every gone every-is 256 r.parent r.capability (found-own image t slots key r are at).parent

    cap-left : (key : SlotKey) (c : Cap) → is_own image cnodes key ≡ true → kept s every (slot_of_key image key) c ≡ cap_left gone slots key c
    cap-left key c own =
        kept-is s mine may set inside (slot_of_key image key) c ∙ ap (λ b. reset b c) (lost-is key own) ∙ reset-left gone slots key c

    cap-full : (key : SlotKey) (c : Cap) → is_empty c ≡ false → is_empty (cap_left gone slots key c) ≡ false
    cap-full key c full = ap is_empty (sym (reset-left gone slots key c)) ∙ reset-full (loses_children gone slots key) c ∙ full

    abbrev back : SlotKey → Cap → Option SlotKey → Option NotedSlot
    back key c parent = if not (is_empty c) then Some (record { key = key; capability = c; parent = parent }) else None

    stays-back : (key : SlotKey) (r : NotedSlot) → is_own image cnodes key ≡ true → slot_at slots key ≡ Some r → gone key ≡ false
        → back key (kept s every (slot_of_key image key) r.capability) (option_and_then (key_of image cnodes) (new_parent s every (slot_of_key image key)))
        ≡ what_stays gone slots r
    stays-back key r own at is =
        let one = key-same image t stand slots are every gone every-is key r own at in
        ap (λ c. back key c (option_and_then (key_of image cnodes) (new_parent s every (slot_of_key image key)))) (cap-left key r.capability own)
        ∙ ap (back key (cap_left gone slots key r.capability)) (parent-left key r own at)
        ∙ ap (λ b. if not b then
        Some (let x : NotedSlot = record { key = key; capability = cap_left gone slots key r.capability; parent = heir gone slots r } in x) else None)
        (cap-full key r.capability (found-own image t slots key r are at).full)
        ∙ ap (λ (k : SlotKey). let x : NotedSlot = record { key = k; capability = cap_left gone slots k r.capability; parent = heir gone slots r } in Some x)
        (sym one)
        ∙ sym (ap (λ b. if b then None else Some (slot_left gone slots r)) (ap gone one ∙ is))

    after-stays : (key : SlotKey) → is_own image cnodes key ≡ true → gone key ≡ false → noted_of image cnodes after key ≡ slot_at left key
    unfolding noted_kernel
    after-stays key own is =
        let x = slot_of_key image key in
        let held : after x ≡ Some (kept_entry s every x (noted_entry image t slots key)) =
        ap (λ b. if b then Some empty_entry else option_map (kept_entry s every x) (all_slots x)) (every-is key own ∙ is)
        ∙ ap (option_map (kept_entry s every x)) (noted-here image t stand slots key own) in
        back-of image t stand after key (kept_entry s every x (noted_entry image t slots key)) held
        ∙ (elim (slot_at slots key) as (λ o. slot_at slots key ≡ o →
        back_of image t stand key (kept_entry s every x (option_map_or (kernel_entry image t) o empty_entry)) ≡ option_and_then (what_stays gone slots) o) [
          | None ↦ λ _. refl
          | Some r ↦ λ at. stays-back key r own at is
        ] refl)
        ∙ sym (left-at key)

    left-own : (key : SlotKey) (r : NotedSlot) → slot_at left key ≡ Some r → is_own image cnodes r.key ≡ true
    left-own key r found = elim (slot_at slots key) as (λ o. slot_at slots key ≡ o → option_and_then (what_stays gone slots) o ≡ Some r →
        is_own image cnodes r.key ≡ true) [
          | None ↦ λ _ clash. absurd (let nothing : None ≡ Some r = clash in cc)
          | Some q ↦ λ at here. subst (λ (k : SlotKey). is_own image cnodes k ≡ true) (sym (stays-keeps gone slots q r here))
              (found-own image t slots key q are at).key
        ] refl (sym (left-at key) ∙ found)

    removal-noted : noted_after image t after ≡ left
    removal-noted =
        after-is image t stand after left (stay-rise (what_stays gone slots) (stays-keeps gone slots) slots 0 rises) left-own
        (λ key own. elim (gone key) as (λ b. gone key ≡ b → noted_of image cnodes after key ≡ slot_at left key) [
          | true ↦ λ is. after-gone key own is
          | false ↦ λ is. after-stays key own is
        ] refl)

    -- a removal succeeds, and leaves what the noted slots tell
    pub removal-left : (after : Slots) × (slots_allowed (remove s set) ≡ Ok after) × (noted_after image t after ≡ left)
    removal-left = (slots_emptied s every, removed-slots s mine may set inside, removal-noted)
