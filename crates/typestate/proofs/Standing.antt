-- Slots of a thread as the kernel's, and back.
use Rattle.std.proofs.Common.{ℕ, ◌≡◌, ◌∙◌, ◌+◌, ◌*◌, ◌^◌, ◌&&◌, Bool, true, false, not, if◌then◌else◌, Option, Some, None, option_and_then, List, [], ◌∷◌, refl}
use Rattle.std.proofs.Common.{sym, ap, subst, arith}
use Rattle.std.specs.List.{list_all}
use Rattle.std.specs.Option.{option_map_or}
use Rattle.std.proofs.lemmas.Bool.{and_parts, eqb-true}
use Rattle.model.specs.Acceptance.NotedKernel.{boot_parent, kernel_entry, key_of, keys_of, noted_after, noted_entry, noted_of, noted_slots, slot_of_key}
use Rattle.model.specs.Acceptance.NotedStates.{NotedSlot, SlotKey, is_own, is_same_key, number_of, slot_at}
use Rattle.model.specs.Acceptance.ThreadRules.{reached}
use Rattle.model.specs.Capabilities.Slots.{Slots, capability_at, empty_entry, is_empty, is_full, parent_at}
use Rattle.model.specs.Images.Described.{described}
use Rattle.model.specs.Images.Image.{Image, Thread}
use Rattle.model.specs.declared.capabilities.Cap.TheVariants.{Empty}
use Rattle.model.specs.declared.slot_entries.Entry.{Entry}
use Rattle.typestate.specs.Orders.{Rise}
use Rattle.typestate.specs.Spaces.{AreOwn, StandsApart, is_own_slot}
use Rattle.typestate.proofs.Compared.{same-place}
use Rattle.typestate.proofs.NamedKeys.{KeepsKeys, each-own, kept-at, kept-each, kept-rise, keys-rise, own-among, own-named, same-own-key}
use Rattle.typestate.proofs.Rising.{RiseFrom, from-first, looks-equal}

-- ---- what is known of a slot that is found

pub found-key : (slots : List NotedSlot) (key : SlotKey) (s : NotedSlot) → slot_at slots key ≡ Some s → number_of s.key ≡ number_of key
found-key [] key s found = absurd (let clash : None ≡ Some s = found in cc)
found-key (r ∷ rest) key s found = elim (is_same_key r.key key) as (λ b. is_same_key r.key key ≡ b → (if b then Some r else slot_at rest key) ≡ Some s →
    number_of s.key ≡ number_of key) [
      | true ↦ λ is here. let one : r ≡ s = cc in ap (λ (x : NotedSlot). number_of x.key) (sym one) ∙ eqb-true (number_of r.key) (number_of key) is
      | false ↦ λ _ later. found-key rest key s later
    ] refl found

pub found-all : (test : NotedSlot → Bool) (slots : List NotedSlot) (key : SlotKey) (s : NotedSlot) → list_all test slots ≡ true → slot_at slots key ≡ Some s →
    test s ≡ true
found-all test [] key s all found = absurd (let clash : None ≡ Some s = found in cc)
found-all test (r ∷ rest) key s all found =
    let parts = and_parts (test r) (list_all test rest) all in
    elim (is_same_key r.key key) as (λ b. (if b then Some r else slot_at rest key) ≡ Some s → test s ≡ true) [
      | true ↦ λ here. let one : r ≡ s = cc in ap test (sym one) ∙ parts.0
      | false ↦ λ later. found-all test rest key s parts.1 later
    ] found

pub record IsOwnSlot (image : Image) (t : Thread) (s : NotedSlot) : Type 0 where
  pub key : is_own image (reached image t) s.key ≡ true
  pub full : is_empty s.capability ≡ false
  pub parent : option_map_or (is_own image (reached image t)) s.parent true ≡ true

pub own-slot : (image : Image) (t : Thread) (s : NotedSlot) → is_own_slot image (reached image t) s ≡ true → IsOwnSlot image t s
own-slot image t s own =
    let outer = and_parts (is_own image (reached image t) s.key && not (is_empty s.capability)) (option_map_or (is_own image (reached image t)) s.parent true)
    own in
    let inner = and_parts (is_own image (reached image t) s.key) (not (is_empty s.capability)) outer.0 in
    record { key = inner.0; full = not-true (is_empty s.capability) inner.1; parent = outer.1 }
  where
    not-true : (b : Bool) → not b ≡ true → b ≡ false
    not-true true clash = absurd (let no : false ≡ true = clash in cc)
    not-true false is = refl

pub found-own : (image : Image) (t : Thread) (slots : List NotedSlot) (key : SlotKey) (s : NotedSlot) → AreOwn image t slots → slot_at slots key ≡ Some s →
    IsOwnSlot image t s
found-own image t slots key s are found = own-slot image t s (found-all (is_own_slot image (reached image t)) slots key s are found)

-- ---- back from slots of the kernel

pub noted-keeps : (image : Image) (cnodes : List ℕ) (after : Slots) → KeepsKeys (noted_of image cnodes after)
noted-keeps image cnodes after k s is =
    let held : NotedSlot = record {
      key = k;
      capability = capability_at after (slot_of_key image k);
      parent =
          option_and_then (key_of image cnodes) (parent_at after (slot_of_key image k));
    } in
    elim (is_full after (slot_of_key image k)) as (λ b. (if b then Some held else None) ≡ Some s → s.key ≡ k) [
      | true ↦ λ here. let one : held ≡ s = cc in ap (λ (x : NotedSlot). x.key) (sym one)
      | false ↦ λ clash. absurd (let no : None ≡ Some s = clash in cc)
    ] is

module _ (image : Image) (t : Thread) (stand : StandsApart image t) where
  abbrev cnodes : List ℕ
  cnodes = reached image t

  abbrev is-own : SlotKey → Type 0
  is-own key = is_own image cnodes key ≡ true

  pub after-at : (after : Slots) (key : SlotKey) → is-own key → slot_at (noted_after image t after) key ≡ noted_of image cnodes after key
  unfolding noted_after
  after-at after key own =
      kept-at (noted_of image cnodes after) (noted-keeps image cnodes after) is-own (same-own-key image t stand) (keys_of image cnodes) (0 * 2 ^ 32)
      ((0 + image.header.objects) * 2 ^ 32) key
      (keys-rise image t stand) (each-own image t) own (own-among image t stand key own)

  -- Slots are what the kernel's slots give back if they are so at each key of the thread's.
  pub after-is : (after : Slots) (slots : List NotedSlot) → RiseFrom 0 slots → ((key : SlotKey) (s : NotedSlot) → slot_at slots key ≡ Some s → is-own s.key)
      → ((key : SlotKey) → is-own key → noted_of image cnodes after key ≡ slot_at slots key) → noted_after image t after ≡ slots
  unfolding noted_after
  after-is after slots rises own same =
      let f = noted_of image cnodes after in
      let left = noted_after image t after in
      looks-equal left slots (0 * 2 ^ 32) 0 (kept-rise f (noted-keeps image cnodes after) (keys_of image cnodes) (0 * 2 ^ 32)
      ((0 + image.header.objects) * 2 ^ 32) (keys-rise image t stand)) rises
      (λ key. elim (slot_at left key) as (λ o. slot_at left key ≡ o → o ≡ slot_at slots key) [
        | Some s ↦ λ found.
            let mine : is-own s.key = kept-each f (noted-keeps image cnodes after) is-own (keys_of image cnodes) key s (each-own image t) found in
            let place = found-key left key s found in
            sym found ∙ sym (same-place left s.key key place) ∙ after-at after s.key mine ∙ same s.key mine ∙ same-place slots s.key key place
        | None ↦ λ none. elim (slot_at slots key) as (λ o. slot_at slots key ≡ o → None ≡ o) [
          | None ↦ λ _. refl
          | Some s ↦ λ found.
              let mine : is-own s.key = own key s found in
              let place = found-key slots key s found in
              sym none ∙ sym (same-place left s.key key place) ∙ after-at after s.key mine ∙ same s.key mine ∙ same-place slots s.key key place ∙ found
        ] refl
      ] refl)

  -- ---- what the kernel's slots hold

  -- at a slot of the thread's
  pub noted-here : (slots : List NotedSlot) (key : SlotKey) → is-own key →
      noted_slots image t slots (slot_of_key image key) ≡ Some (noted_entry image t slots key)
  noted-here slots key own =
      ap (λ (k : Option SlotKey). option_map_or (λ (k : SlotKey). Some (noted_entry image t slots k)) k ((described image).slots (slot_of_key image key)))
      (own-named image t stand key own)

  -- and elsewhere
  pub noted-there : (slots : List NotedSlot) (slot : ℕ) → key_of image cnodes slot ≡ None → noted_slots image t slots slot ≡ (described image).slots slot
  noted-there slots slot none =
      ap (λ (k : Option SlotKey). option_map_or (λ (k : SlotKey). Some (noted_entry image t slots k)) k ((described image).slots slot)) none

  -- the key of what a noted slot hangs below
  pub parent-key : (s : NotedSlot) → option_map_or (is_own image cnodes) s.parent true ≡ true →
      key_of image cnodes (option_map_or (slot_of_key image) s.parent (boot_parent image t s.capability)) ≡ s.parent
  parent-key s own = by-parent s.parent own
    where
      by-parent : (parent : Option SlotKey) → option_map_or (is_own image cnodes) parent true ≡ true →
          key_of image cnodes (option_map_or (slot_of_key image) parent (boot_parent image t s.capability)) ≡ parent
      by-parent None own = stand.behind (boot_parent image t s.capability) (omega (arith, stand.parent_boot s.capability))
      by-parent (Some p) own = own-named image t stand p own

  -- what comes back of an entry
  abbrev pub back_of : SlotKey → Entry → Option NotedSlot
  back_of key held = if not (is_empty held.capability) then
      Some (record { key = key; capability = held.capability; parent = option_and_then (key_of image cnodes) held.parent }) else None

  pub back-of : (after : Slots) (key : SlotKey) (held : Entry) → after (slot_of_key image key) ≡ Some held → noted_of image cnodes after key ≡ back_of key held
  back-of after key held is =
      ap (λ (o : Option Entry). if not (is_empty (option_map_or (λ h. h.capability) o Empty)) then
      Some (let s : NotedSlot = record {
        key = key;
        capability = option_map_or (λ h. h.capability) o Empty;
        parent =
            option_and_then (key_of image cnodes) (option_map_or (λ h. h.parent) o None);
      } in s) else None) is

  pub entry-back : (s : NotedSlot) → IsOwnSlot image t s → back_of s.key (kernel_entry image t s) ≡ Some s
  entry-back s own =
      ap (λ b. if not b then
      Some (let r : NotedSlot = record {
        key = s.key;
        capability = s.capability;
        parent =
            key_of image cnodes (option_map_or (slot_of_key image) s.parent (boot_parent image t s.capability));
      } in r) else None) own.full
      ∙ ap (λ (p : Option SlotKey). let r : NotedSlot = record { key = s.key; capability = s.capability; parent = p } in Some r) (parent-key s own.parent)

  pub noted-back : (slots : List NotedSlot) (key : SlotKey) → AreOwn image t slots → is-own key →
      noted_of image cnodes (noted_slots image t slots) key ≡ slot_at slots key
  noted-back slots key are own =
      back-of (noted_slots image t slots) key (noted_entry image t slots key) (noted-here slots key own)
      ∙ (elim (slot_at slots key) as (λ o. slot_at slots key ≡ o → back_of key (option_map_or (kernel_entry image t) o empty_entry) ≡ o) [
        | None ↦ λ _. refl
        | Some s ↦ λ found.
            let mine = found-own image t slots key s are found in
            let place : s.key ≡ key = same-own-key image t stand s.key key mine.key own (found-key slots key s found) in
            subst (λ (k : SlotKey). back_of k (kernel_entry image t s) ≡ Some s) place (entry-back s mine)
      ] refl)

  pub come-back-from : (slots : List NotedSlot) → RiseFrom 0 slots → AreOwn image t slots → noted_after image t (noted_slots image t slots) ≡ slots
  come-back-from slots rises are =
      after-is (noted_slots image t slots) slots rises (λ key s found. (found-own image t slots key s are found).key) (λ key own. noted-back slots key are own)

  pub come-back : (slots : List NotedSlot) → Rise slots → AreOwn image t slots → noted_after image t (noted_slots image t slots) ≡ slots
  come-back slots rises are = come-back-from slots (from-first slots rises) are
