-- Changes that are told at their keys, one after another, are all of them.
use Rattle.std.proofs.Common.{ℕ, suc, ◌≡◌, ◌∙◌, ◌==◌, ◌||◌, ◌&&◌, Bool, true, false, not, is_some, option_to_list, arith, if◌then◌else◌, Option, Some, None}
use Rattle.std.proofs.Common.{option_map, option_and_then, List, [], ◌∷◌, ◌++◌, map, refl, sym, ap}
use Rattle.std.specs.Option.{option_map_or}
use Rattle.std.specs.List.{filter, flat_map, list_any}
use Rattle.std.proofs.lemmas.Bool.Decides.{nat_tests}
use Rattle.std.proofs.lemmas.Bool.{eq-eqb, eqb-true}
use Rattle.model.specs.Acceptance.NotedStates.{NotedSlot, SlotKey, is_same_key, number_of, slot_at, with_noted}
use Rattle.model.specs.Capabilities.CapabilityKinds.{frame_mapping, is_untyped}
use Rattle.model.specs.Capabilities.Slots.{is_empty}
use Rattle.model.specs.declared.capabilities.Cap.{Cap}
use Rattle.model.specs.declared.capabilities.Cap.TheVariants.{Empty, Untyped, Endpoint, Notification, CNode, Frame, PageTable, Tcb, RootTable, InterruptControl}
use Rattle.model.specs.declared.capabilities.Cap.TheVariants.{InterruptHandler}
use Rattle.typestate.specs.declared.points.NotedSlots.{NotedSlots}
use Rattle.typestate.specs.declared.slot_changes.Removed.{Removed}
use Rattle.typestate.specs.declared.slot_changes.Removed.TheVariants.{One, Below}
use Rattle.typestate.specs.declared.slot_changes.SlotChange.{SlotChange}
use Rattle.typestate.specs.declared.slot_changes.SlotChange.TheVariants.{Nothing, Puts, Moves, Removes}
use Rattle.typestate.specs.ChangeLists.{changes_of, children_kept, named_by, removal_change, removal_changes, told_at, told_of}
use Rattle.typestate.specs.Differences.{changed, left_by, slots_of}
use Rattle.typestate.specs.Families.{children_of, has_parent}
use Rattle.typestate.specs.Levels.{all_below, below_by, hanging_below, hangs_below, named, touched_by}
use Rattle.typestate.specs.Removals.{may_lose}
use Rattle.typestate.specs.Replays.{exchanged, replayed, turned}
use Rattle.typestate.specs.declared.log_entries.LogEntry.{LogEntry}
use Rattle.typestate.specs.declared.log_entries.LogEntry.TheVariants.{Sets}
use Rattle.typestate.specs.SlotChanges.{cap_left, emptied, followed, heir, is_parent, is_removed, loses_children, noted_descends, noted_outside, noted_parent}
use Rattle.typestate.specs.SlotChanges.{slot_left, slots_left, what_stays, without_gone}
use Rattle.typestate.proofs.Compared.{is_changed, same-place, unchanged}
use Rattle.typestate.proofs.Linked.{filter-found, kept as kept-by}
use Rattle.typestate.proofs.LevelByLevel.{descends-longer, descends-same, listed-goes}
use Rattle.typestate.proofs.MoveCalls.{follows-keeps, map-at, map-rises}
use Rattle.typestate.specs.Unlinked.{AreUnlinked, is_linked}
use Rattle.typestate.proofs.OwnChanges.{HoldOwn, hold-own, unnamed-parent}
use Rattle.typestate.proofs.OrderedChanges.{changed-at, found_or}
use Rattle.typestate.proofs.RemovedNoted.{reset-full, reset-left, stay-at, stay-rise, stays-keeps}
use Rattle.typestate.proofs.Replayed.{replayed-more, sets-made}
use Rattle.typestate.proofs.Rising.{RiseFrom, changes-rise, from-first, looks-equal}
use Rattle.typestate.proofs.SlotLists.{noted-at}
use Rattle.typestate.proofs.SomeHeld.{any-held, held-any}
use Rattle.typestate.proofs.Standing.{found-key}

-- what stands at a key does not depend on how the key is written
abbrev pub ByNumber : (SlotKey → Option NotedSlot) → Type 0
ByNumber found = (a b : SlotKey) → number_of a ≡ number_of b → found a ≡ found b

abbrev pub AllLeave : (SlotKey → Option NotedSlot) → List NotedSlot → Type 0
AllLeave found [] = Unit {0}
AllLeave found (c ∷ rest) = (left_by c ≡ found c.key) × AllLeave found rest

-- each change leaves what is wanted at its key, and what no change names is as wanted
pub changed-to : (found : SlotKey → Option NotedSlot) → ByNumber found → (changes slots : List NotedSlot) → AllLeave found changes
    → (key : SlotKey) → (is_changed changes key ≡ false → slot_at slots key ≡ found key) → slot_at (changed slots changes) key ≡ found key
changed-to found by [] slots leave key rest = rest refl
changed-to found by (c ∷ more) slots leave key rest =
    changed-to found by more (with_noted slots c) leave.1 key (λ none.
    noted-at slots c key ∙ (elim (is_same_key c.key key) as (λ b. is_same_key c.key key ≡ b → (if b then left_by c else slot_at slots key) ≡ found key) [
      | true ↦ λ is. leave.0 ∙ by c.key key (eqb-true (number_of c.key) (number_of key) is)
      | false ↦ λ isnt. rest (ap (λ b. b || is_changed more key) isnt ∙ none)
    ] refl))

leave-append : (found : SlotKey → Option NotedSlot) (xs ys : List NotedSlot) → AllLeave found xs → AllLeave found ys → AllLeave found (xs ++ ys)
leave-append found [] ys first second = second
leave-append found (x ∷ xs) ys first second = (first.0, leave-append found xs ys first.1 second)

changed-append : (key : SlotKey) (xs ys : List NotedSlot) → is_changed (xs ++ ys) key ≡ (is_changed xs key || is_changed ys key)
changed-append key [] ys = refl
changed-append key (x ∷ xs) ys = ap (λ b. is_same_key x.key key || b) (changed-append key xs ys)
    ∙ or-again (is_same_key x.key key) (is_changed xs key) (is_changed ys key)
  where
    or-again : (a b c : Bool) → (a || (b || c)) ≡ ((a || b) || c)
    or-again true b c = refl
    or-again false b c = refl

or-second : (a b : Bool) → b ≡ true → (a || b) ≡ true
or-second true b is = refl
or-second false b is = is

in-first : (key : SlotKey) (xs ys : List NotedSlot) → is_changed xs key ≡ true → is_changed (xs ++ ys) key ≡ true
in-first key xs ys is = changed-append key xs ys ∙ ap (λ b. b || is_changed ys key) is

in-second : (key : SlotKey) (xs ys : List NotedSlot) → is_changed ys key ≡ true → is_changed (xs ++ ys) key ≡ true
in-second key xs ys is = changed-append key xs ys ∙ or-second (is_changed xs key) (is_changed ys key) is

among : (slots : List NotedSlot) (key : SlotKey) (s : NotedSlot) → slot_at slots key ≡ Some s → is_changed slots key ≡ true
among [] key s is = absurd (let clash : None ≡ Some s = is in cc)
among (r ∷ rest) key s is = elim (is_same_key r.key key) as (λ b. (if b then Some r else slot_at rest key) ≡ Some s → (b || is_changed rest key) ≡ true) [
  | true ↦ λ _. refl
  | false ↦ λ later. among rest key s later
] is

pub changed-more : (slots first second : List NotedSlot) → changed slots (first ++ second) ≡ changed (changed slots first) second
changed-more slots [] second = refl
changed-more slots (c ∷ first) second = changed-more (with_noted slots c) first second

module _ (slots : List NotedSlot) (tell : NotedSlot → List NotedSlot) where
  -- what is told at the keys of these changes
  abbrev told : List NotedSlot → List NotedSlot
  told keys = flat_map (λ (k : NotedSlot). told_at tell slots k.key) keys

  told-own : (changes : List NotedSlot) → HoldOwn slots changes → flat_map (told_of tell) changes ≡ told changes
  told-own [] own = refl
  told-own (c ∷ rest) own =
      ap (λ (o : Option NotedSlot). option_map_or tell o [] ++ flat_map (told_of tell) rest) (sym own.0)
      ∙ ap (λ (l : List NotedSlot). told_at tell slots c.key ++ l) (told-own rest own.1)

  told-here : (k key : SlotKey) (s : NotedSlot) → slot_at slots key ≡ Some s → is_same_key k key ≡ true → told_at tell slots k ≡ tell s
  told-here k key s at is = ap (λ o. option_map_or tell o []) (same-place slots k key (eqb-true (number_of k) (number_of key) is) ∙ at)

  told-among : (keys : List NotedSlot) (key : SlotKey) (s : NotedSlot) → slot_at slots key ≡ Some s → is_changed keys key ≡ true →
      is_changed (tell s) key ≡ true → is_changed (told keys) key ≡ true
  told-among [] key s at some tells = absurd (let clash : false ≡ true = some in cc)
  told-among (k ∷ rest) key s at some tells = elim (is_same_key k.key key)
      as (λ b. is_same_key k.key key ≡ b → (b || is_changed rest key) ≡ true → is_changed (told_at tell slots k.key ++ told rest) key ≡ true) [
        | true ↦ λ is _. in-first key (told_at tell slots k.key) (told rest) (ap (λ l. is_changed l key) (told-here k.key key s at is) ∙ tells)
        | false ↦ λ _ later. in-second key (told_at tell slots k.key) (told rest) (told-among rest key s at later tells)
      ] refl some

  abbrev is_named : List SlotKey → SlotKey → Bool
  is_named keys key = list_any (λ k. is_same_key k key) keys

  told-named : (keys : List SlotKey) (key : SlotKey) (s : NotedSlot) → slot_at slots key ≡ Some s → is_named keys key ≡ true → is_changed (tell s) key ≡ true
      → is_changed (flat_map (told_at tell slots) keys) key ≡ true
  told-named [] key s at some tells = absurd (let clash : false ≡ true = some in cc)
  told-named (k ∷ rest) key s at some tells = elim (is_same_key k key)
      as (λ b. is_same_key k key ≡ b → (b || is_named rest key) ≡ true → is_changed (told_at tell slots k ++ flat_map (told_at tell slots) rest) key ≡ true) [
        | true ↦ λ is _. in-first key (told_at tell slots k) (flat_map (told_at tell slots) rest) (ap (λ l. is_changed l key) (told-here k key s at is) ∙ tells)
        | false ↦ λ _ later. in-second key (told_at tell slots k) (flat_map (told_at tell slots) rest) (told-named rest key s at later tells)
      ] refl some

  module _ (found : SlotKey → Option NotedSlot) (by : ByNumber found)
      (leave : (key : SlotKey) (s : NotedSlot) → slot_at slots key ≡ Some s → AllLeave found (tell s)) where
    leave-at : (k : SlotKey) → AllLeave found (told_at tell slots k)
    leave-at k = elim (slot_at slots k) as (λ o. slot_at slots k ≡ o → AllLeave found (option_map_or tell o []))
        [ None ↦ λ _. tt | Some s ↦ λ at. leave k s at ] refl

    leave-told : (keys : List NotedSlot) → AllLeave found (told keys)
    leave-told [] = tt
    leave-told (k ∷ rest) = leave-append found (told_at tell slots k.key) (told rest) (leave-at k.key) (leave-told rest)

    leave-named : (keys : List SlotKey) → AllLeave found (flat_map (told_at tell slots) keys)
    leave-named [] = tt
    leave-named (k ∷ rest) = leave-append found (told_at tell slots k) (flat_map (told_at tell slots) rest) (leave-at k) (leave-named rest)

    -- what is told of the named keys and of the changes is all, where a slot that neither names stays
    pub told-all : (keys : List SlotKey) (changes : List NotedSlot)
        → ((key : SlotKey) (s : NotedSlot) → slot_at slots key ≡ Some s → is_changed (tell s) key ≡ false → Some s ≡ found key)
        → ((key : SlotKey) (s : NotedSlot) → slot_at slots key ≡ Some s → is_changed changes key ≡ false → is_named keys key ≡ false → Some s ≡ found key)
        → ((key : SlotKey) → slot_at slots key ≡ None → None ≡ found key)
        → (key : SlotKey) → slot_at (changed slots (flat_map (told_at tell slots) keys ++ told changes)) key ≡ found key
    told-all keys changes rest unnamed empty key =
        let named = flat_map (told_at tell slots) keys in
        changed-to found by (named ++ told changes) slots (leave-append found named (told changes) (leave-named keys) (leave-told changes)) key
        (λ none. elim (slot_at slots key) as (λ o. slot_at slots key ≡ o → o ≡ found key) [
          | None ↦ λ is. empty key is
          | Some s ↦ λ at. elim (is_changed (tell s) key) as (λ b. is_changed (tell s) key ≡ b → Some s ≡ found key) [
            | false ↦ λ is. rest key s at is
            | true ↦ λ tells. elim (is_changed changes key) as (λ b. is_changed changes key ≡ b → Some s ≡ found key) [
              | true ↦ λ is. absurd (let clash : false ≡ true = sym none ∙ in-second key named (told changes) (told-among changes key s at is tells) in cc)
              | false ↦ λ unchanged. elim (is_named keys key) as (λ b. is_named keys key ≡ b → Some s ≡ found key) [
                | true ↦ λ is. absurd (let clash : false ≡ true = sym none ∙ in-first key named (told changes) (told-named keys key s at is tells) in cc)
                | false ↦ λ isnt. unnamed key s at unchanged isnt
              ] refl
            ] refl
          ] refl
        ] refl)

-- ---- what goes

cap-same : (gone : SlotKey → Bool) (slots : List NotedSlot) (key : SlotKey) (c : Cap) → is_untyped c ≡ false → cap_left gone slots key c ≡ c
cap-same gone slots key Empty is = refl
cap-same gone slots key (Untyped _ _ _) is = absurd (let clash : true ≡ false = is in cc)
cap-same gone slots key (Endpoint _ _ _) is = refl
cap-same gone slots key (Notification _ _ _) is = refl
cap-same gone slots key (CNode _ _ _) is = refl
cap-same gone slots key (Frame _ _ _) is = refl
cap-same gone slots key (PageTable _ _) is = refl
cap-same gone slots key (Tcb _) is = refl
cap-same gone slots key (RootTable _) is = refl
cap-same gone slots key InterruptControl is = refl
cap-same gone slots key (InterruptHandler _) is = refl

cap-kept : (gone : SlotKey → Bool) (slots : List NotedSlot) (key : SlotKey) (c : Cap) → loses_children gone slots key ≡ false → cap_left gone slots key c ≡ c
cap-kept gone slots key (Untyped offset bits watermark) none = ap (λ b. Untyped offset bits (if b then 0 else watermark)) none
cap-kept gone slots key Empty none = refl
cap-kept gone slots key (Endpoint _ _ _) none = refl
cap-kept gone slots key (Notification _ _ _) none = refl
cap-kept gone slots key (CNode _ _ _) none = refl
cap-kept gone slots key (Frame _ _ _) none = refl
cap-kept gone slots key (PageTable _ _) none = refl
cap-kept gone slots key (Tcb _) none = refl
cap-kept gone slots key (RootTable _) none = refl
cap-kept gone slots key InterruptControl none = refl
cap-kept gone slots key (InterruptHandler _) none = refl

heir-same : (n : ℕ) (gone : SlotKey → Bool) (slots : List NotedSlot) (parent : Option SlotKey) → option_map_or gone parent false ≡ false →
    noted_outside (suc n) gone slots parent ≡ parent
unfolding noted_outside
heir-same n gone _ None stays = refl
heir-same n gone slots (Some p) stays = ap (λ b. if b then noted_outside n gone slots (noted_parent slots p) else Some p) stays

or-neither : (a b : Bool) → (a || b) ≡ false → (a ≡ false) × (b ≡ false)
or-neither true b clash = absurd (let nope : true ≡ false = clash in cc)
or-neither false b is = (refl, is)

own-some : (slots : List NotedSlot) (test : NotedSlot → Bool) (cs : List NotedSlot) → HoldOwn slots cs → HoldOwn slots (filter test cs)
own-some slots test [] own = tt
own-some slots test (c ∷ rest) own =
    let more = own-some slots test rest own.1 in elim (test c) as (λ b. HoldOwn slots (if b then c ∷ filter test rest else filter test rest))
    [ true ↦ (own.0, more) | false ↦ more ]

module _ (image changes : List NotedSlot) (unlinked : AreUnlinked image) (ordered : RiseFrom 0 changes) (rises : RiseFrom 0 (changed image changes))
    (full : (key : SlotKey) (s : NotedSlot) → slot_at (changed image changes) key ≡ Some s → is_empty s.capability ≡ false) where
  abbrev noted : List NotedSlot
  noted = changed image changes

  here-again : (key : SlotKey) (s : NotedSlot) → slot_at noted key ≡ Some s → slot_at noted s.key ≡ Some s
  here-again key s at = same-place noted s.key key (found-key noted key s at) ∙ at

  -- what the image lists was derived from none of the thread's slots
  listed-parent : (key : SlotKey) (s : NotedSlot) → slot_at image key ≡ Some s → s.parent ≡ None
  listed-parent key s here = elim s.parent as (λ p. s.parent ≡ p → p ≡ None) [
    | None ↦ λ _. refl
    | Some p ↦ λ is.
        let linked : is_linked s ≡ true = ap (λ (o : Option SlotKey). is_some o || is_some (frame_mapping s.capability)) is in
        absurd (let clash : true ≡ false = sym (held-any is_linked image key (ap (λ (o : Option NotedSlot). option_map_or is_linked o false) here ∙ linked))
        ∙ unlinked in cc)
  ] refl

  -- what no change names is the image's, and was derived from none of the thread's slots
  no-parent : (key : SlotKey) (s : NotedSlot) → slot_at noted key ≡ Some s → is_changed changes key ≡ false → s.parent ≡ None
  no-parent key s at none =
      listed-parent key s (sym (unchanged image changes key none) ∙ at)

  module _ (gone : SlotKey → Bool) where
    abbrev left : List NotedSlot
    left = without_gone gone noted

    left-is : (key : SlotKey) → slot_at left key ≡ option_and_then (what_stays gone noted) (slot_at noted key)
    left-is key = stay-at (what_stays gone noted) (stays-keeps gone noted) noted 0 key rises

    stays-full : (key : SlotKey) (s : NotedSlot) → slot_at noted key ≡ Some s → is_empty (slot_left gone noted s).capability ≡ false
    stays-full key s at = ap is_empty (sym (reset-left gone noted s.key s.capability)) ∙ reset-full (loses_children gone noted s.key) s.capability
        ∙ full key s at

    abbrev touched : NotedSlot → Bool
    touched s = option_map_or gone s.parent false || is_untyped s.capability

    removal-leaves : (key : SlotKey) (s : NotedSlot) → slot_at noted key ≡ Some s → AllLeave (slot_at left) (removal_change gone noted s)
    removal-leaves key s at =
        let wanted : slot_at left s.key ≡ what_stays gone noted s = left-is s.key ∙ ap (option_and_then (what_stays gone noted)) (here-again key s at) in
        elim (gone s.key) as (λ b. gone s.key ≡ b → AllLeave (slot_at left)
        (if b then emptied s.key ∷ [] else if touched s then slot_left gone noted s ∷ [] else [])) [
          | true ↦ λ is. (sym (wanted ∙ ap (λ b. if b then None else Some (slot_left gone noted s)) is), tt)
          | false ↦ λ is. elim (touched s) as (λ b. AllLeave (slot_at left) (if b then slot_left gone noted s ∷ [] else [])) [
            | true ↦ (
              ap (λ b. if b then None else Some (slot_left gone noted s)) (stays-full key s at)
                  ∙ sym (wanted ∙ ap (λ b. if b then None else Some (slot_left gone noted s)) is),
              tt,
            )
            | false ↦ tt
          ]
        ] refl

    untouched : (s : NotedSlot) → touched s ≡ false → slot_left gone noted s ≡ s
    untouched s is =
        let parts = or-neither (option_map_or gone s.parent false) (is_untyped s.capability) is in
        ap (λ (c : Cap). let r : NotedSlot = record { key = s.key; capability = c; parent = heir gone noted s } in r)
        (cap-same gone noted s.key s.capability parts.1)
        ∙ ap (λ (p : Option SlotKey). let r : NotedSlot = record { key = s.key; capability = s.capability; parent = p } in r)
        (heir-same 255 gone noted s.parent parts.0)

    removal-rest : (key : SlotKey) (s : NotedSlot) → slot_at noted key ≡ Some s → is_changed (removal_change gone noted s) key ≡ false →
        Some s ≡ slot_at left key
    removal-rest key s at none =
        let same : is_same_key s.key key ≡ true = eq-eqb (number_of s.key) (number_of key) (found-key noted key s at) in
        let wanted : slot_at left key ≡ what_stays gone noted s = left-is key ∙ ap (option_and_then (what_stays gone noted)) at in
        elim (gone s.key) as (λ b. gone s.key ≡ b → is_changed (if b then emptied s.key ∷ [] else if touched s then slot_left gone noted s ∷ [] else []) key
        ≡ false → Some s ≡ slot_at left key) [
          | true ↦ λ _ clash. absurd (let nope : true ≡ false = sym (ap (λ b. b || false) same) ∙ clash in cc)
          | false ↦ λ is. elim (touched s) as (λ b. touched s ≡ b → is_changed (if b then slot_left gone noted s ∷ [] else []) key ≡ false →
              Some s ≡ slot_at left key) [
                | true ↦ λ _ clash. absurd (let nope : true ≡ false = sym (ap (λ b. b || false) same) ∙ clash in cc)
                | false ↦ λ stays _. sym (wanted ∙ ap (λ b. if b then None else Some (slot_left gone noted s)) is
                    ∙ ap (λ (r : NotedSlot). Some r) (untouched s stays))
              ] refl
        ] refl none

    -- a slot that stays, of which no child goes, is left as it is, where what it was derived from stays
    left-alone : (s : NotedSlot) → option_map_or gone s.parent false ≡ false → loses_children gone noted s.key ≡ false → slot_left gone noted s ≡ s
    left-alone s stays none =
        ap (λ (c : Cap). let r : NotedSlot = record { key = s.key; capability = c; parent = heir gone noted s } in r)
        (cap-kept gone noted s.key s.capability none)
        ∙ ap (λ (p : Option SlotKey). let r : NotedSlot = record { key = s.key; capability = s.capability; parent = p } in r)
        (heir-same 255 gone noted s.parent stays)

    module _ (keys : List SlotKey) (touched_ : List NotedSlot) (own : HoldOwn noted touched_)
        (stay : (key : SlotKey) (s : NotedSlot) → slot_at noted key ≡ Some s → is_changed touched_ key ≡ false →
        is_named noted (removal_change gone noted) keys key ≡ false
        → (gone s.key ≡ false) × (option_map_or gone s.parent false ≡ false) × (loses_children gone noted s.key ≡ false)) where
      abbrev tell : NotedSlot → List NotedSlot
      tell = removal_change gone noted

      pub removal-made : changed noted (flat_map (told_at tell noted) keys ++ flat_map (told_of tell) touched_) ≡ left
      removal-made =
          let named = flat_map (told_at tell noted) keys in
          let made = named ++ told noted tell touched_ in
          ap (λ (l : List NotedSlot). changed noted (named ++ l)) (told-own noted tell touched_ own)
          ∙ looks-equal (changed noted made) left 0 0 (changes-rise noted made rises) (stay-rise (what_stays gone noted) (stays-keeps gone noted) noted 0 rises)
          (told-all noted tell (slot_at left) (same-place left) removal-leaves keys touched_ removal-rest
          (λ key s at unchanged isnt.
          let stays = stay key s at unchanged isnt in
          sym (left-is key ∙ ap (option_and_then (what_stays gone noted)) at ∙ ap (λ b. if b then None else Some (slot_left gone noted s)) stays.0
          ∙ ap (λ (r : NotedSlot). Some r) (left-alone s stays.1 stays.2)))
          (λ key none. sym (left-is key ∙ ap (option_and_then (what_stays gone noted)) none)))

  module _ (from to : SlotKey) where
    abbrev follow : NotedSlot → NotedSlot
    follow = followed from to

    abbrev children : List NotedSlot
    children = map follow noted

    children-is : (key : SlotKey) → slot_at children key ≡ option_map follow (slot_at noted key)
    children-is key = map-at follow (follows-keeps from to) noted key

    abbrev swapped : List NotedSlot
    swapped = map (exchanged from to) noted

    swapped-is : (key : SlotKey) → slot_at swapped key ≡ option_map (exchanged from to) (slot_at noted key)
    swapped-is key = map-at (exchanged from to) (λ s. refl) noted key

    -- what was derived from the slot to which one moves
    abbrev below_to : List NotedSlot
    below_to = children_of changes to

    abbrev kept : List NotedSlot
    kept = map follow below_to

    left-follows : (c : NotedSlot) → left_by (follow c) ≡ option_map follow (left_by c)
    left-follows c = ap (λ (k : Cap). if is_empty k then None else Some (follow c)) capability-same
        ∙ (elim (is_empty c.capability) as (λ b. (if b then None else Some (follow c)) ≡ option_map follow (if b then None else Some c))
        [ true ↦ refl | false ↦ refl ])
      where
        capability-same : (follow c).capability ≡ c.capability
        capability-same = elim (is_parent from c.parent) as (λ b. (if b then record c { parent = Some to } else c).capability ≡ c.capability)
            [ true ↦ refl | false ↦ refl ]

    kept-leave : (cs : List NotedSlot) → HoldOwn noted cs → AllLeave (slot_at children) (map follow cs)
    kept-leave [] own = tt
    kept-leave (c ∷ rest) own = (
      left-follows c ∙ ap (option_map follow) (sym own.0) ∙ sym (children-is c.key)
          ∙ same-place children c.key (follow c).key (sym (ap number_of (follows-keeps from to c))),
      kept-leave rest own.1,
    )

    -- what was derived from another slot changes its parent as a child follows
    exchanged-follows : (s : NotedSlot) → is_parent to s.parent ≡ false → exchanged from to s ≡ follow s
    exchanged-follows s off = by-parent s.parent off
      where
        by-parent : (p : Option SlotKey) → is_parent to p ≡ false →
            (let r : NotedSlot = record { key = s.key; capability = s.capability; parent = option_map (turned from to) p } in r)
            ≡ (if is_parent from p then (let r : NotedSlot = record { key = s.key; capability = s.capability; parent = Some to } in r) else
            (let r : NotedSlot = record { key = s.key; capability = s.capability; parent = p } in r))
        by-parent None off = refl
        by-parent (Some p) off = elim (is_same_key p from)
            as (λ b. (let r : NotedSlot = record {
              key = s.key;
              capability = s.capability;
              parent =
                  Some (if b then to else if is_same_key p to then from else p);
            } in r)
            ≡ (if b then (let r : NotedSlot = record { key = s.key; capability = s.capability; parent = Some to } in r) else
            (let r : NotedSlot = record { key = s.key; capability = s.capability; parent = Some p } in r))) [
              | true ↦ refl
              | false ↦ ap (λ d. (let r : NotedSlot = record { key = s.key; capability = s.capability; parent = Some (if d then from else p) } in r)) off
            ]

    left-same : (c s : NotedSlot) → left_by c ≡ Some s → c ≡ s
    left-same c s is = elim (is_empty c.capability) as (λ b. (if b then None else Some c) ≡ Some s → c ≡ s) [
      | true ↦ λ clash. absurd (let no : None ≡ Some s = clash in cc)
      | false ↦ λ same. cc
    ] is

    -- no other slot was derived from there
    not-below : (key : SlotKey) (s : NotedSlot) → slot_at noted key ≡ Some s → is_changed kept key ≡ false → is_parent to s.parent ≡ false
    not-below key s at none = elim (is_parent to s.parent) as (λ b. is_parent to s.parent ≡ b → b ≡ false) [
      | false ↦ λ _. refl
      | true ↦ λ is. by-change (slot_at changes key) refl is
    ] refl
      where
        by-change : (o : Option NotedSlot) → slot_at changes key ≡ o → is_parent to s.parent ≡ true → true ≡ false
        by-change None here is =
            let listed : slot_at image key ≡ Some s = sym (changed-at changes image 0 key ordered ∙ ap (λ o. found_or o (slot_at image key)) here) ∙ at in
            sym is ∙ ap (is_parent to) (listed-parent key s listed)
        by-change (Some c) here is =
            let left : left_by c ≡ Some s = sym (changed-at changes image 0 key ordered ∙ ap (λ o. found_or o (slot_at image key)) here) ∙ at in
            let passes : has_parent to (left_by c) ≡ true = ap (has_parent to) left ∙ is in
            let there : slot_at below_to key ≡ Some c =
            filter-found (λ c. has_parent to (left_by c)) changes 0 (number_of key) ordered ∙ ap (kept-by (λ c. has_parent to (left_by c))) here
            ∙ ap (λ b. if b then Some c else None) passes in
            sym (among kept key (follow c) (map-at follow (follows-keeps from to) below_to key ∙ ap (option_map follow) there)) ∙ none

    kept-rest : (key : SlotKey) → is_changed kept key ≡ false → slot_at swapped key ≡ slot_at children key
    kept-rest key none = swapped-is key
        ∙ (elim (slot_at noted key) as (λ o. slot_at noted key ≡ o → option_map (exchanged from to) o ≡ option_map follow o) [
          | None ↦ λ _. refl
          | Some s ↦ λ at. ap (λ (r : NotedSlot). Some r) (exchanged-follows s (not-below key s at none))
        ] refl) ∙ sym (children-is key)

    pub children-made : changed swapped kept ≡ children
    children-made =
        looks-equal (changed swapped kept) children 0 0 (changes-rise swapped kept (map-rises (exchanged from to) (λ s. refl) noted 0 rises))
        (map-rises follow (follows-keeps from to) noted 0 rises)
        (λ key. changed-to (slot_at children) (same-place children) kept swapped
        (kept-leave below_to (own-some noted (λ c. has_parent to (left_by c)) changes (hold-own image changes 0 ordered))) key (kept-rest key))

-- ---- slots that no removal names

or-both : (a b : Bool) → (a || b) ≡ false → (a ≡ false) × (b ≡ false)
or-both true b clash = absurd (let nope : true ≡ false = clash in cc)
or-both false b is = (refl, is)

number-apart : (a b c : SlotKey) → number_of a ≡ number_of b → is_same_key c b ≡ false → is_same_key c a ≡ false
number-apart a b c same isnt = ap (λ (n : ℕ). number_of c == n) same ∙ isnt

module _ (slots : List NotedSlot) (rises : RiseFrom 0 slots) (gone : SlotKey → Bool) (key : SlotKey) where
  abbrev goes : NotedSlot → Bool
  goes x = gone x.key && is_parent key x.parent

  -- a child that goes
  record ChildGoes : Type 0 where
    at : SlotKey
    child : NotedSlot
    held : slot_at slots at ≡ Some child
    removed : gone child.key ≡ true
    below : is_parent key child.parent ≡ true

  no-loss : (ChildGoes → ⊥) → loses_children gone slots key ≡ false
  no-loss none = elim (list_any goes slots) as (λ b. list_any goes slots ≡ b →
      (b && not (list_any (λ x. not (gone x.key) && is_parent key (heir gone slots x)) slots)) ≡ false) [
        | false ↦ λ _. refl
        | true ↦ λ some.
            let found = any-held goes slots 0 rises some in
            absurd (elim (slot_at slots found.key) as (λ o. slot_at slots found.key ≡ o → option_map_or goes o false ≡ true → ⊥) [
              | None ↦ λ _ clash. let no : false ≡ true = clash in cc
              | Some x ↦ λ at is. elim (gone x.key) as (λ b. gone x.key ≡ b → (b && is_parent key x.parent) ≡ true → ⊥) [
                | false ↦ λ _ clash. let no : false ≡ true = clash in cc
                | true ↦ λ removed below. none (record { at = found.key; child = x; held = at; removed = removed; below = below })
              ] refl is
            ] refl found.holding)
      ] refl

record HasParent (key : SlotKey) (above : Option SlotKey) : Type 0 where
  parent : SlotKey
  there : above ≡ Some parent
  same : is_same_key parent key ≡ true

parent-is : (key : SlotKey) (parent : Option SlotKey) → is_parent key parent ≡ true → HasParent key parent
parent-is key None is = absurd (let no : false ≡ true = is in cc)
parent-is key (Some p) is = record { parent = p; there = refl; same = is }

found-at : (slots : List NotedSlot) (key : SlotKey) (s : NotedSlot) → slot_at slots key ≡ Some s → slot_at slots s.key ≡ Some s
found-at slots key s at = same-place slots s.key key (found-key slots key s at) ∙ at

above-stays : (n : ℕ) (slots : List NotedSlot) (root k p key : SlotKey) → noted_parent slots k ≡ Some p → number_of p ≡ number_of key →
    noted_descends (suc n) slots root key ≡ false → is_same_key key root ≡ false
    → noted_descends (suc n) slots root k ≡ false
unfolding noted_descends
above-stays n slots root k p key above same stays isnt =
    ap (λ (o : Option SlotKey). option_map_or (λ parent. is_same_key parent root || noted_descends n slots root parent) o false) above
    ∙ ap (λ b. b || noted_descends n slots root p) (ap (λ (m : ℕ). m == number_of root) same ∙ isnt)
    ∙ descends-same n slots root p key same ∙ shorter (noted_descends n slots root key) (descends-longer n slots root key) stays
  where
    shorter : (b : Bool) → (b ≡ true → noted_descends (suc n) slots root key ≡ true) → noted_descends (suc n) slots root key ≡ false → b ≡ false
    shorter true so stays = absurd (let clash : true ≡ false = sym (so refl) ∙ stays in cc)
    shorter false so stays = refl

-- only a slot that a removal names loses children
pub never-loses : (slots : List NotedSlot) → RiseFrom 0 slots → (which : Removed) (key : SlotKey) → is_removed slots which key ≡ false →
    may_lose slots which key ≡ false → loses_children (is_removed slots which) slots key ≡ false
never-loses slots rises (One gone) key stays isnt =
    no-loss slots rises (is_removed slots (One gone)) key (λ c.
    let there : slot_at slots gone ≡ Some c.child = same-place slots gone c.child.key (eqb-true (number_of gone) (number_of c.child.key) c.removed)
    ∙ found-at slots c.at c.child c.held in
    let above : noted_parent slots gone ≡ c.child.parent = ap (option_and_then (λ (x : NotedSlot). x.parent)) there in
    let clash : true ≡ false = sym c.below ∙ ap (is_parent key) (sym above) ∙ isnt in cc)
never-loses slots rises (Below root) key stays isnt =
    no-loss slots rises (is_removed slots (Below root)) key (λ c.
    let p = parent-is key c.child.parent c.below in
    let above : noted_parent slots c.child.key ≡ Some p.parent = ap (option_and_then (λ (x : NotedSlot). x.parent)) (found-at slots c.at c.child c.held)
    ∙ p.there in
    let same : number_of p.parent ≡ number_of key = eqb-true (number_of p.parent) (number_of key) p.same in
    let clash : true ≡ false = sym c.removed ∙ above-stays 255 slots root c.child.key p.parent key above same stays isnt in cc)

-- a slot that no removal touches
module _ (n : NotedSlots) (rises : RiseFrom 0 (slots_of n)) (key : SlotKey) (s : NotedSlot) (at : slot_at (slots_of n) key ≡ Some s) where
  abbrev here : List NotedSlot
  here = slots_of n

  owned : HoldOwn here n.changes.now
  owned = hold-own n.image.now n.changes.now 0 (from-first n.changes.now n.ordered)

  passes-touched : (root : SlotKey) (going cs : List NotedSlot) → HoldOwn here cs → is_changed cs key ≡ true →
      is_changed (filter (λ c. hangs_below root going (left_by c)) cs) key ≡ false → hangs_below root going (Some s) ≡ false
  passes-touched root going [] own some none = absurd (let clash : false ≡ true = some in cc)
  passes-touched root going (c ∷ rest) own some none = elim (is_same_key c.key key)
      as (λ b. is_same_key c.key key ≡ b → (b || is_changed rest key) ≡ true → hangs_below root going (Some s) ≡ false) [
        | true ↦ λ same _.
            let left : left_by c ≡ Some s = sym own.0 ∙ same-place here c.key key (eqb-true (number_of c.key) (number_of key) same) ∙ at in
            elim (hangs_below root going (left_by c)) as (λ b. hangs_below root going (left_by c) ≡ b →
            is_changed (if b then c ∷ filter (λ c. hangs_below root going (left_by c)) rest else filter (λ c. hangs_below root going (left_by c)) rest) key
            ≡ false → hangs_below root going (Some s) ≡ false) [
              | true ↦ λ _ clash. absurd (let no : true ≡ false =
                  sym (ap (λ b. b || is_changed (filter (λ c. hangs_below root going (left_by c)) rest) key) same)
                  ∙ clash in cc)
              | false ↦ λ isnt _. ap (hangs_below root going) (sym left) ∙ isnt
            ] refl none
        | false ↦ λ isnt later. passes-touched root going rest own.1 later (dropped (hangs_below root going (left_by c)) none)
      ] refl some
    where
      dropped : (b : Bool) → is_changed (if b then c ∷ filter (λ c. hangs_below root going (left_by c)) rest else
          filter (λ c. hangs_below root going (left_by c)) rest) key ≡ false
          → is_changed (filter (λ c. hangs_below root going (left_by c)) rest) key ≡ false
      dropped true none = (or-both (is_same_key c.key key) (is_changed (filter (λ c. hangs_below root going (left_by c)) rest) key) none).1
      dropped false none = none

  untouched-hangs : (root : SlotKey) (going : List NotedSlot) → is_changed (hanging_below n root going) key ≡ false → hangs_below root going (Some s) ≡ false
  untouched-hangs root going none = elim (is_changed n.changes.now key) as (λ b. is_changed n.changes.now key ≡ b → hangs_below root going (Some s) ≡ false) [
    | true ↦ λ some. passes-touched root going n.changes.now owned some none
    | false ↦ λ not. ap (λ (o : Option SlotKey). option_map_or (λ p. is_same_key p root || is_some (slot_at going p)) o false) (unnamed-parent n key s at not)
  ] refl

  -- what hangs below none of those that go does not go
  above-apart : (test other : SlotKey → Bool) → ((p : SlotKey) → test p ≡ false → other p ≡ false) → (o : Option SlotKey) → option_map_or test o false ≡ false →
      option_map_or other o false ≡ false
  above-apart test other so None none = none
  above-apart test other so (Some p) none = so p none

  parent-here : noted_parent here s.key ≡ s.parent
  parent-here = ap (option_and_then (λ (x : NotedSlot). x.parent)) (found-at here key s at)

  flipped : (a b : ℕ) → (a == b) ≡ false → (b == a) ≡ false
  flipped a b isnt = grind (arith, nat_tests)

  may-not : (gone : SlotKey) (o : Option SlotKey) → list_any (λ k. is_same_key k key) (option_to_list o) ≡ false → is_parent s.key o ≡ false
  may-not gone None none = refl
  may-not gone (Some p) none = ap (λ (m : ℕ). number_of p == m) (found-key here key s at) ∙ (or-both (is_same_key p key) false none).0

  unnamed-stay : (which : Removed) → is_changed (touched_by n which) key ≡ false → list_any (λ k. is_same_key k key) (named_by here which) ≡ false
      → (is_removed here which s.key ≡ false) × (option_map_or (is_removed here which) s.parent false ≡ false)
      × (loses_children (is_removed here which) here s.key ≡ false)
  unfolding noted_descends
  unnamed-stay (One gone) none isnt =
      let parts = or-both (is_same_key gone key) (list_any (λ k. is_same_key k key) (option_to_list (noted_parent here gone))) isnt in
      let stays : is_same_key gone s.key ≡ false = number-apart s.key key gone (found-key here key s at) parts.0 in (
        stays,
        above-apart (λ p. is_same_key p gone || false) (is_same_key gone)
            (λ p off. flipped (number_of p) (number_of gone) (or-both (is_same_key p gone) false off).0) s.parent (untouched-hangs gone [] none),
        never-loses here rises (One gone) s.key stays (may-not gone (noted_parent here gone) parts.1),
      )
  unnamed-stay (Below root) none isnt =
      let going = below_by 256 n root in
      let free = untouched-hangs root going none in
      let above : option_map_or (is_removed here (Below root)) s.parent false ≡ false =
      above-apart (λ p. is_same_key p root || is_some (slot_at going p)) (noted_descends 256 here root)
      (λ p off. sym (listed-goes n root 256 p) ∙ (or-both (is_same_key p root) (is_some (slot_at going p)) off).1) s.parent free in
      let stays : noted_descends 256 here root s.key ≡ false = stays-off going free above in (
        stays,
        above,
        never-loses here rises (Below root) s.key stays (ap (λ (m : ℕ). m == number_of root) (found-key here key s at)
            ∙ flipped (number_of root) (number_of key) (or-both (is_same_key root key) false isnt).0),
      )
    where
      shorter : (p : SlotKey) (b : Bool) → noted_descends 255 here root p ≡ b → noted_descends 256 here root p ≡ false → b ≡ false
      shorter p true is off = absurd (let clash : true ≡ false = sym (descends-longer 255 here root p is) ∙ off in cc)
      shorter p false is off = refl

      both-off : (a b : Bool) → a ≡ false → b ≡ false → (a || b) ≡ false
      both-off a b one other = ap (λ x. x || b) one ∙ other

      stays-off : (going : List NotedSlot) → hangs_below root going (Some s) ≡ false → option_map_or (noted_descends 256 here root) s.parent false ≡ false →
          noted_descends 256 here root s.key ≡ false
      stays-off going free above =
          ap (λ (o : Option SlotKey). option_map_or (λ parent. is_same_key parent root || noted_descends 255 here root parent) o false) parent-here
          ∙ (elim s.parent as (λ o. option_map_or (λ p. is_same_key p root || is_some (slot_at going p)) o false ≡ false →
          option_map_or (noted_descends 256 here root) o false ≡ false
          → option_map_or (λ parent. is_same_key parent root || noted_descends 255 here root parent) o false ≡ false) [
            | None ↦ λ _ _. refl
            | Some p ↦ λ one other. both-off (is_same_key p root) (noted_descends 255 here root p)
                (or-both (is_same_key p root) (is_some (slot_at going p)) one).0 (shorter p (noted_descends 255 here root p) refl other)
          ] free above)

pub changes-make : (n : NotedSlots) (change : SlotChange) → RiseFrom 0 (slots_of n) →
    ((key : SlotKey) (s : NotedSlot) → slot_at (slots_of n) key ≡ Some s → is_empty s.capability ≡ false)
    → replayed (slots_of n) (changes_of n change) ≡ slots_left (slots_of n) change
changes-make n Nothing rises full = refl
changes-make n (Puts s) rises full = refl
changes-make n (Moves from s) rises full =
    let kept = children_kept n from s.key in
    let swapped = map (exchanged from s.key) (slots_of n) in
    let last : List LogEntry = Sets s ∷ Sets (emptied from) ∷ [] in
    replayed-more (map (λ (c : NotedSlot). Sets c) kept) last swapped
    ∙ ap (λ (l : List NotedSlot). replayed l last) (sets-made kept swapped
    ∙ children-made n.image.now n.changes.now n.unlinked (from-first n.changes.now n.ordered) rises full from s.key)
changes-make n (Removes which) rises full =
    sets-made (removal_changes n which) (slots_of n)
    ∙ removal-made n.image.now n.changes.now n.unlinked (from-first n.changes.now n.ordered) rises full (is_removed (slots_of n) which)
    (named_by (slots_of n) which) (touched_by n which)
    (own-some (slots_of n) (λ c. hangs_below (named which) (all_below n which) (left_by c)) n.changes.now
    (hold-own n.image.now n.changes.now 0 (from-first n.changes.now n.ordered)))
    (λ key s at none isnt. unnamed-stay n rises key s at which none isnt)
