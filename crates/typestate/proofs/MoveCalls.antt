-- Move: what a slot held stands in another one, and its children hang below that.
use Rattle.std.proofs.Common.{ℕ, ◌≡◌, ◌∙◌, ◌==◌, ◌+◌, ◌≤◌, ◌≢◌, true, false, if◌then◌else◌, inl, inr, Option, Some, None, option_map, List, [], ◌∷◌, map, refl}
use Rattle.std.proofs.Common.{sym, ap, subst}
use Rattle.std.specs.Option.{option_map_or}
use Rattle.std.proofs.lemmas.Bool.{eq-eqb, ne_eqb}
use Rattle.std.proofs.lemmas.Bool.Decides.{eqb_tells}
use Rattle.model.specs.Acceptance.NotedKernel.{boot_parent, kernel_entry, key_of, noted_after, noted_entry, noted_of, noted_slots, slot_of_key}
use Rattle.model.specs.Acceptance.NotedStates.{NotedSlot, SlotKey, is_own, is_same_key, number_of, slot_at, with_noted}
use Rattle.model.specs.Acceptance.ThreadRules.{reached}
use Rattle.model.specs.Capabilities.Slots.{Slots, adopted, empty_entry, relocated, with_entry, with_parent}
use Rattle.model.specs.Images.Image.{Image, Thread}
use Rattle.model.specs.declared.slot_entries.Entry.{Entry}
use Rattle.typestate.specs.Differences.{left_by}
use Rattle.typestate.specs.SlotChanges.{emptied, followed, is_parent, moved}
use Rattle.typestate.specs.Spaces.{AreOwn, StandsApart}
use Rattle.typestate.proofs.Compared.{same-place}
use Rattle.typestate.proofs.KernelDepths.{boot-there}
use Rattle.typestate.proofs.NamedKeys.{own-named, same-own-key}
use Rattle.typestate.proofs.Puts.{places-apart, put-own}
use Rattle.typestate.proofs.Rising.{RiseFrom, changes-rise}
use Rattle.typestate.proofs.SlotLists.{noted-at}
use Rattle.typestate.proofs.Standing.{IsOwnSlot, after-is, back-of, back_of, entry-back, found-key, found-own, noted-here}

-- ---- lists in which slots keep their keys

abbrev pub KeepsKey : (NotedSlot → NotedSlot) → Type 0
KeepsKey g = (s : NotedSlot) → (g s).key ≡ s.key

pub map-at : (g : NotedSlot → NotedSlot) → KeepsKey g → (slots : List NotedSlot) (key : SlotKey) → slot_at (map g slots) key ≡ option_map g (slot_at slots key)
map-at g keeps [] key = refl
map-at g keeps (s ∷ rest) key =
    ap (λ (k : SlotKey). if is_same_key k key then Some (g s) else slot_at (map g rest) key) (keeps s)
    ∙ (elim (is_same_key s.key key) as (λ b. (if b then Some (g s) else slot_at (map g rest) key) ≡ option_map g (if b then Some s else slot_at rest key)) [
      | true ↦ refl
      | false ↦ map-at g keeps rest key
    ])

pub map-rises : (g : NotedSlot → NotedSlot) → KeepsKey g → (slots : List NotedSlot) (least : ℕ) → RiseFrom least slots → RiseFrom least (map g slots)
map-rises g keeps [] least rises = tt
map-rises g keeps (s ∷ rest) least rises =
    let same : number_of (g s).key ≡ number_of s.key = ap number_of (keeps s) in
    (subst (λ n. least ≤ n) (sym same) rises.0, subst (λ n. RiseFrom (n + 1) (map g rest)) (sym same) (map-rises g keeps rest (number_of s.key + 1) rises.1))

pub follows-keeps : (from to : SlotKey) → KeepsKey (followed from to)
follows-keeps from to s = elim (is_parent from s.parent) as (λ b. (if b then record s { parent = Some to } else s).key ≡ s.key) [ true ↦ refl | false ↦ refl ]

module _ (image : Image) (t : Thread) (stand : StandsApart image t) (slots : List NotedSlot) (are : AreOwn image t slots) (from to : SlotKey)
    (source : NotedSlot)
    (mine : is_own image (reached image t) from ≡ true) (yours : is_own image (reached image t) to ≡ true) (held : slot_at slots from ≡ Some source)
    (vacant : slot_at slots to ≡ None) where
  abbrev cnodes : List ℕ
  cnodes = reached image t

  abbrev all : Slots
  all = noted_slots image t slots

  abbrev F : ℕ
  F = slot_of_key image from

  abbrev T : ℕ
  T = slot_of_key image to

  abbrev moving : NotedSlot
  moving = record { key = to; capability = source.capability; parent = source.parent }

  abbrev follow : NotedSlot → NotedSlot
  follow = followed from to

  source-own : IsOwnSlot image t source
  source-own = found-own image t slots from source are held

  moving-own : IsOwnSlot image t moving
  moving-own = record { key = yours; full = source-own.full; parent = source-own.parent }

  abbrev after : Slots
  after = relocated all F T

  abbrev with_children : Slots
  with_children = with_parent all F (Some T)

  abbrev entry_below : NotedSlot → ℕ → Entry
  entry_below s parent = record { capability = s.capability; parent = Some parent }

  -- a child follows in the kernel too
  adopts : (s : NotedSlot) → IsOwnSlot image t s → adopted F (Some T) (kernel_entry image t s) ≡ kernel_entry image t (follow s)
  adopts s own = by-parent s.parent own.parent
    where
      by-parent : (parent : Option SlotKey) → option_map_or (is_own image cnodes) parent true ≡ true
          → adopted F (Some T) (entry_below s (option_map_or (slot_of_key image) parent (boot_parent image t s.capability)))
          ≡ kernel_entry image t (if is_parent from parent then record { key = s.key; capability = s.capability; parent = Some to } else
          record { key = s.key; capability = s.capability; parent = parent })
      by-parent None own =
          let boot = boot_parent image t s.capability in
          let other : (boot == F) ≡ false =
          ne_eqb boot F (λ same. absurd (let clash : None ≡ Some from = sym (boot-there image t stand slots are s.capability)
          ∙ ap (key_of image cnodes) same ∙ own-named image t stand from mine in cc)) in
          ap (λ b. if b then record (entry_below s boot) { parent = Some T } else entry_below s boot) other
      by-parent (Some p) own = elim (eqb_tells (number_of p) (number_of from)) [
        | inl same ↦
            let place : p ≡ from = same-own-key image t stand p from own mine same.1 in
            ap (λ b. if b then record (entry_below s (slot_of_key image p)) { parent = Some T } else entry_below s (slot_of_key image p))
            (eq-eqb (slot_of_key image p) F (ap (slot_of_key image) place))
            ∙ ap (λ b. kernel_entry image t (if b then record { key = s.key; capability = s.capability; parent = Some to } else
            record { key = s.key; capability = s.capability; parent = Some p })) (sym same.0)
        | inr other ↦
            ap (λ b. if b then record (entry_below s (slot_of_key image p)) { parent = Some T } else entry_below s (slot_of_key image p))
            (places-apart image t stand p from own mine other.1)
            ∙ ap (λ b. kernel_entry image t (if b then record { key = s.key; capability = s.capability; parent = Some to } else
            record { key = s.key; capability = s.capability; parent = Some p })) (sym other.0)
      ]

  follow-own : (s : NotedSlot) → IsOwnSlot image t s → IsOwnSlot image t (follow s)
  follow-own s own = elim (is_parent from s.parent) as (λ b. IsOwnSlot image t (if b then record s { parent = Some to } else s)) [
    | true ↦ record { key = own.key; full = own.full; parent = yours }
    | false ↦ own
  ]

  apart : number_of from ≢ number_of to
  apart same = absurd (let clash : None ≡ Some source = sym vacant ∙ sym (same-place slots from to same) ∙ held in cc)

  -- ---- at each key

  abbrev back : SlotKey → Option NotedSlot
  back key = noted_of image cnodes after key

  abbrev children : List NotedSlot
  children = map follow slots

  abbrev listed : List NotedSlot
  listed = moved slots from moving

  listed-at : (key : SlotKey) → slot_at listed key ≡ (if is_same_key from key then None else
      (if is_same_key to key then left_by moving else slot_at children key))
  listed-at key =
      noted-at (with_noted children moving) (emptied from) key ∙ ap (λ found. if is_same_key from key then None else found) (noted-at children moving key)

  after-from : after F ≡ Some empty_entry
  after-from = ap (λ b. if b then Some empty_entry else with_entry with_children T (all F) F) (eq-eqb F F refl)

  after-to : after T ≡ Some (kernel_entry image t moving)
  after-to =
      ap (λ b. if b then Some empty_entry else with_entry with_children T (all F) T) (places-apart image t stand to from yours mine (λ same. apart (sym same)))
      ∙ ap (λ b. if b then all F else with_children T) (eq-eqb T T refl)
      ∙ noted-here image t stand slots from mine ∙ ap (λ found. Some (option_map_or (kernel_entry image t) found empty_entry)) held

  after-other : (key : SlotKey) → is_own image cnodes key ≡ true → number_of from ≢ number_of key → number_of to ≢ number_of key
      → after (slot_of_key image key) ≡ Some (adopted F (Some T) (noted_entry image t slots key))
  after-other key own not-from not-to =
      let x = slot_of_key image key in
      ap (λ b. if b then Some empty_entry else with_entry with_children T (all F) x)
      (places-apart image t stand key from own mine (λ same. not-from (sym same)))
      ∙ ap (λ b. if b then all F else with_children x) (places-apart image t stand key to own yours (λ same. not-to (sym same)))
      ∙ ap (option_map (adopted F (Some T))) (noted-here image t stand slots key own)

  other-back : (key : SlotKey) → is_own image cnodes key ≡ true → number_of from ≢ number_of key → number_of to ≢ number_of key →
      back key ≡ slot_at children key
  other-back key own not-from not-to =
      back-of image t stand after key (adopted F (Some T) (noted_entry image t slots key)) (after-other key own not-from not-to)
      ∙ (elim (slot_at slots key) as (λ o. slot_at slots key ≡ o →
      back_of image t stand key (adopted F (Some T) (option_map_or (kernel_entry image t) o empty_entry)) ≡ option_map follow o) [
        | None ↦ λ _. refl
        | Some s ↦ λ found.
            let own-s = found-own image t slots key s are found in
            let place : (follow s).key ≡ key = follows-keeps from to s ∙ same-own-key image t stand s.key key own-s.key own (found-key slots key s found) in
            ap (back_of image t stand key) (adopts s own-s)
            ∙ subst (λ (k : SlotKey). back_of image t stand k (kernel_entry image t (follow s)) ≡ Some (follow s)) place
            (entry-back image t stand (follow s) (follow-own s own-s))
      ] refl)
      ∙ sym (map-at follow (follows-keeps from to) slots key)

  moved-at : (key : SlotKey) → is_own image cnodes key ≡ true → back key ≡ slot_at listed key
  moved-at key own = elim (eqb_tells (number_of from) (number_of key)) [
    | inl same ↦
        let place : from ≡ key = same-own-key image t stand from key mine own same.1 in
        ap back (sym place) ∙ back-of image t stand after from empty_entry after-from
        ∙ sym (listed-at key ∙ ap (λ b. if b then None else (if is_same_key to key then left_by moving else slot_at children key)) same.0)
    | inr other ↦ elim (eqb_tells (number_of to) (number_of key)) [
      | inl same ↦
          let place : to ≡ key = same-own-key image t stand to key yours own same.1 in
          ap back (sym place) ∙ back-of image t stand after to (kernel_entry image t moving) after-to ∙ entry-back image t stand moving moving-own
          ∙ sym (listed-at key ∙ ap (λ b. if b then None else (if is_same_key to key then left_by moving else slot_at children key)) other.0
          ∙ ap (λ b. if b then left_by moving else slot_at children key) same.0 ∙ ap (λ b. if b then None else Some moving) moving-own.full)
      | inr another ↦
          other-back key own other.1 another.1
          ∙ sym (listed-at key ∙ ap (λ b. if b then None else (if is_same_key to key then left_by moving else slot_at children key)) other.0
          ∙ ap (λ b. if b then left_by moving else slot_at children key) another.0)
    ]
  ]

  children-own : (key : SlotKey) (r : NotedSlot) → slot_at children key ≡ Some r → is_own image cnodes r.key ≡ true
  children-own key r found = elim (slot_at slots key) as (λ o. slot_at slots key ≡ o → option_map follow o ≡ Some r → is_own image cnodes r.key ≡ true) [
    | None ↦ λ _ clash. absurd (let nothing : None ≡ Some r = clash in cc)
    | Some s ↦ λ is here.
        let one : follow s ≡ r = (let both : Some (follow s) ≡ Some r = here in cc) in
        subst (λ (k : SlotKey). is_own image cnodes k ≡ true) (sym (follows-keeps from to s) ∙ ap (λ (x : NotedSlot). x.key) one)
        (found-own image t slots key s are is).key
  ] refl (sym (map-at follow (follows-keeps from to) slots key) ∙ found)

  pub move-back : RiseFrom 0 slots → noted_after image t (relocated all F T) ≡ moved slots from moving
  move-back rises =
      after-is image t stand after listed (changes-rise children (moving ∷ emptied from ∷ []) (map-rises follow (follows-keeps from to) slots 0 rises))
      (put-own image t stand (with_noted children moving) (emptied from) (put-own image t stand children moving children-own yours) mine)
      moved-at
