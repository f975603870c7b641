-- An entry put into a slot of a thread is a change of its noted slots.
use Rattle.std.proofs.Common.{ℕ, ◌≡◌, ◌≢◌, ◌∙◌, ◌==◌, Bool, true, false, if◌then◌else◌, inl, inr, Some, None, List, [], ◌∷◌, refl, sym, ap, subst}
use Rattle.std.proofs.lemmas.Bool.{eq-eqb, ne_eqb}
use Rattle.std.proofs.lemmas.Bool.Decides.{eqb_tells}
use Rattle.model.specs.Acceptance.NotedKernel.{kernel_entry, key_of, noted_after, noted_entry, noted_of, noted_slots, slot_of_key}
use Rattle.model.specs.Acceptance.NotedStates.{NotedSlot, SlotKey, is_own, is_same_key, number_of, slot_at, with_noted}
use Rattle.model.specs.Acceptance.ThreadRules.{reached}
use Rattle.model.specs.Capabilities.Slots.{Slots, is_empty, with_entry}
use Rattle.model.specs.Images.Image.{Image, Thread}
use Rattle.typestate.specs.Differences.{left_by}
use Rattle.typestate.specs.Spaces.{AreOwn, StandsApart}
use Rattle.typestate.proofs.NamedKeys.{own-named, same-own-key}
use Rattle.typestate.proofs.Rising.{RiseFrom, changes-rise}
use Rattle.typestate.proofs.SlotLists.{noted-at}
use Rattle.typestate.proofs.Standing.{IsOwnSlot, after-is, back-of, entry-back, found-own, noted-back, noted-here}

module _ (image : Image) (t : Thread) (stand : StandsApart image t) where
  abbrev cnodes : List ℕ
  cnodes = reached image t

  abbrev is-own : SlotKey → Type 0
  is-own key = is_own image cnodes key ≡ true

  -- keys with other numbers are of other slots
  pub places-apart : (a b : SlotKey) → is-own a → is-own b → number_of a ≢ number_of b → (slot_of_key image a == slot_of_key image b) ≡ false
  places-apart a b mine yours other = ne_eqb (slot_of_key image a) (slot_of_key image b) (λ same.
      let both : Some a ≡ Some b = sym (own-named image t stand a mine) ∙ ap (key_of image cnodes) same ∙ own-named image t stand b yours in
      let one : a ≡ b = cc in
      other (ap number_of one))

  -- a list with one change, at each key
  pub put-own : (slots : List NotedSlot) (s : NotedSlot) → ((key : SlotKey) (r : NotedSlot) → slot_at slots key ≡ Some r → is-own r.key) → is-own s.key
      → (key : SlotKey) (r : NotedSlot) → slot_at (with_noted slots s) key ≡ Some r → is-own r.key
  put-own slots s own mine key r found = by-place (is_same_key s.key key) (sym (noted-at slots s key) ∙ found)
    where
      by-cap : (b : Bool) → (if b then None else Some s) ≡ Some r → is-own r.key
      by-cap true clash = absurd (let no-slot : None ≡ Some r = clash in cc)
      by-cap false here = let one : s ≡ r = cc in subst (λ (x : NotedSlot). is-own x.key) one mine

      by-place : (b : Bool) → (if b then left_by s else slot_at slots key) ≡ Some r → is-own r.key
      by-place true here = by-cap (is_empty s.capability) here
      by-place false there = own key r there

  abbrev entry_put : List NotedSlot → NotedSlot → Slots
  entry_put slots s = with_entry (noted_slots image t slots) (slot_of_key image s.key) (Some (kernel_entry image t s))

  put-at : (slots : List NotedSlot) (s : NotedSlot) (key : SlotKey) → AreOwn image t slots → IsOwnSlot image t s → is-own key
      → noted_of image cnodes (entry_put slots s) key ≡ slot_at (with_noted slots s) key
  put-at slots s key are mine own = elim (eqb_tells (number_of s.key) (number_of key)) [
    | inl same ↦
        let place : s.key ≡ key = same-own-key image t stand s.key key mine.key own same.1 in
        let here : entry_put slots s (slot_of_key image s.key) ≡ Some (kernel_entry image t s) =
        ap (λ b. if b then Some (kernel_entry image t s) else noted_slots image t slots (slot_of_key image s.key))
        (eq-eqb (slot_of_key image s.key) (slot_of_key image s.key) refl) in
        let there : noted_of image cnodes (entry_put slots s) s.key ≡ Some s = back-of image t stand (entry_put slots s) s.key (kernel_entry image t s) here
        ∙ entry-back image t stand s mine in
        ap (noted_of image cnodes (entry_put slots s)) (sym place) ∙ there
        ∙ sym (noted-at slots s key ∙ ap (λ b. if b then left_by s else slot_at slots key) same.0 ∙ ap (λ b. if b then None else Some s) mine.full)
    | inr other ↦
        let apart = places-apart key s.key own mine.key (λ same. other.1 (sym same)) in
        let here : entry_put slots s (slot_of_key image key) ≡ Some (noted_entry image t slots key) =
        ap (λ b. if b then Some (kernel_entry image t s) else noted_slots image t slots (slot_of_key image key)) apart
        ∙ noted-here image t stand slots key own in
        back-of image t stand (entry_put slots s) key (noted_entry image t slots key) here
        ∙ sym (back-of image t stand (noted_slots image t slots) key (noted_entry image t slots key) (noted-here image t stand slots key own))
        ∙ noted-back image t stand slots key are own
        ∙ sym (noted-at slots s key ∙ ap (λ b. if b then left_by s else slot_at slots key) other.0)
  ]

  pub put-back : (slots : List NotedSlot) (s : NotedSlot) → RiseFrom 0 slots → AreOwn image t slots → IsOwnSlot image t s
      → noted_after image t (entry_put slots s) ≡ with_noted slots s
  put-back slots s rises are mine =
      after-is image t stand (entry_put slots s) (with_noted slots s) (changes-rise slots (s ∷ []) rises)
      (put-own slots s (λ key r found. (found-own image t slots key r are found).key) mine.key)
      (λ key own. put-at slots s key are mine own)
