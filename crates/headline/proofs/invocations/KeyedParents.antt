-- Slots with the same key above them derive from one slot of the thread's, or from none of its slots.
use Rattle.std.proofs.Common.{ℕ, ◌≡◌, ◌∙◌, Option, Some, None, refl, sym, ap}
use Rattle.std.specs.Prelude.{option_and_then}
use Rattle.std.proofs.lemmas.Option.{none-some}
use Rattle.model.specs.Acceptance.NotedKernel.{key_of, slot_of_key}
use Rattle.model.specs.Acceptance.NotedStates.{SlotKey}
use Rattle.model.specs.Acceptance.ThreadRules.{reached}
use Rattle.model.specs.Images.Described.{Numbered}
use Rattle.model.specs.Images.Image.{Image}
use Rattle.typestate.proofs.Laws.{key-named}
use Rattle.headline.proofs.invocations.BothSides.{Meets}
use Rattle.headline.proofs.invocations.ParentsAway.{IsAway}
use Rattle.headline.proofs.invocations.OtherSlots.{other-unkeyed, unkeyed-other}
use Rattle.headline.proofs.invocations.OwnNotes.{own-keyed}
use Rattle.headline.proofs.invocations.RemovalSides.{other-out, out-other, own_set}

module _ (image : Image) (t : Numbered) where
  abbrev key_at : ℕ → Option SlotKey
  key_at = key_of image (reached image t.thread)

  abbrev key_in : Option ℕ → Option SlotKey
  key_in o = option_and_then key_at o

  keyless-out : (o : Option ℕ) → key_in o ≡ None → IsAway (own_set image t) o
  keyless-out o none p is =
      other-out image t p (unkeyed-other image t p (sym (ap key_in is) ∙ none))

  key-place : (p : ℕ) (key : SlotKey) → key_at p ≡ Some key → p ≡ slot_of_key image key
  key-place p key is = let named = key-named image (reached image t.thread) p key is in sym named.place

  pub keys-meet : (a b : Option ℕ) → option_and_then (key_of image (reached image t.thread)) a ≡ option_and_then (key_of image (reached image t.thread)) b
      → Meets (own_set image t) a b
  keys-meet a b same = elim (key_in b) as (λ o. key_in b ≡ o → Meets (own_set image t) a b) [
    | None ↦ λ none. Meets.away (keyless-out a (same ∙ none)) (keyless-out b none)
    | Some key ↦ λ is. by-key a b key (same ∙ is) is
  ] refl
    where
      by-key : (a b : Option ℕ) (key : SlotKey) → key_in a ≡ Some key → key_in b ≡ Some key → Meets (own_set image t) a b
      by-key None b key here there = absurd (none-some key here)
      by-key (Some p) None key here there = absurd (none-some key there)
      by-key (Some p) (Some q) key here there =
          Meets.one p refl (ap Some (key-place q key there ∙ sym (key-place p key here))) (own-keyed image t.thread p key here)

  away-keyless : (o : Option ℕ) → IsAway (own_set image t) o → key_in o ≡ None
  away-keyless None out = refl
  away-keyless (Some p) out = other-unkeyed image t p (out-other image t p (out p refl))

  pub meets-keys : (a b : Option ℕ) → Meets (own_set image t) a b
      → option_and_then (key_of image (reached image t.thread)) a ≡ option_and_then (key_of image (reached image t.thread)) b
  meets-keys a b (Meets.one p first second own) = ap key_in (first ∙ sym second)
  meets-keys a b (Meets.away first second) = away-keyless a first ∙ sym (away-keyless b second)
