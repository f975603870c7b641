-- What is noted of a thread's slots is what they hold, and each full slot is noted.
use Rattle.std.proofs.Common.{ℕ, ◌≡◌, ◌∙◌, Bool, true, false, if◌then◌else◌, List, Some, None, refl, sym, ap, subst}
use Rattle.std.specs.Prelude.{Contains}
use Rattle.std.proofs.lemmas.Option.{get_or_from_slice_get, none-some, same_Some, slice_get_within}
use Rattle.model.specs.Acceptance.Authority.{IsOwnSlot}
use Rattle.model.specs.Acceptance.NotedKernel.{keys_of, noted_after, noted_of, slot_of_key}
use Rattle.model.specs.Acceptance.NotedStates.{NotedSlot, SlotKey, is_same_key, slot_at}
use Rattle.model.specs.Acceptance.ThreadRules.{reached}
use Rattle.model.specs.Capabilities.Slots.{IsFull, Slots, capability_at, is_full}
use Rattle.model.specs.Images.Described.{Numbered}
use Rattle.model.specs.Images.Image.{Image}
use Rattle.thread_spaces.proofs.Laws.{find-passed}
use Rattle.headline.proofs.lookups.Laws.{key-found, slot-noted}
use Rattle.typestate.specs.Spaces.{StandsApart}
use Rattle.headline.proofs.kept.Laws.{each-contained, each-picked}
use Rattle.headline.specs.invocations.Mirrors.{key_above}
use Rattle.headline.proofs.invocations.NotedSame.{own-keys}

-- a noted slot is one of the thread's, and holds what is noted
pub record IsThere (image : Image) (t : Numbered) (after : Slots) (noted : NotedSlot) : Type 0 where
  pub own : IsOwnSlot image t.thread (slot_of_key image noted.key)
  pub holds : capability_at after (slot_of_key image noted.key) ≡ noted.capability

there-by : (image : Image) (t : Numbered) (after : Slots) (key : SlotKey) (noted : NotedSlot) → IsOwnSlot image t.thread (slot_of_key image key)
    → noted_of image (reached image t.thread) after key ≡ Some noted → IsThere image t after noted
there-by image t after key noted own is =
    by-test (is_full after (slot_of_key image key)) _ is refl refl
  where
    by-test : (full : Bool) (held : NotedSlot) → (if full then Some held else None) ≡ Some noted → held.key ≡ key
        → held.capability ≡ capability_at after (slot_of_key image key) → IsThere image t after noted
    by-test true held same at holds =
        let here : key ≡ noted.key = sym at ∙ ap (λ (n : NotedSlot). n.key) (same_Some held noted same) in
        record {
          own = subst (λ (k : SlotKey). IsOwnSlot image t.thread (slot_of_key image k)) here own;
          holds = ap (λ (k : SlotKey). capability_at after (slot_of_key image k)) (sym here)
              ∙ sym holds ∙ ap (λ (n : NotedSlot). n.capability) (same_Some held noted same);
        }
    by-test false held clash at holds = absurd (none-some noted clash)

pub noted-there : (image : Image) (t : Numbered) (after : Slots) (noted : NotedSlot) → Contains (noted_after image t.thread after) noted
    → IsThere image t after noted
unfolding noted_after
noted-there image t after noted listed =
    let cnodes = reached image t.thread in
    each-contained (IsThere image t after) (noted_after image t.thread after) noted
    (each-picked (λ key. IsOwnSlot image t.thread (slot_of_key image key)) (IsThere image t after) (noted_of image cnodes after) (keys_of image cnodes)
    (λ key n own is. there-by image t after key n own is) (own-keys image t)) listed

-- a full slot of the thread's is noted with what it holds
pub record IsNoted (after : Slots) (slots : List NotedSlot) (slot : ℕ) : Type 0 where
  pub noted : NotedSlot
  pub listed : Contains slots noted
  pub holds : noted.capability ≡ capability_at after slot

pub full-noted : (image : Image) (t : Numbered) → StandsApart image t.thread → (after : Slots) (slots : List NotedSlot)
    → noted_after image t.thread after ≡ slots
    → (slot : ℕ) → IsOwnSlot image t.thread slot → IsFull after slot → IsNoted after slots slot
full-noted image t stand after slots same slot own full =
    let of = key-found image (reached image t.thread) slot own in
    let held : NotedSlot = record { key = of.key; capability = capability_at after slot; parent = key_above image t after slot } in
    let found : slot_at slots of.key ≡ Some held = slot-noted image t stand after slots same slot of ∙ ap (λ b. if b then Some held else None) full in
    let passed = find-passed (λ (s : NotedSlot). is_same_key s.key of.key) slots held found in
    record {
      noted = held;
      listed = (passed.place, slice_get_within slots passed.place held passed.at, get_or_from_slice_get slots passed.place held held passed.at);
      holds = refl;
    }
