-- What is noted of slots of the kernel's is what a thread's full slots hold, and has the form that slots of a point have.
use Rattle.std.proofs.Common.{ℕ, ◌≡◌, ◌∙◌, ◌^◌, ◌<◌, true, false, if◌then◌else◌, Some, None, option_and_then, List, [], ◌∷◌, refl, sym, ap, subst}
use Rattle.std.specs.Prelude.{Contains}
use Rattle.std.specs.List.{list_all}
use Rattle.std.proofs.lemmas.Bool.{and_parts}
use Rattle.std.proofs.lemmas.Option.{none-some, same_Some}
use Rattle.format_laws.specs.Fitting.{IsFitting}
use Rattle.headline.proofs.kept.Laws.{Each, IsOwnKey, each-contained, each-picked, key-kept, keys-own}
use Rattle.model.specs.Acceptance.Authority.{IsOwnSlot}
use Rattle.model.specs.Acceptance.NotedKernel.{key_of, keys_of, noted_after, noted_of, slot_of_key}
use Rattle.model.specs.Acceptance.NotedStates.{NotedSlot, SlotKey}
use Rattle.model.specs.Acceptance.ThreadRules.{reached}
use Rattle.model.specs.Capabilities.CapabilityWords.{IsCapability}
use Rattle.model.specs.Capabilities.Slots.{IsFull, Slots, capability_at, is_full, parent_at}
use Rattle.model.specs.Images.Described.{Numbered}
use Rattle.model.specs.Images.Image.{Image, Thread}
use Rattle.headline.proofs.lookups.Laws.{AreLow, HasKey, found-there, key-found, keys-low, slot-noted}
use Rattle.headline.specs.steps.Formed.{AreFormed, is_low}
use Rattle.headline.proofs.steps.Laws.{after-low}
use Rattle.typestate.specs.Spaces.{StandsApart}

-- ---- what is noted

pub record IsNoted (image : Image) (t : Thread) (slots : Slots) (n : NotedSlot) : Type 0 where
  pub own : IsOwnSlot image t (slot_of_key image n.key)
  pub full : IsFull slots (slot_of_key image n.key)
  pub capability : n.capability ≡ capability_at slots (slot_of_key image n.key)
  pub parent : n.parent ≡ option_and_then (key_of image (reached image t)) (parent_at slots (slot_of_key image n.key))

noted-by : (image : Image) (t : Thread) (slots : Slots) (key : SlotKey) (n : NotedSlot) → IsOwnKey image t key
    → noted_of image (reached image t) slots key ≡ Some n → IsNoted image t slots n
noted-by image t slots key n own is =
    let slot = slot_of_key image key in
    let above = option_and_then (key_of image (reached image t)) (parent_at slots slot) in
    let held : NotedSlot = record { key = key; capability = capability_at slots slot; parent = above } in
    elim (is_full slots slot) as (λ b. is_full slots slot ≡ b → (if b then Some held else None) ≡ Some n → IsNoted image t slots n) [
      | true ↦ λ full here. subst (IsNoted image t slots) (same_Some held n here) (record { own = own; full = full; capability = refl; parent = refl })
      | false ↦ λ _ clash. absurd (none-some n clash)
    ] refl is

all-noted : (image : Image) (t : Thread) (slots : Slots) → Each (IsNoted image t slots) (noted_after image t slots)
unfolding noted_after
all-noted image t slots =
    each-picked (IsOwnKey image t) (IsNoted image t slots) (noted_of image (reached image t) slots) (keys_of image (reached image t))
    (λ key n own is. noted-by image t slots key n own is) (keys-own image t)

pub is-noted : (image : Image) (t : Thread) (slots : Slots) (n : NotedSlot) → Contains (noted_after image t slots) n → IsNoted image t slots n
is-noted image t slots n there = each-contained (IsNoted image t slots) (noted_after image t slots) n (all-noted image t slots) there

-- ---- what is there is noted

pub record NotesSlot (image : Image) (noted : List NotedSlot) (slots : Slots) (slot : ℕ) : Type 0 where
  pub n : NotedSlot
  pub there : Contains noted n
  pub capability : n.capability ≡ capability_at slots slot

pub full-noted : (image : Image) (t : Numbered) → StandsApart image t.thread → (slots : Slots) (slot : ℕ) → IsOwnSlot image t.thread slot → IsFull slots slot
    → NotesSlot image (noted_after image t.thread slots) slots slot
full-noted image t stand slots slot own full =
    let cnodes = reached image t.thread in
    let of : HasKey image cnodes slot = key-found image cnodes slot own in
    let above = option_and_then (key_of image cnodes) (parent_at slots slot) in
    let held : NotedSlot = record { key = of.key; capability = capability_at slots slot; parent = above } in
    record {
      n = held;
      there = found-there (noted_after image t.thread slots) of.key held
          (slot-noted image t stand slots (noted_after image t.thread slots) refl slot of ∙ ap (λ b. if b then Some held else None) full);
      capability = refl;
    }

-- ---- its form

abbrev IsLowKey : SlotKey → Type 0
IsLowKey key = key.index < 2 ^ 32

each-low : (keys : List SlotKey) → AreLow keys → Each IsLowKey keys
each-low [] are = tt
each-low (k ∷ rest) are = (are.0, each-low rest are.1)

low-noted : (image : Image) (t : Thread) → StandsApart image t → (slots : Slots) → Each (λ n. IsLowKey n.key) (noted_after image t slots)
unfolding noted_after
low-noted image t stand slots =
    each-picked IsLowKey (λ n. IsLowKey n.key) (noted_of image (reached image t) slots) (keys_of image (reached image t))
    (λ key n low is. subst IsLowKey (key-kept _ _ n is) low) (each-low (keys_of image (reached image t)) (keys-low image t stand))

form-of : (image : Image) (t : Thread) (slots : Slots) → ((slot : ℕ) → IsCapability (capability_at slots slot)) → (noted : List NotedSlot)
    → Each (IsNoted image t slots) noted → Each (λ n. IsLowKey n.key) noted → list_all is_low noted ≡ true → AreFormed noted
form-of image t slots valid [] all keys low = tt
form-of image t slots valid (n ∷ rest) all keys low =
    let parts = and_parts (is_low n) (list_all is_low rest) low in
    let of : IsNoted image t slots n = all.0 in (
      record { index = keys.0; valid = subst IsCapability (sym of.capability) (valid (slot_of_key image n.key)); low = parts.0 },
      form-of image t slots valid rest all.1 keys.1 parts.1,
    )

pub noted-formed : (image : Image) (t : Thread) → IsFitting image → StandsApart image t → (slots : Slots)
    → ((slot : ℕ) → IsCapability (capability_at slots slot)) → AreFormed (noted_after image t slots)
noted-formed image t fitting stand slots valid =
    form-of image t slots valid (noted_after image t slots) (all-noted image t slots) (low-noted image t stand slots) (after-low image t slots fitting)
