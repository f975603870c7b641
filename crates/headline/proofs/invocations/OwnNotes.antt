-- What is noted of a thread's slots, whatever they hold: slots of its own, which come back from the kernel's.
use Rattle.std.proofs.Common.{ℕ, ◌≡◌, ◌+◌, ◌*◌, ◌^◌, ◌&&◌, true, false, if◌then◌else◌, List, [], ◌∷◌, Option, Some, None, option_and_then, refl}
use Rattle.std.specs.List.{cons_option, filter_map, list_all}
use Rattle.std.specs.Option.{option_map_or}
use Rattle.std.proofs.lemmas.Bool.{and_from}
use Rattle.model.specs.Acceptance.Authority.{IsOwnSlot}
use Rattle.model.specs.Acceptance.NotedKernel.{key_of, keys_of, noted_after, noted_kernel, noted_of, slot_of_key, stands_in}
use Rattle.model.specs.Acceptance.NotedStates.{NotedSlot, SlotKey, is_own}
use Rattle.model.specs.Acceptance.ThreadRules.{reached}
use Rattle.model.specs.Capabilities.Slots.{Slots, capability_at, is_full, parent_at}
use Rattle.model.specs.Images.Image.{Image, Thread}
use Rattle.headline.proofs.kept.Laws.{Each, member-passes}
use Rattle.thread_spaces.proofs.Laws.{key-owned}
use Rattle.typestate.specs.Spaces.{AreOwn, StandsApart, is_own_slot}
use Rattle.typestate.proofs.Laws.{EachKey, IsNamed, RiseFrom, come-back-from, each-own, kept-rise, key-named, keys-rise, noted-keeps}

-- a slot with a key is one of the thread's
pub own-keyed : (image : Image) (t : Thread) (slot : ℕ) (key : SlotKey) → key_of image (reached image t) slot ≡ Some key → IsOwnSlot image t slot
own-keyed image t slot key is =
    let owned = key-owned image (reached image t) slot key is in
    member-passes (stands_in image slot) owned.cnode (reached image t) owned.member owned.there

-- the key of what a slot hangs below is the thread's, if there is one
pub own-above : (image : Image) (t : Thread) (above : Option ℕ)
    → option_map_or (is_own image (reached image t)) (option_and_then (key_of image (reached image t)) above) true ≡ true
own-above image t None = refl
own-above image t (Some slot) =
    let cnodes = reached image t in
    elim (key_of image cnodes slot) as (λ o. key_of image cnodes slot ≡ o → option_map_or (is_own image cnodes) o true ≡ true) [
      | None ↦ λ _. refl
      | Some key ↦ λ is. IsNamed.own (key-named image cnodes slot key is)
    ] refl

module _ (image : Image) (t : Thread) (after : Slots) where
  abbrev cnodes : List ℕ
  cnodes = reached image t

  abbrev noted : SlotKey → NotedSlot
  noted key = record {
    key = key;
    capability = capability_at after (slot_of_key image key);
    parent = option_and_then (key_of image (reached image t)) (parent_at after (slot_of_key image key));
  }

  one-own : (key : SlotKey) → is_own image cnodes key ≡ true → is_full after (slot_of_key image key) ≡ true → is_own_slot image cnodes (noted key) ≡ true
  one-own key own full =
      let above = option_and_then (key_of image cnodes) (parent_at after (slot_of_key image key)) in
      and_from (is_own image cnodes key && is_full after (slot_of_key image key)) (option_map_or (is_own image cnodes) above true)
      (and_from (is_own image cnodes key) (is_full after (slot_of_key image key)) own full) (own-above image t (parent_at after (slot_of_key image key)))

  all-own : (keys : List SlotKey) → EachKey (λ k. is_own image cnodes k ≡ true) keys
      → list_all (is_own_slot image cnodes) (filter_map (noted_of image cnodes after) keys) ≡ true
  all-own [] each = refl
  all-own (k ∷ rest) each =
      let later = all-own rest each.1 in
      elim (is_full after (slot_of_key image k)) as (λ b. is_full after (slot_of_key image k) ≡ b
      → list_all (is_own_slot image cnodes) (cons_option (if b then Some (noted k) else None) (filter_map (noted_of image cnodes after) rest)) ≡ true) [
        | true ↦ λ full. and_from (is_own_slot image cnodes (noted k))
            (list_all (is_own_slot image cnodes) (filter_map (noted_of image cnodes after) rest)) (one-own k each.0 full) later
        | false ↦ λ _. later
      ] refl

  pub are-own : AreOwn image t (noted_after image t after)
  unfolding noted_after
  are-own = all-own (keys_of image cnodes) (each-own image t)

  -- each of them notes what is there
  abbrev Holds : NotedSlot → Type 0
  Holds n = n.capability ≡ capability_at after (slot_of_key image n.key)

  each-holds : (keys : List SlotKey) → Each Holds (filter_map (noted_of image cnodes after) keys)
  each-holds [] = tt
  each-holds (k ∷ rest) =
      let later = each-holds rest in
      elim (is_full after (slot_of_key image k)) as (λ b.
      Each Holds (cons_option (if b then Some (noted k) else None) (filter_map (noted_of image cnodes after) rest))) [
        | true ↦ (refl, later)
        | false ↦ later
      ]

  pub noted-holds : Each (λ n. n.capability ≡ capability_at after (slot_of_key image n.key)) (noted_after image t after)
  unfolding noted_after
  noted-holds = each-holds (keys_of image cnodes)

module _ (image : Image) (t : Thread) (stand : StandsApart image t) (after : Slots) where
  rise : RiseFrom 0 (noted_after image t after)
  unfolding noted_after
  rise =
      kept-rise (noted_of image (reached image t) after) (noted-keeps image (reached image t) after) (keys_of image (reached image t)) (0 * 2 ^ 32)
      ((0 + image.header.objects) * 2 ^ 32) (keys-rise image t stand)

  pub comes-back : noted_after image t (noted_kernel image t (noted_after image t after)).slots ≡ noted_after image t after
  unfolding noted_kernel
  comes-back = come-back-from image t stand (noted_after image t after) rise (are-own image t after)
