-- No boot slot is among the slots that a call of a thread removes.
use Rattle.std.proofs.Common.{ℕ, zero, suc, ◌≡◌, ◌∙◌, ◌==◌, ◌^◌, ◌<◌, ◌||◌, false, Some, None, List, refl, sym, ap, subst, arith}
use Rattle.std.specs.Option.{option_map_or}
use Rattle.std.proofs.lemmas.Bool.{ne_eqb}
use Rattle.model.specs.Acceptance.Authority.{IsOwnSlot}
use Rattle.model.specs.Acceptance.NotedStates.{NotedSlot}
use Rattle.model.specs.Capabilities.Slots.{depth_of, descends_within, is_descendant, parent_at}
use Rattle.model.specs.Images.Described.{Numbered}
use Rattle.model.specs.Images.Image.{Image}
use Rattle.model.specs.Kernel.State.{State}
use Rattle.headline.specs.invocations.Changes.{IsOther}
use Rattle.headline.specs.invocations.Mirrors.{Mirrors}
use Rattle.headline.proofs.invocations.Heirs.{NoBoot}
use Rattle.headline.proofs.invocations.OtherSlots.{boot-other}

module _ (image : Image) (t : Numbered) (s : State) (slots : List NotedSlot) (m : Mirrors image t s slots) where
  abbrev own : ℕ → Type 0
  own slot = IsOwnSlot image t.thread slot

  boot-apart : (slot : ℕ) → slot < 2 ^ s.boot_radix → IsOther image t slot
  boot-apart slot less =
      let radix = m.all.boot_radix in
      let below : slot < 2 ^ image.header.boot_radix = subst (λ (r : ℕ). slot < 2 ^ r) radix less in
      boot-other image m.accepted.spelled.fits m.accepted.formed t slot m.listed (omega (arith, below))

  pub alone-no-boot : (removed : ℕ) → IsOwnSlot image t.thread removed → NoBoot s (λ other. other == removed)
  alone-no-boot removed mine slot less = ne_eqb slot removed (λ same. boot-apart slot less (subst own (sym same) mine))

  other-above : (root : ℕ) → own root → (n slot : ℕ) → IsOther image t slot → descends_within n (parent_at s.slots) root slot ≡ false
  unfolding descends_within
  other-above root mine zero slot other = refl
  other-above root mine (suc n) slot other =
      elim (parent_at s.slots slot) as (λ o. parent_at s.slots slot ≡ o
      → option_map_or (λ parent. parent == root || descends_within n (parent_at s.slots) root parent) o false ≡ false) [
        | None ↦ λ _. refl
        | Some parent ↦ λ is.
            let above = m.outside slot parent other is in
            ap (λ b. b || descends_within n (parent_at s.slots) root parent) (ne_eqb parent root (λ same. above (subst own (sym same) mine)))
            ∙ other-above root mine n parent above
      ] refl

  pub below-no-boot : (root : ℕ) → IsOwnSlot image t.thread root → NoBoot s (is_descendant s.slots root)
  below-no-boot root mine slot less = other-above root mine (depth_of s.slots slot) slot (boot-apart slot less)
