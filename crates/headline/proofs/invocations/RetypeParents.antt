-- New capabilities hang below the pool, and all else hangs where it did.
use Rattle.std.proofs.Common.{ℕ, ◌≡◌, ◌∙◌, ◌-◌, ◌^◌, ◌<◌, ◌⊎◌, inl, false, if◌then◌else◌, Some, List, sym, ap, subst, arith}
use Rattle.std.proofs.lemmas.Option.{none-some, same_Some}
use Rattle.model.specs.Acceptance.Authority.{IsOwnSlot}
use Rattle.model.specs.Acceptance.NotedStates.{NotedSlot}
use Rattle.model.specs.Acceptance.ThreadRules.{reached}
use Rattle.model.specs.Capabilities.CapabilityKinds.{is_untyped}
use Rattle.model.specs.Capabilities.Slots.{Slots, capability_at, depth_of, parent_at}
use Rattle.model.specs.Images.Described.{Numbered}
use Rattle.model.specs.Images.Image.{Image}
use Rattle.model.specs.Kernel.Retype.{place_of_new}
use Rattle.model.specs.Kernel.State.{State}
use Rattle.headline.proofs.lookups.Laws.{key-found}
use Rattle.headline.specs.invocations.Changes.{IsOther}
use Rattle.headline.specs.invocations.Mirrors.{Mirrors}
use Rattle.headline.proofs.invocations.DepthsKept.{depth-kept}
use Rattle.headline.proofs.invocations.NewSlots.{as_before, as_new, as_pool}
use Rattle.headline.proofs.invocations.RetypeSlots.{IsKept, Making, Place, before-kept, behind, new, new-held, new-parent, others, parent_by, place-of}
use Rattle.headline.proofs.invocations.RetypeSlots.{pool-kept, window}

module _ (image : Image) (t : Numbered) (s : State) (m : Making image t s) (slots : List NotedSlot) (mirrors : Mirrors image t s slots) where
  abbrev after : Slots
  after = behind image t s m s.slots

  module _ (x parent : ℕ) (is : parent_at after x ≡ Some parent) where
    -- a slot derives from the pool, or from what it did
    data Hangs : Type 0 where
      below_pool : m.pool ≡ parent → is_untyped (capability_at after x) ≡ false → Hangs
      as_it_did : parent_at s.slots x ≡ Some parent → is_untyped (capability_at after x) ≡ is_untyped (capability_at s.slots x) → Hangs

    kept-hangs : IsKept image t s m x → Hangs
    kept-hangs kept = as_it_did (sym (IsKept.parent kept) ∙ is) (IsKept.untyped kept)

    hangs : Hangs
    hangs = by-place (place-of image t s m x)
      where
        by-place : Place image t s m x → Hangs
        by-place (as_new inside) =
            below_pool (same_Some m.pool parent (sym (new-parent image t s m s.slots x inside) ∙ is))
            (ap is_untyped (new-held image t s m s.slots x inside) ∙ m.made.no_memory (place_of_new (new image t s m) (x - window image t s m)))
        by-place (as_pool outside same) = kept-hangs (pool-kept image t s m x outside same)
        by-place (as_before outside apart) = kept-hangs (before-kept image t s m x outside apart)

  pub near : (x parent : ℕ) → IsOwnSlot image t.thread x → parent_at after x ≡ Some parent
      → IsOwnSlot image t.thread parent ⊎ (parent < 2 ^ s.boot_radix)
  near x parent own is = by-parent (hangs x parent is)
    where
      by-parent : Hangs x parent is → IsOwnSlot image t.thread parent ⊎ (parent < 2 ^ s.boot_radix)
      by-parent (below_pool same plain) = inl (subst (IsOwnSlot image t.thread) same m.own)
      by-parent (as_it_did was plain) = mirrors.near x parent own was

  -- no own slot is one of the boot CNode
  boot-other : (x : ℕ) → x < 2 ^ s.boot_radix → IsOther image t x
  boot-other x below own =
      let key = key-found image (reached image t.thread) x own in
      let early : x < 2 ^ image.header.boot_radix = subst (λ (n : ℕ). x < 2 ^ n) mirrors.all.boot_radix below in
      none-some key.key (sym (mirrors.stand.behind x (omega (arith, early))) ∙ key.at)

  deep-boot : (x : ℕ) → x < 2 ^ s.boot_radix → depth_of after x ≡ depth_of s.slots x
  deep-boot x below =
      depth-kept (parent_at s.slots) (parent_at after) (IsOther image t) (λ y other. ap parent_by (others image t s m slots mirrors y other))
      (λ y parent other is. mirrors.outside y parent other is) 256 x (boot-other x below)

  pub hang-boot : (x parent : ℕ) → IsOwnSlot image t.thread x → parent_at after x ≡ Some parent → parent < 2 ^ s.boot_radix
      → depth_of after parent ≡ (if is_untyped (capability_at after x) then 0 else 1)
  hang-boot x parent own is below = by-parent (hangs x parent is)
    where
      by-parent : Hangs x parent is → depth_of after parent ≡ (if is_untyped (capability_at after x) then 0 else 1)
      by-parent (below_pool same plain) = absurd (boot-other parent below (subst (IsOwnSlot image t.thread) same m.own))
      by-parent (as_it_did was same) = deep-boot parent below ∙ mirrors.hang.boot x parent own was below ∙ ap (λ b. if b then 0 else 1) (sym same)

  pub hang-own : (x parent : ℕ) → IsOwnSlot image t.thread x → parent_at after x ≡ Some parent → IsOwnSlot image t.thread parent
      → is_untyped (capability_at after x) ≡ false
  hang-own x parent own is above = by-parent (hangs x parent is)
    where
      by-parent : Hangs x parent is → is_untyped (capability_at after x) ≡ false
      by-parent (below_pool same plain) = plain
      by-parent (as_it_did was same) = same ∙ mirrors.hang.own x parent own was above
