-- Slots that are none of a thread's: those of the boot area are as described, and all of them derive from others that are none of its own.
use Rattle.std.proofs.Common.{ℕ, ◌≡◌, ◌∙◌, ◌^◌, ◌<◌, inl, inr, true, List, Option, Some, None, refl, sym, ap, subst, arith}
use Rattle.std.specs.Prelude.{Contains}
use Rattle.std.specs.Option.{option_map_or}
use Rattle.std.proofs.lemmas.Option.{none-some}
use Rattle.model.specs.declared.labels.Label.{Label}
use Rattle.model.specs.declared.slot_entries.Entry.{Entry}
use Rattle.model.specs.Acceptance.Accepted.{IsWellFormed}
use Rattle.model.specs.Acceptance.Authority.{IsOwnSlot}
use Rattle.model.specs.Acceptance.NotedKernel.{key_of}
use Rattle.model.specs.Acceptance.NotedStates.{PointState}
use Rattle.model.specs.Acceptance.ThreadInvariants.{StandsAt, ThreadInvariant, runs as runs_so, waits as waits_so}
use Rattle.model.specs.Acceptance.ThreadRules.{reached}
use Rattle.model.specs.Capabilities.Slots.{parent_at}
use Rattle.model.specs.Images.Described.{Numbered, described, numbered_threads}
use Rattle.model.specs.Images.Image.{Image, whole_image}
use Rattle.model.specs.Kernel.State.{State, ThreadState, boot_area_slots}
use Rattle.headline.specs.facts.Standing.{AllStand, IsApart}
use Rattle.headline.proofs.facts.Laws.{is-listed}
use Rattle.headline.proofs.lookups.Laws.{key-found}
use Rattle.thread_spaces.proofs.Laws.{stands-apart}
use Rattle.typestate.specs.Spaces.{StandsApart}
use Rattle.headline.specs.invocations.Changes.{DerivesNear, IsOther}
use Rattle.headline.proofs.invocations.MirrorParents.{near-own}
use Rattle.headline.proofs.invocations.OwnNotes.{own-keyed}
use Rattle.headline.proofs.invocations.TwoThreads.{HasOwner, one-owner, owned-or-apart}

-- ---- where a thread is

pub record StandsSomewhere (image : Image) (t : Numbered) (s : State) : Type 0 where
  pub own : ThreadState
  pub point : ℕ
  pub state : PointState
  pub stands : StandsAt image t s own point state

pub stands-somewhere : (image : Image) (t : Numbered) (s : State) (labels : List Label) → ThreadInvariant image t s labels → StandsSomewhere image t s
stands-somewhere image t s labels (runs_so own point state there status stands budget) = record { own = own; point = point; state = state; stands = stands }
stands-somewhere image t s labels (waits_so own point state there status stands asks none) = record { own = own; point = point; state = state; stands = stands }

-- ---- slots with no key

pub other-unkeyed : (image : Image) (t : Numbered) (slot : ℕ) → IsOther image t slot → key_of image (reached image t.thread) slot ≡ None
other-unkeyed image t slot other =
    elim (key_of image (reached image t.thread) slot) as (λ o. key_of image (reached image t.thread) slot ≡ o → o ≡ None) [
      | None ↦ λ _. refl
      | Some key ↦ λ is. absurd (other (own-keyed image t.thread slot key is))
    ] refl

pub unkeyed-other : (image : Image) (t : Numbered) (slot : ℕ) → key_of image (reached image t.thread) slot ≡ None → IsOther image t slot
unkeyed-other image t slot none own =
    let of = key-found image (reached image t.thread) slot own in
    none-some of.key (sym none ∙ of.at)

module _ (image : Image) (fits : whole_image.fits image ≡ true) (well : IsWellFormed image) where
  stand : (t : Numbered) → Contains (numbered_threads image) t → StandsApart image t.thread
  stand t listed = stands-apart image t.thread fits well (is-listed image t listed)

  -- no thread owns a slot of the boot area
  pub boot-other : (t : Numbered) (slot : ℕ) → Contains (numbered_threads image) t → slot < boot_area_slots image.header.boot_radix → IsOther image t slot
  boot-other t slot listed below = unkeyed-other image t slot ((stand t listed).behind slot below)

  module _ (s : State) (labels : List Label) (all : AllStand image s labels) where
    pub boot-kept : (slot : ℕ) → slot < boot_area_slots image.header.boot_radix → s.slots slot ≡ (described image).slots slot
    boot-kept slot below = all.apart slot (λ t listed. boot-other t slot listed below)

    pub near-each : (t : Numbered) → Contains (numbered_threads image) t → DerivesNear image t s
    near-each t listed =
        let at = stands-somewhere image t s labels (all.stand t listed) in
        near-own image t (stand t listed) s all.sound at.state.slots at.stands.slots at.stands.parents

    module _ (t : Numbered) (listed : Contains (numbered_threads image) t) (slot parent : ℕ) (other : IsOther image t slot)
        (is : parent_at s.slots slot ≡ Some parent) where
      from-apart : IsApart image slot → IsOther image t parent
      from-apart apart =
          let there : parent_at (described image).slots slot ≡ Some parent =
          ap (λ (o : Option Entry). option_map_or (λ h. h.parent) o None) (sym (all.apart slot apart)) ∙ is in
          unkeyed-other image t parent ((stand t listed).outside slot parent (other-unkeyed image t slot other) there)

      from-owner : HasOwner image slot → IsOther image t parent
      from-owner owner own = elim (near-each owner.thread owner.listed slot parent owner.own is) [
        | inl inside ↦
            let same : owner.thread ≡ t = one-owner image fits well owner.thread t parent owner.listed listed inside own in
            other (subst (λ (u : Numbered). IsOwnSlot image u.thread slot) same owner.own)
        | inr boot ↦
            let below : parent < 2 ^ image.header.boot_radix = subst (λ (n : ℕ). parent < 2 ^ n) all.boot_radix boot in
            boot-other t parent listed (omega (arith, below)) own
      ]

      pub derives-outside : IsOther image t parent
      derives-outside = elim (owned-or-apart image slot) [ inl owner ↦ from-owner owner | inr apart ↦ from-apart apart ]
