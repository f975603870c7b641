-- A call that changes slots of one thread touches no other thread, and what hangs below the boot CNode hangs as deep as before.
use Rattle.std.proofs.Common.{ℕ, zero, suc, ◌≡◌, ◌∙◌, ◌+◌, ◌^◌, ◌<◌, if◌then◌else◌, Option, Some, None, List, refl, sym, ap, subst, arith}
use Rattle.std.specs.Prelude.{Contains}
use Rattle.std.specs.Option.{option_map_or}
use Rattle.soundness.proofs.Laws.{are-formed}
use Rattle.format_laws.proofs.Laws.{is-fitting}
use Rattle.headline.specs.facts.Hanging.{HangsAsListed}
use Rattle.headline.specs.facts.Untouched.{IsUntouched}
use Rattle.model.proofs.Depths.{depth-none, depth-some}
use Rattle.model.specs.declared.slot_entries.Entry.{Entry}
use Rattle.model.specs.declared.capabilities.Cap.{Cap}
use Rattle.model.specs.Acceptance.Authority.{IsOwnSlot}
use Rattle.model.specs.Acceptance.NotedStates.{NotedSlot}
use Rattle.model.specs.Acceptance.ThreadInvariants.{tcb_of}
use Rattle.model.specs.Capabilities.CapabilityKinds.{is_untyped}
use Rattle.model.specs.Capabilities.Slots.{Slots, depth_of, depth_within, parent_at}
use Rattle.model.specs.Images.Described.{Numbered, described, numbered_threads}
use Rattle.model.specs.Images.Image.{Image}
use Rattle.model.specs.Kernel.State.{State, cspace_slot, vspace_slot}
use Rattle.thread_spaces.proofs.Laws.{parent-in-boot}
use Rattle.headline.specs.invocations.Changes.{ChangesOwn, IsOther}
use Rattle.headline.specs.invocations.Mirrors.{Mirrors}
use Rattle.headline.proofs.invocations.BlockSlots.{cspace-other, vspace-other}
use Rattle.headline.proofs.invocations.ChangedMaps.{map-stays, map-was}
use Rattle.headline.proofs.invocations.OtherSlots.{boot-other}
use Rattle.headline.proofs.invocations.TwoThreads.{one-owner}
use Rattle.headline.proofs.kept.Laws.{same-capability}

same-parent : (slots others : Slots) (slot : ℕ) → others slot ≡ slots slot → parent_at others slot ≡ parent_at slots slot
same-parent slots others slot same = ap (λ (o : Option Entry). option_map_or (λ (held : Entry). held.parent) o None) same

zero-deep : (parents others : ℕ → Option ℕ) (slot : ℕ) → depth_within 0 others slot ≡ depth_within 0 parents slot
unfolding depth_within
zero-deep parents others slot = refl

-- where slots below a bound keep their parents, which are below it, they keep their depths
below-deep : (bound n : ℕ) (parents others : ℕ → Option ℕ) → ((slot : ℕ) → slot < bound → others slot ≡ parents slot)
    → ((slot parent : ℕ) → slot < bound → parents slot ≡ Some parent → parent < bound)
    → (slot : ℕ) → slot < bound → depth_within n others slot ≡ depth_within n parents slot
below-deep bound zero parents others same below slot less = zero-deep parents others slot
below-deep bound (suc n) parents others same below slot less = elim (parents slot) as (λ o. parents slot ≡ o
    → depth_within (suc n) others slot ≡ depth_within (suc n) parents slot) [
      | None ↦ λ none. depth-none (suc n) others slot (same slot less ∙ none) ∙ sym (depth-none (suc n) parents slot none)
      | Some parent ↦ λ some.
          depth-some n others slot parent (same slot less ∙ some)
          ∙ ap (λ d. d + 1) (below-deep bound n parents others same below parent (below slot parent less some))
          ∙ sym (depth-some n parents slot parent some)
    ] refl

module _ (image : Image) (t : Numbered) (s after : State) (slots left : List NotedSlot) (m : Mirrors image t s slots) (c : ChangesOwn image t s after left)
    (u : Numbered) (among : Contains (numbered_threads image) u) (apart : u ≡ t → ⊥) where
  their-other : (slot : ℕ) → IsOwnSlot image u.thread slot → IsOther image t slot
  their-other slot theirs mine = apart (one-owner image m.accepted.spelled.fits m.accepted.formed u t slot among m.listed theirs mine)

  pub untouched : IsUntouched image u s after
  untouched = record {
    boot_radix = c.boot_radix;
    slots = λ slot own. c.others slot (their-other slot own);
    cspace = c.others (cspace_slot (tcb_of image u)) (cspace-other image m.accepted.spelled.fits m.accepted.formed t u m.listed among);
    vspace = c.others (vspace_slot (tcb_of image u)) (vspace-other image m.accepted.spelled.fits m.accepted.formed t u m.listed among);
    maps = λ page frame allowed. (
      map-was image t s after slots left m c u among apart page frame allowed,
      map-stays image t s after slots left m c u among apart page frame allowed,
    );
    bytes = c.bytes;
  }

  -- ---- depths

  abbrev boot : ℕ
  boot = 2 ^ image.header.boot_radix

  boot-kept : (slot : ℕ) → slot < 2 ^ image.header.boot_radix → after.slots slot ≡ s.slots slot
  boot-kept slot less = c.others slot (boot-other image m.accepted.spelled.fits m.accepted.formed t slot m.listed (omega (arith, less)))

  boot-parent : (slot parent : ℕ) → slot < 2 ^ image.header.boot_radix → parent_at s.slots slot ≡ Some parent → parent < 2 ^ image.header.boot_radix
  boot-parent slot parent less is =
      parent-in-boot image (is-fitting image m.accepted.spelled.fits) (are-formed image m.accepted.formed) slot parent
      (sym (same-parent (described image).slots s.slots slot (m.boot slot (omega (arith, less)))) ∙ is)

  boot-deep : (slot : ℕ) → slot < 2 ^ image.header.boot_radix → depth_of after.slots slot ≡ depth_of s.slots slot
  boot-deep slot less =
      below-deep boot 256 (parent_at s.slots) (parent_at after.slots) (λ x below. same-parent s.slots after.slots x (boot-kept x below)) boot-parent slot less

  pub hangs-on : HangsAsListed image u s → HangsAsListed image u after
  hangs-on hangs = record {
    boot = λ slot parent own is less.
        let same = c.others slot (their-other slot own) in
        let before : parent < 2 ^ s.boot_radix = subst (λ (n : ℕ). parent < 2 ^ n) c.boot_radix less in
        boot-deep parent (subst (λ (n : ℕ). parent < 2 ^ n) m.all.boot_radix before)
        ∙ hangs.boot slot parent own (sym (same-parent s.slots after.slots slot same) ∙ is) before
        ∙ ap (λ (capability : Cap). if is_untyped capability then 0 else 1) (sym (same-capability s.slots after.slots slot same));
    own = λ slot parent own is theirs.
        let same = c.others slot (their-other slot own) in
        ap is_untyped (same-capability s.slots after.slots slot same) ∙ hangs.own slot parent own (sym (same-parent s.slots after.slots slot same) ∙ is) theirs;
  }
