-- A slot is one of a thread's or another; the slots of a control block are none of any thread's.
use Rattle.std.proofs.Common.{ℕ, ◌≡◌, ◌∙◌, ◌⊎◌, inl, inr, true, false, refl, sym}
use Rattle.std.specs.Prelude.{Contains}
use Rattle.std.specs.List.{list_any}
use Rattle.std.proofs.lemmas.Bool.{false≢true}
use Rattle.soundness.proofs.Laws.{cspace-slot, vspace-slot}
use Rattle.headline.proofs.kept.Laws.{block-apart, block-thread}
use Rattle.model.specs.Acceptance.Accepted.{IsWellFormed}
use Rattle.model.specs.Acceptance.Authority.{IsOwnSlot}
use Rattle.model.specs.Acceptance.NotedKernel.{stands_in}
use Rattle.model.specs.Acceptance.ThreadInvariants.{tcb_of}
use Rattle.model.specs.Acceptance.ThreadRules.{reached}
use Rattle.model.specs.Images.Described.{Numbered, is_object_slot, numbered_threads}
use Rattle.model.specs.Images.Image.{Image, whole_image}
use Rattle.model.specs.Kernel.State.{cspace_slot, vspace_slot}
use Rattle.headline.specs.invocations.Changes.{IsOther}

pub own-or-other : (image : Image) (t : Numbered) (slot : ℕ) → IsOwnSlot image t.thread slot ⊎ IsOther image t slot
own-or-other image t slot = elim (list_any (stands_in image slot) (reached image t.thread)) as (λ b.
    list_any (stands_in image slot) (reached image t.thread) ≡ b → IsOwnSlot image t.thread slot ⊎ IsOther image t slot) [
      | true ↦ λ is. inl is
      | false ↦ λ is. inr (λ own. absurd (false≢true (sym is ∙ own)))
    ] refl

-- ---- control blocks

module _ (image : Image) (fits : whole_image.fits image ≡ true) (well : IsWellFormed image) (t u : Numbered) (listed : Contains (numbered_threads image) t)
    (among : Contains (numbered_threads image) u) where
  block-other : (slot : ℕ) → is_object_slot image slot u.thread.header.tcb ≡ true → IsOther image t slot
  block-other slot there = block-apart image fits well u among slot there t listed

  pub cspace-other : IsOther image t (cspace_slot (tcb_of image u))
  cspace-other = block-other (cspace_slot (tcb_of image u)) (cspace-slot image u.thread.header.tcb (block-thread image fits well u among))

  pub vspace-other : IsOther image t (vspace_slot (tcb_of image u))
  vspace-other = block-other (vspace_slot (tcb_of image u)) (vspace-slot image u.thread.header.tcb (block-thread image fits well u among))
