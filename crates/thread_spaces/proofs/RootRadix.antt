-- The CNode and the root table that a thread's header names.
use Rattle.std.proofs.Common.{ℕ, ◌≡◌, ◌∙◌, ◌<◌, true, false, Option, Some, None, List, refl, sym, ap, subst}
use Rattle.std.specs.Prelude.{is_some, slice_index}
use Rattle.format_laws.specs.Fitting.{IsFitting, ThreadFits}
use Rattle.format_laws.proofs.Laws.{is-fitting}
use Rattle.soundness.proofs.Laws.{are-formed}
use Rattle.model.specs.declared.capabilities.Cap.{Cap}
use Rattle.model.specs.declared.capabilities.Cap.TheVariants.{CNode}
use Rattle.model.specs.declared.entries.ThreadHeader.{ThreadHeader}
use Rattle.model.specs.Acceptance.Accepted.{IsWellFormed}
use Rattle.model.specs.Acceptance.NotedKernel.{noted_root}
use Rattle.model.specs.Acceptance.WellFormed.{radix_of}
use Rattle.model.specs.Capabilities.CapabilityWords.{IsCapability}
use Rattle.model.specs.Images.Image.{Image, Thread, whole_image}
use Rattle.model.specs.Images.Places.{offset_of, type_at}
use Rattle.model.specs.Kernel.Retype.{NewObject}
use Rattle.typestate.specs.Spaces.{is_inside}
use Rattle.thread_spaces.specs.Given.{AreOffsets, IsCNode, IsListed}
use Rattle.thread_spaces.proofs.DescribedSlots.{root-valid}
use Rattle.thread_spaces.proofs.GivenCNodes.{radixed-cnode, root-radixed}
use Rattle.thread_spaces.proofs.GivenRoots.{root-inside, root-is}

record HasOne (found : Option ℕ) : Type 0 where
  pub radix : ℕ
  pub is : found ≡ Some radix

has-one : (found : Option ℕ) → is_some found ≡ true → HasOne found
has-one None is = absurd (let no : false ≡ true = is in cc)
has-one (Some radix) is = record { radix = radix; is = refl }

-- the root leads into the thread's own CNodes
pub root-leads-inside : (image : Image) (t : Thread) (root : Cap) → IsWellFormed image → IsListed image t → root ≡ noted_root image t →
    is_inside image t root ≡ true
root-leads-inside image t root formed listed is =
    let one = has-one (radix_of (type_at image t.header.cnode)) (root-radixed image t (are-formed image formed) listed) in
    ap (is_inside image t) is ∙ root-inside image t one.radix one.is

module _ (image : Image) (t : Thread) (fits : whole_image.fits image ≡ true) (formed : IsWellFormed image) (listed : IsListed image t) where
  pub root-cnode : IsCNode image t.header.cnode
  root-cnode = radixed-cnode image t.header.cnode (is-fitting image fits) (root-radixed image t (are-formed image formed) listed)

  pub root-radix : (h : ThreadHeader) (kind : Option NewObject) (found : Option ℕ) → h ≡ t.header → kind ≡ type_at image h.cnode →
      found ≡ radix_of kind → found ≡ Some root-cnode.radix
  root-radix h kind found here entry is = is ∙ ap radix_of (entry ∙ ap (λ (g : ThreadHeader). type_at image g.cnode) here) ∙ root-cnode.is

  pub root-fits : (h : ThreadHeader) (radix offset : ℕ) → h ≡ t.header → Some radix ≡ Some root-cnode.radix → offset ≡ offset_of image h.cnode →
      IsCapability (CNode offset radix h.guard)
  root-fits h radix offset here same place =
      let is : CNode offset radix h.guard ≡ noted_root image t =
      ap (λ (g : ThreadHeader). CNode offset radix g.guard) here
      ∙ root-is image t radix offset (root-cnode.is ∙ sym same) (place ∙ ap (λ (g : ThreadHeader). offset_of image g.cnode) here) in
      subst (λ (c : Cap). IsCapability c) (sym is) (root-valid image fits formed t listed)

module _ (image : Image) (t : Thread) (fits : whole_image.fits image ≡ true) (listed : IsListed image t) (h : ThreadHeader) (here : h ≡ t.header) where
  pub table-listed : h.root < image.header.objects
  table-listed = subst (λ (g : ThreadHeader). g.root < image.header.objects) (sym here)
      (ThreadFits.root (IsFitting.thread (is-fitting image fits) listed.number t listed.listed))

  pub cnode-listed : h.cnode < image.header.objects
  cnode-listed = subst (λ (g : ThreadHeader). g.cnode < image.header.objects) (sym here)
      (ThreadFits.cnode (IsFitting.thread (is-fitting image fits) listed.number t listed.listed))

  pub table-place : (offsets : List ℕ) → AreOffsets image image.header.objects offsets → slice_index offsets h.root ≡ offset_of image t.header.root
  table-place offsets are = are.place h.root table-listed ∙ ap (λ (g : ThreadHeader). offset_of image g.root) here

  pub cnode-place : (offsets : List ℕ) → AreOffsets image image.header.objects offsets → slice_index offsets h.cnode ≡ offset_of image h.cnode
  cnode-place offsets are = are.place h.cnode cnode-listed
