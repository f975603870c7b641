-- The root table of a thread of a well-formed image lies at a page.
use Rattle.std.proofs.Common.{ℕ, ◌≡◌, true, false, subst}
use Rattle.std.proofs.lemmas.Bool.{eqb-true}
use Rattle.soundness.proofs.Laws.{described-sound}
use Rattle.model.specs.declared.capabilities.Cap.{Cap}
use Rattle.model.specs.declared.capabilities.Cap.TheVariants.{Empty, Untyped, Endpoint, Notification, CNode, Frame, PageTable, Tcb, RootTable, InterruptControl}
use Rattle.model.specs.declared.capabilities.Cap.TheVariants.{InterruptHandler}
use Rattle.model.specs.Acceptance.Accepted.{IsWellFormed}
use Rattle.model.specs.Capabilities.CapabilityWords.{IsCapability, IsPlace}
use Rattle.model.specs.Capabilities.Slots.{capability_at}
use Rattle.model.specs.Images.Described.{described}
use Rattle.model.specs.Images.Image.{Image, Thread, whole_image}
use Rattle.model.specs.Images.Places.{offset_of}
use Rattle.model.specs.Kernel.Removal.{is_root_at}
use Rattle.thread_spaces.specs.Given.{IsListed}
use Rattle.thread_spaces.proofs.OriginalNames.{root-held}

valid-place : (c : Cap) (offset : ℕ) → is_root_at offset c ≡ true → IsCapability c → IsPlace offset 12
valid-place (RootTable o) offset is valid = subst (λ (n : ℕ). IsPlace n 12) (eqb-true o offset is) valid
valid-place Empty offset is valid = absurd (let clash : false ≡ true = is in cc)
valid-place (Untyped _ _ _) offset is valid = absurd (let clash : false ≡ true = is in cc)
valid-place (Endpoint _ _ _) offset is valid = absurd (let clash : false ≡ true = is in cc)
valid-place (Notification _ _ _) offset is valid = absurd (let clash : false ≡ true = is in cc)
valid-place (CNode _ _ _) offset is valid = absurd (let clash : false ≡ true = is in cc)
valid-place (Frame _ _ _) offset is valid = absurd (let clash : false ≡ true = is in cc)
valid-place (PageTable _ _) offset is valid = absurd (let clash : false ≡ true = is in cc)
valid-place (Tcb _) offset is valid = absurd (let clash : false ≡ true = is in cc)
valid-place InterruptControl offset is valid = absurd (let clash : false ≡ true = is in cc)
valid-place (InterruptHandler _) offset is valid = absurd (let clash : false ≡ true = is in cc)

pub root-placed : (image : Image) (t : Thread) → whole_image.fits image ≡ true → IsWellFormed image → IsListed image t →
    IsPlace (offset_of image t.header.root) 12
root-placed image t fits well listed =
    let held = root-held image fits well t listed in
    valid-place (capability_at (described image).slots held.slot) (offset_of image t.header.root) held.holds
    ((described-sound image fits well).slots.derivation.valid held.slot)
