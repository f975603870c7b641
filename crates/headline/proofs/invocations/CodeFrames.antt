-- A frame of code is an object that is there, since the boot CNode keeps the copy by which it is mapped.
use Rattle.std.proofs.Common.{ℕ, ◌≡◌, ◌∙◌, ◌<◌, Option, Some, List, ap, subst, arith}
use Rattle.std.specs.Prelude.{slice_get}
use Rattle.std.specs.Option.{option_map_or}
use Rattle.std.proofs.lemmas.Option.{slice_get-get_or}
use Rattle.soundness.proofs.Laws.{ReadsBoot, are-formed, boot-slots-suffice}
use Rattle.format_laws.specs.Fitting.{IsFitting}
use Rattle.format_laws.proofs.Laws.{is-fitting}
use Rattle.model.specs.declared.capabilities.Cap.TheVariants.{Empty}
use Rattle.model.specs.declared.slot_entries.Entry.{Entry}
use Rattle.model.specs.Acceptance.NotedStates.{NotedSlot}
use Rattle.model.specs.Acceptance.ThreadInvariants.{IsCode}
use Rattle.model.specs.Images.Described.{Numbered}
use Rattle.model.specs.Images.Image.{Image}
use Rattle.model.specs.Images.Places.{frame_copy_slot, offset_of}
use Rattle.model.specs.Kernel.Kinds.{kind_at, object_named}
use Rattle.model.specs.Kernel.Retype.{NewFrame}
use Rattle.model.specs.Kernel.State.{State, boot_area_slots}
use Rattle.thread_spaces.proofs.Laws.{boot-holds, from-loaded}
use Rattle.headline.specs.invocations.Mirrors.{Mirrors}

pub code-there : (image : Image) (t : Numbered) (s : State) (slots : List NotedSlot) (mirrors : Mirrors image t s slots) (frame : ℕ) → IsCode image frame
    → kind_at s frame ≡ Some NewFrame
code-there image t s slots mirrors frame code =
    let fits = mirrors.accepted.spelled.fits in
    let formed = mirrors.accepted.formed in
    let fitting = is-fitting image fits in
    let k = code.listed.0 in
    let copy = frame_copy_slot image k in
    let at : slice_get image.frames k ≡ Some code.entry = slice_get-get_or image.frames k code.entry code.listed.1 ∙ ap Some code.listed.2 in
    let less : k < image.header.frames = subst (λ (n : ℕ). k < n) (IsFitting.frames fitting) code.listed.1 in
    let suffice = boot-slots-suffice image fitting (are-formed image formed) in
    let boot : copy < boot_area_slots image.header.boot_radix = omega (arith, less, suffice) in
    let shown = from-loaded image copy _ fitting (ReadsBoot.frame (boot-holds image fits formed) k code.entry less at) in
    let held = ap (λ (o : Option Entry). option_map_or (λ h. h.capability) o Empty) (mirrors.boot copy boot ∙ shown) in
    ap (kind_at s) code.place ∙ mirrors.all.sound.memory.named copy NewFrame (offset_of image code.entry.frame) (ap object_named held)
