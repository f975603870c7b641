-- The slots of the interrupt table stay as the image describes them.
use Rattle.std.proofs.Common.{ℕ, ◌≡◌, ◌∙◌, ◌<◌, true, Option, List, refl, sym, ap, arith}
use Rattle.std.specs.Option.{option_map_or}
use Rattle.model.specs.declared.capabilities.Cap.TheVariants.{Empty}
use Rattle.model.specs.declared.labels.Label.{Label}
use Rattle.model.specs.declared.slot_entries.Entry.{Entry}
use Rattle.model.specs.Acceptance.Accepted.{IsWellFormed}
use Rattle.model.specs.Capabilities.Slots.{capability_at}
use Rattle.model.specs.Images.Described.{described}
use Rattle.model.specs.Images.Image.{Image, whole_image}
use Rattle.model.specs.Kernel.Interrupts.{binding, signal_of}
use Rattle.model.specs.Kernel.State.{State, line_slot}
use Rattle.headline.proofs.Laws.{boot-kept}
use Rattle.headline.specs.facts.Standing.{AllStand}

radix-is : (image : Image) → (described image).boot_radix ≡ image.header.boot_radix
unfolding described
radix-is image = refl

pub bound-as-described : (image : Image) → whole_image.fits image ≡ true → IsWellFormed image → (s : State) (labels : List Label) → AllStand image s labels
    → (number : ℕ) → number < 64 → binding s number ≡ binding (described image) number
bound-as-described image fits well s labels all number few =
    ap (λ (radix : ℕ). signal_of (capability_at s.slots (line_slot radix number))) all.boot_radix
    ∙ ap (λ (e : Option Entry). signal_of (option_map_or (λ x. x.capability) e Empty))
    (boot-kept image fits well s labels all (line_slot image.header.boot_radix number) (omega (arith, few)))
    ∙ ap (λ (radix : ℕ). signal_of (capability_at (described image).slots (line_slot radix number))) (sym (radix-is image))
