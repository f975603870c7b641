-- By the law that well-formed images boot.
use Rattle.std.proofs.Common.{◌≡◌, true, subst, sym}
use Rattle.kernel_machine.specs.Setups.{state_in}
use Rattle.model.specs.Acceptance.Accepted.{IsWellFormed}
use Rattle.model.specs.Images.Image.{Image, whole_image}
use Rattle.loader.proofs.AcceptedBoots.{boots-into}
use Rattle.loader.proofs.systems.boot.Goals as goal

pub returns-in-Ok-clause-state : goal.returns-in-Ok-clause-state
returns-in-Ok-clause-state c =
    let told = c.image.ensures in boots-into c.image.result.now c.args.accepted.now told.value told.fits told.formed (state_in c.in-Ok.system)
    c.in-Ok.ensures.booted

pub returns-in-Ok-clause-calls : goal.returns-in-Ok-clause-calls
returns-in-Ok-clause-calls c = let told = c.image.ensures in c.well_formed_images_boot.ensures.boots c.args.accepted.now told.fits told.formed

pub returns-in-Ok-clause-inside : goal.returns-in-Ok-clause-inside
returns-in-Ok-clause-inside c = let told = c.image.ensures in c.objects_stand_inside_their_untypeds.ensures c.args.accepted.now told.fits told.formed

pub unreachable-requires : goal.unreachable-requires
unreachable-requires c =
    let told = c.image.ensures in
    let fits = subst (λ (i : Image). whole_image.fits i ≡ true) (sym told.value) told.fits in
    let formed = subst (λ (i : Image). IsWellFormed i) (sym told.value) told.formed in
    c.in_default.not-OutOfMemory (c.in-Err.ensures.formed fits formed)
