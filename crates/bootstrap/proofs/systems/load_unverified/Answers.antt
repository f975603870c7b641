-- By the order of the definition.
use Rattle.std.proofs.Common.{◌≡◌, ◌∙◌, None, inr, ap, sym}
use Rattle.std.proofs.lemmas.Result.{err_from_is_err_and}
use Rattle.kernel_machine.specs.Setups.{state_in}
use Rattle.model.specs.Images.Boot.{misplaced}
use Rattle.model.specs.Kernel.Setup.{boot_area}
use Rattle.bootstrap.proofs.Fitting.{limited}
use Rattle.bootstrap.proofs.OnlyMemory.{only-memory}
use Rattle.bootstrap.proofs.Order.{booted-misplaced, booted-runs, state_after}
use Rattle.bootstrap.proofs.systems.load_unverified.Goals as goal

pub invariant_of-boot_image : goal.invariant_of-boot_image
invariant_of-boot_image c = record { limits = limited c.args.image.now c.header-header.ensures.fits }

pub returns-in-Some-clause-fault : goal.returns-in-Some-clause-fault
returns-in-Some-clause-fault c = inr (booted-misplaced c.args.image.now c.in-Some.number (sym c.misplaced.ensures ∙ c.in-Some.is))

pub returns-in-Some-clause-formed : goal.returns-in-Some-clause-formed
returns-in-Some-clause-formed c = λ fits formed. only-memory c.args.image.now fits formed _ (returns-in-Some-clause-fault c)

pub returns-in_err-load-clause-fault : goal.returns-in_err-load-clause-fault
returns-in_err-load-clause-fault c =
    let image = c.args.image.now in
    let s = state_in c.in-Ok-new.machine in
    let none : misplaced image ≡ None = sym c.misplaced.ensures ∙ c.in_default.is in
    let fresh : s ≡ boot_area image.header.memory_bits image.header.boot_radix = c.in-Ok-new.ensures
    ∙ ap (λ h. boot_area h.memory_bits h.boot_radix) c.header-header.ensures.value in
    let p = err_from_is_err_and c.from_residual.result c.from_residual.ensures.1 in
    rw (p.1, p.2) (inr (booted-runs image s none fresh ∙ ap state_after c.in_err-load.ensures))

pub returns-in_err-load-clause-formed : goal.returns-in_err-load-clause-formed
returns-in_err-load-clause-formed c = λ fits formed.
    let image = c.args.image.now in
    let s = state_in c.in-Ok-new.machine in
    let none : misplaced image ≡ None = sym c.misplaced.ensures ∙ c.in_default.is in
    let fresh : s ≡ boot_area image.header.memory_bits image.header.boot_radix = c.in-Ok-new.ensures
    ∙ ap (λ h. boot_area h.memory_bits h.boot_radix) c.header-header.ensures.value in
    let p = err_from_is_err_and c.from_residual.result c.from_residual.ensures.1 in
    rw (p.1, p.2) (only-memory image fits formed _ (inr (booted-runs image s none fresh ∙ ap state_after c.in_err-load.ensures)))

pub returns-clause-loaded : goal.returns-clause-loaded
returns-clause-loaded c =
    let image = c.args.image.now in
    let s = state_in c.in-Ok-new.machine in
    let none : misplaced image ≡ None = sym c.misplaced.ensures ∙ c.in_default.is in
    let fresh : s ≡ boot_area image.header.memory_bits image.header.boot_radix = c.in-Ok-new.ensures
    ∙ ap (λ h. boot_area h.memory_bits h.boot_radix) c.header-header.ensures.value in
    booted-runs image s none fresh ∙ ap state_after c.in_ok-load.ensures
