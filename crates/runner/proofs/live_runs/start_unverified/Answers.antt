-- What cannot be read is reported as it is, and what does not boot is no refusal.
use Rattle.std.proofs.Common.{◌∙◌, sym}
use Rattle.std.proofs.lemmas.Result.{err_from_is_err_and}
use Rattle.model.specs.declared.boot_faults.BootFault.TheVariants as boot_faults
use Rattle.model.specs.declared.refusals.Refusal.TheVariants as refusals
use Rattle.runner.specs.Running.{boot_fault_of, fault_of}
use Rattle.runner.specs.declared.running.RunFault.TheVariants.{Boot, Refused}
use Rattle.runner.proofs.Endings.{boot-tells, fault-is, refusal-tells}
use Rattle.runner.proofs.Refusals.{first-told, tells-alone}
use Rattle.runner.proofs.live_runs.start_unverified.Goals as goal

pub returns-in_err-image-clause-unread : goal.returns-in_err-image-clause-unread
returns-in_err-image-clause-unread c =
    let p = err_from_is_err_and c.from_residual.result c.from_residual.ensures.1 in
    tells-alone _ c.args.bytes.now c.in_err-image.field-0.0 c.from_residual.result p.0
    (first-told _ c.in_err-image.field-0.0 (sym c.in_err-image.was ∙ c.read.ensures)) p.1 p.2

pub returns-in_err-image-clause-boot : goal.returns-in_err-image-clause-boot
returns-in_err-image-clause-boot c = λ fault is.
    let e = c.in_err-image.field-0.0 in
    let p = err_from_is_err_and c.from_residual.result c.from_residual.ensures.1 in
    absurd ((refusal-tells e).no-boot fault (fault-is c.from_residual.result p.0 (fault_of e) (Boot fault) p.1 p.2 is))

pub returns-in_err-image-clause-enough : goal.returns-in_err-image-clause-enough
returns-in_err-image-clause-enough c = λ is.
    let e = c.in_err-image.field-0.0 in
    let p = err_from_is_err_and c.from_residual.result c.from_residual.ensures.1 in
    (refusal-tells e).no-want (fault-is c.from_residual.result p.0 (fault_of e) (Refused refusals.OutOfMemory) p.1 p.2 is)

pub returns-in_err-image-clause-room : goal.returns-in_err-image-clause-room
returns-in_err-image-clause-room c = λ is.
    let e = c.in_err-image.field-0.0 in
    let p = err_from_is_err_and c.from_residual.result c.from_residual.ensures.1 in
    (refusal-tells e).no-boot boot_faults.OutOfMemory (fault-is c.from_residual.result p.0 (fault_of e) (Boot boot_faults.OutOfMemory) p.1 p.2 is)

pub returns-in_err-system-clause-refused : goal.returns-in_err-system-clause-refused
returns-in_err-system-clause-refused c = λ refusal is.
    let e = c.in_err-system.field-0.0 in
    let p = err_from_is_err_and c.from_residual-in_err-system.result c.from_residual-in_err-system.ensures.1 in
    absurd ((boot-tells e).no-refusal refusal (fault-is c.from_residual-in_err-system.result p.0 (boot_fault_of e) (Refused refusal) p.1 p.2 is))

pub returns-in_err-system-clause-enough : goal.returns-in_err-system-clause-enough
returns-in_err-system-clause-enough c = λ is.
    let e = c.in_err-system.field-0.0 in
    let p = err_from_is_err_and c.from_residual-in_err-system.result c.from_residual-in_err-system.ensures.1 in
    (boot-tells e).no-refusal refusals.OutOfMemory
    (fault-is c.from_residual-in_err-system.result p.0 (boot_fault_of e) (Refused refusals.OutOfMemory) p.1 p.2 is)

pub returns-in_err-system-clause-room : goal.returns-in_err-system-clause-room
returns-in_err-system-clause-room c = λ is.
    let e = c.in_err-system.field-0.0 in
    let p = err_from_is_err_and c.from_residual-in_err-system.result c.from_residual-in_err-system.ensures.1 in
    (boot-tells e).no-want (fault-is c.from_residual-in_err-system.result p.0 (boot_fault_of e) (Boot boot_faults.OutOfMemory) p.1 p.2 is)

pub returns-clause-ok : goal.returns-clause-ok
returns-clause-ok c = record {
  boots = record { image = c.in_ok-image.image; read = sym c.read.ensures ∙ c.in_ok-image.was; booted = c.in_ok-system.ensures.booted };
  pages = c.in_ok-pages.ensures;
}
