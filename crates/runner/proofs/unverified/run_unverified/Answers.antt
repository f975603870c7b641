-- What cannot be read is reported as it is, what does not boot is no refusal, and after the lines there is no other fault than the sink's.
use Rattle.std.proofs.Common.{◌≡◌, ◌∙◌, inl, inr, Some, Err, refl, sym, ap}
use Rattle.std.proofs.lemmas.Result.{err_from_is_err_and}
use Rattle.kernel_machine.specs.Setups.{state_in}
use Rattle.model.specs.declared.boot_faults.BootFault.TheVariants as boot_faults
use Rattle.model.specs.declared.refusals.Refusal.TheVariants as refusals
use Rattle.model.specs.Kernel.Steps.{trace}
use Rattle.kernel_trace.specs.Lines.{Failed, lines_of}
use Rattle.runner.specs.Running.{boot_fault_of, fault_of}
use Rattle.runner.specs.Unverified.{BootsInto, PutsTrace}
use Rattle.runner.specs.declared.running.RunFault.TheVariants.{Boot, Output, OutOfMemory, Outside, Refused}
use Rattle.sinks.specs.Sinks.{Grows, GrowsByBeginning}
use Rattle.runner.proofs.Endings.{boot-tells, fault-is, is-output, of-each, of-err, of-found, of-none, of-read, of-unread, on-ok, refusal-tells, same-index}
use Rattle.runner.proofs.Refusals.{first-told, tells}
use Rattle.runner.proofs.unverified.run_unverified.Goals as goal

pub returns-in_err-image-clause-unread : goal.returns-in_err-image-clause-unread
returns-in_err-image-clause-unread g c =
    let p = err_from_is_err_and c.from_residual.result c.from_residual.ensures.1 in
    tells _ c.args.bytes.now c.in_err-image.field-0.0 c.from_residual.result p.0 c.args.sink.now
    (first-told _ c.in_err-image.field-0.0 (sym c.in_err-image.was ∙ c.read.ensures)) p.1 p.2

pub returns-in_err-image-clause-boot : goal.returns-in_err-image-clause-boot
returns-in_err-image-clause-boot g c = λ fault is.
    let e = c.in_err-image.field-0.0 in
    let p = err_from_is_err_and c.from_residual.result c.from_residual.ensures.1 in
    absurd ((refusal-tells e).no-boot fault (fault-is c.from_residual.result p.0 (fault_of e) (Boot fault) p.1 p.2 is))

pub returns-in_err-image-clause-output : goal.returns-in_err-image-clause-output
returns-in_err-image-clause-output g c = λ is.
    let e = c.in_err-image.field-0.0 in
    let p = err_from_is_err_and c.from_residual.result c.from_residual.ensures.1 in
    absurd ((refusal-tells e).no-output (fault-is c.from_residual.result p.0 (fault_of e) Output p.1 p.2 is))

pub returns-in_err-image-clause-enough : goal.returns-in_err-image-clause-enough
returns-in_err-image-clause-enough g c = λ is.
    let e = c.in_err-image.field-0.0 in
    let p = err_from_is_err_and c.from_residual.result c.from_residual.ensures.1 in
    (refusal-tells e).no-want (fault-is c.from_residual.result p.0 (fault_of e) (Refused refusals.OutOfMemory) p.1 p.2 is)

pub returns-in_err-image-clause-room : goal.returns-in_err-image-clause-room
returns-in_err-image-clause-room g c = λ is.
    let e = c.in_err-image.field-0.0 in
    let p = err_from_is_err_and c.from_residual.result c.from_residual.ensures.1 in
    (refusal-tells e).no-boot boot_faults.OutOfMemory (fault-is c.from_residual.result p.0 (fault_of e) (Boot boot_faults.OutOfMemory) p.1 p.2 is)

pub returns-in_err-system-clause-refused : goal.returns-in_err-system-clause-refused
returns-in_err-system-clause-refused g c = λ refusal is.
    let e = c.in_err-system.field-0.0 in
    let p = err_from_is_err_and c.from_residual-in_err-system.result c.from_residual-in_err-system.ensures.1 in
    absurd ((boot-tells e).no-refusal refusal (fault-is c.from_residual-in_err-system.result p.0 (boot_fault_of e) (Refused refusal) p.1 p.2 is))

pub returns-in_err-system-clause-output : goal.returns-in_err-system-clause-output
returns-in_err-system-clause-output g c = λ is.
    let e = c.in_err-system.field-0.0 in
    let p = err_from_is_err_and c.from_residual-in_err-system.result c.from_residual-in_err-system.ensures.1 in
    absurd ((boot-tells e).no-output (fault-is c.from_residual-in_err-system.result p.0 (boot_fault_of e) Output p.1 p.2 is))

pub returns-in_err-system-clause-enough : goal.returns-in_err-system-clause-enough
returns-in_err-system-clause-enough g c = λ is.
    let e = c.in_err-system.field-0.0 in
    let p = err_from_is_err_and c.from_residual-in_err-system.result c.from_residual-in_err-system.ensures.1 in
    (boot-tells e).no-refusal refusals.OutOfMemory
    (fault-is c.from_residual-in_err-system.result p.0 (boot_fault_of e) (Refused refusals.OutOfMemory) p.1 p.2 is)

pub returns-in_err-system-clause-room : goal.returns-in_err-system-clause-room
returns-in_err-system-clause-room g c = λ is.
    let e = c.in_err-system.field-0.0 in
    let p = err_from_is_err_and c.from_residual-in_err-system.result c.from_residual-in_err-system.ensures.1 in
    (boot-tells e).no-want (fault-is c.from_residual-in_err-system.result p.0 (boot_fault_of e) (Boot boot_faults.OutOfMemory) p.1 p.2 is)

pub returns-clause-ok : goal.returns-clause-ok
returns-clause-ok g c =
    let start = state_in c.in_ok-system.system in
    let events = c.args.events.now in
    let old = g.S.Sink.contents c.args.sink.now in
    let new = g.S.Sink.contents c.put_lines.new.sink in
    let boots : BootsInto c.args.bytes.now start =
    record { image = c.in_ok-image.image; read = sym c.read.ensures ∙ c.in_ok-image.was; booted = c.in_ok-system.ensures.booted } in
    on-ok c.put_lines.result (Grows old new (lines_of (trace start events))) (PutsTrace c.args.bytes.now events old new) (λ grown. (start, boots, grown))
    c.put_lines.ensures.ok

pub returns-clause-output : goal.returns-clause-output
returns-clause-output g c = λ is.
    let start = state_in c.in_ok-system.system in
    let old = g.S.Sink.contents c.args.sink.now in
    let new = g.S.Sink.contents c.put_lines.new.sink in
    let boots : BootsInto c.args.bytes.now start =
    record { image = c.in_ok-image.image; read = sym c.read.ensures ∙ c.in_ok-image.was; booted = c.in_ok-system.ensures.booted } in
    let r = c.put_lines.result in (
      (start, boots, of-err r Output (GrowsByBeginning old new (lines_of (trace start c.args.events.now))) c.put_lines.ensures.err is),
      of-err r Output (Failed (g.S.Sink.failures c.args.sink.now) (g.S.Sink.failures c.put_lines.new.sink)) c.put_lines.ensures.failed is,
    )

pub returns-clause-refused : goal.returns-clause-refused
returns-clause-refused g c = λ refusal is.
    let clash : Refused refusal ≡ Output = is-output c.put_lines.result (Refused refusal) c.put_lines.ensures.only is in absurd cc

pub returns-clause-boot : goal.returns-clause-boot
returns-clause-boot g c = λ fault is.
    let clash : Boot fault ≡ Output = is-output c.put_lines.result (Boot fault) c.put_lines.ensures.only is in absurd cc

pub returns-clause-memory : goal.returns-clause-memory
returns-clause-memory g c = λ is.
    let clash : OutOfMemory ≡ Output = is-output c.put_lines.result OutOfMemory c.put_lines.ensures.only is in absurd cc

pub returns-clause-enough : goal.returns-clause-enough
returns-clause-enough g c = λ is.
    let clash : Refused refusals.OutOfMemory ≡ Output = is-output c.put_lines.result (Refused refusals.OutOfMemory) c.put_lines.ensures.only is in cc

pub returns-clause-room : goal.returns-clause-room
returns-clause-room g c = λ is.
    let clash : Boot boot_faults.OutOfMemory ≡ Output = is-output c.put_lines.result (Boot boot_faults.OutOfMemory) c.put_lines.ensures.only is in cc

pub returns-clause-outside : goal.returns-clause-outside
returns-clause-outside g c = λ index is.
    let clash : Outside index ≡ Output = is-output c.put_lines.result (Outside index) c.put_lines.ensures.only is in absurd cc

pub returns-in_err-image-clause-outside : goal.returns-in_err-image-clause-outside
returns-in_err-image-clause-outside g c = λ index is.
    let e = c.in_err-image.field-0.0 in
    let p = err_from_is_err_and c.from_residual.result c.from_residual.ensures.1 in
    absurd ((refusal-tells e).no-outside index (fault-is c.from_residual.result p.0 (fault_of e) (Outside index) p.1 p.2 is))

pub returns-in-Some-clause-outside : goal.returns-in-Some-clause-outside
returns-in-Some-clause-outside g c = λ index is.
    let image = c.in_ok-image.image in
    let same = same-index c.in-Some.index index is in
    ((image, sym c.read.ensures ∙ c.in_ok-image.was, sym c.in_ok-index.ensures ∙ c.in-Some.is ∙ ap Some same), refl)

pub returns-in_err-system-clause-outside : goal.returns-in_err-system-clause-outside
returns-in_err-system-clause-outside g c = λ index is.
    let e = c.in_err-system.field-0.0 in
    let p = err_from_is_err_and c.from_residual-in_err-system.result c.from_residual-in_err-system.ensures.1 in
    absurd ((boot-tells e).no-outside index (fault-is c.from_residual-in_err-system.result p.0 (boot_fault_of e) (Outside index) p.1 p.2 is))

-- ---- where an event is outside

pub returns-in_err-image-clause-inside : goal.returns-in_err-image-clause-inside
returns-in_err-image-clause-inside g c = of-unread _ c.in_err-image.field-0.0 _ (sym c.read.ensures ∙ c.in_err-image.was)

pub returns-in_err-index-clause-inside : goal.returns-in_err-index-clause-inside
returns-in_err-index-clause-inside g c =
    let p = err_from_is_err_and c.from_residual-in_err-index.result c.from_residual-in_err-index.ensures.1 in
    let wanted : c.from_residual-in_err-index.result ≡ Err OutOfMemory = p.1 ∙ ap Err p.2 in
    of-read _ c.in_ok-image.image _ (sym c.read.ensures ∙ c.in_ok-image.was) (of-each _ _ (λ index. inr wanted))

pub returns-in-Some-clause-inside : goal.returns-in-Some-clause-inside
returns-in-Some-clause-inside g c =
    of-read _ c.in_ok-image.image _ (sym c.read.ensures ∙ c.in_ok-image.was)
    (of-found _ c.in-Some.index _ (sym c.in_ok-index.ensures ∙ c.in-Some.is) (inl refl))

pub returns-in_err-system-clause-inside : goal.returns-in_err-system-clause-inside
returns-in_err-system-clause-inside g c =
    of-read _ c.in_ok-image.image _ (sym c.read.ensures ∙ c.in_ok-image.was) (of-none _ _ (sym c.in_ok-index.ensures ∙ c.in_default.is))

pub returns-clause-inside : goal.returns-clause-inside
returns-clause-inside g c =
    of-read _ c.in_ok-image.image _ (sym c.read.ensures ∙ c.in_ok-image.was) (of-none _ _ (sym c.in_ok-index.ensures ∙ c.in_default.is))
