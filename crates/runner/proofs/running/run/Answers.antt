-- What is accepted boots into the state that it describes, and its trace goes on from there.
use Rattle.std.proofs.Common.{◌≡◌, ◌∙◌, Some, None, refl, ap, subst}
use Rattle.std.specs.Prelude.{OnErr, OnOk}
use Rattle.std.proofs.lemmas.Result.{err_from_is_err_and}
use Rattle.model.specs.Kernel.State.{State}
use Rattle.model.specs.Kernel.Steps.{trace}
use Rattle.model.specs.declared.refusals.Refusal.TheVariants as refusals
use Rattle.headline.specs.SafeRuns.{trace_of}
use Rattle.kernel_trace.specs.Lines.{Failed, lines_of}
use Rattle.runner.specs.Running.{PutsAll}
use Rattle.runner.specs.declared.running.RunFault.TheVariants.{Boot, Output, OutOfMemory, Outside, Refused}
use Rattle.sinks.specs.Sinks.{Grows, GrowsByBeginning}
use Rattle.runner.proofs.Endings.{is-output, of-err, on-ok, same-index}
use Rattle.runner.proofs.KeptEvents.{all-kept, found-in}
use Rattle.runner.proofs.Refusals.{tells}
use Rattle.runner.proofs.running.run.Goals as goal

pub returns-in_err-accepted-clause-unread : goal.returns-in_err-accepted-clause-unread
returns-in_err-accepted-clause-unread g c =
    let p = err_from_is_err_and c.from_residual.result c.from_residual.ensures.1 in
    tells _ c.args.bytes.now c.in_err-accepted.field-0.0 c.from_residual.result p.0 c.args.sink.now c.in_err-accepted.ensures.unread p.1 p.2

pub returns-clause-output : goal.returns-clause-output
returns-clause-output g c = λ is.
    let bytes = c.args.bytes.now in
    let image = c.in_ok-accepted.accepted in
    let events = c.args.events.now in
    let told = c.in_ok-accepted.ensures in
    let devices = all-kept image events (found-in _ image events _ None c.image.ensures.value c.in_ok-index.ensures c.in_default.is) in
    let old = g.S.Sink.contents c.args.sink.now in
    let new = g.S.Sink.contents c.put_lines.new.sink in
    let r = c.put_lines.result in
    let begun = subst (λ (s : State). OnErr r (GrowsByBeginning old new (lines_of (trace s events)))) c.in_ok-system.ensures.state c.put_lines.ensures.err in (
      (
        image,
        c.accepted_images_run_safely.ensures bytes image events told.accepted devices,
        of-err r Output (GrowsByBeginning old new (lines_of (trace_of image events))) begun is,
      ),
      of-err r Output (Failed (g.S.Sink.failures c.args.sink.now) (g.S.Sink.failures c.put_lines.new.sink)) c.put_lines.ensures.failed is,
    )

pub returns-clause-ok : goal.returns-clause-ok
returns-clause-ok g c =
    let bytes = c.args.bytes.now in
    let image = c.in_ok-accepted.accepted in
    let events = c.args.events.now in
    let told = c.in_ok-accepted.ensures in
    let devices = all-kept image events (found-in _ image events _ None c.image.ensures.value c.in_ok-index.ensures c.in_default.is) in
    let old = g.S.Sink.contents c.args.sink.now in
    let new = g.S.Sink.contents c.put_lines.new.sink in
    let r = c.put_lines.result in
    let put = subst (λ (s : State). OnOk r (Grows old new (lines_of (trace s events)))) c.in_ok-system.ensures.state c.put_lines.ensures.ok in
    on-ok r (Grows old new (lines_of (trace_of image events))) (PutsAll bytes events old new)
    (λ grown. (image, c.accepted_images_run_safely.ensures bytes image events told.accepted devices, grown)) put

pub returns-clause-refused : goal.returns-clause-refused
returns-clause-refused g c = λ refusal is.
    let clash : Refused refusal ≡ Output = is-output c.put_lines.result (Refused refusal) c.put_lines.ensures.only is in absurd cc

pub returns-clause-memory : goal.returns-clause-memory
returns-clause-memory g c = λ is.
    let clash : OutOfMemory ≡ Output = is-output c.put_lines.result OutOfMemory c.put_lines.ensures.only is in absurd cc

pub returns-clause-boots : goal.returns-clause-boots
returns-clause-boots g c = λ fault is.
    let clash : Boot fault ≡ Output = is-output c.put_lines.result (Boot fault) c.put_lines.ensures.only is in cc

pub returns-clause-enough : goal.returns-clause-enough
returns-clause-enough g c = λ is.
    let clash : Refused refusals.OutOfMemory ≡ Output = is-output c.put_lines.result (Refused refusals.OutOfMemory) c.put_lines.ensures.only is in cc

pub returns-clause-outside : goal.returns-clause-outside
returns-clause-outside g c = λ index is.
    let clash : Outside index ≡ Output = is-output c.put_lines.result (Outside index) c.put_lines.ensures.only is in absurd cc

pub returns-in-Some-clause-outside : goal.returns-in-Some-clause-outside
returns-in-Some-clause-outside g c = λ index is.
    let image = c.in_ok-accepted.accepted in
    let same = same-index c.in-Some.index index is in
    let found = found-in _ image c.args.events.now _ (Some index) c.image.ensures.value c.in_ok-index.ensures (c.in-Some.is ∙ ap Some same) in
    ((image, c.in_ok-accepted.ensures.accepted, found), refl)
