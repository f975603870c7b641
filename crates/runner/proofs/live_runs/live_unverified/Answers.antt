-- What was answered from the state into which an image boots.
use Rattle.std.proofs.Common.{ℕ, List}
use Rattle.kernel_machine.specs.Setups.{state_in}
use Rattle.model.specs.Images.Image.{Image}
use Rattle.runner.proofs.Endings.{on-ok}
use Rattle.runner.proofs.LiveLines.{booted}
use Rattle.runner.specs.Devices.{AreDevicePages}
use Rattle.runner.specs.Live.{AnswersBooted, AnswersFrom, GivesAll, StopsAt, StopsShort}
use Rattle.sinks.specs.LineInputs.{GivesLines}
use Rattle.sinks.specs.Sinks.{Grows, GrowsByBeginning}
use Rattle.sinks.specs.declared.event_lines.EventLine.{EventLine}
use Rattle.runner.proofs.live_runs.live_unverified.Goals as goal

pub returns-clause-ok : goal.returns-clause-ok
returns-clause-ok g c =
    let bytes = c.args.bytes.now in
    let s = state_in c.in_ok-started.started.system in
    let starts = c.in_ok-started.started.pages in
    let Given : Image → List EventLine → Type 0 = λ _. GivesAll (g.L.EventLines.left c.args.lines.now) (g.L.EventLines.left c.answer_lines.new.lines) in
    let Puts : List ℕ → Type 0 = Grows (g.S.Sink.contents c.args.sink.now) (g.S.Sink.contents c.answer_lines.new.sink) in
    on-ok c.answer_lines.result ((image : Image) → AreDevicePages image image.header.objects starts → AnswersFrom image s (Given image) Puts)
    (AnswersBooted bytes Given Puts) (booted bytes s starts Given Puts c.in_ok-started.ensures.ok)
    c.answer_lines.ensures.ok

pub returns-clause-line : goal.returns-clause-line
returns-clause-line g c = λ number is.
    booted c.args.bytes.now (state_in c.in_ok-started.started.system) c.in_ok-started.started.pages
    (StopsAt number (g.L.EventLines.left c.args.lines.now) (g.L.EventLines.left c.answer_lines.new.lines))
    (Grows (g.S.Sink.contents c.args.sink.now) (g.S.Sink.contents c.answer_lines.new.sink))
    c.in_ok-started.ensures.ok (c.answer_lines.ensures.line number is)

pub returns-clause-input : goal.returns-clause-input
returns-clause-input g c = λ is.
    booted c.args.bytes.now (state_in c.in_ok-started.started.system) c.in_ok-started.started.pages
    (λ _. StopsShort (g.L.EventLines.left c.args.lines.now) (g.L.EventLines.left c.answer_lines.new.lines))
    (Grows (g.S.Sink.contents c.args.sink.now) (g.S.Sink.contents c.answer_lines.new.sink))
    c.in_ok-started.ensures.ok (c.answer_lines.ensures.input is)

pub returns-clause-output : goal.returns-clause-output
returns-clause-output g c = λ is.
    let ends = c.answer_lines.ensures.output is in (
      booted c.args.bytes.now (state_in c.in_ok-started.started.system) c.in_ok-started.started.pages
          (λ _. GivesLines (g.L.EventLines.left c.args.lines.now) (g.L.EventLines.left c.answer_lines.new.lines))
          (GrowsByBeginning (g.S.Sink.contents c.args.sink.now) (g.S.Sink.contents c.answer_lines.new.sink))
          c.in_ok-started.ensures.ok ends.0,
      ends.1,
    )
