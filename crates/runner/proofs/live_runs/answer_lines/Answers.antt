-- One line after another.
use Rattle.std.proofs.Common.{ℕ, ◌≡◌, ◌∙◌, ◌+◌, ◌-◌, ◌^◌, Bool, Ok, Err, ap, arith, refl, subst, sym}
use Rattle.std.proofs.lemmas.Result.{err_from_is_err_and}
use Rattle.kernel_machine.specs.Setups.{state_in}
use Rattle.kernel_trace.specs.Lines.{Failed}
use Rattle.runner.specs.Live.{NextAnswer}
use Rattle.runner.specs.declared.live_runs.LiveFault.{LiveFault}
use Rattle.runner.specs.declared.live_runs.LiveFault.TheVariants as faults
use Rattle.runner.proofs.LiveLines.{all-answered, counted-out, fault-same, none-so-far, one-more, some-put, stops-at, unread}
use Rattle.runner.proofs.live_runs.answer_lines.Goals as goal

pub lines-init : goal.lines-init
lines-init g c = record {
  answered = λ image are.
      none-so-far image (state_in c.args.system.now) (g.L.EventLines.left c.args.lines.now) (g.S.Sink.contents c.args.sink.now);
  counted = refl;
}

pub lines-preserved : goal.lines-preserved
lines-preserved g c = record {
  answered = λ image are.
      let next = subst (λ (more : Bool). NextAnswer image (c.lines.done + 1) (state_in c.lines.system) (state_in c.answer_next.new.system)
      (g.L.EventLines.left c.lines.lines) (g.L.EventLines.left c.answer_next.new.lines) (g.S.Sink.contents c.lines.sink)
      (g.S.Sink.contents c.answer_next.new.sink) (Ok more)) c.if-not-branch.false (c.in_ok-answer_next.ensures.next image are) in
      one-more image (state_in c.args.system.now) (state_in c.lines.system) (g.L.EventLines.left c.args.lines.now) (g.L.EventLines.left c.lines.lines)
      c.lines.done (g.S.Sink.contents c.args.sink.now) (g.S.Sink.contents c.lines.sink) (c.lines.invariant.answered image are)
      next.0 (state_in c.answer_next.new.system) (g.L.EventLines.left c.answer_next.new.lines) (g.S.Sink.contents c.answer_next.new.sink)
      next.1 next.2 next.3 next.4;
  counted = c.in_ok-answer_next.ensures.kept ∙ c.lines.invariant.counted;
}

pub returns-then-not-branch-clause-ok : goal.returns-then-not-branch-clause-ok
returns-then-not-branch-clause-ok g c = λ image are.
    let next = subst (λ (more : Bool). NextAnswer image (c.lines.done + 1) (state_in c.lines.system) (state_in c.answer_next.new.system)
    (g.L.EventLines.left c.lines.lines) (g.L.EventLines.left c.answer_next.new.lines) (g.S.Sink.contents c.lines.sink)
    (g.S.Sink.contents c.answer_next.new.sink) (Ok more)) c.if-not-branch.true (c.in_ok-answer_next.ensures.next image are) in
    all-answered image (state_in c.args.system.now) (state_in c.lines.system) (g.L.EventLines.left c.args.lines.now) (g.L.EventLines.left c.lines.lines)
    c.lines.done (g.S.Sink.contents c.args.sink.now) (g.S.Sink.contents c.lines.sink) (c.lines.invariant.answered image are)
    (g.L.EventLines.left c.answer_next.new.lines) (g.S.Sink.contents c.answer_next.new.sink) next.0 next.1

pub returns-in_err-answer_next-clause-line : goal.returns-in_err-answer_next-clause-line
returns-in_err-answer_next-clause-line g c = λ number is image are.
    let e = c.in_err-answer_next.field-0.0 in
    let p = err_from_is_err_and c.from_residual.result c.from_residual.ensures.1 in
    let next = subst (λ (fault : LiveFault). NextAnswer image (c.lines.done + 1) (state_in c.lines.system) (state_in c.answer_next.new.system)
    (g.L.EventLines.left c.lines.lines) (g.L.EventLines.left c.answer_next.new.lines) (g.S.Sink.contents c.lines.sink)
    (g.S.Sink.contents c.answer_next.new.sink) (Err fault)) (fault-same c.from_residual.result p.0 e (faults.Line number) p.1 p.2 is)
    (c.in_err-answer_next.ensures.next image are) in
    stops-at image (state_in c.args.system.now) (state_in c.lines.system) (g.L.EventLines.left c.args.lines.now) (g.L.EventLines.left c.lines.lines)
    c.lines.done (g.S.Sink.contents c.args.sink.now) (g.S.Sink.contents c.lines.sink) (c.lines.invariant.answered image are)
    number (g.L.EventLines.left c.answer_next.new.lines) (g.S.Sink.contents c.answer_next.new.sink) (sym next.0) next.1 next.2

pub returns-in_err-answer_next-clause-input : goal.returns-in_err-answer_next-clause-input
returns-in_err-answer_next-clause-input g c = λ is image are.
    let e = c.in_err-answer_next.field-0.0 in
    let p = err_from_is_err_and c.from_residual.result c.from_residual.ensures.1 in
    let next = subst (λ (fault : LiveFault). NextAnswer image (c.lines.done + 1) (state_in c.lines.system) (state_in c.answer_next.new.system)
    (g.L.EventLines.left c.lines.lines) (g.L.EventLines.left c.answer_next.new.lines) (g.S.Sink.contents c.lines.sink)
    (g.S.Sink.contents c.answer_next.new.sink) (Err fault)) (fault-same c.from_residual.result p.0 e faults.Input p.1 p.2 is)
    (c.in_err-answer_next.ensures.next image are) in
    unread image (state_in c.args.system.now) (state_in c.lines.system) (g.L.EventLines.left c.args.lines.now) (g.L.EventLines.left c.lines.lines)
    c.lines.done (g.S.Sink.contents c.args.sink.now) (g.S.Sink.contents c.lines.sink) (c.lines.invariant.answered image are)
    (g.L.EventLines.left c.answer_next.new.lines) (g.S.Sink.contents c.answer_next.new.sink) next.0 next.1

pub returns-in_err-answer_next-clause-output : goal.returns-in_err-answer_next-clause-output
returns-in_err-answer_next-clause-output g c = λ is.
    let e = c.in_err-answer_next.field-0.0 in
    let p = err_from_is_err_and c.from_residual.result c.from_residual.ensures.1 in
    let same = fault-same c.from_residual.result p.0 e faults.Output p.1 p.2 is in (
      λ image are.
          let next = subst (λ (fault : LiveFault). NextAnswer image (c.lines.done + 1) (state_in c.lines.system) (state_in c.answer_next.new.system)
          (g.L.EventLines.left c.lines.lines) (g.L.EventLines.left c.answer_next.new.lines) (g.S.Sink.contents c.lines.sink)
          (g.S.Sink.contents c.answer_next.new.sink) (Err fault)) same (c.in_err-answer_next.ensures.next image are) in
          some-put image (state_in c.args.system.now) (state_in c.lines.system) (g.L.EventLines.left c.args.lines.now)
          (g.L.EventLines.left c.lines.lines) c.lines.done (g.S.Sink.contents c.args.sink.now) (g.S.Sink.contents c.lines.sink)
          (c.lines.invariant.answered image are) next.0 (g.L.EventLines.left c.answer_next.new.lines) (g.S.Sink.contents c.answer_next.new.sink)
          next.1 next.2 next.3,
      subst (λ (failures : ℕ). Failed failures (g.S.Sink.failures c.answer_next.new.sink)) c.lines.invariant.counted
          (c.in_err-answer_next.ensures.failed (ap (λ (fault : LiveFault). Err fault) same)),
    )

pub returns-clause-input : goal.returns-clause-input
returns-clause-input g c = λ is image are.
    let all : c.lines.done ≡ 2 ^ 64 - 1 = omega (arith, c.lines-test.false, c.lines.auto.done-end) in
    counted-out image (state_in c.args.system.now) (state_in c.lines.system) (g.L.EventLines.left c.args.lines.now) (g.L.EventLines.left c.lines.lines)
    c.lines.done (g.S.Sink.contents c.args.sink.now) (g.S.Sink.contents c.lines.sink) (c.lines.invariant.answered image are) all
