-- By the laws on the same event so many times.
use Rattle.std.proofs.Common.{◌≡◌, ◌∙◌, ◌+◌, ◌-◌, ◌≤◌, ℕ, List, ap, arith, refl, replicate, subst, sym, take}
use Rattle.kernel_machine.specs.Setups.{state_in}
use Rattle.model.specs.declared.events.Event.{Event}
use Rattle.model.specs.Kernel.State.{State}
use Rattle.model.specs.Kernel.Steps.{state_after, trace}
use Rattle.kernel_trace.specs.Lines.{lines_of}
use Rattle.sinks.specs.Sinks.{Grows, GrowsByBeginning}
use Rattle.kernel_trace.proofs.AnsweredLines.{after-none, none_put, take-replicate, times_after, times_more, times_stopped}
use Rattle.kernel_trace.proofs.PutLines.{on_err}
use Rattle.kernel_trace.proofs.answers.put_times.Goals as goal

pub pieces-init : goal.pieces-init
pieces-init g c =
    let start = state_in c.args.system.now in
    let none : c.args.count - c.args.count ≡ 0 = omega arith in
    record {
      within = omega arith;
      put = subst (λ (n : ℕ). Grows (g.S.Sink.contents c.args.sink.now) (g.S.Sink.contents c.args.sink.now) (lines_of (trace start (replicate n c.args.event))))
          (sym none) (none_put start c.args.event (g.S.Sink.contents c.args.sink.now));
      goes = subst (λ (n : ℕ). start ≡ state_after start (replicate n c.args.event)) (sym none) (sym (after-none start));
      counted = refl;
    }

pub returns-in_err-put_trace-clause-err : goal.returns-in_err-put_trace-clause-err
returns-in_err-put_trace-clause-err g c =
    let start = state_in c.args.system.now in
    let event = c.args.event in
    let now = c.min-now.result in
    let done = c.args.count - c.pieces.left in
    let old = g.S.Sink.contents c.args.sink.now in
    let mid = g.S.Sink.contents c.pieces.sink in
    let new = g.S.Sink.contents c.put_trace-in-pieces.new.sink in
    let few : now ≤ 256 = omega (arith, c.min-now.ensures) in
    let within : now ≤ c.pieces.left = omega (arith, c.min-now.ensures) in
    let whole : done + (now + (c.pieces.left - now)) ≡ c.args.count = omega (arith, within, c.pieces.invariant.within) in
    let piece = subst (λ (events : List Event). GrowsByBeginning mid new (lines_of (trace (state_in c.pieces.system) events)))
    (take-replicate event now 256 few) c.in_err-put_trace.ensures.err in
    let from = subst (λ (s : State). GrowsByBeginning mid new (lines_of (trace s (replicate now event)))) c.pieces.invariant.goes piece in
    on_err (GrowsByBeginning old new (lines_of (trace start (replicate c.args.count event)))) c.from_residual.result
    (subst (λ (n : ℕ). GrowsByBeginning old new (lines_of (trace start (replicate n event)))) whole
    (times_stopped start event done now (c.pieces.left - now) old mid new c.pieces.invariant.put from))

pub pieces-preserved : goal.pieces-preserved
pieces-preserved g c =
    let start = state_in c.args.system.now in
    let event = c.args.event in
    let now = c.min-now.result in
    let done = c.args.count - c.pieces.left in
    let old = g.S.Sink.contents c.args.sink.now in
    let mid = g.S.Sink.contents c.pieces.sink in
    let new = g.S.Sink.contents c.put_trace-in-pieces.new.sink in
    let after = state_in c.put_trace-in-pieces.new.system in
    let few : now ≤ 256 = omega (arith, c.min-now.ensures) in
    let within : now ≤ c.pieces.left = omega (arith, c.min-now.ensures) in
    let whole : done + now ≡ c.args.count - (c.pieces.left - now) = omega (arith, within, c.pieces.invariant.within) in
    let piece = subst (λ (events : List Event). Grows mid new (lines_of (trace (state_in c.pieces.system) events)))
    (take-replicate event now 256 few) c.in_ok-put_trace.ensures.ok in
    let from = subst (λ (s : State). Grows mid new (lines_of (trace s (replicate now event)))) c.pieces.invariant.goes piece in
    let goes : after ≡ state_after (state_in c.pieces.system) (replicate now event) =
    c.in_ok-put_trace.ensures.state ∙ ap (λ (events : List Event). state_after (state_in c.pieces.system) events) (take-replicate event now 256 few) in
    record {
      within = omega (arith, c.pieces.invariant.within);
      put = subst (λ (n : ℕ). Grows old new (lines_of (trace start (replicate n event)))) whole
          (times_more start event done now old mid new c.pieces.invariant.put from);
      goes = subst (λ (n : ℕ). after ≡ state_after start (replicate n event)) whole
          (goes ∙ ap (λ (s : State). state_after s (replicate now event)) c.pieces.invariant.goes ∙ times_after start event done now);
      counted = c.in_ok-put_trace.ensures.kept ∙ c.pieces.invariant.counted;
    }
