-- By the laws on lines that are held and put.
use Rattle.std.proofs.Common.{◌≡◌, ◌∙◌, ◌+◌, ◌-◌, ◌++◌, ◌≤◌, ℕ, List, ap, arith, drop, length, subst, sym, take}
use Rattle.std.proofs.lemmas.List.{drop-drop, length-drop, take_all}
use Rattle.kernel_machine.specs.Setups.{state_in}
use Rattle.model.specs.declared.events.Event.{Event}
use Rattle.model.specs.Kernel.State.{State}
use Rattle.model.specs.Kernel.Steps.{state_after, trace}
use Rattle.kernel_trace.specs.Lines.{lines_of}
use Rattle.sinks.specs.Sinks.{Grows, GrowsByBeginning}
use Rattle.kernel_trace.proofs.KernelTraces.{no_event, no_label}
use Rattle.kernel_trace.proofs.PutLines.{all_put, front_put, more_held, on_err, stopped}
use Rattle.kernel_trace.proofs.traces.put_trace.Goals as goal

pub returns-in_err-make_room-clause-err : goal.returns-in_err-make_room-clause-err
returns-in_err-make_room-clause-err g c =
    let all = c.args.events.now in
    let labels = trace (state_in c.args.system.now) all in
    let left = trace (state_in c.events.system) (drop c.events.done all) in
    let old = g.S.Sink.contents c.args.sink.now in
    let new = g.S.Sink.contents c.make_room.new.sink in
    on_err (GrowsByBeginning old new (lines_of labels)) c.from_residual.result
    (stopped labels old left c.events.lines.bytes (g.S.Sink.contents c.events.sink) new c.events.invariant.put c.in_err-make_room.ensures.err)

pub events-preserved : goal.events-preserved
events-preserved g c =
    let all = c.args.events.now in
    let done = c.events.done in
    let count = c.go_on-done.result in
    let now = state_in c.events.system in
    let after = state_in c.go_on-done.new.system in
    let labels = trace (state_in c.args.system.now) all in
    let old = g.S.Sink.contents c.args.sink.now in
    let new = g.S.Sink.contents c.make_room.new.sink in
    let held = c.make_room.new.lines.bytes in
    let more = c.go_on-done.new.lines.bytes in
    let left = trace now (drop done all) in
    let room = front_put labels old left c.events.lines.bytes held (g.S.Sink.contents c.events.sink) new c.events.invariant.put
    c.in_ok-make_room.ensures.ok in
    let whole : take (length all - done) (drop done all) ≡ drop done all =
    take_all (length all - done) (drop done all) (omega (arith, length-drop done all)) in
    let within = subst (λ (events : List Event). count ≤ length events) whole c.go_on-done.ensures.within in
    let lines = subst (λ (events : List Event). held ++ lines_of (trace now events) ≡ more ++ lines_of (trace after (drop count events))) whole
    c.go_on-done.ensures.lines in
    let same = lines ∙ ap (λ (events : List Event). more ++ lines_of (trace after events)) (drop-drop count done all) in
    let goes = subst (λ (events : List Event). state_after now events ≡ state_after after (drop count events)) whole c.go_on-done.ensures.state in
    record {
      goes = c.events.invariant.goes ∙ goes ∙ ap (λ (events : List Event). state_after after events) (drop-drop count done all);
      within = omega (arith, within, length-drop done all, c.events.invariant.within);
      put = more_held labels old left (trace after (drop (done + count) all)) held more new room same;
      counted = c.in_ok-make_room.ensures.counted ∙ c.events.invariant.counted;
    }

pub returns-in_err-put_all-clause-err : goal.returns-in_err-put_all-clause-err
returns-in_err-put_all-clause-err g c =
    let all = c.args.events.now in
    let labels = trace (state_in c.args.system.now) all in
    let left = trace (state_in c.events.system) (drop c.events.done all) in
    let old = g.S.Sink.contents c.args.sink.now in
    let new = g.S.Sink.contents c.put_all.new.sink in
    on_err (GrowsByBeginning old new (lines_of labels)) c.from_residual-in_err-put_all.result
    (stopped labels old left c.events.lines.bytes (g.S.Sink.contents c.events.sink) new c.events.invariant.put
    (subst (λ (t : List ℕ). GrowsByBeginning (g.S.Sink.contents c.events.sink) new t) c.as_slice.ensures c.in_err-put_all.ensures.err))

pub returns-clause-ok : goal.returns-clause-ok
returns-clause-ok g c =
    let all = c.args.events.now in
    let done = c.events.done in
    let now = state_in c.events.system in
    let mid = g.S.Sink.contents c.events.sink in
    let new = g.S.Sink.contents c.put_all.new.sink in
    all_put (trace (state_in c.args.system.now) all) (g.S.Sink.contents c.args.sink.now) (trace now (drop done all)) c.events.lines.bytes mid new
    c.events.invariant.put (no_label now all done (omega (arith, c.events-test.false)))
    (subst (λ (t : List ℕ). Grows mid new t) c.as_slice.ensures c.in_ok-put_all.ensures.ok)

pub returns-clause-state : goal.returns-clause-state
returns-clause-state g c =
    let all = c.args.events.now in
    let now = state_in c.events.system in
    sym (c.events.invariant.goes ∙ no_event now all c.events.done (omega (arith, c.events-test.false)))
