-- By the laws on lines that are held and put.
use Rattle.std.proofs.Common.{◌≡◌, ◌∙◌, ◌<◌, ◌++◌, ℕ, List, ap, arith, subst, sym}
use Rattle.kernel_machine.specs.Setups.{state_in}
use Rattle.model.specs.declared.events.Event.{Event}
use Rattle.model.specs.declared.events.Event.TheVariants.{Step}
use Rattle.model.specs.Kernel.State.{State}
use Rattle.model.specs.Kernel.Steps.{state_after, step, trace}
use Rattle.kernel_trace.specs.Asked.{settling}
use Rattle.kernel_trace.specs.Lines.{lines_of}
use Rattle.sinks.specs.Sinks.{Grows, GrowsByBeginning}
use Rattle.kernel_trace.proofs.AnsweredLines.{after-none, is-idle, settle-next, settle_done, settle_held, settled-none, trace-none}
use Rattle.kernel_trace.proofs.PutLines.{all_put, front_put, map_err, map_ok, more_held, on_err, on_ok, stopped}
use Rattle.kernel_trace.proofs.answers.put_settled.Goals as goal

pub returns-in_err-make_room-clause-err : goal.returns-in_err-make_room-clause-err
returns-in_err-make_room-clause-err g c =
    let start = state_in c.args.system.now in
    let labels = trace start (settling c.args.most start) in
    let left = trace (state_in c.steps.system) (settling c.steps.left (state_in c.steps.system)) in
    let old = g.S.Sink.contents c.args.sink.now in
    let new = g.S.Sink.contents c.make_room.new.sink in
    on_err (GrowsByBeginning old new (lines_of labels)) c.from_residual.result
    (stopped labels old left c.steps.lines.bytes (g.S.Sink.contents c.steps.sink) new c.steps.invariant.put c.in_err-make_room.ensures.err)

pub steps-preserved : goal.steps-preserved
steps-preserved g c =
    let start = state_in c.args.system.now in
    let now = state_in c.steps.system in
    let after = state_in c.step-label.new.self in
    let rest = c.left_after-left.result in
    let labels = trace start (settling c.args.most start) in
    let old = g.S.Sink.contents c.args.sink.now in
    let new = g.S.Sink.contents c.make_room.new.sink in
    let held = c.make_room.new.lines.bytes in
    let left = trace now (settling c.steps.left now) in
    let some = c.steps-test.true in
    let gives = c.step-label.ensures.label in
    let settled = settle-next now c.steps.left rest some (λ idle. c.left_after-left.ensures.idle (gives ∙ idle))
    (λ runs. c.left_after-left.ensures.more (λ idle. runs (sym gives ∙ idle)) some) (is-idle (step now Step).1) in
    let room = front_put labels old left c.steps.lines.bytes held (g.S.Sink.contents c.steps.sink) new c.steps.invariant.put
    c.in_ok-make_room.ensures.ok in
    record {
      put = more_held labels old left (trace after (settling rest after)) held c.put.new.self.bytes new room
          (settle_held now after c.step-label.result c.steps.left rest held c.put.new.self.bytes c.step-label.ensures.state gives c.put.ensures settled);
      goes = c.steps.invariant.goes ∙ settle_done now after c.steps.left rest c.step-label.ensures.state settled;
      counted = c.in_ok-make_room.ensures.counted ∙ c.steps.invariant.counted;
    }

pub returns-clause-state : goal.returns-clause-state
returns-clause-state g c =
    let now = state_in c.steps.system in
    let start = state_in c.args.system.now in
    let none : c.steps.left ≡ 0 = omega (arith, c.steps-test.false) in
    on_ok (now ≡ state_after start (settling c.args.most start)) c.put_all.result
    (sym (c.steps.invariant.goes ∙ ap (λ (n : ℕ). state_after now (settling n now)) none
    ∙ ap (λ (events : List Event). state_after now events) (settled-none now) ∙ after-none now))

pub returns-clause-ok : goal.returns-clause-ok
returns-clause-ok g c =
    let now = state_in c.steps.system in
    let start = state_in c.args.system.now in
    let labels = trace start (settling c.args.most start) in
    let old = g.S.Sink.contents c.args.sink.now in
    let mid = g.S.Sink.contents c.steps.sink in
    let new = g.S.Sink.contents c.put_all.new.sink in
    let none : c.steps.left ≡ 0 = omega (arith, c.steps-test.false) in
    let ends = ap (λ (n : ℕ). trace now (settling n now)) none ∙ ap (λ (events : List Event). trace now events) (settled-none now) ∙ trace-none now in
    map_ok c.put_all.result (λ grows. all_put labels old (trace now (settling c.steps.left now)) c.steps.lines.bytes mid new c.steps.invariant.put ends
    (subst (λ (t : List ℕ). Grows mid new t) c.as_slice.ensures grows)) c.put_all.ensures.ok

pub returns-clause-err : goal.returns-clause-err
returns-clause-err g c =
    let now = state_in c.steps.system in
    let start = state_in c.args.system.now in
    let labels = trace start (settling c.args.most start) in
    let old = g.S.Sink.contents c.args.sink.now in
    let mid = g.S.Sink.contents c.steps.sink in
    let new = g.S.Sink.contents c.put_all.new.sink in
    map_err c.put_all.result (λ begins. stopped labels old (trace now (settling c.steps.left now)) c.steps.lines.bytes mid new c.steps.invariant.put
    (subst (λ (t : List ℕ). GrowsByBeginning mid new t) c.as_slice.ensures begins)) c.put_all.ensures.err
