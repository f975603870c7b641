-- A message is decoded, and its call performed.
use Rattle.std.proofs.Common.{◌∙◌, Result, ap, subst, sym}
use Rattle.model.specs.Kernel.Outcomes.{GivesState}
use Rattle.kernel_machine.proofs.perform_calls.Decoding.{decoded-applies, invoked-by}
use Rattle.kernel_machine.proofs.perform_calls.performing.invoke.Goals as goal
use Rattle.kernel_machine.specs.perform_calls.Calls.{call_of}
use Rattle.model.specs.Kernel.Arguments.{◌>>=◌}
use Rattle.model.specs.Kernel.Invocations.{perform}
use Rattle.model.specs.Kernel.State.{State}
use Rattle.model.specs.declared.errors.KError.{KError}
use Rattle.model.specs.declared.invocations.Invocation.{Invocation}
use Rattle.objects.specs.Lives.{state_in}

pub perform-requires-clause-applies : goal.perform-requires-clause-applies
perform-requires-clause-applies g c =
    decoded-applies c.args.words.now c.args.call.capability c.args.label c.args.extra c.in-Ok.invocation (sym c.decode_call.ensures ∙ c.in-Ok.is)

pub returns-in-Ok-clause-outcome : goal.returns-in-Ok-clause-outcome
returns-in-Ok-clause-outcome g c =
    let s = state_in g.S.SlotMap.slots g.S.SlotStore.memory c.args.kernel.now in
    let t = state_in g.S.SlotMap.slots g.S.SlotStore.memory c.perform.new.kernel in
    let call = call_of c.args.call in
    subst (λ (d : Result State KError). GivesState d c.perform.result t)
    (sym (invoked-by s call c.args.label c.args.extra c.args.words.now c.decode_call.result c.decode_call.ensures
    ∙ ap (λ (r : Result Invocation KError). r >>= perform s call) c.in-Ok.is))
    c.perform.ensures.outcome

pub returns-in-Err-clause-outcome : goal.returns-in-Err-clause-outcome
returns-in-Err-clause-outcome g c =
    let s = state_in g.S.SlotMap.slots g.S.SlotStore.memory c.args.kernel.now in
    let call = call_of c.args.call in
    invoked-by s call c.args.label c.args.extra c.args.words.now c.decode_call.result c.decode_call.ensures
    ∙ ap (λ (r : Result Invocation KError). r >>= perform s call) c.in-Err.is
