-- The checks, and then Configure with the sixth word.
use Rattle.std.proofs.Common.{◌∙◌, Result, subst, sym}
use Rattle.model.specs.Kernel.Outcomes.{GivesState}
use Rattle.objects.specs.Tables.{state_of}
use Rattle.kernel_machine.proofs.perform_calls.Guarded.{guarded-long, guarded-none, guarded-short, tcb-of}
use Rattle.cnode_ops.proofs.Laws.{root-valid}
use Rattle.kernel_machine.proofs.perform_calls.Roots.{thread-held}
use Rattle.kernel_machine.proofs.perform_calls.loader_calls.configure_with_guard.Goals as goal
use Rattle.kernel_machine.specs.perform_calls.Calls.{call_of}
use Rattle.model.specs.Kernel.State.{State}
use Rattle.model.specs.declared.errors.KError.{KError}
use Rattle.objects.specs.Lives.{state_in}

pub returns-in_default-clause-outcome : goal.returns-in_default-clause-outcome
returns-in_default-clause-outcome g c = guarded-none (state_in g.S.SlotMap.slots g.S.SlotStore.memory c.args.kernel.now) (call_of c.args.call) c.args.words.now
    c.thread_of.result c.thread_of.ensures c.in_default.is

pub returns-then-words-lt6-clause-outcome : goal.returns-then-words-lt6-clause-outcome
returns-then-words-lt6-clause-outcome g c = guarded-short (state_in g.S.SlotMap.slots g.S.SlotStore.memory c.args.kernel.now) (call_of c.args.call)
    c.args.words.now c.thread_of.result c.in-Some.thread c.thread_of.ensures c.in-Some.is c.if-words-lt6.true

pub configure-requires-clause-valid : goal.configure-requires-clause-valid
configure-requires-clause-valid g c sound = root-valid _ c.args.call.root sound c.requires.call.root

pub configure-requires-clause-held : goal.configure-requires-clause-held
unfolding state_of
configure-requires-clause-held g c =
    thread-held (state_in g.S.SlotMap.slots g.S.SlotStore.memory c.args.kernel.now) (call_of c.args.call) c.in-Some.thread c.requires.call
    (tcb-of c.args.call.capability c.in-Some.thread (sym c.thread_of.ensures ∙ c.in-Some.is))

pub returns-clause-outcome : goal.returns-clause-outcome
returns-clause-outcome g c =
    let s : State = (state_in g.S.SlotMap.slots g.S.SlotStore.memory c.args.kernel.now) in
    let call = call_of c.args.call in
    let thread = c.in-Some.thread in
    let k = c.spaces_of-spaces.result in
    let e = c.spaces_of-spaces.ensures in
    let t : State = state_in g.S.SlotMap.slots g.S.SlotStore.memory c.configure.new.kernel in
    let same = guarded-long s call c.args.words.now c.thread_of.result thread c.thread_of.ensures c.in-Some.is c.if-words-lt6.false k.guard k.fault_address
    k.cspace k.vspace
    e.guard e.fault_address e.cspace e.vspace
    in
    subst (λ (d : Result State KError). GivesState d c.configure.result t) (sym same)
    c.configure.ensures.outcome
