-- By its definition: all checks come first; and what is left is consistent.
use Rattle.std.proofs.Common.{◌≡◌, ◌∙◌, Ok, ap, arith, subst}
use Rattle.std.proofs.lemmas.Result.{err_from_is_err_and}
use Rattle.model.specs.Kernel.State.{State}
use Rattle.model.specs.Kernel.ThreadCalls.{configure}
use Rattle.cnode_ops.proofs.Laws.{whole-of}
use Rattle.objects.specs.Lives.{state_in}
use Rattle.objects.specs.Tables.{state_of}
use Rattle.soundness.proofs.Laws.{configure-whole}
use Rattle.tcb_ops.proofs.Checks.{configure-passes, configure-refused, may-configure}
use Rattle.tcb_ops.proofs.Configured.{configured-state, put-agrees, thread-agrees, thread-still}
use Rattle.tcb_ops.proofs.ThreadsNear.{held-inside, slots-near, thread-there}
use Rattle.tcb_ops.proofs.configuring.configure.Goals as goal
use Rattle.tcb_ops.specs.Configuring.{sources}

pub named_sources-requires-clause-near : goal.named_sources-requires-clause-near
named_sources-requires-clause-near g c =
    let whole = whole-of g.S.SlotMap.slots g.S.SlotStore.memory c.live.inside.objects c.live.inside.store c.kernel.invariant c.live.view_is c.live.invariant in
    let held = held-inside g.S.SlotMap.slots c.args.thread (c.live.view_is ∙ c.kernel.view_is) c.requires.held in
    let there = thread-there _ _ _ c.args.thread whole.sound held in
    omega (arith, slots-near _ c.args.thread whole.sound there)

pub returns-in_err-from-clause-outcome : goal.returns-in_err-from-clause-outcome
unfolding state_of
returns-in_err-from-clause-outcome g c =
    let s : State = state_in g.S.SlotMap.slots g.S.SlotStore.memory c.args.kernel.now in
    let k = c.args.spaces in
    let p = err_from_is_err_and c.from_residual.result c.from_residual.ensures.1 in
    let refused = c.in_err-from.ensures ∙ ap (λ x. sources (g.S.SlotMap.slots x.store) c.args.root c.args.thread k.guard k.cspace k.vspace) c.live.view_is
    ∙ ap (λ x. sources (g.S.SlotMap.slots x.store) c.args.root c.args.thread k.guard k.cspace k.vspace) c.kernel.view_is in
    rw (p.1, p.2) (configure-refused s c.args.root c.args.thread k.guard k.fault_address k.cspace k.vspace _ refused)

pub put_spaces-requires-clause-near : goal.put_spaces-requires-clause-near
put_spaces-requires-clause-near g c =
    let whole = whole-of g.S.SlotMap.slots g.S.SlotStore.memory c.live.inside.objects c.live.inside.store c.kernel.invariant c.live.view_is c.live.invariant in
    let held = held-inside g.S.SlotMap.slots c.args.thread (c.live.view_is ∙ c.kernel.view_is) c.requires.held in
    let there = thread-there _ _ _ c.args.thread whole.sound held in
    omega (arith, slots-near _ c.args.thread whole.sound there)

pub put_spaces-requires-clause-may : goal.put_spaces-requires-clause-may
unfolding state_of
put_spaces-requires-clause-may g c =
    let whole = whole-of g.S.SlotMap.slots g.S.SlotStore.memory c.live.inside.objects c.live.inside.store c.kernel.invariant c.live.view_is c.live.invariant in
    let held = held-inside g.S.SlotMap.slots c.args.thread (c.live.view_is ∙ c.kernel.view_is) c.requires.held in
    let there = thread-there _ _ _ c.args.thread whole.sound held in
    let k = c.args.spaces in
    let may = may-configure _ c.args.thread whole.sound there c.args.root k.guard k.cspace k.vspace c.in_ok-from.from c.in_ok-from.ensures in
    may

pub set_fault_address-requires : goal.set_fault_address-requires
unfolding state_of
set_fault_address-requires g c =
    let whole = whole-of g.S.SlotMap.slots g.S.SlotStore.memory c.live.inside.objects c.live.inside.store c.kernel.invariant c.live.view_is c.live.invariant in
    let held = held-inside g.S.SlotMap.slots c.args.thread (c.live.view_is ∙ c.kernel.view_is) c.requires.held in
    let there = thread-there _ _ _ c.args.thread whole.sound held in
    let k = c.args.spaces in
    let may = may-configure _ c.args.thread whole.sound there c.args.root k.guard k.cspace k.vspace c.in_ok-from.from c.in_ok-from.ensures in
    record {
      there = thread-still _ _ _ _ c.args.thread k.guard c.in_ok-from.from (whole.agrees, whole.stands) c.put_spaces.ensures.bytes may _
          c.put_spaces.ensures.slots there;
    }

pub invariant_of-live : goal.invariant_of-live
unfolding state_of
invariant_of-live g c =
    let whole = whole-of g.S.SlotMap.slots g.S.SlotStore.memory c.live.inside.objects c.live.inside.store c.kernel.invariant c.live.view_is c.live.invariant in
    let held = held-inside g.S.SlotMap.slots c.args.thread (c.live.view_is ∙ c.kernel.view_is) c.requires.held in
    let there = thread-there _ _ _ c.args.thread whole.sound held in
    let k = c.args.spaces in
    let may = may-configure _ c.args.thread whole.sound there c.args.root k.guard k.cspace k.vspace c.in_ok-from.from c.in_ok-from.ensures in
    (put-agrees _ _ _ _ c.args.thread k.guard c.in_ok-from.from (whole.agrees, whole.stands) c.put_spaces.ensures.bytes may _ c.put_spaces.ensures.slots).1

pub returns-clause-outcome : goal.returns-clause-outcome
unfolding state_of
returns-clause-outcome g c =
    let whole = whole-of g.S.SlotMap.slots g.S.SlotStore.memory c.live.inside.objects c.live.inside.store c.kernel.invariant c.live.view_is c.live.invariant in
    let held = held-inside g.S.SlotMap.slots c.args.thread (c.live.view_is ∙ c.kernel.view_is) c.requires.held in
    let there = thread-there _ _ _ c.args.thread whole.sound held in
    let k = c.args.spaces in
    let may = may-configure _ c.args.thread whole.sound there c.args.root k.guard k.cspace k.vspace c.in_ok-from.from c.in_ok-from.ensures in
    let t : State = state_in g.S.SlotMap.slots g.S.SlotStore.memory c.set_fault_address.new.self in
    let passes = configure-passes (state_of c.live.inside.objects (g.S.SlotMap.slots c.live.inside.store) (g.S.SlotStore.memory c.live.inside.store))
    c.args.root c.args.thread k.guard k.fault_address k.cspace k.vspace c.in_ok-from.from c.in_ok-from.ensures
    ∙ ap (λ (x : State). Ok x) (configured-state _ _ _ _ c.args.thread k.guard c.in_ok-from.from (whole.agrees, whole.stands) c.put_spaces.ensures.bytes may _ t
    k.fault_address
    c.put_spaces.ensures.slots c.set_fault_address.ensures.state) in
    subst (λ x. configure (state_in g.S.SlotMap.slots g.S.SlotStore.memory x) c.args.root c.args.thread k.guard k.fault_address k.cspace k.vspace ≡ Ok t)
    c.kernel.view_is
    (subst (λ x. configure (state_in g.S.SlotMap.slots g.S.SlotStore.memory x) c.args.root c.args.thread k.guard k.fault_address k.cspace k.vspace ≡ Ok t)
    c.live.view_is passes)

pub invariant_of-kernel-2 : goal.invariant_of-kernel-2
unfolding state_of
invariant_of-kernel-2 g c =
    let whole = whole-of g.S.SlotMap.slots g.S.SlotStore.memory c.live.inside.objects c.live.inside.store c.kernel.invariant c.live.view_is c.live.invariant in
    let held = held-inside g.S.SlotMap.slots c.args.thread (c.live.view_is ∙ c.kernel.view_is) c.requires.held in
    let there = thread-there _ _ _ c.args.thread whole.sound held in
    let k = c.args.spaces in
    let may = may-configure _ c.args.thread whole.sound there c.args.root k.guard k.cspace k.vspace c.in_ok-from.from c.in_ok-from.ensures in
    let t : State = state_in g.S.SlotMap.slots g.S.SlotStore.memory c.set_fault_address.new.self in
    let passes = configure-passes (state_of c.live.inside.objects (g.S.SlotMap.slots c.live.inside.store) (g.S.SlotStore.memory c.live.inside.store))
    c.args.root c.args.thread k.guard k.fault_address k.cspace k.vspace c.in_ok-from.from c.in_ok-from.ensures
    ∙ ap (λ (x : State). Ok x) (configured-state _ _ _ _ c.args.thread k.guard c.in_ok-from.from (whole.agrees, whole.stands) c.put_spaces.ensures.bytes may _ t
    k.fault_address
    c.put_spaces.ensures.slots c.set_fault_address.ensures.state) in
    let agrees = put-agrees _ _ _ _ c.args.thread k.guard c.in_ok-from.from (whole.agrees, whole.stands) c.put_spaces.ensures.bytes may _
    c.put_spaces.ensures.slots in
    record {
      sound = configure-whole _ t c.args.root c.args.thread k.guard k.fault_address k.cspace k.vspace whole.sound there (omega arith) passes;
      agrees = thread-agrees _ _ c.args.thread _ _ _ agrees.0 c.set_fault_address.ensures.beside.bytes c.set_fault_address.ensures.state;
    }
