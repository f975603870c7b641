-- What each call leaves is what its definition says, and whole.
use Rattle.cnode_ops.proofs.Laws.{consistent-of}
use Rattle.std.proofs.Common.{refl, subst, sym}
use Rattle.kernel_machine.proofs.perform_calls.CNodeSteps.{copy-made, mint-made, move-made, mutate-made}
use Rattle.kernel_machine.proofs.perform_calls.Lent.{given, lent}
use Rattle.kernel_machine.proofs.perform_calls.Roots.{call-valid, may-call}
use Rattle.kernel_machine.proofs.perform_calls.cnode_calls.on_cnode.Goals as goal
use Rattle.kernel_machine.specs.perform_calls.Calls.{call_of}
use Rattle.model.specs.Kernel.CNodeCalls.{on_cnode}
use Rattle.model.specs.Kernel.Outcomes.{GivesState}
use Rattle.model.specs.declared.invocations.CNodeCall.{CNodeCall}
use Rattle.objects.specs.Lives.{state_in}

pub invariant_of-on : goal.invariant_of-on
invariant_of-on g c = call-valid g.S.SlotMap.slots g.S.SlotStore.memory (call_of c.args.call) c.kernel.view_is c.kernel.invariant c.requires.call

pub invariant_of-on-in-Mint : goal.invariant_of-on-in-Mint
invariant_of-on-in-Mint g c = call-valid g.S.SlotMap.slots g.S.SlotStore.memory (call_of c.args.call) c.kernel.view_is c.kernel.invariant c.requires.call

pub invariant_of-on-in-Move : goal.invariant_of-on-in-Move
invariant_of-on-in-Move g c = call-valid g.S.SlotMap.slots g.S.SlotStore.memory (call_of c.args.call) c.kernel.view_is c.kernel.invariant c.requires.call

pub invariant_of-on-in-Mutate : goal.invariant_of-on-in-Mutate
invariant_of-on-in-Mutate g c = call-valid g.S.SlotMap.slots g.S.SlotStore.memory (call_of c.args.call) c.kernel.view_is c.kernel.invariant c.requires.call

pub invariant_of-on-in-Delete : goal.invariant_of-on-in-Delete
invariant_of-on-in-Delete g c = call-valid g.S.SlotMap.slots g.S.SlotStore.memory (call_of c.args.call) c.kernel.view_is c.kernel.invariant c.requires.call

pub invariant_of-on-in-Revoke : goal.invariant_of-on-in-Revoke
invariant_of-on-in-Revoke g c = call-valid g.S.SlotMap.slots g.S.SlotStore.memory (call_of c.args.call) c.kernel.view_is c.kernel.invariant c.requires.call

pub copy-requires-clause-there : goal.copy-requires-clause-there
copy-requires-clause-there g c =
    let l = lent g.S.SlotMap.slots g.S.SlotStore.memory (call_of c.args.call) c.kernel.invariant c.live.view_is c.live.invariant
    c.kernel.view_is c.requires.call in
    (may-call l).node

pub copy-requires-clause-nodes : goal.copy-requires-clause-nodes
copy-requires-clause-nodes g c =
    let l = lent g.S.SlotMap.slots g.S.SlotStore.memory (call_of c.args.call) c.kernel.invariant c.live.view_is c.live.invariant
    c.kernel.view_is c.requires.call in
    (may-call l).nodes

pub mint-requires-clause-there : goal.mint-requires-clause-there
mint-requires-clause-there g c =
    let l = lent g.S.SlotMap.slots g.S.SlotStore.memory (call_of c.args.call) c.kernel.invariant c.live-in-Mint.view_is c.live-in-Mint.invariant
    c.kernel.view_is c.requires.call in
    (may-call l).node

pub mint-requires-clause-nodes : goal.mint-requires-clause-nodes
mint-requires-clause-nodes g c =
    let l = lent g.S.SlotMap.slots g.S.SlotStore.memory (call_of c.args.call) c.kernel.invariant c.live-in-Mint.view_is c.live-in-Mint.invariant
    c.kernel.view_is c.requires.call in
    (may-call l).nodes

pub move_cap-requires-clause-there : goal.move_cap-requires-clause-there
move_cap-requires-clause-there g c =
    let l = lent g.S.SlotMap.slots g.S.SlotStore.memory (call_of c.args.call) c.kernel.invariant c.live-in-Move.view_is c.live-in-Move.invariant
    c.kernel.view_is c.requires.call in
    (may-call l).node

pub move_cap-requires-clause-nodes : goal.move_cap-requires-clause-nodes
move_cap-requires-clause-nodes g c =
    let l = lent g.S.SlotMap.slots g.S.SlotStore.memory (call_of c.args.call) c.kernel.invariant c.live-in-Move.view_is c.live-in-Move.invariant
    c.kernel.view_is c.requires.call in
    (may-call l).nodes

pub mutate-requires-clause-there : goal.mutate-requires-clause-there
mutate-requires-clause-there g c =
    let l = lent g.S.SlotMap.slots g.S.SlotStore.memory (call_of c.args.call) c.kernel.invariant c.live-in-Mutate.view_is c.live-in-Mutate.invariant
    c.kernel.view_is c.requires.call in
    (may-call l).node

pub mutate-requires-clause-nodes : goal.mutate-requires-clause-nodes
mutate-requires-clause-nodes g c =
    let l = lent g.S.SlotMap.slots g.S.SlotStore.memory (call_of c.args.call) c.kernel.invariant c.live-in-Mutate.view_is c.live-in-Mutate.invariant
    c.kernel.view_is c.requires.call in
    (may-call l).nodes

pub returns-in-Copy-clause-outcome : goal.returns-in-Copy-clause-outcome
returns-in-Copy-clause-outcome g c =
    let l = lent g.S.SlotMap.slots g.S.SlotStore.memory (call_of c.args.call) c.kernel.invariant c.live.view_is c.live.invariant
    c.kernel.view_is c.requires.call in
    let k = c.in-Copy in
    given g.S.SlotMap.slots g.S.SlotStore.memory (λ s a. on_cnode s (call_of c.args.call) a) c.copy.result _ c.live.view_is
    c.kernel.view_is k.is
    (copy-made l c.copy.new.store k.destination k.source k.rights c.copy.result
    c.copy.ensures.bytes c.copy.ensures.outcome c.copy.ensures.unchanged).0

pub invariant_of-live : goal.invariant_of-live
invariant_of-live g c =
    let l = lent g.S.SlotMap.slots g.S.SlotStore.memory (call_of c.args.call) c.kernel.invariant c.live.view_is c.live.invariant
    c.kernel.view_is c.requires.call in
    let k = c.in-Copy in
    (copy-made l c.copy.new.store k.destination k.source k.rights c.copy.result
    c.copy.ensures.bytes c.copy.ensures.outcome c.copy.ensures.unchanged).1.stands

pub invariant_of-kernel : goal.invariant_of-kernel
invariant_of-kernel g c =
    let l = lent g.S.SlotMap.slots g.S.SlotStore.memory (call_of c.args.call) c.kernel.invariant c.live.view_is c.live.invariant
    c.kernel.view_is c.requires.call in
    let k = c.in-Copy in
    consistent-of (copy-made l c.copy.new.store k.destination k.source k.rights c.copy.result
    c.copy.ensures.bytes c.copy.ensures.outcome c.copy.ensures.unchanged).1

pub returns-in-Mint-clause-outcome : goal.returns-in-Mint-clause-outcome
returns-in-Mint-clause-outcome g c =
    let l = lent g.S.SlotMap.slots g.S.SlotStore.memory (call_of c.args.call) c.kernel.invariant c.live-in-Mint.view_is c.live-in-Mint.invariant
    c.kernel.view_is c.requires.call in
    let k = c.in-Mint in
    given g.S.SlotMap.slots g.S.SlotStore.memory (λ s a. on_cnode s (call_of c.args.call) a) c.mint.result _ c.live-in-Mint.view_is
    c.kernel.view_is k.is
    (mint-made l c.mint.new.store k.destination k.source k.rights k.payload c.mint.result
    c.mint.ensures.bytes c.mint.ensures.outcome c.mint.ensures.unchanged).0

pub invariant_of-live-in-Mint : goal.invariant_of-live-in-Mint
invariant_of-live-in-Mint g c =
    let l = lent g.S.SlotMap.slots g.S.SlotStore.memory (call_of c.args.call) c.kernel.invariant c.live-in-Mint.view_is c.live-in-Mint.invariant
    c.kernel.view_is c.requires.call in
    let k = c.in-Mint in
    (mint-made l c.mint.new.store k.destination k.source k.rights k.payload c.mint.result
    c.mint.ensures.bytes c.mint.ensures.outcome c.mint.ensures.unchanged).1.stands

pub invariant_of-kernel-in-Mint : goal.invariant_of-kernel-in-Mint
invariant_of-kernel-in-Mint g c =
    let l = lent g.S.SlotMap.slots g.S.SlotStore.memory (call_of c.args.call) c.kernel.invariant c.live-in-Mint.view_is c.live-in-Mint.invariant
    c.kernel.view_is c.requires.call in
    let k = c.in-Mint in
    consistent-of (mint-made l c.mint.new.store k.destination k.source k.rights k.payload c.mint.result
    c.mint.ensures.bytes c.mint.ensures.outcome c.mint.ensures.unchanged).1

pub returns-in-Move-clause-outcome : goal.returns-in-Move-clause-outcome
returns-in-Move-clause-outcome g c =
    let l = lent g.S.SlotMap.slots g.S.SlotStore.memory (call_of c.args.call) c.kernel.invariant c.live-in-Move.view_is c.live-in-Move.invariant
    c.kernel.view_is c.requires.call in
    let k = c.in-Move in
    given g.S.SlotMap.slots g.S.SlotStore.memory (λ s a. on_cnode s (call_of c.args.call) a) c.move_cap.result _ c.live-in-Move.view_is
    c.kernel.view_is k.is
    (move-made l c.move_cap.new.store k.destination k.source c.move_cap.result
    c.move_cap.ensures.bytes c.move_cap.ensures.outcome c.move_cap.ensures.unchanged).0

pub invariant_of-live-in-Move : goal.invariant_of-live-in-Move
invariant_of-live-in-Move g c =
    let l = lent g.S.SlotMap.slots g.S.SlotStore.memory (call_of c.args.call) c.kernel.invariant c.live-in-Move.view_is c.live-in-Move.invariant
    c.kernel.view_is c.requires.call in
    let k = c.in-Move in
    (move-made l c.move_cap.new.store k.destination k.source c.move_cap.result
    c.move_cap.ensures.bytes c.move_cap.ensures.outcome c.move_cap.ensures.unchanged).1.stands

pub invariant_of-kernel-in-Move : goal.invariant_of-kernel-in-Move
invariant_of-kernel-in-Move g c =
    let l = lent g.S.SlotMap.slots g.S.SlotStore.memory (call_of c.args.call) c.kernel.invariant c.live-in-Move.view_is c.live-in-Move.invariant
    c.kernel.view_is c.requires.call in
    let k = c.in-Move in
    consistent-of (move-made l c.move_cap.new.store k.destination k.source c.move_cap.result
    c.move_cap.ensures.bytes c.move_cap.ensures.outcome c.move_cap.ensures.unchanged).1

pub returns-in-Mutate-clause-outcome : goal.returns-in-Mutate-clause-outcome
returns-in-Mutate-clause-outcome g c =
    let l = lent g.S.SlotMap.slots g.S.SlotStore.memory (call_of c.args.call) c.kernel.invariant c.live-in-Mutate.view_is c.live-in-Mutate.invariant
    c.kernel.view_is c.requires.call in
    let k = c.in-Mutate in
    given g.S.SlotMap.slots g.S.SlotStore.memory (λ s a. on_cnode s (call_of c.args.call) a) c.mutate.result _ c.live-in-Mutate.view_is
    c.kernel.view_is k.is
    (mutate-made l c.mutate.new.store k.destination k.source k.payload c.mutate.result
    c.mutate.ensures.bytes c.mutate.ensures.outcome c.mutate.ensures.unchanged).0

pub invariant_of-live-in-Mutate : goal.invariant_of-live-in-Mutate
invariant_of-live-in-Mutate g c =
    let l = lent g.S.SlotMap.slots g.S.SlotStore.memory (call_of c.args.call) c.kernel.invariant c.live-in-Mutate.view_is c.live-in-Mutate.invariant
    c.kernel.view_is c.requires.call in
    let k = c.in-Mutate in
    (mutate-made l c.mutate.new.store k.destination k.source k.payload c.mutate.result
    c.mutate.ensures.bytes c.mutate.ensures.outcome c.mutate.ensures.unchanged).1.stands

pub invariant_of-kernel-in-Mutate : goal.invariant_of-kernel-in-Mutate
invariant_of-kernel-in-Mutate g c =
    let l = lent g.S.SlotMap.slots g.S.SlotStore.memory (call_of c.args.call) c.kernel.invariant c.live-in-Mutate.view_is c.live-in-Mutate.invariant
    c.kernel.view_is c.requires.call in
    let k = c.in-Mutate in
    consistent-of (mutate-made l c.mutate.new.store k.destination k.source k.payload c.mutate.result
    c.mutate.ensures.bytes c.mutate.ensures.outcome c.mutate.ensures.unchanged).1

pub returns-in-Delete-clause-outcome : goal.returns-in-Delete-clause-outcome
returns-in-Delete-clause-outcome g c =
    subst (λ (a : CNodeCall). GivesState (on_cnode (state_in g.S.SlotMap.slots g.S.SlotStore.memory c.args.kernel.now) (call_of c.args.call) a) c.delete.result
    (state_in g.S.SlotMap.slots g.S.SlotStore.memory c.delete.new.kernel)) (sym c.in-Delete.is) (c.delete.ensures.outcome (call_of c.args.call) refl)

pub returns-in-Revoke-clause-outcome : goal.returns-in-Revoke-clause-outcome
returns-in-Revoke-clause-outcome g c =
    subst (λ (a : CNodeCall). GivesState (on_cnode (state_in g.S.SlotMap.slots g.S.SlotStore.memory c.args.kernel.now) (call_of c.args.call) a) c.revoke.result
    (state_in g.S.SlotMap.slots g.S.SlotStore.memory c.revoke.new.kernel)) (sym c.in-Revoke.is) (c.revoke.ensures.outcome (call_of c.args.call) refl)
