-- What is left is sound.
use Rattle.objects.specs.Lives.{state_in}
use Rattle.model.specs.Kernel.State.{ByCall, BySend}
use Rattle.model.specs.Kernel.Steps.{send_on, sender}
use Rattle.model.specs.declared.system_calls.SendCall.TheVariants.{Calling, Sending, Trying}
use Rattle.soundness.proofs.Laws.{send-machine, sent_on-whole, try_to_send-machine}
use Rattle.std.proofs.Common.{rules}
use Rattle.cnode_ops.proofs.Laws.{kept}
use Rattle.kernel.proofs.system_calls.sends.send_on.Goals as goal

pub invariant_of-kernel : goal.invariant_of-kernel
invariant_of-kernel g c =
    let s = state_in g.S.SlotMap.slots g.S.SlotStore.memory c.kernel.inside.live in
    kept (send_on s c.args.thread Calling c.args.endpoint c.args.badge c.args.grant_reply).0 c.kernel.invariant c.send.ensures.beside (search rules)
    (sent_on-whole s c.args.thread c.kernel.invariant.sound (search rules) Calling c.args.endpoint c.args.badge c.args.grant_reply (search rules)
    c.requires.small)
    (send-machine s c.args.endpoint (sender c.args.thread ByCall c.args.badge c.args.grant_reply))

pub invariant_of-kernel-in-Sending : goal.invariant_of-kernel-in-Sending
invariant_of-kernel-in-Sending g c =
    let s = state_in g.S.SlotMap.slots g.S.SlotStore.memory c.kernel.inside.live in
    kept (send_on s c.args.thread Sending c.args.endpoint c.args.badge c.args.grant_reply).0 c.kernel.invariant c.send-in-Sending.ensures.beside (search rules)
    (sent_on-whole s c.args.thread c.kernel.invariant.sound (search rules) Sending c.args.endpoint c.args.badge c.args.grant_reply (search rules)
    c.requires.small)
    (send-machine s c.args.endpoint (sender c.args.thread BySend c.args.badge c.args.grant_reply))

pub invariant_of-kernel-in-Trying : goal.invariant_of-kernel-in-Trying
invariant_of-kernel-in-Trying g c =
    let s = state_in g.S.SlotMap.slots g.S.SlotStore.memory c.kernel.inside.live in
    kept (send_on s c.args.thread Trying c.args.endpoint c.args.badge c.args.grant_reply).0 c.kernel.invariant c.try_to_send.ensures.beside (search rules)
    (sent_on-whole s c.args.thread c.kernel.invariant.sound (search rules) Trying c.args.endpoint c.args.badge c.args.grant_reply (search rules)
    c.requires.small)
    (try_to_send-machine s c.args.endpoint (sender c.args.thread BySend c.args.badge c.args.grant_reply))
