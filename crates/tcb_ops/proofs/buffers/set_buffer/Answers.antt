-- By its definition: all checks come first; and what is left is consistent.
use Rattle.std.proofs.Common.{◌≡◌, ◌∙◌, ℕ, Some, None, Ok, ap, subst}
use Rattle.std.proofs.lemmas.Result.{err_from_is_err_and}
use Rattle.model.specs.Capabilities.Rights.{frame_rights}
use Rattle.model.specs.Capabilities.Slots.{inserted}
use Rattle.model.specs.Kernel.State.{State}
use Rattle.model.specs.Kernel.ThreadCalls.{set_buffer}
use Rattle.model.specs.declared.capabilities.Cap.TheVariants.{Frame}
use Rattle.cnode_ops.proofs.Laws.{whole-of}
use Rattle.objects.specs.Lives.{state_in}
use Rattle.objects.specs.Tables.{state_of}
use Rattle.soundness.proofs.Laws.{set_buffer-sound}
use Rattle.tcb_ops.proofs.Buffered.{asked-buffer, buffer-agrees, buffer-passes, buffer-refused, buffer-state}
use Rattle.tcb_ops.proofs.ThreadsNear.{held-inside, slots-near, thread-there}
use Rattle.tcb_ops.proofs.buffers.set_buffer.Goals as goal
use Rattle.tcb_ops.specs.Buffers.{buffer_source}

pub returns-in_err-from-clause-outcome : goal.returns-in_err-from-clause-outcome
unfolding state_of
returns-in_err-from-clause-outcome g c =
    let s : State = state_in g.S.SlotMap.slots g.S.SlotStore.memory c.args.kernel.now in
    let p = err_from_is_err_and c.from_residual.result c.from_residual.ensures.1 in
    let refused = c.in_err-from.ensures
    ∙ ap (λ k. buffer_source (g.S.SlotMap.slots k.store) c.args.root c.new-own.result c.args.frame) (c.live.view_is ∙ c.kernel.view_is)
    ∙ ap (λ (n : ℕ). buffer_source (g.S.SlotMap.slots c.args.kernel.now.store) c.args.root n c.args.frame) c.new-own.ensures in
    rw (p.1, p.2) (buffer-refused s c.args.root c.args.thread c.args.frame _ refused)

pub new-own-requires : goal.new-own-requires
new-own-requires g c =
    let there = thread-there _ _ _ c.args.thread c.kernel.invariant.sound (held-inside g.S.SlotMap.slots c.args.thread c.kernel.view_is c.requires.held) in
    slots-near _ c.args.thread c.kernel.invariant.sound there

pub insert-requires-clause-empty : goal.insert-requires-clause-empty
insert-requires-clause-empty g c =
    let whole = whole-of g.S.SlotMap.slots g.S.SlotStore.memory c.live.inside.objects c.live.inside.store c.kernel.invariant c.live.view_is c.live.invariant in
    let held = held-inside g.S.SlotMap.slots c.args.thread (c.live.view_is ∙ c.kernel.view_is) c.requires.held in
    let from = c.in_ok-from.ensures ∙ ap (λ (n : ℕ). buffer_source (g.S.SlotMap.slots c.live.inside.store) c.args.root n c.args.frame) c.new-own.ensures in
    let may = asked-buffer _ _ _ c.args.root c.args.thread c.args.frame c.in_ok-from.from whole held from in
    ap (g.S.SlotMap.slots c.live.inside.store) c.new-own.ensures ∙ may.empty

pub insert-requires-clause-valid : goal.insert-requires-clause-valid
insert-requires-clause-valid g c =
    let whole = whole-of g.S.SlotMap.slots g.S.SlotStore.memory c.live.inside.objects c.live.inside.store c.kernel.invariant c.live.view_is c.live.invariant in
    let held = held-inside g.S.SlotMap.slots c.args.thread (c.live.view_is ∙ c.kernel.view_is) c.requires.held in
    let from = c.in_ok-from.ensures ∙ ap (λ (n : ℕ). buffer_source (g.S.SlotMap.slots c.live.inside.store) c.args.root n c.args.frame) c.new-own.ensures in
    let may = asked-buffer _ _ _ c.args.root c.args.thread c.args.frame c.in_ok-from.from whole held from in
    may.copy.valid

pub invariant_of-live : goal.invariant_of-live
unfolding state_of
invariant_of-live g c =
    let whole = whole-of g.S.SlotMap.slots g.S.SlotStore.memory c.live.inside.objects c.live.inside.store c.kernel.invariant c.live.view_is c.live.invariant in
    let held = held-inside g.S.SlotMap.slots c.args.thread (c.live.view_is ∙ c.kernel.view_is) c.requires.held in
    let from = c.in_ok-from.ensures ∙ ap (λ (n : ℕ). buffer_source (g.S.SlotMap.slots c.live.inside.store) c.args.root n c.args.frame) c.new-own.ensures in
    let may = asked-buffer _ _ _ c.args.root c.args.thread c.args.frame c.in_ok-from.from whole held from in
    let put = c.insert.ensures.slots ∙ ap (λ (n : ℕ). inserted (g.S.SlotMap.slots c.live.inside.store) n (Frame c.in_ok-from.from.frame frame_rights None)
    (Some c.in_ok-from.from.slot)) c.new-own.ensures in
    (buffer-agrees _ _ _ _ _ c.args.thread c.in_ok-from.from (whole.agrees, whole.stands) c.insert.ensures.bytes may put).1

pub returns-clause-outcome : goal.returns-clause-outcome
unfolding state_of
returns-clause-outcome g c =
    let whole = whole-of g.S.SlotMap.slots g.S.SlotStore.memory c.live.inside.objects c.live.inside.store c.kernel.invariant c.live.view_is c.live.invariant in
    let held = held-inside g.S.SlotMap.slots c.args.thread (c.live.view_is ∙ c.kernel.view_is) c.requires.held in
    let from = c.in_ok-from.ensures ∙ ap (λ (n : ℕ). buffer_source (g.S.SlotMap.slots c.live.inside.store) c.args.root n c.args.frame) c.new-own.ensures in
    let may = asked-buffer _ _ _ c.args.root c.args.thread c.args.frame c.in_ok-from.from whole held from in
    let put = c.insert.ensures.slots ∙ ap (λ (n : ℕ). inserted (g.S.SlotMap.slots c.live.inside.store) n (Frame c.in_ok-from.from.frame frame_rights None)
    (Some c.in_ok-from.from.slot)) c.new-own.ensures in
    let t : State = state_of c.live.inside.objects (g.S.SlotMap.slots c.insert.new.self) (g.S.SlotStore.memory c.insert.new.self) in
    subst (λ k. set_buffer (state_in g.S.SlotMap.slots g.S.SlotStore.memory k) c.args.root c.args.thread c.args.frame ≡ Ok t)
    (c.live.view_is ∙ c.kernel.view_is)
    (buffer-passes _ c.args.root c.args.thread c.args.frame c.in_ok-from.from from
    ∙ ap (λ (x : State). Ok x) (buffer-state _ _ _ _ _ c.args.thread c.in_ok-from.from (whole.agrees, whole.stands) c.insert.ensures.bytes may put))

pub invariant_of-kernel-2 : goal.invariant_of-kernel-2
unfolding state_of
invariant_of-kernel-2 g c =
    let whole = whole-of g.S.SlotMap.slots g.S.SlotStore.memory c.live.inside.objects c.live.inside.store c.kernel.invariant c.live.view_is c.live.invariant in
    let held = held-inside g.S.SlotMap.slots c.args.thread (c.live.view_is ∙ c.kernel.view_is) c.requires.held in
    let from = c.in_ok-from.ensures ∙ ap (λ (n : ℕ). buffer_source (g.S.SlotMap.slots c.live.inside.store) c.args.root n c.args.frame) c.new-own.ensures in
    let may = asked-buffer _ _ _ c.args.root c.args.thread c.args.frame c.in_ok-from.from whole held from in
    let put = c.insert.ensures.slots ∙ ap (λ (n : ℕ). inserted (g.S.SlotMap.slots c.live.inside.store) n (Frame c.in_ok-from.from.frame frame_rights None)
    (Some c.in_ok-from.from.slot)) c.new-own.ensures in
    record {
      sound = set_buffer-sound _ _ c.args.root c.args.thread c.args.frame whole.sound (thread-there _ _ _ c.args.thread whole.sound held)
          (buffer-passes _ c.args.root c.args.thread c.args.frame c.in_ok-from.from from
          ∙ ap (λ (x : State). Ok x) (buffer-state _ _ _ _ _ c.args.thread c.in_ok-from.from (whole.agrees, whole.stands) c.insert.ensures.bytes may put));
      agrees = (buffer-agrees _ _ _ _ _ c.args.thread c.in_ok-from.from (whole.agrees, whole.stands) c.insert.ensures.bytes may put).0;
    }
