-- The CNode has the slots of the window, and none of them is full.
use Rattle.std.proofs.Common.{ℕ, ◌≡◌, ◌∙◌, ◌+◌, ◌<◌, Some, false, sym, subst, arith}
use Rattle.cnode_ops.specs.Nodes.{HasOpenSlots}
use Rattle.cnode_ops.proofs.CallRoots.{root-open, root-valid}
use Rattle.cnode_ops.proofs.FreeWindows.{counted, window-free, window-near}
use Rattle.cnode_ops.proofs.object_lifetimes.Laws.{whole-of}
use Rattle.model.specs.Capabilities.CapabilityWords.{IsCapability}
use Rattle.model.specs.Capabilities.Slots.{Slots, empty_entry}
use Rattle.model.specs.Kernel.Retype.{any_full}
use Rattle.objects.specs.Lives.{state_in}
use Rattle.objects.specs.Tables.{state_of}
use Rattle.soundness.specs.Calls.{IsRoot}
use Rattle.cnode_ops.proofs.windows.window.Goals as goal

pub new-first-requires : goal.new-first-requires
new-first-requires g c =
    let valid = root-valid _ c.args.node c.kernel.invariant.sound
    (subst (λ k. IsRoot (state_in g.S.SlotMap.slots g.S.SlotStore.memory k) c.args.node) (sym c.kernel.view_is) c.requires) in
    let has = sym c.has_slots.ensures ∙ c.if-not-has_slots.false in
    let near = window-near c.in-CNode.offset c.in-CNode.radix c.in-CNode.guard c.args.index c.args.count (subst IsCapability c.in-CNode.is valid) has in
    let some = (counted c.in-CNode.radix c.args.index c.args.count has).0 in
    omega (arith, near, some)

pub any_full-requires : goal.any_full-requires
any_full-requires g c =
    let valid = root-valid _ c.args.node c.kernel.invariant.sound
    (subst (λ k. IsRoot (state_in g.S.SlotMap.slots g.S.SlotStore.memory k) c.args.node) (sym c.kernel.view_is) c.requires) in
    let near = window-near c.in-CNode.offset c.in-CNode.radix c.in-CNode.guard c.args.index c.args.count (subst IsCapability c.in-CNode.is valid)
    (sym c.has_slots.ensures ∙ c.if-not-has_slots.false) in
    let first = c.new-first.ensures in
    omega (arith, near, first)

pub returns-clause-free : goal.returns-clause-free
unfolding state_of
returns-clause-free g c =
    let whole = whole-of g.S.SlotMap.slots g.S.SlotStore.memory c.live.inside.objects c.live.inside.store c.kernel.invariant c.live.view_is c.live.invariant in
    let of_kernel = c.live.view_is ∙ c.kernel.view_is in
    let node = subst (λ k. IsRoot (state_in g.S.SlotMap.slots g.S.SlotStore.memory k) c.args.node) (sym of_kernel) c.requires in
    let slots : Slots = g.S.SlotMap.slots c.live.inside.store in
    let none : any_full slots c.new-first.result c.args.count ≡ false = sym c.any_full.ensures ∙ c.if-any_full.false in
    let first = c.new-first.ensures in
    subst (λ k. (i : ℕ) → i < c.args.count → g.S.SlotMap.slots k.store (c.new-first.result + i) ≡ Some empty_entry) of_kernel
    (λ i less.
    subst (λ (n : ℕ). slots (n + i) ≡ Some empty_entry) (sym first)
    (window-free slots c.in-CNode.offset c.in-CNode.radix c.in-CNode.guard c.args.index c.args.count whole.sound.slots.derivation
    (subst (HasOpenSlots slots) c.in-CNode.is (root-open _ c.args.node whole.sound node)) (sym c.has_slots.ensures ∙ c.if-not-has_slots.false)
    (subst (λ (n : ℕ). any_full slots n c.args.count ≡ false) first none) i less))
