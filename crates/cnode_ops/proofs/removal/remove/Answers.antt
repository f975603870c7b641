-- The loops, and what settles them, are the removal, which keeps the state sound.
use Rattle.std.proofs.Common.{ℕ, ◌≡◌, ◌∙◌, ◌^◌, Err, Ok, length, sym, ap, subst, true}
use Rattle.kernel_invariant.proofs.Laws.{of_slots-law}
use Rattle.cnode_ops.specs.Sets.{set_of}
use Rattle.model.specs.Capabilities.Slots.{IsOpen, Slots}
use Rattle.model.specs.Kernel.Removal.{remove}
use Rattle.model.specs.Kernel.State.{State}
use Rattle.model.specs.declared.errors.KError.TheVariants.{RevokeFirst}
use Rattle.objects.specs.Lives.{state_in}
use Rattle.objects.specs.Tables.{state_of}
use Rattle.removal_laws.proofs.Laws.{refused, sound-ready}
use Rattle.cnode_ops.proofs.Unsettling.{sound-lie}
use Rattle.cnode_ops.proofs.RemovedSets.{loops-cover, loops-lent, loops-may-settle, loops-remove}
use Rattle.cnode_ops.proofs.object_lifetimes.Laws.{whole-of}
use Rattle.cnode_ops.proofs.removal.remove.Goals as goal

pub returns-then-wants_revoke_first-clause-outcome : goal.returns-then-wants_revoke_first-clause-outcome
returns-then-wants_revoke_first-clause-outcome g c =
    let whole = whole-of g.S.SlotMap.slots g.S.SlotStore.memory c.live.inside.objects c.live.inside.store c.kernel.invariant c.live.view_is c.live.invariant in
    let of_kernel = c.live.view_is ∙ c.kernel.view_is in
    let slots : Slots = g.S.SlotMap.slots c.live.inside.store in
    let w : State = state_of c.live.inside.objects slots (g.S.SlotStore.memory c.live.inside.store) in
    let size : 2 ^ w.memory_bits ≡ length (g.S.SlotStore.memory c.live.inside.store) = whole.agrees.size in
    let has : w.slots ≡ slots = of_slots-law _ _ _ in
    let wants = sym (c.wants_revoke_first.ensures w has whole.sound size) ∙ c.if-wants_revoke_first.true in
    subst (λ k. remove (state_in g.S.SlotMap.slots g.S.SlotStore.memory k) (set_of (g.S.SlotMap.slots k.store) c.args.set) ≡ Err RevokeFirst) of_kernel
    (ap (λ (n : Slots). remove w (set_of n c.args.set)) (sym has) ∙ refused w (set_of w.slots c.args.set) wants)

pub empty_all-gone-requires-clause-agree : goal.empty_all-gone-requires-clause-agree
empty_all-gone-requires-clause-agree g c =
    let whole = whole-of g.S.SlotMap.slots g.S.SlotStore.memory c.live.inside.objects c.live.inside.store c.kernel.invariant c.live.view_is c.live.invariant in
    (whole.agrees, whole.stands)

pub empty_all-gone-requires-clause-ready : goal.empty_all-gone-requires-clause-ready
empty_all-gone-requires-clause-ready g c =
    let whole = whole-of g.S.SlotMap.slots g.S.SlotStore.memory c.live.inside.objects c.live.inside.store c.kernel.invariant c.live.view_is c.live.invariant in
    sound-ready _ whole.sound

pub empty_all-gone-requires-clause-lie : goal.empty_all-gone-requires-clause-lie
empty_all-gone-requires-clause-lie g c =
    let whole = whole-of g.S.SlotMap.slots g.S.SlotStore.memory c.live.inside.objects c.live.inside.store c.kernel.invariant c.live.view_is c.live.invariant in
    sound-lie _ whole.sound

pub empty_all-gone-requires-clause-members : goal.empty_all-gone-requires-clause-members
empty_all-gone-requires-clause-members g c =
    let of_kernel = c.live.view_is ∙ c.kernel.view_is in
    let members = subst (λ k. (slot : ℕ) → set_of (g.S.SlotMap.slots k.store) c.args.set slot ≡ true → IsOpen (g.S.SlotMap.slots k.store) slot)
    (sym of_kernel) c.requires in
    members

pub empty_bindings-requires-clause-lie : goal.empty_bindings-requires-clause-lie
empty_bindings-requires-clause-lie g c =
    let whole = whole-of g.S.SlotMap.slots g.S.SlotStore.memory c.live.inside.objects c.live.inside.store c.kernel.invariant c.live.view_is c.live.invariant in
    c.empty_all-gone.ensures.noted.lie (sound-lie _ whole.sound)

pub settle-requires-clause-may : goal.settle-requires-clause-may
settle-requires-clause-may g c =
    let first = c.empty_all-gone.ensures in
    let ran = loops-lent g.S.SlotMap.slots g.S.SlotStore.memory c.args.set c.empty_all-gone.result c.lines_lost-lost.result c.kernel.invariant c.live.view_is
    c.live.invariant c.kernel.view_is c.requires (λ w has sound size. sym (c.wants_revoke_first.ensures w has sound size) ∙ c.if-wants_revoke_first.false)
    (of_slots-law _ _ _) first.agree.0.size first.ready.derivation first.shape first.taken first.lines c.lines_lost-lost.ensures
    c.empty_bindings.ensures.state in
    loops-may-settle _ _ _ _ c.args.set _ ran

pub settle-requires-clause-covered : goal.settle-requires-clause-covered
settle-requires-clause-covered g c =
    let first = c.empty_all-gone.ensures in
    let ran = loops-lent g.S.SlotMap.slots g.S.SlotStore.memory c.args.set c.empty_all-gone.result c.lines_lost-lost.result c.kernel.invariant c.live.view_is
    c.live.invariant c.kernel.view_is c.requires (λ w has sound size. sym (c.wants_revoke_first.ensures w has sound size) ∙ c.if-wants_revoke_first.false)
    (of_slots-law _ _ _) first.agree.0.size first.ready.derivation first.shape first.taken first.lines c.lines_lost-lost.ensures
    c.empty_bindings.ensures.state in
    let whole = whole-of g.S.SlotMap.slots g.S.SlotStore.memory c.live.inside.objects c.live.inside.store c.kernel.invariant c.live.view_is c.live.invariant in
    loops-cover _ _ _ _ c.args.set _ ran (g.S.SlotMap.slots c.empty_bindings.new.store) c.count.result c.nothing-left.result c.empty_all-gone.new.left
    c.empty_bindings.new.left (of_slots-law _ _ _) (c.count.ensures.value ∙ sym whole.agrees.size) c.nothing-left.ensures first.noted
    c.empty_bindings.ensures.noted

pub returns-clause-outcome : goal.returns-clause-outcome
returns-clause-outcome g c =
    let first = c.empty_all-gone.ensures in
    let ran = loops-lent g.S.SlotMap.slots g.S.SlotStore.memory c.args.set c.empty_all-gone.result c.lines_lost-lost.result c.kernel.invariant c.live.view_is
    c.live.invariant c.kernel.view_is c.requires (λ w has sound size. sym (c.wants_revoke_first.ensures w has sound size) ∙ c.if-wants_revoke_first.false)
    (of_slots-law _ _ _) first.agree.0.size first.ready.derivation first.shape first.taken first.lines c.lines_lost-lost.ensures
    c.empty_bindings.ensures.state in
    let last : State = state_of c.settle.new.objects (g.S.SlotMap.slots c.settle.new.store) (g.S.SlotStore.memory c.settle.new.store) in
    subst (λ k. remove (state_in g.S.SlotMap.slots g.S.SlotStore.memory k) (set_of (g.S.SlotMap.slots k.store) c.args.set) ≡ Ok last)
    (c.live.view_is ∙ c.kernel.view_is) (loops-remove _ _ _ _ c.args.set _ ran last c.settle.ensures.state)

pub invariant_of-live : goal.invariant_of-live
invariant_of-live g c = c.settle.ensures.agree.1

pub invariant_of-kernel-2 : goal.invariant_of-kernel-2
invariant_of-kernel-2 g c =
    let first = c.empty_all-gone.ensures in
    let ran = loops-lent g.S.SlotMap.slots g.S.SlotStore.memory c.args.set c.empty_all-gone.result c.lines_lost-lost.result c.kernel.invariant c.live.view_is
    c.live.invariant c.kernel.view_is c.requires (λ w has sound size. sym (c.wants_revoke_first.ensures w has sound size) ∙ c.if-wants_revoke_first.false)
    (of_slots-law _ _ _) first.agree.0.size first.ready.derivation first.shape first.taken first.lines c.lines_lost-lost.ensures
    c.empty_bindings.ensures.state in
    let slots : Slots = g.S.SlotMap.slots c.live.inside.store in
    let w : State = state_of c.live.inside.objects slots (g.S.SlotStore.memory c.live.inside.store) in
    let last : State = state_of c.settle.new.objects (g.S.SlotMap.slots c.settle.new.store) (g.S.SlotStore.memory c.settle.new.store) in
    record {
      sound = c.removals_keep_soundness.ensures w last (set_of slots c.args.set) ran.sound
          (subst (λ (n : Slots). (slot : ℕ) → set_of slots c.args.set slot ≡ true → IsOpen n slot) (sym (of_slots-law _ _ _)) ran.members)
          (loops-remove w _ _ slots c.args.set _ ran last c.settle.ensures.state);
      agrees = c.settle.ensures.agree.0;
    }
