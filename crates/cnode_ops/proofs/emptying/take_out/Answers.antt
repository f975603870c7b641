-- The mapping goes from slots and tables, and then the capability: what has to agree still does.
use Rattle.std.proofs.Common.{◌≡◌, ◌∙◌, ap, sym, subst}
use Rattle.kernel_invariant.proofs.Laws.{Lessened, agree_bytes-law, agree_without-law, less-unmapped, slots-law, unmapped-agrees, unmapped-state}
use Rattle.kernel_invariant.specs.Wholeness.{Agreed}
use Rattle.model.specs.Capabilities.CapabilityKinds.{unmapped}
use Rattle.model.specs.Capabilities.Slots.{IsFull, Slots, capability_at, spliced}
use Rattle.model.specs.Kernel.State.{State, with_slots}
use Rattle.removal_laws.specs.Steps.{unmapped_at}
use Rattle.cnode_ops.proofs.StillNamed.{still-named}
use Rattle.slots.specs.Kin.{LeavesChildless}
use Rattle.cnode_ops.proofs.Emptied.{bare-full, bare-unmapped}
use Rattle.cnode_ops.proofs.emptying.take_out.Goals as goal

pub returns-clause-state : goal.returns-clause-state
returns-clause-state g c = λ o agreed.
    let before : Slots = g.S.SlotMap.slots c.args.store.now in
    let slots : Slots = g.S.SlotMap.slots c.unmap_cap.new.store in
    let now : Slots = g.S.SlotMap.slots c.splice_out.new.self in
    let bare = unmapped-agrees o before slots _ _ agreed c.unmap_cap.ensures.bytes c.unmap_cap.ensures.agree
    (subst (λ (n : Slots). Lessened before n) (sym c.unmap_cap.ensures.removed) (less-unmapped before c.args.slot)) in
    slots-law o slots now _ _ bare.1 c.splice_out.ensures.bytes
    ∙ ap (λ (s : State). with_slots s now) (unmapped-state o before slots _ _ agreed c.unmap_cap.ensures.bytes)

pub returns-clause-agree : goal.returns-clause-agree
returns-clause-agree g c = λ o agreed.
    let x = c.args.slot in
    let before : Slots = g.S.SlotMap.slots c.args.store.now in
    let slots : Slots = g.S.SlotMap.slots c.unmap_cap.new.store in
    let bare = unmapped-agrees o before slots _ _ agreed c.unmap_cap.ensures.bytes c.unmap_cap.ensures.agree
    (subst (λ (n : Slots). Lessened before n) (sym c.unmap_cap.ensures.removed) (less-unmapped before x)) in
    let full : IsFull slots x = subst (λ (t : Slots). IsFull t x) (sym c.unmap_cap.ensures.removed) (bare-full before x c.requires.full) in
    let plain : unmapped (capability_at slots x) ≡ capability_at slots x =
    subst (λ (t : Slots). unmapped (capability_at t x) ≡ capability_at t x) (sym c.unmap_cap.ensures.removed) (bare-unmapped before x) in
    subst (λ (t : Slots). Agreed o t (g.S.SlotStore.memory c.splice_out.new.self)) (sym c.splice_out.ensures.slots)
    (agree_without-law o slots _ x (agree_bytes-law o slots _ _ bare c.splice_out.ensures.bytes) full plain)

pub returns-clause-shared : goal.returns-clause-shared
returns-clause-shared g c =
    still-named (unmapped_at (g.S.SlotMap.slots c.args.store.now) c.args.slot) (g.S.SlotMap.slots c.unmap_cap.new.store)
    (g.S.SlotMap.slots c.splice_out.new.self) c.args.slot
    c.capability-removed.result c.is_shared-is_shared.result c.unmap_cap.ensures.removed
    (c.capability-removed.ensures.value ∙ ap (λ (f : Slots). capability_at f c.args.slot) c.unmap_cap.ensures.removed)
    (c.splice_out.ensures.slots ∙ ap (λ (f : Slots). spliced f c.args.slot) c.unmap_cap.ensures.removed) c.is_shared-is_shared.ensures.shared
    c.is_shared-is_shared.ensures.alone

pub returns-clause-childless : goal.returns-clause-childless
returns-clause-childless g c =
    subst (λ (f : Slots). LeavesChildless f c.args.slot c.childless_without-childless.result) c.unmap_cap.ensures.removed c.childless_without-childless.ensures
