-- The checks are those of the definition, in its order, and what is left is whole.
use Rattle.std.proofs.Common.{ℕ, ◌≡◌, ◌∙◌, ◌+◌, ◌<◌, not, Some, Ok, Err, refl, sym, ap, subst}
use Rattle.std.proofs.lemmas.Result.{err_from_is_err_and}
use Rattle.kernel_invariant.proofs.Laws.{of_slots-law}
use Rattle.model.proofs.Ancestors.{full-open}
use Rattle.model.specs.Kernel.Arguments.{may_have_child}
use Rattle.model.specs.Kernel.ObjectTypes.{new_type}
use Rattle.cnode_ops.specs.Placed.{with_placed}
use Rattle.cnode_ops.specs.declared.beginnings.Placing.{Placing}
use Rattle.cnode_ops.proofs.FreeWindows.{window-counted}
use Rattle.cnode_ops.proofs.PlacedObjects.{asked-sized, placed}
use Rattle.cnode_ops.proofs.RetypeSteps.{child-refused, child-room, made-placed, node-refused, place-refused, retype-gives, type-refused, window-refused}
use Rattle.cnode_ops.proofs.object_lifetimes.Laws.{are-laid, whole-of}
use Rattle.model.specs.Capabilities.CapabilityWords.{IsCapability}
use Rattle.model.specs.Capabilities.Slots.{Slots, capability_at, empty_entry, is_empty}
use Rattle.model.specs.Kernel.Retype.{NewObjects}
use Rattle.model.specs.Kernel.Soundness.{IsSound}
use Rattle.model.specs.Kernel.State.{State}
use Rattle.model.specs.declared.capabilities.Cap.{Cap}
use Rattle.model.specs.declared.capabilities.Cap.TheVariants.{Untyped}
use Rattle.objects.specs.Lives.{state_in}
use Rattle.objects.specs.Tables.{state_of}
use Rattle.soundness.proofs.Laws.{retype-whole}
use Rattle.cnode_ops.proofs.retypes.retype.Goals as goal

pub returns-in_err-kind-clause-outcome : goal.returns-in_err-kind-clause-outcome
returns-in_err-kind-clause-outcome g c =
    let slots : Slots = g.S.SlotMap.slots c.args.kernel.now.store in
    let s : State = state_in g.S.SlotMap.slots g.S.SlotStore.memory c.args.kernel.now in
    let has : s.slots ≡ slots = of_slots-law _ _ _ in
    let p = err_from_is_err_and c.from_residual.result c.from_residual.ensures.1 in
    rw (p.1, p.2) (type-refused s slots c.args.root c.args.slot c.args.memory c.args.call has _ c.in_err-kind.ensures.value)

pub returns-in_err-node-clause-outcome : goal.returns-in_err-node-clause-outcome
returns-in_err-node-clause-outcome g c =
    let slots : Slots = g.S.SlotMap.slots c.args.kernel.now.store in
    let s : State = state_in g.S.SlotMap.slots g.S.SlotStore.memory c.args.kernel.now in
    let has : s.slots ≡ slots = of_slots-law _ _ _ in
    let p = err_from_is_err_and c.from_residual-in_err-node.result c.from_residual-in_err-node.ensures.1 in
    rw (p.1, p.2) (node-refused s slots c.args.root c.args.slot c.args.memory c.args.call has _ c.in_ok-kind.ensures.value
    _ c.in_err-node.ensures.value)

pub returns-in_err-window-clause-outcome : goal.returns-in_err-window-clause-outcome
returns-in_err-window-clause-outcome g c =
    let slots : Slots = g.S.SlotMap.slots c.args.kernel.now.store in
    let s : State = state_in g.S.SlotMap.slots g.S.SlotStore.memory c.args.kernel.now in
    let has : s.slots ≡ slots = of_slots-law _ _ _ in
    let p = err_from_is_err_and c.from_residual-in_err-window.result c.from_residual-in_err-window.ensures.1 in
    rw (p.1, p.2) (window-refused s slots c.args.root c.args.slot c.args.memory c.args.call has _ c.in_ok-kind.ensures.value _ c.in_ok-node.ensures.value
    _ c.in_err-window.ensures.value)

pub returns-in_err-may_have_child-clause-outcome : goal.returns-in_err-may_have_child-clause-outcome
returns-in_err-may_have_child-clause-outcome g c =
    let of_kernel = c.live.view_is ∙ c.kernel.view_is in
    let slots : Slots = g.S.SlotMap.slots c.args.kernel.now.store in
    let s : State = state_in g.S.SlotMap.slots g.S.SlotStore.memory c.args.kernel.now in
    let has : s.slots ≡ slots = of_slots-law _ _ _ in
    let p = err_from_is_err_and c.from_residual-in_err-may_have_child.result c.from_residual-in_err-may_have_child.ensures.1 in
    rw (p.1, p.2) (child-refused s slots c.args.root c.args.slot c.args.memory c.args.call has _ c.in_ok-kind.ensures.value _ c.in_ok-node.ensures.value _
    c.in_ok-window.ensures.value
    _ (subst (λ k. Err c.in_err-may_have_child.field-0.0 ≡ may_have_child (g.S.SlotMap.slots k.store) c.args.slot) of_kernel
    c.in_err-may_have_child.ensures))

pub returns-in_err-first-clause-outcome : goal.returns-in_err-first-clause-outcome
returns-in_err-first-clause-outcome g c =
    let of_kernel = c.live.view_is ∙ c.kernel.view_is in
    let room = subst (λ k. Ok tt ≡ may_have_child (g.S.SlotMap.slots k.store) c.args.slot) of_kernel c.in_ok-may_have_child.ensures in
    let slots : Slots = g.S.SlotMap.slots c.args.kernel.now.store in
    let s : State = state_in g.S.SlotMap.slots g.S.SlotStore.memory c.args.kernel.now in
    let has : s.slots ≡ slots = of_slots-law _ _ _ in
    let p = err_from_is_err_and c.from_residual-in_err-first.result c.from_residual-in_err-first.ensures.1 in
    rw (p.1, p.2) (place-refused s slots c.args.root c.args.slot c.args.memory c.args.call has _ c.in_ok-kind.ensures.value _ c.in_ok-node.ensures.value _
    c.in_ok-window.ensures.value tt room
    _ c.in_err-first.ensures)

pub named_node-requires : goal.named_node-requires
named_node-requires g c = c.requires.root

pub window-requires : goal.window-requires
window-requires g c = c.in_ok-node.ensures.root

pub may_have_child-requires : goal.may_have_child-requires
may_have_child-requires g c =
    let of_kernel = c.live.view_is ∙ c.kernel.view_is in
    let held = subst (λ k. capability_at (g.S.SlotMap.slots k.store) c.args.slot ≡ Untyped c.args.memory.offset c.args.memory.bits c.args.memory.watermark)
    (sym of_kernel) c.requires.held in
    full-open (g.S.SlotMap.slots c.live.inside.store) c.args.slot (ap (λ (k : Cap). not (is_empty k)) held)

pub places-requires-clause-valid : goal.places-requires-clause-valid
unfolding state_of
places-requires-clause-valid g c =
    let whole = whole-of g.S.SlotMap.slots g.S.SlotStore.memory c.live.inside.objects c.live.inside.store c.kernel.invariant c.live.view_is c.live.invariant in
    let of_kernel = c.live.view_is ∙ c.kernel.view_is in
    let held = subst (λ k. capability_at (g.S.SlotMap.slots k.store) c.args.slot ≡ Untyped c.args.memory.offset c.args.memory.bits c.args.memory.watermark)
    (sym of_kernel) c.requires.held in
    subst IsCapability held (whole.sound.slots.derivation.valid c.args.slot)

pub places-requires-clause-small : goal.places-requires-clause-small
places-requires-clause-small g c = c.in_ok-kind.ensures.small

pub places-requires-clause-few : goal.places-requires-clause-few
places-requires-clause-few g c =
    (window-counted (g.S.SlotMap.slots c.args.kernel.now.store) c.in_ok-node.node c.args.call.index c.args.call.count c.in_ok-window.window
    c.in_ok-window.ensures.value).1

pub begin_objects-requires-clause-agree : goal.begin_objects-requires-clause-agree
begin_objects-requires-clause-agree g c =
    let whole = whole-of g.S.SlotMap.slots g.S.SlotStore.memory c.live.inside.objects c.live.inside.store c.kernel.invariant c.live.view_is c.live.invariant in
    (whole.agrees, whole.stands)

pub begin_objects-requires-clause-sound : goal.begin_objects-requires-clause-sound
begin_objects-requires-clause-sound g c =
    let whole = whole-of g.S.SlotMap.slots g.S.SlotStore.memory c.live.inside.objects c.live.inside.store c.kernel.invariant c.live.view_is c.live.invariant in
    whole.sound

pub invariant_of-new : goal.invariant_of-new
invariant_of-new g c =
    let whole = whole-of g.S.SlotMap.slots g.S.SlotStore.memory c.live.inside.objects c.live.inside.store c.kernel.invariant c.live.view_is c.live.invariant in
    let of_kernel = c.live.view_is ∙ c.kernel.view_is in
    let held = subst (λ k. capability_at (g.S.SlotMap.slots k.store) c.args.slot ≡ Untyped c.args.memory.offset c.args.memory.bits c.args.memory.watermark)
    (sym of_kernel) c.requires.held in
    let slots : Slots = g.S.SlotMap.slots c.live.inside.store in
    let s : State = state_of c.live.inside.objects slots (g.S.SlotStore.memory c.live.inside.store) in
    let has : s.slots ≡ slots = of_slots-law _ _ _ in
    let sizes = asked-sized c.args.call.kind c.args.call.size (new_type c.in_ok-kind.kind) c.in_ok-kind.ensures.value in
    let counted = window-counted (g.S.SlotMap.slots c.args.kernel.now.store) c.in_ok-node.node c.args.call.index c.args.call.count c.in_ok-window.window
    c.in_ok-window.ensures.value in
    let at : Placing = record { parent = c.args.slot; window = c.in_ok-window.window; watermark = c.in_ok-first.watermark } in
    record {
      laid =
          are-laid s _ at (placed s slots c.args.memory (new_type c.in_ok-kind.kind) c.args.call.count c.in_ok-first.first c.in_ok-first.watermark _ has held
          (subst IsCapability (ap (λ (t : Slots). capability_at t c.args.slot) has ∙ held) (whole.sound.slots.derivation.valid c.args.slot))
          sizes.0 sizes.1 counted.0 counted.1 refl c.in_ok-first.ensures) whole.sound;
    }

pub begin_objects-requires-clause-placed : goal.begin_objects-requires-clause-placed
begin_objects-requires-clause-placed g c =
    let whole = whole-of g.S.SlotMap.slots g.S.SlotStore.memory c.live.inside.objects c.live.inside.store c.kernel.invariant c.live.view_is c.live.invariant in
    let of_kernel = c.live.view_is ∙ c.kernel.view_is in
    let held = subst (λ k. capability_at (g.S.SlotMap.slots k.store) c.args.slot ≡ Untyped c.args.memory.offset c.args.memory.bits c.args.memory.watermark)
    (sym of_kernel) c.requires.held in
    let slots : Slots = g.S.SlotMap.slots c.live.inside.store in
    let s : State = state_of c.live.inside.objects slots (g.S.SlotStore.memory c.live.inside.store) in
    let has : s.slots ≡ slots = of_slots-law _ _ _ in
    let sizes = asked-sized c.args.call.kind c.args.call.size (new_type c.in_ok-kind.kind) c.in_ok-kind.ensures.value in
    let counted = window-counted (g.S.SlotMap.slots c.args.kernel.now.store) c.in_ok-node.node c.args.call.index c.args.call.count c.in_ok-window.window
    c.in_ok-window.ensures.value in
    placed s slots c.args.memory (new_type c.in_ok-kind.kind) c.args.call.count c.in_ok-first.first c.in_ok-first.watermark _ has held
    (subst IsCapability (ap (λ (t : Slots). capability_at t c.args.slot) has ∙ held) (whole.sound.slots.derivation.valid c.args.slot))
    sizes.0 sizes.1 counted.0 counted.1 refl c.in_ok-first.ensures

pub begin_objects-requires-clause-window : goal.begin_objects-requires-clause-window
begin_objects-requires-clause-window g c =
    let of_kernel = c.live.view_is ∙ c.kernel.view_is in
    subst (λ k. (i : ℕ) → i < c.args.call.count → g.S.SlotMap.slots k.store (c.in_ok-window.window + i) ≡ Some empty_entry) (sym of_kernel)
    c.in_ok-window.ensures.free

pub begin_objects-requires-clause-room : goal.begin_objects-requires-clause-room
begin_objects-requires-clause-room g c = child-room (g.S.SlotMap.slots c.live.inside.store) c.args.slot tt (sym c.in_ok-may_have_child.ensures)

pub returns-clause-outcome : goal.returns-clause-outcome
returns-clause-outcome g c =
    let of_kernel = c.live.view_is ∙ c.kernel.view_is in
    let slots : Slots = g.S.SlotMap.slots c.args.kernel.now.store in
    let s : State = state_in g.S.SlotMap.slots g.S.SlotStore.memory c.args.kernel.now in
    let has : s.slots ≡ slots = of_slots-law _ _ _ in
    let room = subst (λ k. Ok tt ≡ may_have_child (g.S.SlotMap.slots k.store) c.args.slot) of_kernel c.in_ok-may_have_child.ensures in
    let new : NewObjects = record { kind = new_type c.in_ok-kind.kind; first = c.in_ok-first.first; count = c.args.call.count } in
    let at : Placing = record { parent = c.args.slot; window = c.in_ok-window.window; watermark = c.in_ok-first.watermark } in
    let given = retype-gives s slots c.args.root c.args.slot c.args.memory c.args.call has _ c.in_ok-kind.ensures.value _ c.in_ok-node.ensures.value _
    c.in_ok-window.ensures.value tt room c.in_ok-first.first c.in_ok-first.watermark c.in_ok-first.ensures
    ∙ ap (λ (t : State). Ok t) (made-placed s slots c.args.root c.args.slot c.args.memory c.args.call has c.requires.held
    (new_type c.in_ok-kind.kind) c.in_ok-window.window c.in_ok-first.first c.in_ok-first.watermark
    ∙ sym (c.begin_objects.ensures.state
    ∙ ap (λ k. with_placed (state_in g.S.SlotMap.slots g.S.SlotStore.memory k) new at) of_kernel)) in
    given

pub invariant_of-live : goal.invariant_of-live
invariant_of-live g c = c.begin_objects.ensures.agree.1

pub invariant_of-kernel-2 : goal.invariant_of-kernel-2
invariant_of-kernel-2 g c =
    let whole = whole-of g.S.SlotMap.slots g.S.SlotStore.memory c.live.inside.objects c.live.inside.store c.kernel.invariant c.live.view_is c.live.invariant in
    let of_kernel = c.live.view_is ∙ c.kernel.view_is in
    let slots : Slots = g.S.SlotMap.slots c.args.kernel.now.store in
    let s : State = state_in g.S.SlotMap.slots g.S.SlotStore.memory c.args.kernel.now in
    let has : s.slots ≡ slots = of_slots-law _ _ _ in
    let room = subst (λ k. Ok tt ≡ may_have_child (g.S.SlotMap.slots k.store) c.args.slot) of_kernel c.in_ok-may_have_child.ensures in
    let new : NewObjects = record { kind = new_type c.in_ok-kind.kind; first = c.in_ok-first.first; count = c.args.call.count } in
    let at : Placing = record { parent = c.args.slot; window = c.in_ok-window.window; watermark = c.in_ok-first.watermark } in
    let given = retype-gives s slots c.args.root c.args.slot c.args.memory c.args.call has _ c.in_ok-kind.ensures.value _ c.in_ok-node.ensures.value _
    c.in_ok-window.ensures.value tt room c.in_ok-first.first c.in_ok-first.watermark c.in_ok-first.ensures
    ∙ ap (λ (t : State). Ok t) (made-placed s slots c.args.root c.args.slot c.args.memory c.args.call has c.requires.held
    (new_type c.in_ok-kind.kind) c.in_ok-window.window c.in_ok-first.first c.in_ok-first.watermark
    ∙ sym (c.begin_objects.ensures.state
    ∙ ap (λ k. with_placed (state_in g.S.SlotMap.slots g.S.SlotStore.memory k) new at) of_kernel)) in
    record {
      sound = retype-whole s _ c.args.root c.args.slot c.args.memory c.args.call
          (subst (λ k. IsSound (state_in g.S.SlotMap.slots g.S.SlotStore.memory k)) of_kernel whole.sound) c.requires.root
          (ap (λ (t : Slots). capability_at t c.args.slot) has ∙ c.requires.held) given;
      agrees = c.begin_objects.ensures.agree.0;
    }
