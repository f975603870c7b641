-- The checks are those of the definition, the source stays where the old binding goes, and what is left is whole.
use Rattle.std.proofs.Common.{◌≡◌, ◌∙◌, ◌<◌, inl, Err, Ok, Some, ap, subst, sym}
use Rattle.std.proofs.lemmas.Result.{err_from_is_err_and}
use Rattle.irq.proofs.Binding.{bind-kept, bind-left, bind-refused, bind-whole, lent, slot-empty, source-full, source-kin, source-room}
use Rattle.irq.proofs.handlers.bind.Goals as goal
use Rattle.cnode_ops.proofs.Laws.{consistent-of, of-some, whole-of}
use Rattle.model.specs.Capabilities.Slots.{IsFull, depth_of, inserted}
use Rattle.model.specs.Kernel.InterruptCalls.{bind}
use Rattle.model.specs.Kernel.Removal.{delete}
use Rattle.model.specs.declared.capabilities.Cap.{Cap}
use Rattle.objects.specs.Lives.{state_in}
use Rattle.objects.specs.Tables.{state_of}

pub returns-in_err-source-clause-outcome : goal.returns-in_err-source-clause-outcome
returns-in_err-source-clause-outcome g c =
    let of_kernel = c.live.view_is ∙ c.kernel.view_is in
    λ call at.
    let p = err_from_is_err_and c.from_residual.result c.from_residual.ensures.1 in
    rw (p.1, p.2) (subst (λ k. bind (state_in g.S.SlotMap.slots g.S.SlotStore.memory k) call c.args.line c.args.notification ≡ Err c.in_err-source.field-0.0)
    of_kernel
    (bind-refused c.live.inside.objects (g.S.SlotMap.slots c.live.inside.store) (g.S.SlotStore.memory c.live.inside.store) c.args.root c.args.line
    c.args.notification
    c.in_err-source.field-0.0 c.in_err-source.ensures call at))

pub returns-in_err-remove_slot-clause-outcome : goal.returns-in_err-remove_slot-clause-outcome
returns-in_err-remove_slot-clause-outcome g c =
    let here = rw c.new.ensures at c.binding-binding.ensures in
    let of_kernel = c.live.view_is ∙ c.kernel.view_is in
    λ call at.
    let p = err_from_is_err_and c.from_residual-in_err-remove_slot.result c.from_residual-in_err-remove_slot.ensures.1 in
    rw (p.1, p.2) (subst (λ k. bind (state_in g.S.SlotMap.slots g.S.SlotStore.memory k) call c.args.line c.args.notification ≡ Err
    c.in_err-remove_slot.field-0.0) of_kernel
    (bind-kept c.live.inside.objects (g.S.SlotMap.slots c.live.inside.store) (g.S.SlotStore.memory c.live.inside.store) c.args.root c.args.line
    c.args.notification
    c.in_ok-source.source c.binding-binding.result c.in_err-remove_slot.field-0.0 c.in_ok-source.ensures (here _ _)
    (subst (λ k. delete (state_in g.S.SlotMap.slots g.S.SlotStore.memory k) c.binding-binding.result ≡ Err c.in_err-remove_slot.field-0.0) (sym of_kernel)
    c.in_err-remove_slot.ensures.outcome) call at))

pub insert-requires-clause-empty : goal.insert-requires-clause-empty
insert-requires-clause-empty g c =
    let here = rw c.new.ensures at c.binding-binding.ensures in
    let r = lent g.S.SlotMap.slots g.S.SlotStore.memory c.args.root c.args.line c.args.notification c.in_ok-source.source c.binding-binding.result
    c.kernel.invariant c.live.view_is c.live.invariant c.kernel.view_is c.bare.view_is c.kernel-2.view_is c.requires.root c.requires.line
    c.in_ok-source.ensures (here _ _) c.in_ok-remove_slot.ensures.outcome in
    slot-empty _ _ _ _ _ _ _ _ _ _ _ r

pub insert-requires-clause-full : goal.insert-requires-clause-full
insert-requires-clause-full g c =
    let here = rw c.new.ensures at c.binding-binding.ensures in
    let r = lent g.S.SlotMap.slots g.S.SlotStore.memory c.args.root c.args.line c.args.notification c.in_ok-source.source c.binding-binding.result
    c.kernel.invariant c.live.view_is c.live.invariant c.kernel.view_is c.bare.view_is c.kernel-2.view_is c.requires.root c.requires.line
    c.in_ok-source.ensures (here _ _) c.in_ok-remove_slot.ensures.outcome in
    λ x is. of-some (IsFull (g.S.SlotMap.slots c.bare.inside.store)) c.in_ok-source.source x (source-full _ _ _ _ _ _ _ _ _ _ _ r) is

pub insert-requires-clause-kin : goal.insert-requires-clause-kin
insert-requires-clause-kin g c =
    let here = rw c.new.ensures at c.binding-binding.ensures in
    let r = lent g.S.SlotMap.slots g.S.SlotStore.memory c.args.root c.args.line c.args.notification c.in_ok-source.source c.binding-binding.result
    c.kernel.invariant c.live.view_is c.live.invariant c.kernel.view_is c.bare.view_is c.kernel-2.view_is c.requires.root c.requires.line
    c.in_ok-source.ensures (here _ _) c.in_ok-remove_slot.ensures.outcome in
    inl (source-kin _ _ _ _ _ _ _ _ _ _ _ r c.capability-capability.result c.capability-capability.ensures.value)

pub insert-requires-clause-room : goal.insert-requires-clause-room
insert-requires-clause-room g c =
    let here = rw c.new.ensures at c.binding-binding.ensures in
    let r = lent g.S.SlotMap.slots g.S.SlotStore.memory c.args.root c.args.line c.args.notification c.in_ok-source.source c.binding-binding.result
    c.kernel.invariant c.live.view_is c.live.invariant c.kernel.view_is c.bare.view_is c.kernel-2.view_is c.requires.root c.requires.line
    c.in_ok-source.ensures (here _ _) c.in_ok-remove_slot.ensures.outcome in
    λ x is. of-some (λ y. depth_of (g.S.SlotMap.slots c.bare.inside.store) y < 255) c.in_ok-source.source x (source-room _ _ _ _ _ _ _ _ _ _ _ r) is

pub returns-clause-outcome : goal.returns-clause-outcome
returns-clause-outcome g c =
    let here = rw c.new.ensures at c.binding-binding.ensures in
    let r = lent g.S.SlotMap.slots g.S.SlotStore.memory c.args.root c.args.line c.args.notification c.in_ok-source.source c.binding-binding.result
    c.kernel.invariant c.live.view_is c.live.invariant c.kernel.view_is c.bare.view_is c.kernel-2.view_is c.requires.root c.requires.line
    c.in_ok-source.ensures (here _ _) c.in_ok-remove_slot.ensures.outcome in
    let bare = whole-of g.S.SlotMap.slots g.S.SlotStore.memory c.bare.inside.objects c.bare.inside.store c.kernel-2.invariant c.bare.view_is c.bare.invariant in
    let put = c.insert.ensures.slots
    ∙ ap (λ (k : Cap). inserted (g.S.SlotMap.slots c.bare.inside.store) c.binding-binding.result k (Some c.in_ok-source.source))
    c.capability-capability.ensures.value in
    let t = state_of c.bare.inside.objects (g.S.SlotMap.slots c.insert.new.self) (g.S.SlotStore.memory c.insert.new.self) in
    λ call at. subst (λ k. bind (state_in g.S.SlotMap.slots g.S.SlotStore.memory k) call c.args.line c.args.notification ≡ Ok t)
    (c.live.view_is ∙ c.kernel.view_is)
    (bind-left _ _ _ _ _ _ _ _ _ _ _ r _ _ (bare.agrees, bare.stands) c.insert.ensures.bytes put call at)

pub invariant_of-bare : goal.invariant_of-bare
invariant_of-bare g c =
    let here = rw c.new.ensures at c.binding-binding.ensures in
    let r = lent g.S.SlotMap.slots g.S.SlotStore.memory c.args.root c.args.line c.args.notification c.in_ok-source.source c.binding-binding.result
    c.kernel.invariant c.live.view_is c.live.invariant c.kernel.view_is c.bare.view_is c.kernel-2.view_is c.requires.root c.requires.line
    c.in_ok-source.ensures (here _ _) c.in_ok-remove_slot.ensures.outcome in
    let bare = whole-of g.S.SlotMap.slots g.S.SlotStore.memory c.bare.inside.objects c.bare.inside.store c.kernel-2.invariant c.bare.view_is c.bare.invariant in
    let put = c.insert.ensures.slots
    ∙ ap (λ (k : Cap). inserted (g.S.SlotMap.slots c.bare.inside.store) c.binding-binding.result k (Some c.in_ok-source.source))
    c.capability-capability.ensures.value in
    (bind-whole _ _ _ _ _ _ _ _ _ _ _ r _ _ (bare.agrees, bare.stands) c.insert.ensures.bytes put).stands

pub invariant_of-kernel : goal.invariant_of-kernel
invariant_of-kernel g c =
    let here = rw c.new.ensures at c.binding-binding.ensures in
    let r = lent g.S.SlotMap.slots g.S.SlotStore.memory c.args.root c.args.line c.args.notification c.in_ok-source.source c.binding-binding.result
    c.kernel.invariant c.live.view_is c.live.invariant c.kernel.view_is c.bare.view_is c.kernel-2.view_is c.requires.root c.requires.line
    c.in_ok-source.ensures (here _ _) c.in_ok-remove_slot.ensures.outcome in
    let bare = whole-of g.S.SlotMap.slots g.S.SlotStore.memory c.bare.inside.objects c.bare.inside.store c.kernel-2.invariant c.bare.view_is c.bare.invariant in
    let put = c.insert.ensures.slots
    ∙ ap (λ (k : Cap). inserted (g.S.SlotMap.slots c.bare.inside.store) c.binding-binding.result k (Some c.in_ok-source.source))
    c.capability-capability.ensures.value in
    consistent-of (bind-whole _ _ _ _ _ _ _ _ _ _ _ r _ _ (bare.agrees, bare.stands) c.insert.ensures.bytes put)
