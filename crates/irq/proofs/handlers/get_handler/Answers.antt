-- The checks are those of the definition, in its order, and what is left is whole.
use Rattle.std.proofs.Common.{◌∙◌, ◌≡◌, inr, Err, Ok, Some, None, ap, subst, sym}
use Rattle.std.proofs.lemmas.Result.{err_from_is_err_and}
use Rattle.model.specs.Capabilities.CapabilityKinds.{object_of}
use Rattle.model.specs.Capabilities.Slots.{capability_at}
use Rattle.model.specs.Kernel.InterruptCalls.{get_handler}
use Rattle.model.specs.declared.capabilities.Cap.TheVariants.{InterruptControl}
use Rattle.objects.specs.Lives.{state_in}
use Rattle.objects.specs.Tables.{state_of}
use Rattle.soundness.specs.Calls.{IsRoot}
use Rattle.irq.proofs.Handling.{IsNewPlace, handler-left, handler-refused, handler-whole, new-place}
use Rattle.irq.proofs.handlers.get_handler.Goals as goal
use Rattle.cnode_ops.proofs.Laws.{consistent-of, whole-of}

pub returns-in_err-place-clause-outcome : goal.returns-in_err-place-clause-outcome
returns-in_err-place-clause-outcome g c =
    let whole = whole-of g.S.SlotMap.slots g.S.SlotStore.memory c.live.inside.objects c.live.inside.store c.kernel.invariant c.live.view_is c.live.invariant in
    let of_kernel = c.live.view_is ∙ c.kernel.view_is in
    λ call at here.
    let p = err_from_is_err_and c.from_residual.result c.from_residual.ensures.1 in
    rw (p.1, p.2) (subst (λ k. get_handler (state_in g.S.SlotMap.slots g.S.SlotStore.memory k) call c.args.line c.args.destination ≡ Err
    c.in_err-place.field-0.0) of_kernel
    (handler-refused c.live.inside.objects (g.S.SlotMap.slots c.live.inside.store) (g.S.SlotStore.memory c.live.inside.store) c.args.root c.args.slot
    c.args.line c.args.destination
    whole.agrees c.in_err-place.field-0.0 c.in_err-place.ensures.value call at here))

pub insert-requires-clause-empty : goal.insert-requires-clause-empty
insert-requires-clause-empty g c =
    let whole = whole-of g.S.SlotMap.slots g.S.SlotStore.memory c.live.inside.objects c.live.inside.store c.kernel.invariant c.live.view_is c.live.invariant in
    let of_kernel = c.live.view_is ∙ c.kernel.view_is in
    let root = subst (λ k. IsRoot (state_in g.S.SlotMap.slots g.S.SlotStore.memory k) c.args.root) (sym of_kernel) c.requires.root in
    IsNewPlace.empty (new-place c.live.inside.objects (g.S.SlotMap.slots c.live.inside.store) (g.S.SlotStore.memory c.live.inside.store) c.args.root c.args.slot
    c.args.line c.args.destination
    whole.sound root c.in_ok-place.place c.in_ok-place.ensures.value)

pub insert-requires-clause-kin : goal.insert-requires-clause-kin
insert-requires-clause-kin g c =
    let of_kernel = c.live.view_is ∙ c.kernel.view_is in
    let held = subst (λ k. capability_at (g.S.SlotMap.slots k.store) c.args.slot ≡ InterruptControl) (sym of_kernel) c.requires.held in
    inr (ap object_of held, λ offset slot names is. absurd (let clash : None ≡ Some offset = names in cc))

pub returns-clause-outcome : goal.returns-clause-outcome
returns-clause-outcome g c =
    let whole = whole-of g.S.SlotMap.slots g.S.SlotStore.memory c.live.inside.objects c.live.inside.store c.kernel.invariant c.live.view_is c.live.invariant in
    let of_kernel = c.live.view_is ∙ c.kernel.view_is in
    λ call at here.
    let root = subst (λ k. IsRoot (state_in g.S.SlotMap.slots g.S.SlotStore.memory k) c.args.root) (sym of_kernel) c.requires.root in
    let held = subst (λ k. capability_at (g.S.SlotMap.slots k.store) c.args.slot ≡ InterruptControl) (sym of_kernel) c.requires.held in
    let t = state_of c.live.inside.objects (g.S.SlotMap.slots c.insert.new.self) (g.S.SlotStore.memory c.insert.new.self) in
    subst (λ k. get_handler (state_in g.S.SlotMap.slots g.S.SlotStore.memory k) call c.args.line c.args.destination ≡ Ok t) of_kernel
    (handler-left c.live.inside.objects (g.S.SlotMap.slots c.live.inside.store) (g.S.SlotStore.memory c.live.inside.store) c.args.root c.args.slot c.args.line
    c.args.destination
    (g.S.SlotMap.slots c.insert.new.self) (g.S.SlotStore.memory c.insert.new.self) c.in_ok-place.place whole root held c.insert.ensures.bytes
    c.in_ok-place.ensures.value c.insert.ensures.slots call at here)

pub invariant_of-live : goal.invariant_of-live
invariant_of-live g c =
    let whole = whole-of g.S.SlotMap.slots g.S.SlotStore.memory c.live.inside.objects c.live.inside.store c.kernel.invariant c.live.view_is c.live.invariant in
    let of_kernel = c.live.view_is ∙ c.kernel.view_is in
    (
    let root = subst (λ k. IsRoot (state_in g.S.SlotMap.slots g.S.SlotStore.memory k) c.args.root) (sym of_kernel) c.requires.root in
    let held = subst (λ k. capability_at (g.S.SlotMap.slots k.store) c.args.slot ≡ InterruptControl) (sym of_kernel) c.requires.held in
    handler-whole c.live.inside.objects (g.S.SlotMap.slots c.live.inside.store) (g.S.SlotStore.memory c.live.inside.store) c.args.root c.args.slot c.args.line
    c.args.destination
    (g.S.SlotMap.slots c.insert.new.self) (g.S.SlotStore.memory c.insert.new.self) c.in_ok-place.place whole root held c.insert.ensures.bytes
    c.in_ok-place.ensures.value c.insert.ensures.slots).stands

pub invariant_of-kernel-2 : goal.invariant_of-kernel-2
invariant_of-kernel-2 g c =
    let whole = whole-of g.S.SlotMap.slots g.S.SlotStore.memory c.live.inside.objects c.live.inside.store c.kernel.invariant c.live.view_is c.live.invariant in
    let of_kernel = c.live.view_is ∙ c.kernel.view_is in
    consistent-of (
    let root = subst (λ k. IsRoot (state_in g.S.SlotMap.slots g.S.SlotStore.memory k) c.args.root) (sym of_kernel) c.requires.root in
    let held = subst (λ k. capability_at (g.S.SlotMap.slots k.store) c.args.slot ≡ InterruptControl) (sym of_kernel) c.requires.held in
    handler-whole c.live.inside.objects (g.S.SlotMap.slots c.live.inside.store) (g.S.SlotStore.memory c.live.inside.store) c.args.root c.args.slot c.args.line
    c.args.destination
    (g.S.SlotMap.slots c.insert.new.self) (g.S.SlotStore.memory c.insert.new.self) c.in_ok-place.place whole root held c.insert.ensures.bytes
    c.in_ok-place.ensures.value c.insert.ensures.slots)
