-- An empty slot stays as it is, and a full one is a set of one slot.
use Rattle.std.proofs.Common.{◌≡◌, ◌∙◌, ◌==◌, Bool, Result, Ok, if◌then◌else◌, sym, ap, subst}
use Rattle.std.proofs.lemmas.Bool.{eqb-true}
use Rattle.model.proofs.Ancestors.{full-open}
use Rattle.model.specs.Capabilities.Slots.{IsFull, IsOpen, Slots}
use Rattle.model.specs.Kernel.Outcomes.{GivesState}
use Rattle.model.specs.Kernel.Removal.{delete, remove}
use Rattle.model.specs.Kernel.State.{State}
use Rattle.model.specs.declared.errors.KError.{KError}
use Rattle.objects.specs.Lives.{state_in}
use Rattle.objects.specs.Tables.{state_of}
use Rattle.cnode_ops.proofs.removal.remove_slot.Goals as goal

pub remove-requires : goal.remove-requires
remove-requires g c = λ x is.
    let slots : Slots = g.S.SlotMap.slots c.live.inside.store in
    let full : IsFull slots c.args.slot = sym c.is_taken.ensures ∙ c.if-not-is_taken.false in
    subst (λ k. IsOpen (g.S.SlotMap.slots k.store) x) (c.live.view_is ∙ c.kernel.view_is)
    (subst (IsOpen slots) (sym (eqb-true x c.args.slot is)) (full-open slots c.args.slot full))

pub returns-then-not-is_taken-clause-outcome : goal.returns-then-not-is_taken-clause-outcome
unfolding state_of
returns-then-not-is_taken-clause-outcome g c =
    let s : State = state_of c.live.inside.objects (g.S.SlotMap.slots c.live.inside.store) (g.S.SlotStore.memory c.live.inside.store) in
    subst (λ k. delete (state_in g.S.SlotMap.slots g.S.SlotStore.memory k) c.args.slot ≡ Ok (state_in g.S.SlotMap.slots g.S.SlotStore.memory k))
    (c.live.view_is ∙ c.kernel.view_is)
    (ap (λ (b : Bool). if b then remove s (λ other. other == c.args.slot) else Ok s) (sym c.is_taken.ensures ∙ c.if-not-is_taken.true))

pub returns-clause-outcome : goal.returns-clause-outcome
unfolding state_of
returns-clause-outcome g c =
    let of_kernel = c.live.view_is ∙ c.kernel.view_is in
    let s : State = state_of c.live.inside.objects (g.S.SlotMap.slots c.live.inside.store) (g.S.SlotStore.memory c.live.inside.store) in
    let after : State = state_in g.S.SlotMap.slots g.S.SlotStore.memory c.remove.new.kernel in
    subst (λ k. GivesState (delete (state_in g.S.SlotMap.slots g.S.SlotStore.memory k) c.args.slot) c.remove.result after) of_kernel
    (subst (λ (defined : Result State KError). GivesState defined c.remove.result after)
    (sym (ap (λ (b : Bool). if b then remove s (λ other. other == c.args.slot) else Ok s) (sym c.is_taken.ensures ∙ c.if-not-is_taken.false)))
    (subst (λ k. GivesState (remove (state_in g.S.SlotMap.slots g.S.SlotStore.memory k) (λ other. other == c.args.slot)) c.remove.result after)
    (sym of_kernel) c.remove.ensures.outcome))
