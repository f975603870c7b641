-- What waits there leaves, and then nothing is there.
use Rattle.std.proofs.Common.{◌∙◌, ap, refl, sym}
use Rattle.model.specs.Kernel.State.{State}
use Rattle.objects.proofs.Frames.{beside-objects, kind-left, moved-to, records-then}
use Rattle.objects.proofs.tables.Objects.end.Goals as goal
use Rattle.objects.specs.Changes.{vacated}
use Rattle.objects.specs.Tables.{state_of}
use Rattle.removal_laws.specs.Steps.{ends_thread}

pub vacate-requires-clause-gone : goal.vacate-requires-clause-gone
vacate-requires-clause-gone g c = record {
  waits_not = c.forget_at.ensures.waits_not;
  ready_not = c.forget_at.ensures.ready_not;
  rights_not = c.forget_at.ensures.rights_not;
}

pub returns-clause-state : goal.returns-clause-state
returns-clause-state g c = c.vacate.ensures.state ∙ ap (λ (s : State). vacated s c.args.offset) c.forget_at.ensures.state

pub returns-clause-bytes : goal.returns-clause-bytes
returns-clause-bytes g c =
    let before = state_of c.args.self.now (g.S.SlotMap.slots c.args.store.now) (g.S.SlotStore.memory c.args.store.now) in
    let left = moved-to before _ _ c.forget_at.ensures.state
    (record { kinds = λ offset. kind-left (ends_thread before c.args.offset) (before.objects offset); bytes = refl; slots = refl; bits = refl }) in
    beside-objects before _ _ (records-then before _ _ _ _ (λ offset kind is. sym (left.kinds offset) ∙ is) c.forget_at.ensures.bytes c.vacate.ensures.bytes)
