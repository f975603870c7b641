-- One that runs goes to its tail.
use Rattle.std.proofs.Common.{◌∙◌, ap, refl}
use Rattle.model.specs.Kernel.Scheduling.{to_tail}
use Rattle.model.specs.Kernel.State.{State}
use Rattle.objects.proofs.Frames.{objects-then, put-objects, unmoved-objects}
use Rattle.objects.proofs.Replacing.{keep-priority, replaced-there, tail-priority}
use Rattle.objects.specs.Tables.{state_of}
use Rattle.objects.proofs.lives.Live.set_priority.Goals as goal

pub to_tail_at-requires : goal.to_tail_at-requires
to_tail_at-requires g c =
    let slots = g.S.SlotMap.slots c.self.inside.store in
    let old = g.S.SlotStore.memory c.self.inside.store in
    let before = state_of c.self.inside.objects slots old in
    record {
      there = replaced-there before
          (state_of c.set_priority_at.new.self (g.S.SlotMap.slots c.set_priority_at.new.store) (g.S.SlotStore.memory c.set_priority_at.new.store)) c.args.thread
          _
          c.set_priority_at.ensures.state;
      stands = c.set_priority_at.ensures.stands;
    }

pub returns-then-runs-clause-state : goal.returns-then-runs-clause-state
returns-then-runs-clause-state g c =
    let slots = g.S.SlotMap.slots c.self.inside.store in
    let old = g.S.SlotStore.memory c.self.inside.store in
    let before = state_of c.self.inside.objects slots old in
    rw (← c.self.view_is) ((c.to_tail_at.ensures.state ∙ ap (λ (s : State). to_tail s c.args.thread) c.set_priority_at.ensures.state)
    ∙ tail-priority before c.args.thread c.args.priority
    c.runs-runs.result c.runs-runs.ensures c.if-runs.true)

pub returns-then-runs-clause-beside : goal.returns-then-runs-clause-beside
returns-then-runs-clause-beside g c =
    let there = rw (← c.self.view_is) at c.requires.there in
    rw (← c.self.view_is) (record {
      slots = c.to_tail_at.ensures.slots ∙ c.set_priority_at.ensures.slots;
      order = c.to_tail_at.ensures.order ∙ c.set_priority_at.ensures.order;
      bytes = objects-then _ _ _ _ _ _ (put-objects c.args.thread _ c.set_priority_at.ensures.state there c.set_priority_at.ensures.bytes)
          (unmoved-objects c.to_tail_at.ensures.state (record { kinds = λ offset. refl; bytes = refl; slots = refl; bits = refl })
          c.to_tail_at.ensures.bytes);
    })

pub returns-else-runs-clause-state : goal.returns-else-runs-clause-state
returns-else-runs-clause-state g c =
    let slots = g.S.SlotMap.slots c.self.inside.store in
    let old = g.S.SlotStore.memory c.self.inside.store in
    let before = state_of c.self.inside.objects slots old in
    rw (← c.self.view_is) (c.set_priority_at.ensures.state
    ∙ keep-priority before c.args.thread c.args.priority
    c.runs-runs.result c.runs-runs.ensures c.if-runs.false)

pub returns-else-runs-clause-beside : goal.returns-else-runs-clause-beside
returns-else-runs-clause-beside g c =
    let there = rw (← c.self.view_is) at c.requires.there in
    rw (← c.self.view_is) (record {
      slots = c.set_priority_at.ensures.slots;
      order = c.set_priority_at.ensures.order;
      bytes = put-objects c.args.thread _ c.set_priority_at.ensures.state there c.set_priority_at.ensures.bytes;
    })
