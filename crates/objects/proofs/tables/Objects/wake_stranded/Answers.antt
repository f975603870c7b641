-- All places are swept at the end, and each in its turn.
use Rattle.std.proofs.Common.{◌∙◌, refl}
use Rattle.objects.proofs.Frames.{beside-objects}
use Rattle.objects.proofs.Stranded.{swept-first, swept-next}
use Rattle.objects.proofs.tables.Objects.wake_stranded.Goals as goal
use Rattle.objects.specs.Tables.{state_of}

pub places-init : goal.places-init
places-init g c = (
  swept-first c.args.self.now (g.S.SlotMap.slots c.args.store.now) (g.S.SlotStore.memory c.args.store.now) c.count_places-count.result
      c.count_places-count.ensures.value c.requires.stands,
  refl,
)

pub places-preserved : goal.places-preserved
places-preserved g c = (
  swept-next c.args.self.now c.places.self _ (g.S.SlotMap.slots c.args.store.now) (g.S.SlotMap.slots c.places.store) _ (g.S.SlotStore.memory c.args.store.now)
      (g.S.SlotStore.memory c.places.store) _
      c.places.number c.count_places-count.result c.places.invariant.0 c.places-test.true c.wake_if_stranded.ensures.state c.wake_if_stranded.ensures.bytes
      c.wake_if_stranded.ensures.slots c.wake_if_stranded.ensures.stands,
  c.wake_if_stranded.ensures.order ∙ c.places.invariant.1,
)

pub returns-clause-bytes : goal.returns-clause-bytes
returns-clause-bytes g c = beside-objects (state_of c.args.self.now (g.S.SlotMap.slots c.args.store.now) (g.S.SlotStore.memory c.args.store.now)) _ _
    c.places.invariant.0.bytes
