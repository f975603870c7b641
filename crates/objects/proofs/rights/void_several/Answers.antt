-- Each place of a thread is passed in its turn.
use Rattle.std.proofs.Common.{◌∙◌, refl}
use Rattle.objects.proofs.Voiding.{laid-still, voided-all, voided-first, voided-next}
use Rattle.objects.proofs.rights.void_several.Goals as goal

pub threads-init : goal.threads-init
threads-init g c = (voided-first c.args.held.now c.args.gone (g.S.SlotMap.slots c.args.store.now) (g.S.SlotStore.memory c.args.store.now), refl)

pub void_right-requires : goal.void_right-requires
void_right-requires g c = laid-still c.args.held.now c.args.gone (g.S.SlotMap.slots c.args.store.now) (g.S.SlotMap.slots c.threads.store)
    (g.S.SlotMap.slots c.threads.store) (g.S.SlotStore.memory c.args.store.now) (g.S.SlotStore.memory c.threads.store) (g.S.SlotStore.memory c.threads.store)
    c.threads.number c.requires c.threads.invariant.0

pub threads-preserved : goal.threads-preserved
threads-preserved g c = (
  voided-next c.args.held.now c.args.gone (g.S.SlotMap.slots c.args.store.now) (g.S.SlotMap.slots c.threads.store) _ (g.S.SlotStore.memory c.args.store.now)
      (g.S.SlotStore.memory c.threads.store) _ c.threads.number c.requires c.threads.invariant.0 c.void_right.ensures.threads c.void_right.ensures.bytes
      c.void_right.ensures.slots,
  c.void_right.ensures.order ∙ c.threads.invariant.1,
)

pub returns-clause-threads : goal.returns-clause-threads
returns-clause-threads g c = voided-all c.args.held.now c.args.gone (g.S.SlotMap.slots c.args.store.now) (g.S.SlotMap.slots c.threads.store)
    (g.S.SlotStore.memory c.args.store.now) (g.S.SlotStore.memory c.threads.store) c.threads.number c.count_threads-count.result c.requires
    c.count_threads-count.ensures c.threads-test.false c.threads.invariant.0
