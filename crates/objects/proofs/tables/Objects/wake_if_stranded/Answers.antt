-- The thread runs again, if one is there that is stranded.
use Rattle.std.proofs.Common.{◌∙◌, ap, sym, if◌then◌else◌}
use Rattle.model.specs.Kernel.Scheduling.{wake}
use Rattle.objects.proofs.OneThread.{stranded-kind}
use Rattle.objects.specs.Tables.{state_of}
use Rattle.objects.proofs.tables.Objects.wake_if_stranded.Goals as goal

pub wake_at-requires : goal.wake_at-requires
wake_at-requires g c = record {
  there = stranded-kind c.args.self.now (g.S.SlotMap.slots c.args.store.now) (g.S.SlotStore.memory c.args.store.now) c.args.offset
      (sym c.is_stranded.ensures ∙ c.if-is_stranded.true);
  stands = c.requires.stands;
}

pub returns-then-is_stranded-clause-state : goal.returns-then-is_stranded-clause-state
returns-then-is_stranded-clause-state g c = c.wake_at.ensures.state
    ∙ ap (λ b. if b then wake (state_of c.args.self.now (g.S.SlotMap.slots c.args.store.now) (g.S.SlotStore.memory c.args.store.now)) c.args.offset else
    (state_of c.args.self.now (g.S.SlotMap.slots c.args.store.now) (g.S.SlotStore.memory c.args.store.now))) (sym c.if-is_stranded.true ∙ c.is_stranded.ensures)

pub returns-else-is_stranded-clause-state : goal.returns-else-is_stranded-clause-state
returns-else-is_stranded-clause-state g c =
    ap (λ b. if b then wake (state_of c.args.self.now (g.S.SlotMap.slots c.args.store.now) (g.S.SlotStore.memory c.args.store.now)) c.args.offset else
    (state_of c.args.self.now (g.S.SlotMap.slots c.args.store.now) (g.S.SlotStore.memory c.args.store.now)))
    (sym c.if-is_stranded.false ∙ c.is_stranded.ensures)
