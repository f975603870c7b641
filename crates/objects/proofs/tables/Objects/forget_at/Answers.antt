-- The thread leaves, if one is there.
use Rattle.std.proofs.Common.{◌∙◌, sym}
use Rattle.objects.proofs.OneThread.{left-none, left-one, nobody-replies, nobody-runs, nobody-waits}
use Rattle.objects.proofs.Told.{is-thread}
use Rattle.objects.specs.Tables.{kind_in}
use Rattle.objects.proofs.tables.Objects.forget_at.Goals as goal

pub forget-requires-clause-there : goal.forget-requires-clause-there
forget-requires-clause-there g c = is-thread (kind_in c.args.self.now c.args.offset) (sym c.has_thread.ensures ∙ c.if-has_thread.true)

pub returns-then-has_thread-clause-state : goal.returns-then-has_thread-clause-state
returns-then-has_thread-clause-state g c = c.forget.ensures.state
    ∙ left-one c.args.self.now (g.S.SlotMap.slots c.args.store.now) (g.S.SlotStore.memory c.args.store.now) c.args.offset
    (sym c.has_thread.ensures ∙ c.if-has_thread.true)

pub returns-else-has_thread-clause-state : goal.returns-else-has_thread-clause-state
returns-else-has_thread-clause-state g c = left-none c.args.self.now (g.S.SlotMap.slots c.args.store.now) (g.S.SlotStore.memory c.args.store.now)
    c.requires.stands c.args.offset (sym c.has_thread.ensures ∙ c.if-has_thread.false)

pub returns-else-has_thread-clause-waits_not : goal.returns-else-has_thread-clause-waits_not
returns-else-has_thread-clause-waits_not g c = nobody-waits c.args.self.now (g.S.SlotMap.slots c.args.store.now) (g.S.SlotStore.memory c.args.store.now)
    c.requires.stands c.args.offset (sym c.has_thread.ensures ∙ c.if-has_thread.false)

pub returns-else-has_thread-clause-ready_not : goal.returns-else-has_thread-clause-ready_not
returns-else-has_thread-clause-ready_not g c = nobody-runs c.args.self.now (g.S.SlotMap.slots c.args.store.now) (g.S.SlotStore.memory c.args.store.now)
    c.requires.stands c.args.offset (sym c.has_thread.ensures ∙ c.if-has_thread.false)

pub returns-else-has_thread-clause-rights_not : goal.returns-else-has_thread-clause-rights_not
returns-else-has_thread-clause-rights_not g c = nobody-replies c.args.self.now (g.S.SlotMap.slots c.args.store.now) (g.S.SlotStore.memory c.args.store.now)
    c.requires.stands c.args.offset (sym c.has_thread.ensures ∙ c.if-has_thread.false)
