-- The thread loses the right that it has.
use Rattle.std.proofs.Common.{◌∙◌, sym, length}
use Rattle.objects.proofs.OneThread.{record-of-place}
use Rattle.objects.proofs.Voiding.{right-there, void-one}
use Rattle.objects.proofs.rights.void_right.Goals as goal

pub set_caller-requires : goal.set_caller-requires
set_caller-requires g c =
    record {
      there = record-of-place (g.S.SlotMap.slots c.args.store.now) (length (g.S.SlotStore.memory c.args.store.now)) c.args.holder
          (c.requires.places c.args.holder (right-there c.args.held.now (g.S.SlotStore.memory c.args.store.now) c.args.holder c.args.gone
          (sym c.has_right.ensures ∙ c.if-has_right.true)));
    }

pub returns-then-has_right-clause-threads : goal.returns-then-has_right-clause-threads
returns-then-has_right-clause-threads g c = void-one c.args.held.now (g.S.SlotMap.slots c.args.store.now) (length (g.S.SlotStore.memory c.args.store.now))
    c.requires (g.S.SlotStore.memory c.args.store.now) (g.S.SlotStore.memory c.set_caller.new.store) c.args.holder
    (right-there c.args.held.now (g.S.SlotStore.memory c.args.store.now) c.args.holder c.args.gone (sym c.has_right.ensures ∙ c.if-has_right.true))
    c.set_caller.ensures.bytes c.args.gone (sym c.has_right.ensures ∙ c.if-has_right.true) c.set_caller.ensures.record
