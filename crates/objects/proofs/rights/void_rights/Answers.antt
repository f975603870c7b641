-- The one that is kept loses it, or all do.
use Rattle.std.proofs.Common.{◌∙◌, sym}
use Rattle.objects.proofs.Voiding.{one-voided}
use Rattle.objects.proofs.rights.void_rights.Goals as goal

pub replier-requires : goal.replier-requires
replier-requires g c = c.requires.laid.places c.args.gone c.requires.there

pub returns-in-Some-clause-threads : goal.returns-in-Some-clause-threads
returns-in-Some-clause-threads g c = one-voided c.args.held.now (g.S.SlotStore.memory c.args.store.now) (g.S.SlotStore.memory c.void_right.new.store)
    c.args.gone c.in-Some.holder c.requires.known (sym c.replier.ensures ∙ c.in-Some.is) c.void_right.ensures.threads
