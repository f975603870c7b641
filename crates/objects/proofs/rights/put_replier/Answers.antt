-- The word that is written says who may reply.
use Rattle.std.proofs.Common.{arith}
use Rattle.objects.proofs.Repliers.{replier-beside, replier-kept}
use Rattle.objects.proofs.rights.put_replier.Goals as goal

pub write32-requires-clause-outside : goal.write32-requires-clause-outside
write32-requires-clause-outside g c = λ place least less. c.requires.there.outside place (omega (arith, least)) (omega (arith, less))

pub returns-clause-replier : goal.returns-clause-replier
returns-clause-replier g c =
    let within = c.requires.there.within in
    replier-kept (g.S.SlotStore.memory c.args.store.now) (g.S.SlotStore.memory c.write32.new.self) c.args.thread c.args.replier c.unwrap_or.result
    c.write32.ensures.bytes
    c.unwrap_or.ensures (omega (arith, within)) c.requires.small

pub returns-clause-bytes : goal.returns-clause-bytes
returns-clause-bytes g c =
    let within = c.requires.there.within in
    replier-beside (g.S.SlotStore.memory c.args.store.now) (g.S.SlotStore.memory c.write32.new.self) c.args.thread c.unwrap_or.result c.write32.ensures.bytes
    (omega (arith, within))
