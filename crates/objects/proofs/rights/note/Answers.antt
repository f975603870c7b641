-- The bytes of who may reply are there.
use Rattle.objects.proofs.rights.note.Goals as goal

pub replier-requires : goal.replier-requires
replier-requires g c = c.requires.laid.places c.in-Some.caller (c.requires.caller c.in-Some.caller c.in-Some.is)

pub put_replier-requires-clause-there : goal.put_replier-requires-clause-there
put_replier-requires-clause-there g c = c.requires.laid.places c.in-Some.caller (c.requires.caller c.in-Some.caller c.in-Some.is)

pub put_replier-requires-else-has_right_besides-clause-there : goal.put_replier-requires-else-has_right_besides-clause-there
put_replier-requires-else-has_right_besides-clause-there g c = c.requires.laid.places c.in-Some.caller (c.requires.caller c.in-Some.caller c.in-Some.is)
