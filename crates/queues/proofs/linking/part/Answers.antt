-- The neighbours are still where they were, and memory is as long as it was.
use Rattle.std.proofs.Common.{◌∙◌}
use Rattle.queues.proofs.linking.part.Goals as goal

pub put_link_at-requires-clause-there : goal.put_link_at-requires-clause-there
put_link_at-requires-clause-there g c = λ x is. c.put_link.ensures.threads x (c.requires.before x is)

pub put_link_at-requires-2-clause-there : goal.put_link_at-requires-2-clause-there
put_link_at-requires-2-clause-there g c = λ x is. c.put_link_at.ensures.threads x (c.put_link.ensures.threads x (c.requires.behind x is))

pub returns-clause-size : goal.returns-clause-size
returns-clause-size g c = c.put_link_at-2.ensures.size ∙ c.put_link_at.ensures.size ∙ c.put_link.ensures.size
