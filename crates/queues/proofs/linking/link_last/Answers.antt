-- The last one is still where it was, and memory is as long as it was.
use Rattle.std.proofs.Common.{◌∙◌}
use Rattle.queues.proofs.linking.link_last.Goals as goal

pub put_link_at-requires-clause-there : goal.put_link_at-requires-clause-there
put_link_at-requires-clause-there g c = λ x is. c.put_link-3.ensures.threads x
    (c.put_link-2.ensures.threads x (c.put_link.ensures.threads x (c.requires.behind x is)))

pub returns-clause-size : goal.returns-clause-size
returns-clause-size g c = c.put_link_at.ensures.size ∙ c.put_link-3.ensures.size ∙ c.put_link-2.ensures.size ∙ c.put_link.ensures.size
