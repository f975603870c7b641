-- By what is known of the point, and what the message gives.
use Rattle.std.proofs.Common.{◌∙◌, List, Option, ap}
use Rattle.model.specs.declared.ranges.Range.{Range}
use Rattle.settled_threads.specs.Answering.{are_known}
use Rattle.answering.specs.Known.{known_at}
use Rattle.answering.proofs.tests.Test.is_received.Goals as goal

pub returns : goal.returns
returns c =
    c.are_known.ensures ∙ ap (λ (known : Option (List Range)). are_known known c.received.result) c.at.ensures
    ∙ ap (are_known (known_at c.args.self.now.known.now c.args.next)) c.received.ensures
