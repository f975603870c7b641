-- The tables say what is there, whoever waits there.
use Rattle.std.proofs.Common.{◌∙◌, not, ap, sym}
use Rattle.objects.specs.Contents as contents
use Rattle.objects.specs.Contents.{contents_state, told_by}
use Rattle.objects.specs.Tables.{contents_of, state_of}
use Rattle.objects.specs.thread_records.Threads.{status_of}
use Rattle.removal_laws.specs.Finishing.{waits_nowhere}
use Rattle.objects.proofs.tables.Objects.waits_nowhere.Goals as goal

pub returns-in-Blocked : goal.returns-in-Blocked
unfolding state_of told_by
returns-in-Blocked c = λ slots memory.
    ap not (c.is_there.ensures memory (contents.waiting_of (contents_of c.args.self.now memory) memory))
    ∙ ap (λ x. waits_nowhere (state_of c.args.self.now slots memory) (status_of x)) (sym c.in-Blocked.is)
