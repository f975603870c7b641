-- The first thread of the highest priority that is marked.
use Rattle.std.proofs.Common.{◌≡◌, ◌∙◌, List, subst}
use Rattle.model.specs.Kernel.Scheduling.{first_below}
use Rattle.queues.specs.Ready.{ends_of, ready_of}
use Rattle.queues.specs.declared.words.Ends.{Ends}
use Rattle.queues.proofs.Marks.{nobody-first, top-first}
use Rattle.queues.proofs.ready.ReadyList.current.Goals as goal

pub returns-in_err-priority : goal.returns-in_err-priority
returns-in_err-priority c = λ places memory.
    subst (λ (ends : List Ends). c.from_residual.result ≡ first_below 256 (ready_of places ends memory)) c.self.view_is
    (c.from_residual.ensures ∙ nobody-first places c.self.inside.ends memory c.self.inside.marks c.self.invariant c.in_err-priority.ensures)

pub returns : goal.returns
returns c = λ places memory.
    subst (λ (ends : List Ends). (ends_of c.self.inside.ends c.in_ok-priority.priority).first ≡ first_below 256 (ready_of places ends memory)) c.self.view_is
    (top-first places c.self.inside.ends memory c.self.inside.marks c.in_ok-priority.priority c.self.invariant c.in_ok-priority.ensures)
