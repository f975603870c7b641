-- Nobody is marked, and no queue has a thread.
use Rattle.std.proofs.Common.{◌∙◌, List, ℕ, sym, ap, subst}
use Rattle.queues.specs.Ready.{AreMarked, ends_of}
use Rattle.queues.specs.declared.words.Ends.{Ends}
use Rattle.queues.proofs.Marks.{none-marked, none-there}
use Rattle.queues.proofs.ReadySteps.{nobody-ready, none-ready}
use Rattle.queues.proofs.ready.ReadyList.new.Goals as goal

pub invariant_of-result : goal.invariant_of-result
invariant_of-result c =
    subst (λ (ends : List Ends). AreMarked ends c.no_marks.result) (sym c.empty_queues.ensures)
    (subst (λ (marks : List ℕ). AreMarked _ marks) (sym c.no_marks.ensures) none-marked)

pub returns-clause-empty : goal.returns-clause-empty
returns-clause-empty c = λ places memory priority.
    none-ready places c.empty_queues.result memory (λ p. ap (λ (ends : List Ends). ends_of ends p) c.empty_queues.ensures ∙ none-there 256 p) priority

pub returns-clause-stands : goal.returns-clause-stands
returns-clause-stands c = λ places memory free.
    nobody-ready places c.empty_queues.result memory free (λ p. ap (λ (ends : List Ends). ends_of ends p) c.empty_queues.ensures ∙ none-there 256 p)
