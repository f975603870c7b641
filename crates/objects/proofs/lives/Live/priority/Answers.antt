-- The record holds the thread, if one is there.
use Rattle.std.proofs.Common.{◌∙◌, ap}
use Rattle.model.specs.Kernel.State.{ThreadState}
use Rattle.objects.proofs.LiveCalls.{read-nobody, read-some}
use Rattle.objects.proofs.lives.Live.priority.Goals as goal

pub returns-in-Some : goal.returns-in-Some
returns-in-Some g c = c.priority.ensures ∙ ap (λ (t : ThreadState). t.priority) (read-some _ _ c.record_of.ensures c.in-Some.found c.in-Some.is)

pub returns-in-None : goal.returns-in-None
returns-in-None g c = ap (λ (t : ThreadState). t.priority) (read-nobody _ _ c.record_of.ensures c.in-None.is)
