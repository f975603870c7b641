-- The record holds the thread, if one is there.
use Rattle.std.proofs.Common.{◌∙◌, ap}
use Rattle.model.specs.Kernel.State.{ThreadState}
use Rattle.model.specs.Machine.ProgramMemory.{read}
use Rattle.objects.proofs.LiveCalls.{read-nobody, read-some}
use Rattle.objects.proofs.lives.Live.register.Goals as goal
use Rattle.objects.proofs.thread_records.Laws.{new-read}

pub returns-in-Some : goal.returns-in-Some
returns-in-Some g c =
    c.register.ensures ∙ ap (λ (t : ThreadState). read t.registers c.args.register) (read-some _ _ c.record_of.ensures c.in-Some.found c.in-Some.is)

pub returns-in-None : goal.returns-in-None
returns-in-None g c =
    new-read c.args.register c.requires ∙ ap (λ (t : ThreadState). read t.registers c.args.register) (read-nobody _ _ c.record_of.ensures c.in-None.is)
