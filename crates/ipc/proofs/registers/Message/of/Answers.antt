-- The message has as many words as registers hold of it.
use Rattle.std.proofs.Common.{ℕ, ◌≡◌, ◌∙◌, ◌%◌, ◌^◌, min, ap, arith}
use Rattle.ipc.proofs.registers.Message.of.Goals as goal
use Rattle.model.specs.Kernel.Messages.{a1, length_of, message_of}
use Rattle.model.specs.Kernel.State.{thread_at}
use Rattle.model.specs.Machine.ProgramMemory.{read}
use Rattle.objects.specs.Lives.{state_in}

pub returns : goal.returns
returns g c =
    let t = thread_at (state_in g.S.SlotMap.slots g.S.SlotStore.memory c.args.live.now) c.args.thread in
    let count : c.min.result ≡ length_of (read t.registers a1) =
    c.min.ensures ∙ ap (λ (n : ℕ). min n 8) (c.length_in.ensures ∙ ap (λ (n : ℕ). n % 2 ^ 7) c.register-info.ensures) ∙ omega arith in
    c.sent.ensures ∙ ap (λ (n : ℕ). record (message_of t) { count = n }) count
