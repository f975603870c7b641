-- It is one of the 32 words.
use Rattle.std.proofs.Common.{ℕ, ap, arith, ◌∙◌, ◌+◌, ◌*◌}
use Rattle.model.specs.Shared.Bytes.{word_at}
use Rattle.objects.proofs.thread_records.Fields.{register-read}
use Rattle.objects.proofs.thread_records.reads.ThreadRecord.register.Goals as goal

pub returns-else-register-eq0 : goal.returns-else-register-eq0
returns-else-register-eq0 c =
    let memory = c.args.self.now.memory.now in
    let thread = c.args.self.now.thread in
    c.word.ensures
    ∙ ap (λ (number : ℕ). word_at memory (thread + (64 + 4 * number))) c.from.ensures
    ∙ register-read memory thread c.args.register c.requires (λ none. omega (arith, none, c.if-register-eq0.false))
