-- By what the word before is.
use Rattle.std.proofs.Common.{ℕ, ◌≢◌, Some, subst, arith}
use Rattle.model.specs.Machine.Decoding.{decoded}
use Rattle.model.specs.declared.instructions.Instr.TheVariants.{Ecall}
use Rattle.program_rules.proofs.Placed.{next-plain}
use Rattle.program_rules.proofs.kept_points.KeptPoints.keep_step.Goals as goal

pub returns-clause-at : goal.returns-clause-at
returns-clause-at c = λ bare.
    let some = c.if-point-eq0.false in
    let own = c.args.visit.now.program.now.given.space.thread.now in
    next-plain own c.args.self.now c.args.before.now c.args.visit.now.point c.args.known.now (omega (arith, some)) bare
    (subst (λ (w : ℕ). decoded w ≢ Some Ecall) c.word.ensures (c.is_call.ensures c.if-is_call.false))
