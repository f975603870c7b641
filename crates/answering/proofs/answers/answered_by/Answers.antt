-- One badge more.
use Rattle.std.proofs.Common.{Vec, Global, ℕ, sym, subst}
use Rattle.answering.specs.Answers.{AreAnswered}
use Rattle.answering.proofs.Shown.{answered-more}
use Rattle.answering.proofs.answers.answered_by.Goals as goal
use Rattle.answering.proofs.answers.answered_by.Goals.{then-branch+in_ok-push, else-branch}

pub badges-preserved : goal.badges-preserved
badges-preserved c = elim c.if-branch.branch [
  | then-branch+in_ok-push w ↦
      subst (λ (v : Vec ℕ Global). AreAnswered c.args.thread.now c.args.program.now v.items) (sym w.answered-is)
      (answered-more c.args.thread.now c.args.program.now c.badges.answered.items w.push.new.self.items _ w.in_ok-push.ensures.items
      (c.in_ok-answers.ensures w.if-branch.true) c.badges.invariant)
  | else-branch w ↦ subst (λ (v : Vec ℕ Global). AreAnswered c.args.thread.now c.args.program.now v.items) (sym w.answered-is) c.badges.invariant
]
