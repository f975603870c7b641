-- The rules on the threads that are left decide.
use Rattle.std.proofs.Common.{◌≡◌, drop}
use Rattle.model.specs.Acceptance.PointRules.{program_rules}
use Rattle.model.specs.Acceptance.Rules.{first_broken}
use Rattle.program_rules.proofs.ThreadsLeft.{rules_from}
use Rattle.program_rules.proofs.checking.check_programs.Given as goal

abbrev pub invariant-threads : goal.invariant-threads
invariant-threads l = record {
  rest : drop l.number l.fn.image.threads ≡ l.thread-iterator;
  left : first_broken (rules_from l.fn.image l.number l.thread-iterator) ≡ first_broken (program_rules l.fn.image);
}
