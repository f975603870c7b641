-- Badge and info word are written, then words, as far as there are any.
use Rattle.std.proofs.Common.{[], arith}
use Rattle.model.specs.Acceptance.Ranges.{single}
use Rattle.headline.proofs.calls.PromisedMessages.{promised-fits}
use Rattle.headline.proofs.calls.WrittenMessages.{message-fits, nothing-fits, result-fits, signal-fits}
use Rattle.headline.proofs.calls.waking_laws.messages_fit_behind.Goals as goal

pub returns : goal.returns
returns c = record {
  message = λ registers ranges promise badge message fine low is kept. promised-fits registers ranges promise badge message fine low is kept;
  answer = λ registers ranges message fine is.
      message-fits registers ranges fine.count fine.words fine.long fine.within 0 (single 0) message [] (omega arith)
      (omega arith, omega arith) is.words tt is.info;
  signal = λ registers ranges word fine low. signal-fits registers ranges fine.count fine.words fine.long fine.within word low;
  result = λ registers ranges fine. result-fits registers ranges fine.count fine.words fine.long fine.within;
  nothing = λ registers ranges fine. nothing-fits registers ranges fine.count fine.words fine.long fine.within;
}
