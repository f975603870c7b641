-- What is left of the rules decides, and what the threads so far have is known.
use Rattle.std.proofs.Common.{◌≡◌, drop, take}
use Rattle.std.specs.Prelude.{flat_map}
use Rattle.std.specs.List.{enumerate_from}
use Rattle.model.specs.Acceptance.Rules.{first_broken}
use Rattle.model.specs.Acceptance.ThreadRules.{rules_of_thread}
use Rattle.model.specs.Images.Described.{numbered}
use Rattle.wellformed.specs.Answering.{AreEarlier}
use Rattle.wellformed.proofs.threads.check_each_thread.Given as goal

abbrev pub invariant-loop-thread : goal.invariant-loop-thread
invariant-loop-thread l = record {
  rest : drop l.number l.fn.image.threads ≡ l.thread-iterator;
  earlier : AreEarlier l.fn.image (take l.number l.fn.image.threads) l.earlier.tcbs l.earlier.roots l.earlier.cnodes l.earlier.buffers;
  left : first_broken (flat_map (λ u. rules_of_thread l.fn.image (record { number = u.0; thread = u.1 }))
      (enumerate_from l.number (drop l.number l.fn.image.threads)))
      ≡ first_broken (flat_map (λ u. rules_of_thread l.fn.image (record { number = u.0; thread = u.1 })) (numbered l.fn.image.threads));
}
