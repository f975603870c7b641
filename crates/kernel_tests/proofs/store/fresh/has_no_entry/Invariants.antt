-- The words so far are 0.
use Rattle.std.proofs.Common.{ℕ, ◌≡◌, ◌+◌, ◌*◌, ◌<◌}
use Rattle.model.specs.Shared.Bytes.{word_at}
use Rattle.kernel_tests.proofs.store.fresh.has_no_entry.Given as goal

abbrev pub invariant-words : goal.invariant-words
invariant-words l = (i : ℕ) → i < l.i → word_at l.memory (l.table + 4 * i) ≡ 0
