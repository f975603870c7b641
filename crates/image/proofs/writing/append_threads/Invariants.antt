use Rattle.std.proofs.Common.{◌≡◌, ◌++◌, take}
use Rattle.std.specs.List.{flat_map}
use Rattle.image.specs.Spellings.{thread_bytes}
use Rattle.image.proofs.writing.append_threads.Given as goal

abbrev pub invariant-loop-thread : goal.invariant-loop-thread
invariant-loop-thread l = l.bytes.items ≡ l.initial.bytes.items ++ flat_map (thread_bytes l.version) (take l.thread-index l.threads)
