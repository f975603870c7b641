-- None of the numbers so far is in the other set.
use Rattle.std.proofs.Common.{◌≡◌, false, take}
use Rattle.std.specs.List.{list_any}
use Rattle.model.specs.Acceptance.ThreadRules.{is_member}
use Rattle.wellformed.proofs.threads.share_some.Given as goal

abbrev pub invariant-loop-place : goal.invariant-loop-place
invariant-loop-place l = list_any (λ n. is_member n l.fn.others) (take l.place l.fn.numbers) ≡ false
