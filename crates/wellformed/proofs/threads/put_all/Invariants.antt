-- What was there, and the numbers so far, are there.
use Rattle.std.proofs.Common.{◌≡◌, ◌||◌, ℕ, take}
use Rattle.model.specs.Acceptance.ThreadRules.{is_member}
use Rattle.wellformed.proofs.threads.put_all.Given as goal

abbrev pub invariant-loop-place : goal.invariant-loop-place
invariant-loop-place l = (n : ℕ) → is_member n l.into ≡ (is_member n l.fn.into || is_member n (take l.place l.fn.numbers))
