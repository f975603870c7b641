-- By the rules on threads.
use Rattle.std.proofs.Common.{ℕ, ◌≡◌, ◌<◌, ◌≤◌, ◌+◌, ◌*◌, ◌^◌, false, nat_le, nat_lt, arith}
use Rattle.std.proofs.lemmas.Bool.Decides.{nat_tests}
use Rattle.soundness.proofs.Laws.{are-formed}
use Rattle.thread_spaces.proofs.space_laws.programs_have_their_places.Goals as goal

not-above : (a b : ℕ) → nat_lt b a ≡ false → a ≤ b
not-above a b is = grind (arith, nat_tests)

is-below : (a b : ℕ) → nat_le b a ≡ false → a < b
is-below a b is = grind (arith, nat_tests)

pub returns : goal.returns
returns c = λ image t formed listed.
    let kept = (are-formed image formed).thread listed.number t listed.listed in
    (not-above (t.header.base + 4 * t.header.words) (2 ^ 31) kept.end, is-below t.header.entry t.header.words kept.entry)
