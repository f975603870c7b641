-- As many low bits are 1 as the number has after its leading zeros.
use Rattle.std.proofs.Common.{ℕ, ap, sym}
use Rattle.model.specs.Acceptance.RangeRules.{ones_above, ones_within}
use Rattle.ranges.proofs.Ones.{ones-cover, ones-shifted}
use Rattle.ranges.proofs.results.ones_above.Goals as goal

pub returns-then-n-eq0-clause-value : goal.returns-then-n-eq0-clause-value
unfolding ones_within
returns-then-n-eq0-clause-value c = ap (λ (n : ℕ). ones_above n) (sym c.if-n-eq0.true)

pub returns-clause-value : goal.returns-clause-value
returns-clause-value c = ones-shifted c.args.n c.ranges.n.fits

pub returns-clause-least : goal.returns-clause-least
returns-clause-least c = ones-cover c.args.n c.ranges.n.fits
