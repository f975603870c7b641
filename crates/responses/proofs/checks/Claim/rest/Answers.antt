-- By its parts.
use Rattle.std.proofs.Common.{◌∙◌, List, if◌then◌else◌, ap}
use Rattle.response.specs.Left.{total}
use Rattle.responses.proofs.Totals.{three-so}
use Rattle.responses.proofs.checks.Claim.rest.Goals as goal
use Rattle.responses.specs.Numbers.{is_among}
use Rattle.responses.specs.declared.price.Price.{Price}

pub returns-clause-rest : goal.returns-clause-rest
returns-clause-rest c =
    three-so _ _ _ _ _ _ _ _
    (c.in_ok-words.ensures
    ∙ ap (λ (prices : List Price). total (λ p. if is_among c.args.self.now.taken.now p.object then 0 else p.price) prices) c.all.ensures.prices)
    c.in_ok-lines.ensures c.in_ok-owed.ensures c.in_ok-both.ensures.1 c.in_ok-rest.ensures.1
