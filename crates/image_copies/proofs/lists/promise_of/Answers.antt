-- Its count is its length.
use Rattle.std.proofs.Common.{refl, ap, ◌∙◌}
use Rattle.image_copies.proofs.Counted.{same-promise}
use Rattle.image_copies.proofs.lists.promise_of.Goals as goal
use Rattle.model.specs.declared.entries.PromiseHeader.{PromiseHeader}

pub returns : goal.returns
returns c = λ counted.
    let head = c.header-header.ensures in
    same-promise _ c.args.promise.now (ap (λ (h : PromiseHeader). h.endpoint) head) (ap (λ (h : PromiseHeader). h.badge_low) head)
    (ap (λ (h : PromiseHeader). h.badge_high) head) (c.in_ok-words.ensures ∙ c.words.ensures) refl counted
