-- By the bytes that were verified.
use Rattle.std.proofs.Common.{sym, subst}
use Rattle.model.specs.Acceptance.Accepted.{IsAccepted}
use Rattle.model.specs.Images.Image.{Image}
use Rattle.responses.proofs.rows.responded.Goals as goal

pub returns-clause-bounds : goal.returns-clause-bounds
returns-clause-bounds c = λ k row less.
    c.in_ok-rows.ensures.rows k row less c.args.bytes.now
    (subst (λ (i : Image). IsAccepted c.args.bytes.now i) (sym c.in_ok-levels.ensures.image) c.in_ok-accepted.ensures.accepted)
