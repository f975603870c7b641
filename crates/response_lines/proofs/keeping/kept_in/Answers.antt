-- The rates that are looked at are those that are asked.
use Rattle.std.proofs.Common.{All, List, map, subst}
use Rattle.response_lines.specs.AskedLines.{IsKept}
use Rattle.responses.specs.Found.{rate_of}
use Rattle.responses.specs.declared.bounds.Rate.{Rate}
use Rattle.response_lines.proofs.keeping.kept_in.Goals as goal

pub returns : goal.returns
returns c =
    subst (λ (l : List Rate). All (IsKept c.args.image.now (map rate_of l)) c.in_ok-lines.lines.items) c.as_slice-rates.ensures.value c.in_ok-lines.ensures
