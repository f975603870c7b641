-- By the way that each instruction takes.
use Rattle.std.proofs.Common.{ℕ, ◌≡◌, ◌∙◌, List, ap, sym, subst}
use Rattle.model.specs.declared.ranges.Range.{Range}
use Rattle.model.specs.Acceptance.Edges.{after}
use Rattle.model.specs.Machine.Effects.{effect}
use Rattle.ranges.specs.Edges.{ways_of}
use Rattle.ranges.specs.Standing.{TakesWay}
use Rattle.ranges.specs.declared.edges.Edges.{Edges as Ways}
use Rattle.ranges.proofs.WaysTaken.{takes-way}
use Rattle.ranges.proofs.edges.after.Goals as goal

pub returns-clause-taken : goal.returns-clause-taken
returns-clause-taken c = λ r content there are straight before goes.
    let i = c.args.instr in
    let ranges = c.args.bounds.now in
    let ways : c.ways_on.result ≡ ways_of (after r.pc i ranges) = c.ways_on.ensures ∙ ap (λ (b : List Range). ways_of (after c.args.pc i b)) c.all.ensures.same
    ∙ ap (λ (pc : ℕ). ways_of (after pc i ranges)) (sym there) in
    subst (λ (w : Ways). TakesWay (effect r content i).registers w) (sym ways)
    (takes-way r content ranges i are c.all.ensures.count c.requires straight before goes)
