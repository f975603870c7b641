-- Both ways, by what the point makes of an answer that is owed.
use Rattle.std.proofs.Common.{◌≡◌, true, sym, subst}
use Rattle.program_rules.specs.declared.views.PointView.{PointView}
use Rattle.answering.specs.Known.{owes_over}
use Rattle.answering.specs.Seen.{edges_pass}
use Rattle.answering.proofs.Ways.{seen-holds}
use Rattle.answering.proofs.tests.Test.holds_from.Goals as goal

pub returns-then-passes_to : goal.returns-then-passes_to
returns-then-passes_to c = λ on.
    let t = c.args.self.now.thread.now in
    let badge = c.args.self.now.badge in
    let known = c.args.self.now.known.now in
    subst (λ (v : PointView). edges_pass (owes_over t badge known) c.args.base c.args.here v ≡ true) (sym c.in-Seen.is)
    (seen-holds t badge known c.effect_of-effect.result c.in-Seen.point c.args.base c.args.here c.effect_of-effect.ensures
    (c.passes_to.ensures c.if-passes_to.true) (c.passes_to-then-passes_to.ensures on))
