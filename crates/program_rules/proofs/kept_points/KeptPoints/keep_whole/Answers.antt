-- The state is put behind those that are kept.
use Rattle.std.proofs.Common.{rules, ◌≡◌, ◌∙◌, length}
use Rattle.std.specs.Vec.{vec_len}
use Rattle.program_rules.proofs.Placed.{all-kept, longer-pushed, longer-same, whole-at}
use Rattle.program_rules.proofs.kept_points.KeptPoints.keep_whole.Goals as goal

pub returns-clause-others : goal.returns-clause-others
returns-clause-others c =
    let old = c.args.self.now in
    all-kept old (record old { whole = c.push.new.self }) (longer-pushed old.whole.items c.push.new.self.items c.args.known.now c.in_ok-push.ensures.items)
    (longer-same old.recorded.items) (longer-same old.called.items)

pub returns-clause-at : goal.returns-clause-at
returns-clause-at c = λ image t slots log point is.
    let old = c.args.self.now in
    let count : vec_len old.whole ≡ length old.whole.items = search rules in
    whole-at image t slots log old.whole.items c.push.new.self.items c.args.known.now point c.in_ok-at.at c.in_ok-push.ensures.items
    (c.in_ok-at.ensures ∙ c.len.ensures ∙ count) is
