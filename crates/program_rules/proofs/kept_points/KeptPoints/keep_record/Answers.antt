-- The record is put behind those that are kept.
use Rattle.std.proofs.Common.{rules, ◌≡◌, ◌∙◌, Bool, length, subst}
use Rattle.std.specs.Vec.{vec_len}
use Rattle.program_rules.proofs.Placed.{all-kept, longer-pushed, longer-same, record-at}
use Rattle.program_rules.proofs.kept_points.KeptPoints.keep_record.Goals as goal
use Rattle.program_rules.specs.Kept.{IsInRecord}

pub returns-then-known-clause-others : goal.returns-then-known-clause-others
returns-then-known-clause-others c =
    let old = c.args.self.now in
    all-kept old (record old { recorded = c.push.new.self }) (longer-same old.whole.items)
    (longer-pushed old.recorded.items c.push.new.self.items _ c.in_ok-push.ensures.items)
    (longer-same old.called.items)

pub returns-else-known-clause-others : goal.returns-else-known-clause-others
returns-else-known-clause-others c =
    let old = c.args.self.now in
    all-kept old (record old { recorded = c.push.new.self }) (longer-same old.whole.items)
    (longer-pushed old.recorded.items c.push.new.self.items _ c.in_ok-push.ensures.items)
    (longer-same old.called.items)

pub returns-then-known-clause-at : goal.returns-then-known-clause-at
returns-then-known-clause-at c = λ image t slots log point has is.
    let old = c.args.self.now in
    let count : vec_len old.recorded ≡ length old.recorded.items = search rules in
    subst (λ (clean : Bool). IsInRecord image t slots log c.push.new.self.items point c.in_ok-at.at clean) c.if-known.true
    (record-at image t slots log old.recorded.items c.push.new.self.items _ c.args.noted.now c.args.known.now point c.in_ok-at.at c.in_ok-push.ensures.items
    (c.in_ok-at.ensures ∙ c.len.ensures ∙ count) has c.from_here-from.ensures.first c.in-Some.ensures is)

pub returns-else-known-clause-at : goal.returns-else-known-clause-at
returns-else-known-clause-at c = λ image t slots log point has is.
    let old = c.args.self.now in
    let count : vec_len old.recorded ≡ length old.recorded.items = search rules in
    subst (λ (clean : Bool). IsInRecord image t slots log c.push.new.self.items point c.in_ok-at.at clean) c.if-known.false
    (record-at image t slots log old.recorded.items c.push.new.self.items _ c.args.noted.now c.args.known.now point c.in_ok-at.at c.in_ok-push.ensures.items
    (c.in_ok-at.ensures ∙ c.len.ensures ∙ count) has c.from_here-from.ensures.first c.in-Some.ensures is)
