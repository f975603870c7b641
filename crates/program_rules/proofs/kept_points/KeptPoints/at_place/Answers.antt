-- By the kind of the place.
use Rattle.std.proofs.Common.{◌≡◌, ap, subst, arith}
use Rattle.program_rules.proofs.kept_points.KeptPoints.at_place.Goals as goal
use Rattle.program_rules.specs.Kept.{IsAt, IsBehindCall, IsBehindPlain, is_step}

pub returns-in-Missing : goal.returns-in-Missing
returns-in-Missing c = λ image t slots log point is first. subst (IsAt image t slots log c.args.self.now point) c.in-Missing.is is

pub returns-in-Unmeasured : goal.returns-in-Unmeasured
returns-in-Unmeasured c = λ image t slots log point is first. subst (IsAt image t slots log c.args.self.now point) c.in-Unmeasured.is is

pub returns-in-Whole : goal.returns-in-Whole
returns-in-Whole c = λ image t slots log point is first. c.whole_at.ensures image t slots log point
    (subst (IsAt image t slots log c.args.self.now point) c.in-Whole.is is)

pub returns-in-Recorded : goal.returns-in-Recorded
returns-in-Recorded c = λ image t slots log point is first. c.record_at.ensures image t slots log point
    (subst (IsAt image t slots log c.args.self.now point) c.in-Recorded.is is)

pub returns-in-Clean : goal.returns-in-Clean
returns-in-Clean c = λ image t slots log point is first. c.record_at-in-Clean.ensures image t slots log point
    (subst (IsAt image t slots log c.args.self.now point) c.in-Clean.is is)

pub returns-in-Plain : goal.returns-in-Plain
returns-in-Plain c = λ image t slots log point is first.
    let step : IsBehindPlain image t point = subst (IsAt image t slots log c.args.self.now point) c.in-Plain.is is in
    let some = step.some in
    let none : point ≡ 0 = first (ap is_step c.in-Plain.is) in
    absurd (omega (arith, some, none))

pub returns-in-Called : goal.returns-in-Called
returns-in-Called c = λ image t slots log point is first.
    let step : IsBehindCall image t slots log c.args.self.now.called.items point c.in-Called.field-0 =
    subst (IsAt image t slots log c.args.self.now point) c.in-Called.is is in
    let some = step.some in
    let none : point ≡ 0 = first (ap is_step c.in-Called.is) in
    absurd (omega (arith, some, none))
