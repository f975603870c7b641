-- By the place of the next point.
use Rattle.std.proofs.Common.{◌∙◌, ◌+◌, ◌^◌, ◌<◌, ◌≤◌, Some, length, refl, sym, ap, subst, arith}
use Rattle.program_rules.proofs.EachPoint.{next-point}
use Rattle.program_rules.proofs.Placed.{not-step, some-place}
use Rattle.program_rules.proofs.read_points.ReadPoint.pass.Goals as goal
use Rattle.program_rules.specs.Kept.{IsAt, IsBehindPlain}
use Rattle.program_rules.specs.Programs.{thread_of}
use Rattle.program_rules.specs.declared.places.Place.{Place}

pub returns-then-len-point : goal.returns-then-len-point
returns-then-len-point c = λ less.
    let short = c.if-len-point.true in
    let long = c.len.ensures in
    let count = c.args.self.now.read.read.count in
    absurd (omega (arith, less, short, long, count))

pub returns-in-Plain : goal.returns-in-Plain
returns-in-Plain c = λ less.
    let image = c.args.self.now.read.program.now.given.space.image.now in
    let t = thread_of c.args.self.now.read.program.now in
    let slots = c.args.self.now.read.program.now.given.slots.now in
    let next = c.args.self.now.point + 1 in
    let count = c.args.self.now.read.read.count in
    let inside : next < length c.args.self.now.read.points.now.kept.places.items = omega (arith, less, count) in
    let p = c.index-place.result.now in
    let got = some-place c.args.self.now.read.points.now.kept.places.items next p inside ∙ ap (λ (q : Place). Some q) (sym c.index-place.ensures) in
    let step : IsBehindPlain image t next = subst (IsAt image t slots c.args.self.now.read.points.now.log c.args.self.now.read.points.now.kept next)
    c.in-Plain.is (c.args.self.now.read.read.noted.each next p got) in
    let plain = step.plain c.args.self.now.point refl in
    next-point image t slots c.args.self.now.read.points.now.log c.args.self.now.point c.args.kept.now c.pass_plain.new.kept plain c.requires
    (c.pass_plain.ensures.same plain.plain) c.pass_plain.ensures.sound c.pass_plain.ensures.clean

pub returns-in-Called : goal.returns-in-Called
returns-in-Called c = λ less.
    let image = c.args.self.now.read.program.now.given.space.image.now in
    let t = thread_of c.args.self.now.read.program.now in
    let slots = c.args.self.now.read.program.now.given.slots.now in
    let next = c.args.self.now.point + 1 in
    let count = c.args.self.now.read.read.count in
    let inside : next < length c.args.self.now.read.points.now.kept.places.items = omega (arith, less, count) in
    let p = c.index-place.result.now in
    let got = some-place c.args.self.now.read.points.now.kept.places.items next p inside ∙ ap (λ (q : Place). Some q) (sym c.index-place.ensures) in
    let small : c.args.self.now.point ≤ 2 ^ 32 = let memory = c.args.self.now.read.program.now.inside in omega (arith, less, memory) in
    c.after_call.ensures image t slots c.args.self.now.read.points.now.log c.args.self.now.point refl small c.requires
    (subst (IsAt image t slots c.args.self.now.read.points.now.log c.args.self.now.read.points.now.kept next)
    c.in-Called.is (c.args.self.now.read.read.noted.each next p got))

pub returns-in_default : goal.returns-in_default
returns-in_default c = λ less.
    let image = c.args.self.now.read.program.now.given.space.image.now in
    let t = thread_of c.args.self.now.read.program.now in
    let slots = c.args.self.now.read.program.now.given.slots.now in
    let next = c.args.self.now.point + 1 in
    let count = c.args.self.now.read.read.count in
    let inside : next < length c.args.self.now.read.points.now.kept.places.items = omega (arith, less, count) in
    let p = c.index-place.result.now in
    let got = some-place c.args.self.now.read.points.now.kept.places.items next p inside ∙ ap (λ (q : Place). Some q) (sym c.index-place.ensures) in
    c.at_place.ensures image t slots c.args.self.now.read.points.now.log next (c.args.self.now.read.read.noted.each next p got)
    (λ step. absurd (not-step p c.in_default.not-Plain (λ at is. c.in_default.not-Called at is) step))
