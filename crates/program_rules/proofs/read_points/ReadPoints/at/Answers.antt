-- From the last point that does not follow from the one before it on, each follows.
use Rattle.std.proofs.Common.{ℕ, ◌≡◌, ◌∙◌, ◌<◌, length, sym, ap, subst, arith}
use Rattle.model.specs.Machine.Decoding.{decoded}
use Rattle.program_rules.proofs.Spelled.{valid-instr}
use Rattle.program_rules.proofs.read_points.ReadPoints.at.Goals as goal
use Rattle.program_rules.specs.Kept.{IsKeptAt}
use Rattle.program_rules.specs.Programs.{thread_of}

pub steps-init : goal.steps-init
steps-init c =
    let within = c.requires in
    let count = c.args.self.now.read.count in
    let near = c.first_of-first.ensures.near in
    let less : c.first_of-first.result < length c.args.self.now.points.now.kept.places.items = omega (arith, within, count, near) in (
      c.first-kept.ensures c.args.self.now.program.now.given.space.image.now (thread_of c.args.self.now.program.now)
          c.args.self.now.program.now.given.slots.now c.args.self.now.points.now.log c.args.self.now.read.noted less
          c.first_of-first.ensures.first,
      near,
    )

pub word-requires : goal.word-requires
word-requires c =
    let within = c.requires in
    let near = c.steps-test.true in
    omega (arith, within, near)

pub invariant_of-here : goal.invariant_of-here
invariant_of-here c =
    let within = c.requires in
    let near = c.steps-test.true in
    record {
      within = omega (arith, within, near);
      is = ap decoded (sym c.word.ensures) ∙ sym c.decode.ensures.value;
      valid = valid-instr c.word.result c.decode.result c.decode.ensures.some;
    }

pub pass-requires : goal.pass-requires
pass-requires c = c.steps.invariant.0

pub steps-preserved : goal.steps-preserved
steps-preserved c =
    let within = c.requires in
    let near = c.steps-test.true in (
      c.pass.ensures (omega (arith, within, near)),
      omega (arith, near),
    )

pub returns : goal.returns
returns c =
    let near = c.steps.invariant.1 in
    let done = c.steps-test.false in
    let same : c.steps.before ≡ c.args.point = omega (arith, near, done) in
    subst (λ (n : ℕ). IsKeptAt c.args.self.now.program.now.given.space.image.now (thread_of c.args.self.now.program.now)
    c.args.self.now.program.now.given.slots.now c.args.self.now.points.now.log n c.steps.kept)
    same c.steps.invariant.0
