-- By one point more.
use Rattle.std.proofs.Common.{ℕ, ◌≡◌, ◌∙◌, ◌+◌, refl, ap, subst, arith}
use Rattle.program_rules.proofs.EachPoint.{grown, grown-at, left-next}
use Rattle.program_rules.proofs.ShownParts.{some-grown}
use Rattle.program_rules.proofs.points.Points.note.Goals as goal
use Rattle.program_rules.specs.Kept.{IsKeptAt}
use Rattle.program_rules.specs.Programs.{thread_of}

pub reach-requires-clause-left : goal.reach-requires-clause-left
reach-requires-clause-left c = c.requires.read.left

pub pass-requires : goal.pass-requires
pass-requires c =
    let reached = c.in_ok-reach.ensures.reached in
    record { sound = reached.kept.sound; shows = reached.shows; clean = reached.kept.clean }

pub returns-clause-read : goal.returns-clause-read
returns-clause-read c =
    let visit = c.args.visit.now in
    let image = visit.program.now.given.space.image.now in
    let t = thread_of visit.program.now in
    let slots = visit.program.now.given.slots.now in
    let point = visit.point in
    let before = c.requires.read in
    let old = c.args.self.now.log in
    let log = c.reach.new.log in
    let is = c.in_ok-reach.ensures.reached.kept in
    let lasts : (last : ℕ) → last + 1 ≡ point → IsKeptAt image t slots log last c.args.last.now =
    λ last follows. grown-at image t slots old log last c.args.last.now c.in_ok-reach.ensures.others (before.last last follows) in
    let more = c.in_ok-push.ensures.kept image t slots log refl before.count lasts is
    (grown image t slots old log c.args.self.now.kept c.in_ok-reach.ensures.others before.noted) in
    record {
      count = c.in_ok-push.ensures.count ∙ ap (λ (n : ℕ). n + 1) before.count;
      noted = grown image t slots log c.pass.new.log c.push.new.self c.in_ok-pass.ensures.others more;
      last = λ last follows.
          let one : point ≡ last = omega (arith, follows) in
          subst (λ (n : ℕ). IsKeptAt image t slots c.pass.new.log n c.reach.new.kept) one
          (grown-at image t slots log c.pass.new.log point c.reach.new.kept c.in_ok-pass.ensures.others is);
      left = left-next image t slots point visit.is_next_noted log c.pass.new.log c.reach.new.kept c.pass.new.kept visit.next is c.in_ok-pass.ensures.same
          c.in_ok-pass.ensures.sound c.in_ok-pass.ensures.clean;
    }

pub returns-clause-shown : goal.returns-clause-shown
returns-clause-shown c = some-grown c.reach.new.log c.pass.new.log c.reach.new.shown c.in_ok-pass.ensures.others c.in_ok-reach.ensures.shown
