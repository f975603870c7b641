-- By one point more.
use Rattle.std.proofs.Common.{◌∙◌, ◌+◌, List, refl, sym, ap, subst, arith}
use Rattle.model.specs.Images.Image.{StateRecord}
use Rattle.model.specs.Machine.Decoding.{decoded}
use Rattle.program_rules.proofs.EachPoint.{left-next}
use Rattle.program_rules.proofs.NextRecords.{AreLeft, all-left, is-next, next-record}
use Rattle.program_rules.proofs.ShownParts.{some-grown}
use Rattle.program_rules.proofs.Spelled.{valid-instr}
use Rattle.program_rules.proofs.ViewedWays.{views-next}
use Rattle.program_rules.proofs.programs.Program.views.Goals as goal
use Rattle.program_rules.specs.Programs.{thread_of}

pub views-init : goal.views-init
views-init c =
    let program = c.args.self.now in
    let image = program.given.space.image.now in
    let own = program.given.space.thread.now in
    let log = c.new-log.result in (
      c.new-views.ensures image (thread_of program),
      record { same = λ none. refl; sound = tt; clean = tt },
      subst (λ (rs : List StateRecord). AreLeft own 0 rs) (sym c.of-records.ensures) (all-left own program.fits),
      c.new-shown.ensures.shown log,
    )

pub invariant_of-visit : goal.invariant_of-visit
invariant_of-visit c =
    let own = c.args.self.now.given.space.thread.now in
    let least = c.views-test.true in
    let count = c.word_count-point-end.ensures.value in
    let left = c.views.invariant.2 in
    record {
      within = omega (arith, least, count);
      is = ap decoded (sym c.word.ensures) ∙ sym c.decode.ensures.value;
      valid = valid-instr c.word.result c.decode.result c.decode.ensures.some;
      listed = c.as_ref.ensures.value ∙ c.take-noted.ensures.record ∙ sym (next-record own c.views.point c.views.records left).0;
      next = is-next own c.views.point c.views.records c.take-noted.new.self c.is_next-is_next_noted.result left c.take-noted.ensures.left
          c.is_next-is_next_noted.ensures;
    }

pub reach-requires-clause-left : goal.reach-requires-clause-left
reach-requires-clause-left c = c.views.invariant.1

pub reach-requires-clause-shown : goal.reach-requires-clause-shown
reach-requires-clause-shown c = c.views.invariant.3

pub pass-requires : goal.pass-requires
pass-requires c =
    let reached = c.in_ok-reach.ensures.reached in
    record { sound = reached.kept.sound; shows = reached.shows; clean = reached.kept.clean }

pub views-preserved : goal.views-preserved
views-preserved c =
    let program = c.args.self.now in
    let own = program.given.space.thread.now in
    let left = c.views.invariant.2 in
    let log = c.reach.new.log in (
      views-next program.given.space.image.now (thread_of program) c.views.point c.views.views c.push.new.self c.view.result c.views.invariant.0
          c.view.ensures c.in_ok-push.ensures,
      left-next program.given.space.image.now (thread_of program) program.given.slots.now c.views.point c.is_next-is_next_noted.result log c.pass.new.log
          c.reach.new.kept c.pass.new.kept
          (is-next own c.views.point c.views.records c.take-noted.new.self c.is_next-is_next_noted.result left c.take-noted.ensures.left
          c.is_next-is_next_noted.ensures)
          c.in_ok-reach.ensures.reached.kept c.in_ok-pass.ensures.same c.in_ok-pass.ensures.sound c.in_ok-pass.ensures.clean,
      subst (λ (rs : List StateRecord). AreLeft own (c.views.point + 1) rs) (sym c.take-noted.ensures.left)
          (next-record own c.views.point c.views.records left).1,
      some-grown log c.pass.new.log c.reach.new.shown c.in_ok-pass.ensures.others c.in_ok-reach.ensures.shown,
    )
