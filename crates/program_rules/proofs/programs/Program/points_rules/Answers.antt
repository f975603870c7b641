-- One point after another.
use Rattle.std.proofs.Common.{ℕ, ◌≡◌, ◌∙◌, ◌+◌, Option, None, Ok, Err, List, refl, sym, ap, subst, arith}
use Rattle.std.specs.List.{range_with_len}
use Rattle.std.specs.Prelude.{flat_map}
use Rattle.model.specs.Acceptance.PointRules.{entry_rules, point_rules}
use Rattle.model.specs.Acceptance.PointStates.{noted}
use Rattle.model.specs.Acceptance.Rules.{first_broken}
use Rattle.model.specs.declared.refusals.Refusal.{Refusal}
use Rattle.model.specs.Images.Image.{StateRecord}
use Rattle.model.specs.Machine.Decoding.{decoded}
use Rattle.program_rules.proofs.EachPoint.{grown-at}
use Rattle.program_rules.proofs.FirstBroken.{kept-first, refused-first}
use Rattle.program_rules.proofs.NextRecords.{AreLeft, all-left, is-next, next-record}
use Rattle.program_rules.proofs.Outcomes.{passed-on}
use Rattle.program_rules.proofs.PointLists.{one-more-kept, program-first, refused-here}
use Rattle.program_rules.proofs.Spelled.{valid-instr}
use Rattle.program_rules.proofs.programs.Program.points_rules.Goals as goal
use Rattle.program_rules.specs.Programs.{thread_of}
use Rattle.wellformed.specs.Answering.{Answers}

pub rules-init : goal.rules-init
rules-init c =
    let own = c.args.self.now.given.space.thread.now in (
      c.requires,
      subst (λ (rs : List StateRecord). AreLeft own 0 rs) (sym c.of-records.ensures) (all-left own c.args.self.now.fits),
      refl,
      λ less. c.at-kept.ensures,
    )

pub point_rules-requires-clause-walked : goal.point_rules-requires-clause-walked
point_rules-requires-clause-walked c =
    let given = c.args.self.now.given in
    let walked = c.rules.invariant.0 in
    record {
      read = walked.read;
      along = c.turn_to.ensures given.space.image.now given.space.thread.now given.slots.now c.rules.points.log walked.along;
    }

pub at-kept-requires : goal.at-kept-requires
at-kept-requires c = let entry = c.args.self.now.entry in omega (arith, entry)

pub point_rules-requires-clause-kept : goal.point_rules-requires-clause-kept
point_rules-requires-clause-kept c =
    let least = c.rules-test.true in
    let count = c.word_count-point-end.ensures.value in
    c.rules.invariant.3 (omega (arith, least, count))

pub pass-requires : goal.pass-requires
pass-requires c =
    let least = c.rules-test.true in
    let count = c.word_count-point-end.ensures.value in
    grown-at c.args.self.now.given.space.image.now (thread_of c.args.self.now) c.args.self.now.given.slots.now c.rules.points.log
    c.point_rules.new.points.log c.rules.point
    c.rules.kept
    c.in_ok-point_rules.ensures.others (c.rules.invariant.3 (omega (arith, least, count)))

pub invariant_of-here : goal.invariant_of-here
invariant_of-here c =
    let least = c.rules-test.true in
    let count = c.word_count-point-end.ensures.value in
    record {
      within = omega (arith, least, count);
      is = ap decoded (sym c.word.ensures) ∙ sym c.decode-instr.ensures.value;
      valid = valid-instr c.word.result c.decode-instr.result c.decode-instr.ensures.some;
    }

pub invariant_of-visit : goal.invariant_of-visit
invariant_of-visit c =
    let own = c.args.self.now.given.space.thread.now in
    let least = c.rules-test.true in
    let count = c.word_count-point-end.ensures.value in
    record {
      within = omega (arith, least, count);
      is = ap decoded (sym c.word.ensures) ∙ sym c.decode-instr.ensures.value;
      valid = valid-instr c.word.result c.decode-instr.result c.decode-instr.ensures.some;
      listed = c.as_ref.ensures.value ∙ c.take-noted.ensures.record ∙ sym (next-record own c.rules.point c.rules.records c.rules.invariant.1).0;
      next = is-next own c.rules.point c.rules.records c.take-noted.new.self c.is_next-is_next_noted.result c.rules.invariant.1
          c.take-noted.ensures.left
          c.is_next-is_next_noted.ensures;
    }

pub returns-in_err-entry_rules : goal.returns-in_err-entry_rules
returns-in_err-entry_rules c =
    let image = c.args.self.now.given.space.image.now in
    let t = thread_of c.args.self.now in
    let entry = first_broken (entry_rules image t (noted image t t.thread.header.entry)) in
    let points = first_broken (flat_map (point_rules image t) (range_with_len 0 t.thread.header.words)) in
    let refusal = c.in_err-entry_rules.field-0.0 in
    passed-on _ c.from_residual.result refusal c.from_residual.ensures.1
    (subst (λ (x : Option Refusal). Answers x (Err refusal)) (sym (program-first image t)) (refused-first entry points refusal c.in_err-entry_rules.ensures))

pub returns-in_err-point_rules : goal.returns-in_err-point_rules
returns-in_err-point_rules c =
    let image = c.args.self.now.given.space.image.now in
    let t = thread_of c.args.self.now in
    let entry = first_broken (entry_rules image t (noted image t t.thread.header.entry)) in
    let points = first_broken (flat_map (point_rules image t) (range_with_len 0 t.thread.header.words)) in
    let refusal = c.in_err-point_rules.field-0.0 in
    passed-on _ c.from_residual-in_err-point_rules.result refusal c.from_residual-in_err-point_rules.ensures.1
    (subst (λ (x : Option Refusal). Answers x (Err refusal)) (sym (program-first image t))
    (kept-first entry points (Err refusal) c.in_ok-entry_rules.ensures
    (refused-here (point_rules image t) c.rules.point t.thread.header.words refusal c.rules.invariant.2
    (omega (arith, c.rules-test.true, c.word_count-point-end.ensures.value)) c.in_err-point_rules.ensures.broken)))

pub returns : goal.returns
returns c =
    let image = c.args.self.now.given.space.image.now in
    let t = thread_of c.args.self.now in
    let entry = first_broken (entry_rules image t (noted image t t.thread.header.entry)) in
    let points = first_broken (flat_map (point_rules image t) (range_with_len 0 t.thread.header.words)) in
    let last : c.rules.point ≡ t.thread.header.words = omega (arith, c.rules-test.false, c.word_count-point-end.ensures.value, c.rules.auto.point-end) in
    subst (λ (x : Option Refusal). Answers x (Ok tt)) (sym (program-first image t))
    (kept-first entry points (Ok tt) c.in_ok-entry_rules.ensures
    (subst (λ (n : ℕ). first_broken (flat_map (point_rules image t) (range_with_len 0 n)) ≡ None) last c.rules.invariant.2))

pub rules-preserved : goal.rules-preserved
rules-preserved c =
    let own = c.args.self.now.given.space.thread.now in (
      c.in_ok-point_rules.ensures.walked,
      subst (λ (rs : List StateRecord). AreLeft own (c.rules.point + 1) rs) (sym c.take-noted.ensures.left)
          (next-record own c.rules.point c.rules.records c.rules.invariant.1).1,
      one-more-kept (point_rules c.args.self.now.given.space.image.now (thread_of c.args.self.now)) c.rules.point c.rules.invariant.2
          c.in_ok-point_rules.ensures.broken,
      c.pass.ensures,
    )
