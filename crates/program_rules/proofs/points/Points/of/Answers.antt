-- One point after another.
use Rattle.std.proofs.Common.{◌∙◌, ◌+◌, List, refl, sym, ap, subst, arith}
use Rattle.model.specs.Images.Image.{StateRecord}
use Rattle.model.specs.Machine.Decoding.{decoded}
use Rattle.program_rules.proofs.NextRecords.{AreLeft, all-left, is-next, next-record}
use Rattle.program_rules.proofs.Spelled.{valid-instr}
use Rattle.program_rules.proofs.points.Points.of.Goals as goal
use Rattle.program_rules.specs.Programs.{thread_of}

pub notes-init : goal.notes-init
notes-init c =
    let image = c.args.program.now.given.space.image.now in
    let t = thread_of c.args.program.now in
    let own = c.args.program.now.given.space.thread.now in
    let log = c.new-2.result in (
      record {
        count = c.new.ensures.count;
        noted = c.new.ensures.kept image t c.args.program.now.given.slots.now log;
        last = λ last follows. absurd (omega (arith, follows));
        left = record { same = λ none. refl; sound = tt; clean = tt };
      },
      subst (λ (rs : List StateRecord). AreLeft own 0 rs) (sym c.of-records.ensures) (all-left own c.args.program.now.fits),
      c.new-shown.ensures.shown log,
    )

pub invariant_of-visit : goal.invariant_of-visit
invariant_of-visit c =
    let own = c.args.program.now.given.space.thread.now in
    let least = c.notes-test.true in
    let count = c.word_count-point-end.ensures.value in
    record {
      within = omega (arith, least, count);
      is = ap decoded (sym c.word.ensures) ∙ sym c.decode.ensures.value;
      valid = valid-instr c.word.result c.decode.result c.decode.ensures.some;
      listed = c.as_ref.ensures.value ∙ c.take-noted.ensures.record ∙ sym (next-record own c.notes.point c.notes.records c.notes.invariant.1).0;
      next = is-next own c.notes.point c.notes.records c.take-noted.new.self c.is_next-is_next_noted.result c.notes.invariant.1
          c.take-noted.ensures.left
          c.is_next-is_next_noted.ensures;
    }

pub notes-preserved : goal.notes-preserved
notes-preserved c =
    let own = c.args.program.now.given.space.thread.now in (
      c.in_ok-note.ensures.read,
      subst (λ (rs : List StateRecord). AreLeft own (c.notes.point + 1) rs) (sym c.take-noted.ensures.left)
          (next-record own c.notes.point c.notes.records c.notes.invariant.1).1,
      c.in_ok-note.ensures.shown,
    )
