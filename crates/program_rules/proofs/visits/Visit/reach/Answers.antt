-- A point has the state of its record, or what the point before leaves.
use Rattle.std.proofs.Common.{◌∙◌, ◌≡◌, Option, List, sym, ap, subst}
use Rattle.model.specs.Acceptance.NotedStates.{NotedSlot, image_slots, record_of}
use Rattle.model.specs.Acceptance.PointStates.{noted, noted_or}
use Rattle.model.specs.Images.Image.{StateRecord}
use Rattle.program_rules.proofs.EachPoint.{has-part, noted-is, noted-or-same}
use Rattle.program_rules.proofs.ShownParts.{some-grown}
use Rattle.program_rules.proofs.visits.Visit.reach.Goals as goal
use Rattle.program_rules.specs.Kept.{before as states_before, noted_by}
use Rattle.program_rules.specs.Programs.{thread_of}
use Rattle.typestate.specs.Orders.{Rise}

pub look-requires : goal.look-requires
look-requires c = record {
  sound = c.in_ok-note_own.ensures.sound c.args.self.now.point c.requires.left.sound;
  shows = c.in_ok-show.ensures.own;
  clean = c.in_ok-note_own.ensures.clean c.args.self.now.program.now.given.space.image.now c.args.self.now.program.now.given.space.thread.now
      c.args.self.now.program.now.given.slots.now c.requires.left.clean;
}

pub show-requires-clause-held : goal.show-requires-clause-held
show-requires-clause-held c = has-part c.note_own.new.log c.args.self.now.point c.note_own.new.derived
    (c.in_ok-note_own.ensures.sound c.args.self.now.point c.requires.left.sound)

pub show-requires-clause-old : goal.show-requires-clause-old
show-requires-clause-old c = some-grown c.args.log.now c.note_own.new.log c.args.shown.now c.in_ok-note_own.ensures.others c.requires.shown

pub returns-clause-reached : goal.returns-clause-reached
returns-clause-reached c =
    let program = c.args.self.now.program.now in
    let image = program.given.space.image.now in
    let t = thread_of program in
    let own = program.given.space.thread.now in
    let slots = program.given.slots.now in
    let point = c.args.self.now.point in
    let old = c.args.log.now in
    let log = c.note_own.new.log in
    let found = c.note_own.new.derived in
    let same : noted_by slots log c.look.new.kept ≡ noted image t point =
    c.look.ensures.same
    ∙ ap (λ (all : List NotedSlot). noted_by all log found) program.given.listed
    ∙ c.in_ok-note_own.ensures.same image own (subst Rise program.given.listed program.given.sorted)
    ∙ ap (λ (r : Option StateRecord). noted_or image own r (noted_by (image_slots image own) old c.args.kept.now)) c.args.self.now.listed
    ∙ ap (λ (all : List NotedSlot). noted_or image own (record_of own point) (noted_by all old c.args.kept.now)) (sym program.given.listed)
    ∙ noted-or-same image own (record_of own point) (noted_by slots old c.args.kept.now) (states_before image t point) c.requires.left.same
    ∙ sym (noted-is image t point) in
    record {
      kept = record { same = same; sound = c.look.ensures.sound; clean = c.look.ensures.clean };
      shows = c.look.ensures.shown;
    }
