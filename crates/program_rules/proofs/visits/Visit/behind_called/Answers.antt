-- By what the rule on calls says.
use Rattle.std.proofs.Common.{◌∙◌, ◌+◌, ◌^◌, negsuc, [], List, sym, ap, subst}
use Rattle.measure.specs.Measures.{measure_of}
use Rattle.model.specs.Acceptance.NotedStates.{NotedSlot}
use Rattle.model.specs.Acceptance.PointStates.{behind_call, follows_call}
use Rattle.program_rules.proofs.Called.{call-any, clean-made}
use Rattle.program_rules.proofs.Followed.{IsAtLeast, call-least, kept-clean, kept-same, kept-sound}
use Rattle.program_rules.proofs.visits.Visit.behind_called.Goals as goal
use Rattle.program_rules.specs.Kept.{IsCleanIn, IsSound, call_of, noted_by}
use Rattle.program_rules.specs.Programs.{thread_of}
use Rattle.typestate.specs.Calls.{behind_with}
use Rattle.typestate.specs.Differences.{slots_of}
use Rattle.typestate.specs.Logs.{part_of}
use Rattle.typestate.specs.Strays.{NoneStray}
use Rattle.typestate.specs.Replays.{replayed}

pub invariant_of-here : goal.invariant_of-here
invariant_of-here c = record {
  image = c.slots-slots.ensures.image;
  clean = λ is.
      subst (λ (all : List NotedSlot). NoneStray c.args.self.now.program.now.given.space.image.now c.args.self.now.program.now.given.space.thread.now all)
      (sym (c.slots-slots.ensures.slots ∙ c.requires.shows.same c.args.self.now.program.now.given.slots.now c.args.self.now.program.now.given.sorted
      c.args.self.now.program.now.given.unlinked))
      (c.requires.clean is);
}

pub returns-in_ok-part-in-Leaves-clause-same : goal.returns-in_ok-part-in-Leaves-clause-same
returns-in_ok-part-in-Leaves-clause-same c =
    let own = c.args.self.now.program.now.given.space.thread.now in
    let slots = c.args.self.now.program.now.given.slots.now in
    let m = measure_of c.args.known.now.measure in
    let part = part_of c.args.log.now c.args.known.now.part in
    let b = c.in-Leaves.behind in
    let log = c.follow.new.self in
    let left = c.follows_call-left.result in
    ap (noted_by slots log) c.keep.ensures ∙ kept-same slots log left c.in_ok-part-in-Leaves.part b.is_tidy
    ∙ c.follows_call-left.ensures own (replayed slots (part_of log c.in_ok-part-in-Leaves.part)) (sym (ap (λ h. h.budget) c.header-budget.ensures))
    ∙ ap (λ (all : List NotedSlot). behind_call own m (behind_with all b))
    (c.in_ok-part-in-Leaves.ensures.same slots c.args.self.now.program.now.given.sorted ∙ ap (replayed (replayed slots part)) c.deref.ensures.value)
    ∙ ap (follows_call own m) (sym (call-any c.args.self.now.program.now.given.space.image.now (thread_of c.args.self.now.program.now) c.args.self.now.point
    c.args.known.now.bounds m (slots_of c.slots-slots.result) (replayed slots part) c.in_ok-called.field-0
    (c.slots-slots.ensures.slots ∙ c.requires.shows.same slots c.args.self.now.program.now.given.sorted c.args.self.now.program.now.given.unlinked)
    (c.in_ok-called.ensures.left m)
    ∙ ap (call_of (replayed slots part)) c.in-Leaves.is))

pub returns-in_ok-part-in-Leaves-clause-sound : goal.returns-in_ok-part-in-Leaves-clause-sound
returns-in_ok-part-in-Leaves-clause-sound c =
    let own = c.args.self.now.program.now.given.space.thread.now in
    let point = c.args.self.now.point in
    let log = c.follow.new.self in
    let b = c.in-Leaves.behind in
    subst (IsSound log (point + 1)) (sym c.keep.ensures)
    (kept-sound [] log (point + 1) c.follows_call-left.result c.in_ok-part-in-Leaves.part b.is_tidy c.in_ok-part-in-Leaves.ensures.held
    (subst (IsAtLeast (negsuc (2 ^ 62 + (point + 1)))) (sym (c.follows_call-left.ensures own [] (sym (ap (λ h. h.budget) c.header-budget.ensures))))
    (call-least own (measure_of c.args.known.now.measure) (behind_with [] b) point c.requires.sound.1)))

pub returns-in_ok-part-in-Leaves-clause-clean : goal.returns-in_ok-part-in-Leaves-clause-clean
returns-in_ok-part-in-Leaves-clause-clean c =
    let image = c.args.self.now.program.now.given.space.image.now in
    let t = thread_of c.args.self.now.program.now in
    let slots = c.args.self.now.program.now.given.slots.now in
    let old = c.args.log.now in
    let part = part_of old c.args.known.now.part in
    let log = c.follow.new.self in
    subst (IsCleanIn image t.thread slots log) (sym c.keep.ensures)
    (kept-clean image t.thread slots log c.follows_call-left.result c.in_ok-part-in-Leaves.part c.in-Leaves.behind.is_tidy
    (clean-made image t.thread (slots_of c.slots-slots.result) (replayed slots part) c.in_ok-called.field-0 c.in-Leaves.behind c.in-Leaves.made
    (replayed slots (part_of log c.in_ok-part-in-Leaves.part))
    (c.slots-slots.ensures.slots ∙ c.requires.shows.same slots c.args.self.now.program.now.given.sorted c.args.self.now.program.now.given.unlinked)
    c.in-Leaves.is c.in_ok-called.ensures.clean
    (c.in_ok-part-in-Leaves.ensures.same slots c.args.self.now.program.now.given.sorted ∙ ap (replayed (replayed slots part)) c.deref.ensures.value)))

pub returns-in-Stray-clause-same : goal.returns-in-Stray-clause-same
returns-in-Stray-clause-same c =
    let own = c.args.self.now.program.now.given.space.thread.now in
    let slots = c.args.self.now.program.now.given.slots.now in
    let m = measure_of c.args.known.now.measure in
    let all = replayed slots (part_of c.args.log.now c.args.known.now.part) in
    ap (follows_call own m) (sym (call-any c.args.self.now.program.now.given.space.image.now (thread_of c.args.self.now.program.now) c.args.self.now.point
    c.args.known.now.bounds m (slots_of c.slots-slots.result) all c.in_ok-called.field-0
    (c.slots-slots.ensures.slots ∙ c.requires.shows.same slots c.args.self.now.program.now.given.sorted c.args.self.now.program.now.given.unlinked)
    (c.in_ok-called.ensures.left m)
    ∙ ap (call_of all) c.in-Stray.is))

pub returns-in-Refused-clause-same : goal.returns-in-Refused-clause-same
returns-in-Refused-clause-same c =
    let own = c.args.self.now.program.now.given.space.thread.now in
    let slots = c.args.self.now.program.now.given.slots.now in
    let m = measure_of c.args.known.now.measure in
    let all = replayed slots (part_of c.args.log.now c.args.known.now.part) in
    ap (follows_call own m) (sym (call-any c.args.self.now.program.now.given.space.image.now (thread_of c.args.self.now.program.now) c.args.self.now.point
    c.args.known.now.bounds m (slots_of c.slots-slots.result) all c.in_ok-called.field-0
    (c.slots-slots.ensures.slots ∙ c.requires.shows.same slots c.args.self.now.program.now.given.sorted c.args.self.now.program.now.given.unlinked)
    (c.in_ok-called.ensures.left m)
    ∙ ap (call_of all) c.in-Refused.is))
