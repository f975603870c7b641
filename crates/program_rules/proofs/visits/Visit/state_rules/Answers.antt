-- The first broken rule is one of its own, or else one on its call and its ways.
use Rattle.std.proofs.Common.{rules, ◌≡◌, ◌≢◌, ◌∙◌, inr, Option, Some, List, sym, ap, subst}
use Rattle.std.specs.Option.{option_or}
use Rattle.measure.specs.Measures.{measure_of}
use Rattle.model.specs.Acceptance.NotedStates.{NotedSlot}
use Rattle.model.specs.Acceptance.Rules.{first_broken}
use Rattle.model.specs.declared.instructions.Instr.TheVariants.{Ecall}
use Rattle.model.specs.declared.refusals.Refusal.{Refusal}
use Rattle.program_rules.proofs.MappedSoFar.{at-part}
use Rattle.program_rules.proofs.Outcomes.{passed-on}
use Rattle.program_rules.proofs.PointLists.{illegal-breaks, later-answers, plain-later, state-first}
use Rattle.program_rules.proofs.Walked.{along-found, walked-call, walked-ways}
use Rattle.program_rules.proofs.visits.Visit.state_rules.Goals as goal
use Rattle.program_rules.specs.FoundPages.{AreMapped}
use Rattle.program_rules.specs.Kept.{state_by}
use Rattle.program_rules.specs.PointChecks.{later_rules, own_rules}
use Rattle.program_rules.specs.Programs.{thread_of}
use Rattle.typestate.specs.Calls.{known_with}
use Rattle.typestate.specs.Differences.{slots_of}
use Rattle.typestate.specs.Strays.{NoneStray}
use Rattle.wellformed.specs.Answering.{Answers}

pub invariant_of-here : goal.invariant_of-here
invariant_of-here c = record {
  image = c.slots-slots.ensures.image;
  clean = λ is.
      subst (λ (all : List NotedSlot). NoneStray c.args.self.now.program.now.given.space.image.now c.args.self.now.program.now.given.space.thread.now all)
      (sym (c.slots-slots.ensures.slots ∙ c.requires.here.shows.same c.args.self.now.program.now.given.slots.now c.args.self.now.program.now.given.sorted
      c.args.self.now.program.now.given.unlinked))
      (c.requires.here.kept.clean is);
}

pub returns-in_err-own_rules-clause-broken : goal.returns-in_err-own_rules-clause-broken
returns-in_err-own_rules-clause-broken c =
    let image = c.args.self.now.program.now.given.space.image.now in
    let t = thread_of c.args.self.now.program.now in
    let s = state_by c.args.self.now.program.now.given.slots.now c.args.points.now.log c.args.known.now in
    let instr = c.args.self.now.instr in
    let refusal = c.in_err-own_rules.field-0.0 in
    let own : Some refusal ≡ first_broken (own_rules image t c.args.self.now.point s instr) =
    c.in_err-own_rules.ensures.broken
    ∙ ap (λ (all : List NotedSlot).
    first_broken (own_rules image t c.args.self.now.point (known_with c.args.known.now.bounds all (measure_of c.args.known.now.measure)) instr))
    (c.slots-slots.ensures.slots ∙ c.requires.here.shows.same c.args.self.now.program.now.given.slots.now c.args.self.now.program.now.given.sorted
    c.args.self.now.program.now.given.unlinked) in
    passed-on _ c.from_residual.result refusal c.from_residual.ensures.1
    (inr (state-first image t c.args.self.now.point s instr c.args.self.now.is
    ∙ ap (λ (o : Option Refusal). option_or o (first_broken (later_rules image t c.args.self.now.point s instr))) (sym own)))

pub returns-in-Some-Ecall-clause-broken : goal.returns-in-Some-Ecall-clause-broken
returns-in-Some-Ecall-clause-broken c =
    let bounds = c.args.known.now.bounds in
    let m = measure_of c.args.known.now.measure in
    let call : c.args.self.now.instr ≡ Some Ecall = search rules in
    later-answers c.args.self.now.program.now.given.space.image.now (thread_of c.args.self.now.program.now) c.args.self.now.point (known_with bounds (slots_of
    c.slots-slots.result) m)
    (state_by c.args.self.now.program.now.given.slots.now c.args.points.now.log c.args.known.now) c.args.self.now.instr (Some Ecall) c.call_rules.result
    c.args.self.now.is call
    (ap (λ (all : List NotedSlot). known_with bounds all m) (c.slots-slots.ensures.slots
    ∙ c.requires.here.shows.same c.args.self.now.program.now.given.slots.now c.args.self.now.program.now.given.sorted
    c.args.self.now.program.now.given.unlinked))
    c.in_ok-own_rules.ensures.broken (c.call_rules.ensures.broken (c.args.self.now.is ∙ call))

pub returns-in-None-clause-broken : goal.returns-in-None-clause-broken
returns-in-None-clause-broken c =
    absurd (illegal-breaks c.args.self.now.program.now.given.space.image.now (thread_of c.args.self.now.program.now) c.args.self.now.point
    (known_with c.args.known.now.bounds (slots_of c.slots-slots.result) (measure_of c.args.known.now.measure)) c.args.self.now.instr c.in-None.is
    c.in_ok-own_rules.ensures.broken)

pub returns-in-Some-clause-broken : goal.returns-in-Some-clause-broken
returns-in-Some-clause-broken c =
    let image = c.args.self.now.program.now.given.space.image.now in
    let t = thread_of c.args.self.now.program.now in
    let s = state_by c.args.self.now.program.now.given.slots.now c.args.points.now.log c.args.known.now in
    let bounds = c.args.known.now.bounds in
    let m = measure_of c.args.known.now.measure in
    let is-plain : c.in-Some.instr ≢ Ecall = search rules in
    later-answers image t c.args.self.now.point (known_with bounds (slots_of c.slots-slots.result) m) s c.args.self.now.instr (Some c.in-Some.instr)
    c.ways_rules.result
    c.args.self.now.is c.in-Some.is
    (ap (λ (all : List NotedSlot). known_with bounds all m) (c.slots-slots.ensures.slots
    ∙ c.requires.here.shows.same c.args.self.now.program.now.given.slots.now c.args.self.now.program.now.given.sorted
    c.args.self.now.program.now.given.unlinked))
    c.in_ok-own_rules.ensures.broken
    (subst (λ (broken : Option Refusal). Answers broken c.ways_rules.result) (sym (plain-later image t c.args.self.now.point s c.in-Some.instr is-plain))
    c.ways_rules.ensures.answers)

pub own_rules-requires : goal.own_rules-requires
own_rules-requires c =
    let image = c.args.self.now.program.now.given.space.image.now in
    let own = c.args.self.now.program.now.given.space.thread.now in
    let slots = c.args.self.now.program.now.given.slots.now in
    let log = c.args.points.now.log in
    let found = c.go_on.new.self in
    subst (λ (all : List NotedSlot). AreMapped image own all found)
    (sym (c.slots-slots.ensures.slots ∙ c.requires.here.shows.same slots c.args.self.now.program.now.given.sorted c.args.self.now.program.now.given.unlinked))
    (at-part image own slots log c.args.known.now.part found c.go_on.ensures.part
    (c.go_on.ensures.found image own slots log c.requires.here.shows.held c.requires.along.found))

pub returns-in-None-clause-walked : goal.returns-in-None-clause-walked
returns-in-None-clause-walked c =
    let p = c.args.self.now.program.now in
    let along = along-found p.given.space.image.now p.given.space.thread.now p.given.slots.now c.args.points.now.log c.args.known.now.part
    (slots_of c.slots-slots.result) c.args.walk.now c.own_rules.new.found c.requires.here.shows.held
    (c.slots-slots.ensures.slots ∙ c.requires.here.shows.same p.given.slots.now p.given.sorted p.given.unlinked)
    (c.in_ok-own_rules.ensures.part ∙ c.go_on.ensures.part) c.in_ok-own_rules.ensures.found c.requires.along in
    record {
      read = c.requires.here.read;
      along = along;
    }

pub returns-in-Some-clause-walked : goal.returns-in-Some-clause-walked
returns-in-Some-clause-walked c =
    let p = c.args.self.now.program.now in
    let along = along-found p.given.space.image.now p.given.space.thread.now p.given.slots.now c.args.points.now.log c.args.known.now.part
    (slots_of c.slots-slots.result) c.args.walk.now c.own_rules.new.found c.requires.here.shows.held
    (c.slots-slots.ensures.slots ∙ c.requires.here.shows.same p.given.slots.now p.given.sorted p.given.unlinked)
    (c.in_ok-own_rules.ensures.part ∙ c.go_on.ensures.part) c.in_ok-own_rules.ensures.found c.requires.along in
    walked-ways p.given.space.image.now (thread_of p) p.given.slots.now c.args.points.now.log c.args.points.now.kept
    (record c.args.walk.now { found = c.own_rules.new.found }) c.ways_rules.new.roots c.ways_rules.result c.ways_rules.ensures.rooted c.requires.here.read along

pub returns-in-Some-Ecall-clause-walked : goal.returns-in-Some-Ecall-clause-walked
returns-in-Some-Ecall-clause-walked c =
    let p = c.args.self.now.program.now in
    let along = along-found p.given.space.image.now p.given.space.thread.now p.given.slots.now c.args.points.now.log c.args.known.now.part
    (slots_of c.slots-slots.result) c.args.walk.now c.own_rules.new.found c.requires.here.shows.held
    (c.slots-slots.ensures.slots ∙ c.requires.here.shows.same p.given.slots.now p.given.sorted p.given.unlinked)
    (c.in_ok-own_rules.ensures.part ∙ c.go_on.ensures.part) c.in_ok-own_rules.ensures.found c.requires.along in
    walked-call p.given.space.image.now (thread_of p) p.given.slots.now c.args.points.now.log c.call_rules.new.points.log c.call_rules.new.points.kept
    (record c.args.walk.now { found = c.own_rules.new.found }) c.call_rules.new.shown c.call_rules.result c.call_rules.ensures.others
    c.call_rules.ensures.shown c.call_rules.ensures.read along

pub invariant_of-plain : goal.invariant_of-plain
invariant_of-plain c =
    record {
      read = c.requires.here.read;
      shows = c.requires.here.shows;
      kept = c.requires.here.kept.same;
      valid = c.args.self.now.valid c.in-Some.instr c.in-Some.is;
      is = c.args.self.now.is ∙ c.in-Some.is;
      plain = search rules;
    }
