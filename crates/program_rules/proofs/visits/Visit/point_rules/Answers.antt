-- By what is kept of the point.
use Rattle.std.proofs.Common.{◌≡◌, ◌∙◌, inl, inr, Option, refl, sym, ap, subst}
use Rattle.model.specs.Acceptance.PointStates.{Known, Missing, Unmeasured, address_of, noted}
use Rattle.model.specs.declared.refusals.Refusal.{Refusal}
use Rattle.program_rules.proofs.OwnKept.{unseen-kept}
use Rattle.program_rules.proofs.PointLists.{noted-rules}
use Rattle.program_rules.proofs.ShownParts.{some-shown}
use Rattle.program_rules.proofs.Walked.{shown-along}
use Rattle.program_rules.proofs.visits.Visit.point_rules.Goals as goal
use Rattle.program_rules.specs.Kept.{IsCleanIn, IsKeptAt, IsSound, Kept, noted_by, state_by}
use Rattle.program_rules.specs.Programs.{thread_of}
use Rattle.typestate.specs.Logs.{part_of}
use Rattle.typestate.specs.Replays.{replayed}
use Rattle.wellformed.specs.Answering.{Answers}

pub state_rules-requires-clause-here : goal.state_rules-requires-clause-here
state_rules-requires-clause-here c =
    let p = c.args.self.now.program.now in
    record {
      read = c.requires.walked.read;
      kept = subst (IsKeptAt p.given.space.image.now (thread_of p) p.given.slots.now c.args.points.now.log c.args.self.now.point) c.in-Known.is
          c.requires.kept;
      shows = c.in_ok-show-in-Known.ensures;
    }

pub state_rules-requires-clause-along : goal.state_rules-requires-clause-along
state_rules-requires-clause-along c =
    let p = c.args.self.now.program.now in
    let log = c.args.points.now.log in
    shown-along p.given.space.image.now p.given.space.thread.now p.given.slots.now log c.args.walk.now c.show.new.shown
    (some-shown log c.in-Known.known.part c.show.new.shown c.in_ok-show-in-Known.ensures) c.requires.walked.along

pub returns-in_ok-show-in-Known-clause-broken : goal.returns-in_ok-show-in-Known-clause-broken
returns-in_ok-show-in-Known-clause-broken c =
    let image = c.args.self.now.program.now.given.space.image.now in
    let t = thread_of c.args.self.now.program.now in
    let is = c.requires.kept in
    let known : Known (state_by c.args.self.now.program.now.given.slots.now c.args.points.now.log c.in-Known.known) ≡ noted image t c.args.self.now.point =
    ap (noted_by c.args.self.now.program.now.given.slots.now c.args.points.now.log) (sym c.in-Known.is) ∙ is.same in
    subst (λ (x : Option Refusal). Answers x c.state_rules.result)
    (noted-rules image t c.args.self.now.point (Known (state_by c.args.self.now.program.now.given.slots.now c.args.points.now.log c.in-Known.known)) known)
    c.state_rules.ensures.broken

pub returns-in-Missing : goal.returns-in-Missing
returns-in-Missing c =
    let image = c.args.self.now.program.now.given.space.image.now in
    let t = thread_of c.args.self.now.program.now in
    let is = c.requires.kept in
    record {
      broken = elim c.in-Missing.is [
        | inl missing ↦ sym (noted-rules image t c.args.self.now.point Missing (ap (noted_by c.args.self.now.program.now.given.slots.now c.args.points.now.log)
            (sym missing) ∙ is.same))
        | inr unmeasured ↦ sym (noted-rules image t c.args.self.now.point Unmeasured
            (ap (noted_by c.args.self.now.program.now.given.slots.now c.args.points.now.log) (sym unmeasured) ∙ is.same))
      ];
      walked = c.requires.walked;
      others = λ part held. (held, refl);
    }

pub show-requires-clause-held : goal.show-requires-clause-held
show-requires-clause-held c =
    let is = c.requires.kept in
    (subst (λ (k : Kept). IsSound c.args.points.now.log c.args.self.now.point k) c.in-Known.is is.sound).0

pub returns-then-leaves_next-clause-broken : goal.returns-then-leaves_next-clause-broken
returns-then-leaves_next-clause-broken c =
    let v = c.args.self.now in
    let image = v.program.now.given.space.image.now in
    let t = thread_of v.program.now in
    let slots = v.program.now.given.slots.now in
    let is = c.requires.kept in
    let log = c.args.points.now.log in
    let known = c.in-Known.known in
    let s = state_by slots log known in
    let same : Known s ≡ noted image t v.point = ap (noted_by slots log) (sym c.in-Known.is) ∙ is.same in
    let clean = subst (λ (k : Kept). IsCleanIn image t.thread slots log k) c.in-Known.is is.clean in
    sym (noted-rules image t v.point (Known s) same)
    ∙ unseen-kept image t v.point s (λ i at plain. c.leaves_next.ensures.plain c.requires.walked.read s i c.if-leaves_next.true same at plain)
    (λ at. c.leaves_next.ensures.call c.requires.walked.read s c.if-leaves_next.true same at) v.instr v.is
    (c.keeps_own_unseen.ensures.own (replayed slots (part_of log known.part)) c.if-keeps_own_unseen.true clean)
    (λ i at. c.keeps_own_unseen.ensures.ways (address_of t.thread v.point) known.bounds i c.if-keeps_own_unseen.true at)
