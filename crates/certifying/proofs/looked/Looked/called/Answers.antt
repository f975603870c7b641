-- No slot is a stray one, and no record notes any; and a tidy call leaves none.
use Rattle.std.proofs.Common.{◌≡◌, ◌∙◌, ℕ, List, [], None, Ok, Result, pos, refl, sym, ap, subst, ◌==◌}
use Rattle.std.specs.List.{find}
use Rattle.model.specs.Acceptance.Measures.{Measure}
use Rattle.model.specs.Acceptance.NotedStates.{NotedSlot, record_of}
use Rattle.model.specs.Images.Image.{StateRecord, Thread}
use Rattle.model.specs.declared.refusals.Refusal.{Refusal}
use Rattle.typestate.specs.Calls.{known_with}
use Rattle.typestate.specs.Differences.{changed, slots_of}
use Rattle.typestate.specs.Replays.{replayed}
use Rattle.typestate.specs.declared.log_entries.LogEntry.{LogEntry}
use Rattle.typestate.specs.Strays.{IsTidyBehind, NoneStray}
use Rattle.typestate.specs.declared.behind.Behind.{Behind}
use Rattle.certifying.proofs.looked.Looked.called.Goals as goal

-- any measure does
abbrev nothing : Measure
nothing = record { constant = pos 0; terms = [] }

bare-point : (t : Thread) (point : ℕ) → t.records ≡ [] → record_of t point ≡ None
bare-point t point bare = ap (λ (rs : List StateRecord). find (λ (r : StateRecord). r.header.point == point) rs) bare

pub invariant_of-own : goal.invariant_of-own
invariant_of-own c =
    let thread = c.self.inside.thread in
    let given = thread.given in
    let state = known_with c.args.bounds.now (slots_of c.slots-slots.result) nothing in
    let none = sym (c.has_stray_slots.ensures c.args.at.point state refl (bare-point given.space.thread.now c.args.at.point thread.bare))
    ∙ c.if-has_stray_slots.false in
    record {
      inside = c.no_stray_slot_leads_outside.ensures given.space.image.now given.space.thread.now c.args.at.point state none;
      own = c.slots_are_own.ensures c.args.at.point state refl none;
    }

pub invariant_of-self-2 : goal.invariant_of-self-2
invariant_of-self-2 c =
    let thread = c.self.inside.thread in
    let given = thread.given in
    let image = given.space.image.now in
    let own = given.space.thread.now in
    let here = slots_of c.slots-slots.result in
    let state = known_with c.args.bounds.now here nothing in
    let none = sym (c.has_stray_slots.ensures c.args.at.point state refl (bare-point own c.args.at.point thread.bare)) ∙ c.if-has_stray_slots.false in
    let made = c.after_call.new.made.items in
    let tidy : IsTidyBehind image own here made (Ok c.in-Ok.behind) =
    subst (λ (r : Result Behind Refusal). IsTidyBehind image own here made r) c.in-Ok.is c.in_ok-behind.ensures.tidy in
    let same : changed given.slots.now c.followed.new.shown.changes ≡ replayed here made =
    c.in_ok-self-inside.ensures.same given.slots.now given.sorted given.unlinked
    ∙ ap (λ (l : List LogEntry). replayed (changed given.slots.now c.self.inside.shown.changes) l) c.deref.ensures.value
    ∙ ap (λ (l : List NotedSlot). replayed l made) (sym c.slots-slots.ensures.slots) in
    record {
      shows = λ _. c.in_ok-self-inside.ensures.shows;
      none_stray = λ is. subst (λ (all : List NotedSlot). NoneStray image own all) (sym same)
          (tidy is (c.points_without_stray_slots_have_none.ensures image own c.args.at.point state none));
    }
