-- By the ends, and then by what they hold.
use Rattle.std.proofs.Common.{◌∙◌, Option, Result, Ok, Err, List, ap, subst, sym}
use Rattle.model.specs.Acceptance.NotedStates.{NotedSlot, SlotKey}
use Rattle.model.specs.declared.refusals.Refusal.{Refusal}
use Rattle.typestate.specs.SlotChanges.{moved}
use Rattle.model.specs.Acceptance.NotedKernel.{noted_root, noted_slots}
use Rattle.model.specs.declared.capabilities.Cap.{Cap}
use Rattle.typestate.specs.CNodeCalls.{NamesEnds, ends_of}
use Rattle.typestate.specs.Differences.{slots_of}
use Rattle.typestate.proofs.GivenFacts.{apart-of}
use Rattle.typestate.proofs.CopyCalls.{ends-err, ends-ok}
use Rattle.typestate.proofs.MoveRules.{move-goes, move-pool, move-refused, move-stays}
use Rattle.typestate.proofs.Rising.{changes-rise, from-first}
use Rattle.typestate.proofs.roots.OwnRoot.moves.Goals as goal

pub returns-in-Err : goal.returns-in-Err
returns-in-Err c =
    let image = c.args.self.now.own.space.image.now in
    let t = c.args.self.now.own.space.thread.now in
    let slots = slots_of c.args.self.now.own.slots in
    let all = noted_slots image t slots in
    let named = subst (λ (root : Cap). NamesEnds image t all root c.args.source (ends_of all c.args.self.now.root root c.args.destination c.args.source)
    (Err c.in-Err.error)) c.args.self.now.own.space.rooted c.in-Err.ensures.value in
    move-refused image t c.args.at slots c.args.self.now.root c.args.destination c.args.source c.in-Err.error
    (ends-err image t all (noted_root image t) c.args.source (ends_of all c.args.self.now.root (noted_root image t) c.args.destination c.args.source)
    c.in-Err.error named)

pub returns-then-is_pool : goal.returns-then-is_pool
returns-then-is_pool c =
    let image = c.args.self.now.own.space.image.now in
    let t = c.args.self.now.own.space.thread.now in
    let slots = slots_of c.args.self.now.own.slots in
    let all = noted_slots image t slots in
    let named = subst (λ (root : Cap). NamesEnds image t all root c.args.source (ends_of all c.args.self.now.root root c.args.destination c.args.source)
    (Ok c.in-Ok.ends)) c.args.self.now.own.space.rooted c.in-Ok.ensures.value in
    let at = ends-ok image t all (noted_root image t) c.args.source (ends_of all c.args.self.now.root (noted_root image t) c.args.destination c.args.source)
    c.in-Ok.ends named in
    move-pool image t c.args.at slots c.args.self.now.root c.args.destination c.args.source at.0 at.1 c.in-Ok.ends at.2 at.3 (sym c.if-is_pool.ensures)

pub returns-then-not-may_travel : goal.returns-then-not-may_travel
returns-then-not-may_travel c =
    let image = c.args.self.now.own.space.image.now in
    let t = c.args.self.now.own.space.thread.now in
    let slots = slots_of c.args.self.now.own.slots in
    let all = noted_slots image t slots in
    let named = subst (λ (root : Cap). NamesEnds image t all root c.args.source (ends_of all c.args.self.now.root root c.args.destination c.args.source)
    (Ok c.in-Ok.ends)) c.args.self.now.own.space.rooted c.in-Ok.ensures.value in
    let at = ends-ok image t all (noted_root image t) c.args.source (ends_of all c.args.self.now.root (noted_root image t) c.args.destination c.args.source)
    c.in-Ok.ends named in
    move-stays image t c.args.at slots c.args.self.now.root c.args.destination c.args.source at.0 at.1 c.in-Ok.ends at.2 at.3 (sym c.if-is_pool.ensures)
    (sym c.if-not-may_travel.ensures)

pub returns : goal.returns
returns c =
    let image = c.args.self.now.own.space.image.now in
    let t = c.args.self.now.own.space.thread.now in
    let slots = slots_of c.args.self.now.own.slots in
    let all = noted_slots image t slots in
    let named = subst (λ (root : Cap). NamesEnds image t all root c.args.source (ends_of all c.args.self.now.root root c.args.destination c.args.source)
    (Ok c.in-Ok.ends)) c.args.self.now.own.space.rooted c.in-Ok.ensures.value in
    let at = ends-ok image t all (noted_root image t) c.args.source (ends_of all c.args.self.now.root (noted_root image t) c.args.destination c.args.source)
    c.in-Ok.ends named in
    let rises = changes-rise c.args.self.now.own.slots.image.now c.args.self.now.own.slots.changes.now
    (from-first c.args.self.now.own.slots.image.now c.args.self.now.own.slots.rising) in
    move-goes image t c.args.at slots c.args.self.now.root c.args.destination c.args.source at.0 at.1 c.in-Ok.ends at.2 at.3
    (apart-of c.args.self.now.own.space) c.args.self.now.own.own rises (sym c.if-is_pool.ensures) (sym c.if-not-may_travel.ensures)
    ∙ ap (λ (p : Option SlotKey). let r : Result (List NotedSlot) Refusal =
    Ok (moved slots c.in-Ok.ends.from (record { key = c.in-Ok.ends.to; capability = c.in-Ok.ends.held; parent = p })) in r)
    (sym c.parent.ensures)
