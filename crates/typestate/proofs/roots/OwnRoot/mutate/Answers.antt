-- By the ends alone.
use Rattle.std.proofs.Common.{Ok, Err, subst}
use Rattle.model.specs.Acceptance.NotedKernel.{noted_root, noted_slots}
use Rattle.model.specs.declared.capabilities.Cap.{Cap}
use Rattle.typestate.specs.CNodeCalls.{NamesEnds, ends_of}
use Rattle.typestate.specs.Differences.{slots_of}
use Rattle.typestate.proofs.CopyCalls.{ends-err, ends-ok}
use Rattle.typestate.proofs.MoveRules.{mutate-never, mutate-refused}
use Rattle.typestate.proofs.roots.OwnRoot.mutate.Goals as goal

pub returns-in-Ok : goal.returns-in-Ok
returns-in-Ok c = λ payload.
    let image = c.args.self.now.own.space.image.now in
    let t = c.args.self.now.own.space.thread.now in
    let slots = slots_of c.args.self.now.own.slots in
    let all = noted_slots image t slots in
    let named = subst (λ (root : Cap). NamesEnds image t all root c.args.source (ends_of all c.args.self.now.root root c.args.destination c.args.source)
    (Ok c.in-Ok.field-0)) c.args.self.now.own.space.rooted c.in-Ok.ensures.value in
    let at = ends-ok image t all (noted_root image t) c.args.source (ends_of all c.args.self.now.root (noted_root image t) c.args.destination c.args.source)
    c.in-Ok.field-0 named in
    mutate-never image t c.args.at slots c.args.self.now.root c.args.destination c.args.source payload at.0 at.1 at.2

pub returns-in-Err : goal.returns-in-Err
returns-in-Err c = λ payload.
    let image = c.args.self.now.own.space.image.now in
    let t = c.args.self.now.own.space.thread.now in
    let slots = slots_of c.args.self.now.own.slots in
    let all = noted_slots image t slots in
    let named = subst (λ (root : Cap). NamesEnds image t all root c.args.source (ends_of all c.args.self.now.root root c.args.destination c.args.source)
    (Err c.in-Err.error)) c.args.self.now.own.space.rooted c.in-Err.ensures.value in
    mutate-refused image t c.args.at slots c.args.self.now.root c.args.destination c.args.source payload c.in-Err.error
    (ends-err image t all (noted_root image t) c.args.source (ends_of all c.args.self.now.root (noted_root image t) c.args.destination c.args.source)
    c.in-Err.error named)
