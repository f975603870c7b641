-- By the slot that is named.
use Rattle.model.specs.Acceptance.NotedKernel.{noted_slots}
use Rattle.model.specs.Kernel.Arguments.{argument_slot}
use Rattle.typestate.specs.Differences.{slots_of}
use Rattle.typestate.proofs.GivenFacts.{apart-of}
use Rattle.typestate.proofs.Inside.{named-err, named-ok}
use Rattle.typestate.proofs.Rising.{changes-rise, from-first}
use Rattle.typestate.proofs.RemoveRules.{revoke-goes, revoke-refused}
use Rattle.typestate.proofs.roots.OwnRoot.revoke.Goals as goal

pub returns-in-Err : goal.returns-in-Err
returns-in-Err c =
    let image = c.args.self.now.own.space.image.now in
    let t = c.args.self.now.own.space.thread.now in
    let slots = slots_of c.args.self.now.own.slots in
    let all = noted_slots image t slots in
    revoke-refused image t c.args.at slots c.args.self.now.root c.args.name c.in-Err.error
    (named-err image t all (argument_slot all c.args.self.now.root c.args.name) c.in-Err.error c.in-Err.ensures.value)

pub returns : goal.returns
returns c =
    let image = c.args.self.now.own.space.image.now in
    let t = c.args.self.now.own.space.thread.now in
    let slots = slots_of c.args.self.now.own.slots in
    let all = noted_slots image t slots in
    let rises = changes-rise c.args.self.now.own.slots.image.now c.args.self.now.own.slots.changes.now
    (from-first c.args.self.now.own.slots.image.now c.args.self.now.own.slots.rising) in
    let x = named-ok image t all (argument_slot all c.args.self.now.root c.args.name) c.in-Ok.found.0 c.in-Ok.found.1 c.in-Ok.ensures.value in
    revoke-goes image t c.args.at slots c.args.self.now.root c.args.name (apart-of c.args.self.now.own.space) c.args.self.now.own.own c.args.self.now.own.inside
    rises x.0 c.in-Ok.found.0 c.in-Ok.found.1 x.1 x.2 x.3
