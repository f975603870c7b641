-- By the slot that is named, and then by what it holds.
use Rattle.std.proofs.Common.{◌∙◌, sym, ap}
use Rattle.model.specs.declared.capabilities.Cap.{Cap}
use Rattle.model.specs.Acceptance.NotedKernel.{noted_slots}
use Rattle.model.specs.Kernel.Arguments.{argument_slot}
use Rattle.typestate.specs.Differences.{slots_of}
use Rattle.typestate.proofs.GivenFacts.{apart-of}
use Rattle.typestate.proofs.HandlerRules.{bind-never, bind-refused, bind-unbound, bind-vacant}
use Rattle.typestate.proofs.Inside.{named-err, named-ok}
use Rattle.typestate.proofs.thread_slots.ThreadSlots.binds.Goals as goal

pub returns-in-Err : goal.returns-in-Err
returns-in-Err c = λ held.
    let image = c.args.self.now.space.image.now in
    let t = c.args.self.now.space.thread.now in
    let slots = slots_of c.args.self.now.slots in
    let all = noted_slots image t slots in
    bind-refused image t c.args.at slots held (apart-of c.args.self.now.space) c.args.line c.args.name c.in-Err.error
    (ap (λ (root : Cap). argument_slot all root c.args.name) (sym c.args.self.now.space.rooted)
    ∙ named-err image t all (argument_slot all c.args.self.now.space.root c.args.name) c.in-Err.error c.in-Err.ensures.value)

pub returns-then-is_vacant : goal.returns-then-is_vacant
returns-then-is_vacant c = λ held.
    let image = c.args.self.now.space.image.now in
    let t = c.args.self.now.space.thread.now in
    let slots = slots_of c.args.self.now.slots in
    let all = noted_slots image t slots in
    let x = named-ok image t all (argument_slot all c.args.self.now.space.root c.args.name) c.in-Ok.found.0 c.in-Ok.found.1 c.in-Ok.ensures.value in
    bind-vacant image t c.args.at slots held (apart-of c.args.self.now.space) c.args.line c.args.name x.0
    (ap (λ (root : Cap). argument_slot all root c.args.name) (sym c.args.self.now.space.rooted) ∙ x.1) c.in-Ok.found.1 x.3 (sym c.if-is_vacant.ensures)

pub returns-then-not-may_be_bound : goal.returns-then-not-may_be_bound
returns-then-not-may_be_bound c = λ held.
    let image = c.args.self.now.space.image.now in
    let t = c.args.self.now.space.thread.now in
    let slots = slots_of c.args.self.now.slots in
    let all = noted_slots image t slots in
    let x = named-ok image t all (argument_slot all c.args.self.now.space.root c.args.name) c.in-Ok.found.0 c.in-Ok.found.1 c.in-Ok.ensures.value in
    bind-unbound image t c.args.at slots held (apart-of c.args.self.now.space) c.args.line c.args.name x.0
    (ap (λ (root : Cap). argument_slot all root c.args.name) (sym c.args.self.now.space.rooted) ∙ x.1) c.in-Ok.found.1 x.3 (sym c.if-is_vacant.ensures)
    (sym c.if-not-may_be_bound.ensures)

pub returns : goal.returns
returns c = λ held.
    let image = c.args.self.now.space.image.now in
    let t = c.args.self.now.space.thread.now in
    let slots = slots_of c.args.self.now.slots in
    let all = noted_slots image t slots in
    let x = named-ok image t all (argument_slot all c.args.self.now.space.root c.args.name) c.in-Ok.found.0 c.in-Ok.found.1 c.in-Ok.ensures.value in
    bind-never image t c.args.at slots held (apart-of c.args.self.now.space) c.args.line c.args.name x.0
    (ap (λ (root : Cap). argument_slot all root c.args.name) (sym c.args.self.now.space.rooted) ∙ x.1) c.in-Ok.found.1 x.3 (sym c.if-is_vacant.ensures)
    (sym c.if-not-may_be_bound.ensures)
