-- By what the slot holds: the one root table is the thread's.
use Rattle.std.proofs.Common.{ℕ, ◌∙◌, Result, Ok, sym, ap, subst}
use Rattle.model.specs.declared.capabilities.Cap.{Cap}
use Rattle.model.specs.declared.errors.KError.{KError}
use Rattle.model.specs.Acceptance.NotedKernel.{noted_slots}
use Rattle.model.specs.Capabilities.CapabilityWords.{IsCapability, IsPlace}
use Rattle.model.specs.Kernel.Arguments.{argument_slot}
use Rattle.model.specs.Kernel.MappingCalls.{root_named}
use Rattle.typestate.specs.Differences.{slots_of}
use Rattle.typestate.proofs.HeldCaps.{root-found}
use Rattle.typestate.proofs.Inside.{named-ok}
use Rattle.typestate.proofs.thread_slots.ThreadSlots.names_root.Goals as goal

pub returns-in-RootTable-clause-value : goal.returns-in-RootTable-clause-value
returns-in-RootTable-clause-value c =
    let image = c.args.self.now.space.image.now in
    let t = c.args.self.now.space.thread.now in
    let slots = slots_of c.args.self.now.slots in
    let all = noted_slots image t slots in
    let x = named-ok image t all (argument_slot all c.args.self.now.space.root c.args.name) c.in-Ok.found.0 c.in-Ok.found.1 c.in-Ok.ensures.value in
    let found = root-found image t slots c.args.self.now.space.root c.args.name x.0 c.in-RootTable.offset c.in-Ok.found.0 c.in-Ok.found.1 c.args.self.now.inside
    x.1 x.2 x.3 c.in-RootTable.is in
    ap (λ (root : Cap). root_named all root c.args.name) (sym c.args.self.now.space.rooted) ∙ found.0
    ∙ ap (λ n. let r : Result ℕ KError = Ok n in r) (found.1 ∙ sym c.args.self.now.space.mapped)

pub returns-in-RootTable-clause-placed : goal.returns-in-RootTable-clause-placed
returns-in-RootTable-clause-placed c =
    let image = c.args.self.now.space.image.now in
    let t = c.args.self.now.space.thread.now in
    let slots = slots_of c.args.self.now.slots in
    let all = noted_slots image t slots in
    let x = named-ok image t all (argument_slot all c.args.self.now.space.root c.args.name) c.in-Ok.found.0 c.in-Ok.found.1 c.in-Ok.ensures.value in
    let found = root-found image t slots c.args.self.now.space.root c.args.name x.0 c.in-RootTable.offset c.in-Ok.found.0 c.in-Ok.found.1 c.args.self.now.inside
    x.1 x.2 x.3 c.in-RootTable.is in
    subst (λ n. IsPlace n 12) (found.1 ∙ sym c.args.self.now.space.mapped) (subst IsCapability c.in-RootTable.is c.in-Ok.ensures.valid)
