-- By the thread's own slots.
use Rattle.std.proofs.Common.{◌∙◌, sym, ap}
use Rattle.typestate.specs.Differences.{slots_of}
use Rattle.typestate.specs.Spaces.{key_in}
use Rattle.typestate.proofs.GivenFacts.{space-of, test-decides}
use Rattle.typestate.proofs.Inside.{found-names, has-key, refused-names}
use Rattle.typestate.proofs.roots.OwnRoot.named.Goals as goal

pub returns-in-Err-clause-value : goal.returns-in-Err-clause-value
returns-in-Err-clause-value c =
    refused-names c.args.self.now.own.space.image.now c.args.self.now.own.space.thread.now c.args.self.now.own.space.windows.now
    (slots_of c.args.self.now.own.slots) c.args.self.now.root c.args.name (space-of c.args.self.now.own.space).cnodes c.args.self.now.own.inside
    c.args.self.now.inside
    c.in-Err.error (sym c.in-Err.ensures)

pub unreachable-requires : goal.unreachable-requires
unreachable-requires c =
    has-key c.args.self.now.own.space.image.now c.args.self.now.own.space.thread.now c.args.self.now.own.space.windows.now (slots_of c.args.self.now.own.slots)
    c.args.self.now.root c.args.name (space-of c.args.self.now.own.space).cnodes c.args.self.now.own.inside c.args.self.now.inside
    c.in-Ok.slot (sym c.in-Ok.ensures) (ap (key_in c.args.self.now.own.space.windows.now) (sym c.number.ensures.value) ∙ sym c.in-None.ensures)

pub returns-clause-value : goal.returns-clause-value
returns-clause-value c =
    found-names c.args.self.now.own.space.image.now c.args.self.now.own.space.thread.now c.args.self.now.own.space.windows.now
    (slots_of c.args.self.now.own.slots) c.args.self.now.root c.args.name (space-of c.args.self.now.own.space).cnodes c.args.self.now.own.inside
    c.args.self.now.inside
    c.in-Ok.slot c.in-Some.key c.capability.result (sym c.in-Ok.ensures)
    (ap (key_in c.args.self.now.own.space.windows.now) (sym c.number.ensures.value) ∙ sym c.in-Some.ensures) c.capability.ensures.value

pub argument_slot-requires : goal.argument_slot-requires
argument_slot-requires c = test-decides c.args.self.now.root c.args.self.now.valid
