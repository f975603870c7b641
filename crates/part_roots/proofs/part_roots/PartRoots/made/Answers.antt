use Rattle.std.proofs.Common.{arith}
use Rattle.part_roots.specs.declared.bases.Root.{Root}
use Rattle.part_roots.proofs.HeldPuts.{keeps_both}
use Rattle.part_roots.proofs.RootedParts.{made_says}
use Rattle.part_roots.proofs.part_roots.PartRoots.made.Goals as goal

pub returns-clause-within : goal.returns-clause-within
returns-clause-within c =
    let slots = c.in_ok-slots.ensures.within in
    let names = c.in_ok-names.ensures.within in
    let second = c.in_ok-names.ensures.kept.longer in
    let third = c.in_ok-parents.ensures.kept.longer in
    record { slots = omega (arith, slots, second, third); names = omega (arith, names, third); parents = c.in_ok-parents.ensures.within }

pub returns-clause-says : goal.returns-clause-says
returns-clause-says c = λ image slots says.
    let r : Root = record { slots = c.in_ok-slots.slots; names = c.in_ok-names.names; parents = c.in_ok-parents.parents } in
    made_says c.args.self.now.states c.with.new.self c.with-2.new.self c.with-3.new.self c.args.root r c.args.draft.now image slots
    c.in_ok-slots.ensures.kept c.in_ok-names.ensures.kept c.in_ok-parents.ensures.kept (c.has.ensures c.if-not-has.false)
    c.in_ok-slots.ensures.within c.in_ok-names.ensures.within
    c.in_ok-slots.ensures.held c.in_ok-names.ensures.held c.in_ok-parents.ensures.held says

pub returns-clause-kept : goal.returns-clause-kept
returns-clause-kept c =
    keeps_both c.args.self.now.states c.with.new.self c.with-3.new.self c.in_ok-slots.ensures.kept
    (keeps_both c.with.new.self c.with-2.new.self c.with-3.new.self c.in_ok-names.ensures.kept c.in_ok-parents.ensures.kept)
