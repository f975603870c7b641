use Rattle.part_roots.specs.declared.bases.Root.{Root}
use Rattle.part_roots.proofs.RootedParts.{empty_rooted}
use Rattle.part_roots.proofs.part_roots.PartRoots.empty_part.Goals as goal

pub returns-clause-rooted : goal.returns-clause-rooted
returns-clause-rooted c = λ image log held.
    let root : Root = record { slots = c.empty.result; names = c.empty-2.result; parents = c.empty-3.result } in
    empty_rooted c.args.self.now.states image log c.args.part root held
    (record { slots = c.empty.ensures.within; names = c.empty-2.ensures.within; parents = c.empty-3.ensures.within }) c.empty.ensures.nothing
    c.empty-2.ensures.nothing
