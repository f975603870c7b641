use Rattle.part_roots.specs.declared.part_roots.RootedPart.{RootedPart}
use Rattle.part_roots.proofs.RootedParts.{same_root}
use Rattle.part_roots.proofs.part_roots.PartRoots.is_same.Goals as goal

pub returns-clause-is : goal.returns-clause-is
returns-clause-is c = λ is image log rises rooted.
    let one : RootedPart = record { part = c.args.one; root = c.in-Some.first } in
    let other : RootedPart = record { part = c.args.other; root = c.in-Some-root_of.second } in
    same_root c.args.self.now.states c.is_same.new.self image log one other rises c.is_same.ensures.kept (λ key. c.in_ok-is.ensures.same key is)
    (λ key. c.agree.ensures key c.if-not-agree.false)
    (c.in-Some.ensures image log rooted) (c.in-Some-root_of.ensures image log rooted)
