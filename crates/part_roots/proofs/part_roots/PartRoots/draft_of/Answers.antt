use Rattle.std.proofs.Common.{sym}
use Rattle.part_roots.proofs.HeldPuts.{nothing_held}
use Rattle.part_roots.proofs.RootedParts.{says_same}
use Rattle.part_roots.proofs.part_roots.PartRoots.draft_of.Goals as goal
use Rattle.typestate.specs.Differences.{slots_of}

pub returns : goal.returns
returns c = λ slots unlinked says.
    let states = c.args.self.now.states in
    let root = c.args.root in
    let nothing = c.new-draft.result in
    c.in_ok-make_all.ensures c.if-not-branch.false slots unlinked
    (says_same _ _ _ _ _ _ (slots_of c.args.image.now) slots (λ n. sym (nothing_held states root.slots nothing.slots c.new-draft.ensures.slots n))
    (λ n. sym (nothing_held states root.names nothing.names c.new-draft.ensures.names n))
    (λ n. sym (nothing_held states root.parents nothing.parents c.new-draft.ensures.parents n)) says)
