use Rattle.std.proofs.Common.{◌∙◌, sym}
use Rattle.part_roots.proofs.HeldPuts.{below_is}
use Rattle.part_roots.proofs.bases.Base.at.Goals as goal
use Rattle.shared_states.proofs.Laws.{nothing_put, something_put}
use Rattle.shared_states.specs.States.{at_number, in_puts}

pub returns-in-Some : goal.returns-in-Some
returns-in-Some c small =
    let d = c.args.self.now in
    let puts = c.args.draft.now.names in
    let key = c.args.key in
    sym (below_is key (in_puts puts key (at_number d.states.now d.root.names key)) small
    ∙ something_put puts key c.in-Some.value (at_number d.states.now d.root.names key) (sym c.at.ensures ∙ c.in-Some.is))

pub returns-in-None : goal.returns-in-None
returns-in-None c small =
    let d = c.args.self.now in
    let puts = c.args.draft.now.names in
    let key = c.args.key in
    c.get.ensures ∙ sym (below_is key (in_puts puts key (at_number d.states.now d.root.names key)) small
    ∙ nothing_put puts key (at_number d.states.now d.root.names key) (sym c.at.ensures ∙ c.in-None.is))
