-- By the places of the thread's CNodes.
use Rattle.std.proofs.Common.{◌≡◌, ◌∙◌, Bool, true, false, not, refl, sym, ap}
use Rattle.std.specs.Prelude.{is_some}
use Rattle.model.specs.declared.capabilities.Cap.{Cap}
use Rattle.model.specs.Acceptance.NotedStates.{is_foreign}
use Rattle.typestate.specs.Strays.{cnodes_of, is_at}
use Rattle.typestate.proofs.FoundWindows.{some-found}
use Rattle.typestate.proofs.GivenFacts.{space-of}
use Rattle.typestate.proofs.OwnKeys.{own-cnode-told}
use Rattle.typestate.proofs.spaces.Space.is_foreign.Goals as goal

twice : (b : Bool) → b ≡ not (not b)
twice true = refl
twice false = refl

pub returns-in-CNode : goal.returns-in-CNode
returns-in-CNode c =
    let image = c.args.self.now.image.now in
    let cnodes = cnodes_of c.args.self.now in
    let windows = c.args.self.now.windows.now in
    twice c.is_none.result
    ∙ ap not (sym c.is_none.ensures ∙ ap is_some c.at.ensures ∙ some-found (is_at c.in-CNode.offset c.in-CNode.radix) windows
    ∙ own-cnode-told image cnodes windows c.in-CNode.offset c.in-CNode.radix (space-of c.args.self.now).cnodes)
    ∙ sym (ap (λ (held : Cap). is_foreign image c.args.self.now.thread.now cnodes held) c.in-CNode.is)
