-- By the windows, which are all of the thread's CNodes.
use Rattle.std.proofs.Common.{◌≡◌, ◌∙◌, true, false, Ok, sym, ap, subst}
use Rattle.model.specs.declared.capabilities.Cap.{Cap}
use Rattle.model.specs.declared.errors.KError.TheVariants.{FailedLookup}
use Rattle.model.specs.Acceptance.ThreadRules.{reached}
use Rattle.model.specs.Capabilities.CapabilityKinds.{cnode_of}
use Rattle.model.specs.Kernel.Arguments.{wanted}
use Rattle.typestate.specs.Pools.{NamesNode}
use Rattle.typestate.specs.Spaces.{is_inside}
use Rattle.typestate.specs.Strays.{is_at}
use Rattle.typestate.proofs.GivenFacts.{space-of}
use Rattle.typestate.proofs.OwnKeys.{own-cnode-told}
use Rattle.typestate.proofs.PoolPlaces.{none-any, own-window}
use Rattle.typestate.proofs.roots.OwnRoot.window.Goals as goal

pub unreachable-requires : goal.unreachable-requires
unreachable-requires c =
    let image = c.args.self.now.own.space.image.now in
    let t = c.args.self.now.own.space.thread.now in
    let ws = c.args.self.now.own.space.windows.now in
    let offset = c.in-CNode.offset in
    let radix = c.in-CNode.radix in
    absurd (let clash : false ≡ true =
    sym (none-any (is_at offset radix) ws (sym c.at.ensures ∙ c.in-None.is))
    ∙ own-cnode-told image (reached image t) ws offset radix (space-of c.args.self.now.own.space).cnodes
    ∙ sym (ap (is_inside image t) c.in-CNode.is) ∙ c.args.self.now.inside in cc)

pub returns : goal.returns
returns c =
    let image = c.args.self.now.own.space.image.now in
    let t = c.args.self.now.own.space.thread.now in
    let found = own-window image t c.args.self.now.own.space.windows.now c.in-CNode.offset c.in-CNode.radix c.in-Some.window
    (space-of c.args.self.now.own.space).cnodes (sym c.at.ensures ∙ c.in-Some.is) in
    subst (λ (held : Cap). NamesNode image t (wanted (cnode_of held) FailedLookup) (Ok c.in-Some.window)) (sym c.in-CNode.is) (found.0, found.1, found.2)
