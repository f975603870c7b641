-- The slot's key is that of its place.
use Rattle.std.proofs.Common.{◌≡◌, ◌∙◌, Some, sym, ap}
use Rattle.model.specs.Acceptance.NotedKernel.{slot_of_key}
use Rattle.model.specs.Acceptance.NotedStates.{slot_at}
use Rattle.model.specs.Acceptance.ThreadRules.{reached}
use Rattle.typestate.specs.Differences.{slots_of}
use Rattle.typestate.specs.Spaces.{key_in}
use Rattle.typestate.proofs.GivenFacts.{apart-of, space-of}
use Rattle.typestate.proofs.NamedKeys.{key-named, same-own-key}
use Rattle.typestate.proofs.SlotMaps.{keys-same}
use Rattle.typestate.proofs.Standing.{found-key, found-own}
use Rattle.typestate.proofs.thread_slots.ThreadSlots.held.Goals as goal

pub returns-clause-place : goal.returns-clause-place
returns-clause-place c =
    let image = c.args.self.now.space.image.now in
    let t = c.args.self.now.space.thread.now in
    let slots = slots_of c.args.self.now.slots in
    let key = c.in-Some.key in
    let at : key_in c.args.self.now.space.windows.now c.args.slot ≡ Some key = sym c.in-Some.ensures in
    let named = key-named image (reached image t) c.args.slot key
    (sym (keys-same image (reached image t) c.args.self.now.space.windows.now c.args.slot (space-of c.args.self.now.space).cnodes) ∙ at) in
    let found = sym c.in-Some-at.ensures in
    let same = same-own-key image t (apart-of c.args.self.now.space) c.in-Some-at.held.key key
    (found-own image t slots key c.in-Some-at.held c.args.self.now.own found).key named.own (found-key slots key c.in-Some-at.held found) in
    ap (slot_of_key image) same ∙ named.place

pub returns-clause-held : goal.returns-clause-held
returns-clause-held c =
    let image = c.args.self.now.space.image.now in
    let t = c.args.self.now.space.thread.now in
    let slots = slots_of c.args.self.now.slots in
    let key = c.in-Some.key in
    let at : key_in c.args.self.now.space.windows.now c.args.slot ≡ Some key = sym c.in-Some.ensures in
    let named = key-named image (reached image t) c.args.slot key
    (sym (keys-same image (reached image t) c.args.self.now.space.windows.now c.args.slot (space-of c.args.self.now.space).cnodes) ∙ at) in
    let found = sym c.in-Some-at.ensures in
    let same = same-own-key image t (apart-of c.args.self.now.space) c.in-Some-at.held.key key
    (found-own image t slots key c.in-Some-at.held c.args.self.now.own found).key named.own (found-key slots key c.in-Some-at.held found) in
    ap (slot_at slots) same ∙ found
