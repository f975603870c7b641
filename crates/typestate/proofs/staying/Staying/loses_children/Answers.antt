-- A slot that may lose children loses none, or it may lose none.
use Rattle.std.proofs.Common.{◌≡◌, ◌∙◌, ◌&&◌, Bool, false, not, sym, ap}
use Rattle.std.specs.List.{list_any}
use Rattle.model.specs.Acceptance.NotedStates.{NotedSlot, SlotKey}
use Rattle.typestate.specs.Differences.{slots_of}
use Rattle.typestate.specs.Removals.{gone_by}
use Rattle.typestate.specs.SlotChanges.{heir, is_parent, loses_children}
use Rattle.typestate.proofs.ChangesMake.{never-loses}
use Rattle.typestate.proofs.Rising.{changes-rise, from-first}
use Rattle.typestate.proofs.staying.Staying.loses_children.Goals as goal
use Rattle.typestate.proofs.staying.Staying.loses_children.Goals.{then-may_lose, else-may_lose}

pub returns-else-has_lost : goal.returns-else-has_lost
returns-else-has_lost c =
    let n = c.args.self.now.removal.now.slots in
    let slots = slots_of n in
    let gone = gone_by c.args.self.now.removal.now in
    let key : SlotKey = record { cnode = c.slot.inside.key.cnode; index = c.slot.inside.key.index } in
    let same : key ≡ c.args.self.now.slot.now.key = ap (λ (h : NotedSlot). h.key) c.slot.view_is in
    let kept = list_any (λ s. not (gone s.key) && is_parent key (heir gone slots s)) slots in
    let none : loses_children gone slots key ≡ false = elim c.if-may_lose.branch [
      | then-may_lose w ↦ ap (λ (b : Bool). b && not kept) (sym w.has_lost.ensures ∙ sym w.value-is ∙ c.if-has_lost.false)
      | else-may_lose w ↦ never-loses slots (changes-rise n.image.now n.changes.now (from-first n.image.now n.rising)) c.args.self.now.removal.now.which key
          (ap gone same ∙ c.args.self.now.stays) (sym c.may_lose.ensures ∙ w.if-may_lose.false)
    ] in
    c.if-has_lost.false ∙ sym none ∙ ap (loses_children gone slots) same
