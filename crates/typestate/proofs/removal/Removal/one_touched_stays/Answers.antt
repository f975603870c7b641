-- What goes stays no child.
use Rattle.std.proofs.Common.{◌∙◌, Bool, false, sym, ap}
use Rattle.std.specs.List.{list_any}
use Rattle.std.specs.Option.{option_map_or}
use Rattle.model.specs.Acceptance.NotedStates.{NotedSlot}
use Rattle.typestate.specs.ChangeLists.{kept_child}
use Rattle.typestate.specs.Differences.{left_by, slots_of}
use Rattle.typestate.proofs.AllGone.{none-stays-below}
use Rattle.typestate.proofs.removal.Removal.one_touched_stays.Goals as goal

pub returns-then-self : goal.returns-then-self
returns-then-self c =
    let r = c.args.self.now in
    let test : NotedSlot → Bool = λ s. option_map_or (kept_child (slots_of r.slots) r.which c.args.key) (left_by s) false in
    sym (ap (list_any test) (r.all c.if-self.true ∙ r.listed) ∙ none-stays-below r.slots r.which c.args.key)
