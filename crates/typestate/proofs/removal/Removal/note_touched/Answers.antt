-- Where all that is touched goes, each slot of it is emptied.
use Rattle.std.proofs.Common.{◌≡◌, ◌∙◌, ◌++◌, List, sym, ap, subst}
use Rattle.std.specs.Prelude.{IfOk}
use Rattle.std.specs.List.{flat_map}
use Rattle.model.specs.Acceptance.NotedStates.{NotedSlot}
use Rattle.typestate.specs.ChangeLists.{removal_change, told_of}
use Rattle.typestate.specs.Differences.{slots_of}
use Rattle.typestate.specs.Removals.{emptied_by, gone_by}
use Rattle.typestate.proofs.AllGone.{all-emptied}
use Rattle.typestate.proofs.removal.Removal.note_touched.Goals as goal

pub returns-then-self : goal.returns-then-self
returns-then-self c =
    let r = c.args.self.now in
    let tell : NotedSlot → List NotedSlot = told_of (removal_change (gone_by r) (slots_of r.slots)) in
    let same : flat_map emptied_by r.below.now ≡ flat_map tell r.touched.now =
    ap (flat_map emptied_by) r.listed ∙ all-emptied r.slots r.which ∙ sym (ap (flat_map tell) (r.all c.if-self.true ∙ r.listed)) in
    subst (λ (l : List NotedSlot). IfOk c.note_emptied.result (λ _. c.note_emptied.new.made.items ≡ c.args.made.now.items ++ l)) same c.note_emptied.ensures
