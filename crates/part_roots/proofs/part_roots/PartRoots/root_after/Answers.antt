use Rattle.std.proofs.Common.{IfSome, List, None, Option, Some, subst}
use Rattle.model.specs.Acceptance.NotedStates.{NotedSlot}
use Rattle.part_roots.specs.Held.{SaysBy, SaysWith}
use Rattle.part_roots.specs.declared.bases.Draft.{Draft}
use Rattle.part_roots.proofs.part_roots.PartRoots.root_after.Goals as goal
use Rattle.typestate.specs.Differences.{slots_of}
use Rattle.typestate.specs.Replays.{replayed}
use Rattle.typestate.specs.Unlinked.{AreUnlinked}

weaker : {A : Type 0} (o : Option A) (P Q : A → Type 0) → ((a : A) → P a → Q a) → IfSome o P → IfSome o Q
weaker None P Q so is = is
weaker (Some a) P Q so is = so a is

pub returns-clause-says : goal.returns-clause-says
returns-clause-says c =
    let old = c.args.self.now.states in
    let root = c.args.root in
    let image = slots_of c.args.image.now in
    let entries = c.args.entries.now in
    let put = subst (λ (o : Option Draft). IfSome o (λ draft. (slots : List NotedSlot) → AreUnlinked image → SaysBy old root image slots
    → SaysWith old root draft image (replayed slots entries))) c.in-Some.is c.in_ok-draft.ensures in
    weaker c.in_ok-made.made _ _ (λ r so slots unlinked says. so image (replayed slots entries) (put slots unlinked says)) c.in_ok-made.ensures.says
