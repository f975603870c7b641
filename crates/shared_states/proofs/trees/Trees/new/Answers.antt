use Rattle.std.proofs.Common.{◌≡◌, ◌∙◌, ◌∷◌, ◌++◌, [], ap}
use Rattle.shared_states.specs.declared.entries.Entry.TheVariants.{Pair}
use Rattle.shared_states.proofs.Held.{first_closed}
use Rattle.shared_states.proofs.trees.Trees.new.Goals as goal

pub invariant_of-result : goal.invariant_of-result
invariant_of-result c =
    let items : c.push.new.self.items ≡ Pair 0 0 ∷ [] = c.in_ok-push.ensures.items ∙ ap (λ es. es ++ Pair 0 0 ∷ []) c.new-entries.ensures.items in
    rw items first_closed
