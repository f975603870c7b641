use Rattle.shared_states.proofs.trees.Trees.+with.Given as goal

abbrev pub decreases-with : goal.decreases-with
decreases-with l = l.height
