use Rattle.shared_states.proofs.trees.Trees.+agree.Given as goal

abbrev pub decreases-agree : goal.decreases-agree
decreases-agree l = l.height
