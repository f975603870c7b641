use Rattle.std.proofs.Common.{◌∙◌, sym}
use Rattle.shared_states.specs.Entries.{value_of}
use Rattle.shared_states.proofs.PutValues.{nothing_put, something_put}
use Rattle.shared_states.proofs.trees.Trees.with_put.Goals as goal

pub returns-in_default-clause-value : goal.returns-in_default-clause-value
returns-in_default-clause-value c = sym (nothing_put c.args.puts.now c.args.key (value_of c.args.self.now c.args.tree) (sym c.at.ensures ∙ c.in_default.is))

pub returns-clause-value : goal.returns-clause-value
returns-clause-value c = c.in_ok-made.ensures.value
    ∙ sym (something_put c.args.puts.now c.args.key c.in-Some.value (value_of c.args.self.now c.args.tree) (sym c.at.ensures ∙ c.in-Some.is))
