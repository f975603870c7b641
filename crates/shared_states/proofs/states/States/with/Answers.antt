use Rattle.std.proofs.Common.{◌∙◌, ap, sym}
use Rattle.shared_states.specs.Entries.{held_at, path_of}
use Rattle.shared_states.specs.Puts.{in_puts}
use Rattle.shared_states.specs.States.{at_number}
use Rattle.shared_states.proofs.Held.{notes_kept}
use Rattle.shared_states.proofs.Numbers.{length_path, number_back}
use Rattle.shared_states.proofs.states.States.with.Goals as goal

pub returns-clause-held : goal.returns-clause-held
unfolding at_number
returns-clause-held c key small =
    rw (sym c.self.view_is)
    (c.in_ok-made.ensures.held (path_of 63 key) (length_path 63 key)
    ∙ ap (λ n. in_puts c.args.puts.now n (held_at c.self.inside.trees (path_of 63 key) c.args.state)) (number_back 63 key small))

pub invariant_of-self-2 : goal.invariant_of-self-2
invariant_of-self-2 c = notes_kept c.self.inside.trees c.with.new.self c.self.inside.sames c.with.ensures.kept c.self.invariant
