use Rattle.std.proofs.Common.{ℕ, ◌==◌, ◌∙◌, cond, List, Option, Some, ap}
use Rattle.shared_states.specs.Puts.{put_at}
use Rattle.shared_states.proofs.PutValues.{same_test}
use Rattle.shared_states.proofs.puts.Puts.put.Goals as goal

pub returns : goal.returns
returns c = λ other.
    c.in_ok-insert.ensures.updates.0 other
    ∙ ap (λ b. cond b (Some c.args.value) (put_at c.self.inside.values.entries other)) (same_test c.args.key other)
    ∙ ap (λ (l : List (ℕ × Option ℕ)). cond (c.args.key == other) (Some c.args.value) (put_at l other)) c.self.view_is
