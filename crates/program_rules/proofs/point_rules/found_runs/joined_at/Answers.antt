-- Both runs pass.
use Rattle.program_rules.proofs.point_rules.found_runs.joined_at.Goals as goal

pub returns-then-place-runs : goal.returns-then-place-runs
returns-then-place-runs c = λ test mine theirs. c.joined.ensures test mine (theirs c.args.place _ c.if-place-runs.true)
