-- By what removals leave.
use Rattle.std.proofs.Common.{ℕ, ◌∙◌, Some, ap, sym}
use Rattle.part_laws.proofs.own_calls.own_steps_agree_as_read.Goals as goal

pub returns : goal.returns
returns c = λ image part s t thread both reads agree now inside.
    c.own_steps_agree_with_removals.ensures image part s t thread both reads agree now inside
    (λ u member block. c.own_removals_agree.ensures image part s t u both agree member (now ∙ ap (λ (n : ℕ). Some n) (sym block)))
