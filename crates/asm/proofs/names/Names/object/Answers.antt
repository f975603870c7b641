use Rattle.std.specs.Prelude.{Option, position}
use Rattle.std.proofs.Common.{◌≡◌, subst, ℕ, ◌∙◌}
use Rattle.std.specs.Str.{bytes_eq}
use Rattle.asm.specs.Names.{number_at, number_known}
use Rattle.asm.specs.Outcomes.{Means}
use Rattle.asm.proofs.Shown.{position-shown}
use Rattle.asm.proofs.names.Names.object.Goals as goal

pub returns : goal.returns
unfolding number_known
returns c =
    let same : c.get_index_of.result ≡ position (bytes_eq c.args.name.now) c.args.self.now.objects =
    c.get_index_of.ensures.index ∙ position-shown (bytes_eq c.text.result.now) c.self.inside.objects.keys
    ∙ (λ i. position (bytes_eq (c.text.ensures i)) (c.self.view_is i).objects) in
    subst (λ (place : Option ℕ). Means c.number_at.result (λ number. number) (number_at place)) same c.number_at.ensures
