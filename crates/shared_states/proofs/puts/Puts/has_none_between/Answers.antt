use Rattle.std.proofs.Common.{ℕ, ◌≡◌, ◌∙◌, ◌≤◌, false, List, Option, sym, ap, arith}
use Rattle.std.specs.Ordering.{is_gt, nat_cmp}
use Rattle.std.proofs.lemmas.Bool.Decides.{nat_tests}
use Rattle.shared_states.specs.Puts.{put_at}
use Rattle.shared_states.proofs.PutValues.{none_between}
use Rattle.shared_states.proofs.puts.Puts.has_none_between.Goals as goal

not_above : (a b : ℕ) → a ≤ b → is_gt (nat_cmp a b) ≡ false
not_above a b most = grind (arith, nat_tests)

pub range-between-requires : goal.range-between-requires
range-between-requires c = not_above c.args.first c.args.end c.requires

pub returns-in-None : goal.returns-in-None
returns-in-None c = λ key _ from before.
    ap (λ (l : List (ℕ × Option ℕ)). put_at l key) (sym c.self.view_is)
    ∙ none_between c.args.first c.args.end key from before c.self.inside.values.entries
    (sym (c.range-between.ensures.between tt) ∙ c.in-None.ensures.steps.0)
