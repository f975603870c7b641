-- None of the entries between the two numbers is there.
use Rattle.std.proofs.Common.{ℕ, ◌≡◌, ◌∙◌, ◌≤◌, false, List, option_map, sym, ap, arith}
use Rattle.std.specs.Ordering.{is_gt, nat_cmp}
use Rattle.std.proofs.lemmas.Bool.Decides.{nat_tests}
use Rattle.model.specs.Acceptance.NotedStates.{NotedSlot}
use Rattle.typestate.specs.Families.{found}
use Rattle.typestate.specs.PackedChanges.{unpacked_change}
use Rattle.typestate.proofs.NumberedChanges.{none-between, unpacked-found}
use Rattle.typestate.proofs.changes.Changes.has_none_of.Goals as goal

not-above : (a b : ℕ) → a ≤ b → is_gt (nat_cmp a b) ≡ false
not-above a b most = grind (arith, nat_tests)

pub range-between-requires : goal.range-between-requires
range-between-requires c =
    let first = c.number-first.ensures in
    let end = c.end-end.ensures in
    not-above c.number-first.result c.end-end.result (omega (arith, first, end))

pub returns-in-None : goal.returns-in-None
returns-in-None c = λ _ n from before.
    let slots = c.self.inside.names.slots.entries in
    let es = c.self.inside.packed.entries in
    let first = c.number-first.ensures in
    let end = c.end-end.ensures in
    ap (λ (l : List NotedSlot). found l n) (sym c.self.view_is) ∙ unpacked-found slots es n
    ∙ ap (option_map (unpacked_change slots n))
    (none-between c.number-first.result c.end-end.result n (omega (arith, first, from)) (omega (arith, end, before)) es
    (sym (c.range-between.ensures.between tt) ∙ c.in-None.ensures.steps.0))
