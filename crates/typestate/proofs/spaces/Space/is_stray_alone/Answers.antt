-- Where no other slot is full, what has a parent leads nowhere.
use Rattle.std.proofs.Common.{◌≡◌, ◌∙◌, ◌||◌, false, not, Option, Some, None, [], is_some, refl, sym, ap}
use Rattle.model.specs.Acceptance.NotedStates.{NotedSlot, SlotKey, leads_to_boot}
use Rattle.typestate.specs.Strays.{is_unfit}
use Rattle.typestate.proofs.spaces.Space.is_stray_alone.Goals as goal

led : (parent : Option SlotKey) → is_some parent ≡ not (leads_to_boot 0 [] parent)
unfolding leads_to_boot
led None = refl
led (Some key) = refl

pub returns-else-is_unfit : goal.returns-else-is_unfit
returns-else-is_unfit c =
    let unfit : is_unfit c.args.self.now c.args.slot ≡ false = sym c.is_unfit.ensures ∙ c.if-is_unfit.false in
    c.is_some.ensures ∙ ap (λ (s : NotedSlot). is_some s.parent) c.slot.view_is ∙ led c.args.slot.parent
    ∙ ap (λ b. b || not (leads_to_boot 0 [] c.args.slot.parent)) (sym unfit)
