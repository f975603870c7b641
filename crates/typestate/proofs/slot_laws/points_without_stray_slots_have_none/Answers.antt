-- The first part of what is asked.
use Rattle.std.proofs.Common.{◌≡◌, ◌||◌, Bool, true, false, refl}
use Rattle.std.specs.List.{list_any}
use Rattle.model.specs.Acceptance.NotedStates.{has_stray_slots, is_stray}
use Rattle.model.specs.Acceptance.ThreadRules.{reached}
use Rattle.typestate.proofs.slot_laws.points_without_stray_slots_have_none.Goals as goal

none-first : (a b : Bool) → (a || b) ≡ false → a ≡ false
none-first true b clash = clash
none-first false b none = refl

pub returns : goal.returns
unfolding has_stray_slots
returns c = λ image t point state none. none-first (list_any (is_stray image t (reached image t) state.slots) state.slots) _ none
