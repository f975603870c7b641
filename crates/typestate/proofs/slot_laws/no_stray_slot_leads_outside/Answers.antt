-- One slot after another.
use Rattle.std.proofs.Common.{◌≡◌, ◌∙◌, ◌||◌, Bool, true, false, not, List, [], ◌∷◌, refl, ap}
use Rattle.std.specs.List.{list_any}
use Rattle.model.specs.Acceptance.NotedStates.{NotedSlot, has_stray_slots, is_foreign, is_own, is_stray}
use Rattle.model.specs.Capabilities.CapabilityFields.{is_capability}
use Rattle.model.specs.Acceptance.ThreadRules.{reached}
use Rattle.typestate.proofs.slot_laws.no_stray_slot_leads_outside.Goals as goal

none-first : (a b : Bool) → (a || b) ≡ false → a ≡ false
none-first true b clash = clash
none-first false b none = refl

none-behind : (a b : Bool) → (a || b) ≡ false → b ≡ false
none-behind true b clash = absurd (let no : true ≡ false = clash in cc)
none-behind false b none = none

less-passes : (some more : NotedSlot → Bool) → ((s : NotedSlot) → more s ≡ false → some s ≡ false) → (slots : List NotedSlot) → list_any more slots ≡ false →
    list_any some slots ≡ false
less-passes some more less [] none = refl
less-passes some more less (s ∷ rest) none =
    ap (λ b. b || list_any some rest) (less s (none-first (more s) (list_any more rest) none))
    ∙ less-passes some more less rest (none-behind (more s) (list_any more rest) none)

pub returns : goal.returns
unfolding has_stray_slots
returns c = λ image t point state none.
    let cnodes = reached image t in
    less-passes (λ (s : NotedSlot). is_foreign image t cnodes s.capability) (is_stray image t cnodes state.slots)
    (λ s kept. none-behind (not (is_own image cnodes s.key)) (is_foreign image t cnodes s.capability)
    (none-first (not (is_own image cnodes s.key) || is_foreign image t cnodes s.capability) (not (is_capability s.capability))
    (none-first (not (is_own image cnodes s.key) || is_foreign image t cnodes s.capability || not (is_capability s.capability)) _ kept)))
    state.slots (none-first (list_any (is_stray image t cnodes state.slots) state.slots) _ none)
