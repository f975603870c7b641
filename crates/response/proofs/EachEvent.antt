-- What holds at the start and is kept by each event holds after all events.
use Rattle.std.proofs.Common.{◌++◌, List, [], ◌∷◌, All, refl, sym, subst, append_assoc}
use Rattle.model.specs.declared.events.Event.{Event}
use Rattle.model.specs.Acceptance.Devices.{KeepsDevices}
use Rattle.model.specs.Images.Described.{described}
use Rattle.model.specs.Images.Image.{Image}
use Rattle.model.specs.Kernel.State.{State}
use Rattle.model.specs.Kernel.Steps.{state_after, step}
use Rattle.headline.proofs.Laws.{all-front, state-next}

module _ (image : Image) (Holds : State → Type 0)
    (one : (before : List Event) (event : Event) → All (KeepsDevices image) before → All (KeepsDevices image) (before ++ event ∷ [])
    → Holds (state_after (described image) before) → Holds (step (state_after (described image) before) event).0) where
  abbrev start : State
  start = described image

  holds-from : (before rest : List Event) → All (KeepsDevices image) (before ++ rest) → Holds (state_after start before)
      → Holds (state_after (state_after start before) rest)
  unfolding state_after
  holds-from before [] devices has = has
  holds-from before (event ∷ rest) devices has =
      let further = subst (All (KeepsDevices image)) (sym (append_assoc before (event ∷ []) rest)) devices in
      let later = holds-from (before ++ event ∷ []) rest further (subst Holds (sym (state-next start before event))
      (one before event (all-front (KeepsDevices image) (before ++ event ∷ rest) before (event ∷ rest) devices refl)
      (all-front (KeepsDevices image) ((before ++ event ∷ []) ++ rest) (before ++ event ∷ []) rest further refl) has)) in
      subst (λ (s : State). Holds (state_after s rest)) (state-next start before event) later

  pub holds-after : Holds (described image) → (events : List Event) → All (KeepsDevices image) events → Holds (state_after (described image) events)
  unfolding state_after
  holds-after at_start events devices = holds-from [] events devices at_start
