-- What nobody outside of a part ever holds that takes nothing from the others.
use Rattle.std.specs.Prelude.{ℕ, ◌≡◌, ◌<◌, true, false, List, All, Contains}
use Rattle.headline.specs.parts.Leaving.{ChangesQueue}
use Rattle.headline.specs.parts.Parts.{Part, is_in, takes, takes_nothing}
use Rattle.model.specs.Acceptance.Accepted.{IsAccepted}
use Rattle.model.specs.Acceptance.Authority.{Holds}
use Rattle.model.specs.Acceptance.Devices.{KeepsDevices}
use Rattle.model.specs.Acceptance.WellFormed.{is_untyped_type}
use Rattle.model.specs.Images.Described.{Numbered, described, numbered_threads}
use Rattle.model.specs.Images.Image.{Image}
use Rattle.model.specs.Images.Places.{offset_of, type_at}
use Rattle.model.specs.Kernel.State.{State}
use Rattle.model.specs.Kernel.Steps.{state_after}
use Rattle.model.specs.declared.events.Event.{Event}

-- No thread outside of the part has a capability by which one sends, signals, receives or waits at what a thread of the part takes.
abbrev pub HoldNothingTaken : Image → Part → State → Type 0
HoldNothingTaken image part s =
    (t u : Numbered) (object : ℕ) → Contains (numbered_threads image) t → Contains (numbered_threads image) u → is_in part t.thread ≡ false
    → is_in part u.thread ≡ true → takes image u.thread object ≡ true → object < image.header.objects → is_untyped_type (type_at image object) ≡ false
    → Holds image t.thread s (ChangesQueue (offset_of image object)) → ⊥

-- So it is in an accepted image after any events, if the part takes nothing from the others.
abbrev pub NothingTakenIsHeldOutside : Type 0
NothingTakenIsHeldOutside =
    (bytes : List ℕ) (image : Image) (part : Part) (events : List Event) → IsAccepted bytes image → All (KeepsDevices image) events
    → takes_nothing image part ≡ true → HoldNothingTaken image part (state_after (described image) events)
