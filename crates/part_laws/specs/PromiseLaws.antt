-- The promises that parts run as if alone, and undisturbed, over one law on the steps of their own threads.
use Rattle.std.specs.Prelude.{ℕ, ◌≡◌, true, List}
use Rattle.model.specs.Acceptance.Accepted.{IsAccepted}
use Rattle.model.specs.Images.Described.{described}
use Rattle.model.specs.Images.Image.{Image}
use Rattle.headline.specs.parts.Laws.{PartsAboveAreUndisturbed, PartsRunAsAlone}
use Rattle.headline.specs.parts.Parts.{Part, alone, takes_nothing}
use Rattle.part_laws.specs.Agreeing.{AgreeFor}
use Rattle.part_laws.specs.Both.{OwnStepsAgree}

-- the states that both images describe agree
abbrev pub StartsAgree : Type 0
StartsAgree =
    (bytes others : List ℕ) (image : Image) (part : Part) → IsAccepted bytes image → IsAccepted others (alone image part)
    → takes_nothing image part ≡ true → AgreeFor image part (described image) (described (alone image part))

-- the promise, where each step of the part's own keeps that they agree
abbrev pub OwnStepsMakeItRunAlone : Type 0
OwnStepsMakeItRunAlone = OwnStepsAgree → PartsRunAsAlone

abbrev pub OwnStepsMakeThemUndisturbed : Type 0
OwnStepsMakeThemUndisturbed = OwnStepsAgree → PartsAboveAreUndisturbed
