-- The laws on threads outside of a part that takes nothing.
use Rattle.std.specs.Prelude.{ℕ, ◌≡◌, true, false, List, Contains}
use Rattle.model.specs.declared.labels.Label.{Label}
use Rattle.model.specs.Acceptance.Accepted.{IsAccepted}
use Rattle.model.specs.Acceptance.Authority.{WithinAuthority}
use Rattle.model.specs.Images.Described.{Numbered, numbered_threads}
use Rattle.model.specs.Images.Image.{Image}
use Rattle.model.specs.Kernel.State.{State}
use Rattle.headline.specs.facts.Standing.{AllStand}
use Rattle.headline.specs.integrity.Mapped.{AllMapAsHeld}
use Rattle.headline.specs.parts.Given.{AllHoldGiven}
use Rattle.headline.specs.parts.Parts.{Part, is_in, takes_nothing}
use Rattle.part_laws.specs.Agreeing.{AgreeFor}
use Rattle.part_laws.specs.Nothing.{HasNothing}
use Rattle.part_laws.specs.Using.{AllUseQueues}

-- such a thread has nothing of the part's
abbrev pub OthersHaveNothing : Type 0
OthersHaveNothing =
    (bytes : List ℕ) (image : Image) (part : Part) (t : Numbered) (s : State) (labels : List Label) → IsAccepted bytes image
    → takes_nothing image part ≡ true → AllStand image s labels → AllHoldGiven image s → AllMapAsHeld image s → AllUseQueues image s
    → Contains (numbered_threads image) t → is_in part t.thread ≡ false → HasNothing image part t s

-- and so its step keeps that the whole agrees with the part alone
abbrev pub OthersKeepAgreement : Type 0
OthersKeepAgreement =
    (bytes : List ℕ) (image : Image) (part : Part) (t : Numbered) (s after single : State) (labels later : List Label) → IsAccepted bytes image
    → AllStand image s labels → AllStand image after later → Contains (numbered_threads image) t
    → is_in part t.thread ≡ false → HasNothing image part t s → WithinAuthority image t.thread s after
    → AgreeFor image part s single → AgreeFor image part after single
