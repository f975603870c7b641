-- What a call answers, beside what its definition gives.
use Rattle.std.specs.Prelude.{◌≡◌, Result, Ok, Err}
use Rattle.model.specs.Capabilities.Slots.{Slots}
use Rattle.model.specs.Kernel.State.{State, with_slots}
use Rattle.model.specs.declared.errors.KError.{KError}

-- a call that passes leaves this state, and one that is refused gives the error
abbrev pub GivesState : {A E S : Type 0} → Result S E → Result A E → S → Type 0
GivesState defined (Ok x) after = defined ≡ Ok after
GivesState defined (Err e) after = defined ≡ Err e

-- a call that passes leaves these slots, and one that is refused gives the error
abbrev pub Gives : {A : Type 0} → Result State KError → State → Slots → Result A KError → Type 0
Gives defined s after (Ok x) = defined ≡ Ok (with_slots s after)
Gives defined s after (Err e) = defined ≡ Err e
