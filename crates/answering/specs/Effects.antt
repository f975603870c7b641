-- What a point makes of an answer that is owed.
use Rattle.std.specs.Prelude.{◌&&◌, ◌||◌, Bool, true, not}
use Rattle.answering.specs.declared.effects.Effect.{Effect}
use Rattle.answering.specs.declared.effects.Effect.TheVariants.{Receives, Drops, Answers, Passes}

-- by whether an answer may be owed there, whether what a message gives is known at the next point, and whether all else that is known there is
abbrev pub owes_as : Effect → Bool → Bool → Bool → Bool
owes_as (Receives replies) owed received leads = (replies || not owed) && received
owes_as Drops owed received leads = not owed
owes_as Answers owed received leads = true
owes_as Passes owed received leads = leads
