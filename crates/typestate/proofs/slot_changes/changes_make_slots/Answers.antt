-- By the changes told at each key.
use Rattle.typestate.specs.Differences.{slots_of}
use Rattle.typestate.proofs.ChangesMake.{changes-make}
use Rattle.typestate.proofs.Rising.{changes-rise, from-first}
use Rattle.typestate.proofs.Standing.{found-own}
use Rattle.typestate.proofs.slot_changes.changes_make_slots.Goals as goal

pub returns : goal.returns
returns g = λ image t n change are.
    changes-make n change (changes-rise n.image.now n.changes.now (from-first n.image.now n.rising))
    (λ key s found. (found-own image t (slots_of n) key s are found).full)
