-- Each change of an object has a reason, and none is left.
use Rattle.headline.proofs.parts.Kept.{kept-line, kept-object}
use Rattle.headline.proofs.parts.others_leave_what_a_part_has.Goals as goal

pub returns-clause-objects : goal.returns-clause-objects
returns-clause-objects c = λ bytes image part t s after labels later accepted all behind listed outside nothing within offset of.
    kept-object bytes image accepted c.threads_have_their_own_blocks.ensures part t s after labels later all behind listed outside nothing within offset of

pub returns-clause-lines : goal.returns-clause-lines
returns-clause-lines c = λ bytes image part t s after labels later accepted all behind listed outside nothing within line of.
    kept-line bytes image accepted c.threads_have_their_own_blocks.ensures part t s after labels later all behind listed outside nothing within line of
