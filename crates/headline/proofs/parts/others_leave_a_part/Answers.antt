-- No reason to change is left.
use Rattle.headline.proofs.parts.Left.{left-ready, left-thread}
use Rattle.headline.proofs.parts.others_leave_a_part.Goals as goal

pub returns-clause-threads : goal.returns-clause-threads
returns-clause-threads c = λ bytes image part t u s after labels later accepted all behind listed among outside inside nothing within.
    left-thread bytes image accepted c.threads_have_their_own_blocks.ensures part t s after labels later all behind listed outside nothing within u among inside

pub returns-clause-ready : goal.returns-clause-ready
returns-clause-ready c = λ bytes image part t s after labels later accepted all behind listed outside nothing within priority.
    left-ready bytes image accepted c.threads_have_their_own_blocks.ensures part t s after labels later all behind listed outside nothing within priority
