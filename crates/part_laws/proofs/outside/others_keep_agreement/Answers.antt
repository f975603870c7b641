-- All that is the part's stays.
use Rattle.part_laws.proofs.outside.KeptBytes.{others-agree}
use Rattle.part_laws.proofs.outside.others_keep_agreement.Goals as goal

pub returns : goal.returns
returns c = λ bytes image part t s after single labels later accepted all behind listed outside nothing within agree.
    others-agree bytes image accepted c.threads_have_their_own_blocks.ensures part t s after labels later all behind listed outside nothing within single agree
