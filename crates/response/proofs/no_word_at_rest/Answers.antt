-- It is in the queue.
use Rattle.response.proofs.AtRest.{no-word}
use Rattle.response.proofs.no_word_at_rest.Goals as goal

pub returns : goal.returns
returns c = λ bytes image events t queue n accepted devices listed one rests is.
    no-word c.laws_below.ensures bytes image _ _ accepted (c.events_go_well.ensures bytes image events accepted devices).stand t listed queue one n is rests
