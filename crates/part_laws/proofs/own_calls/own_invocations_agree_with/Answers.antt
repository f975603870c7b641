-- The same call, which both sides perform.
use Rattle.part_laws.proofs.own_calls.Standing.{own-invocation}
use Rattle.part_laws.proofs.own_calls.own_invocations_agree_with.Goals as goal

pub returns : goal.returns
returns c = λ bytes others image part s t labels later u kind slot accepted alone_accepted all alone_all member agree now makes alone_makes left acks given own
    number named some.
    own-invocation c.laws_on_invocations.ensures c.steps_go_well.ensures bytes others image part s t labels later u kind slot accepted alone_accepted all
    alone_all member agree now makes alone_makes left acks given own number named some
