-- Where the level rests, its lines are dealt with.
use Rattle.std.proofs.Common.{◌++◌, [], ◌∷◌}
use Rattle.model.specs.declared.events.Event.TheVariants.{Step}
use Rattle.model.specs.Acceptance.Devices.{KeepsDevices}
use Rattle.headline.proofs.Laws.{all-front}
use Rattle.response.specs.DealtWith.{IsDealtWith, Rests}
use Rattle.response.proofs.Laws.{holds-where, over-later, over-window, split-at}
use Rattle.settled_threads.proofs.settled_lines_are_dealt_with.Goals as goal

pub returns-clause-start : goal.returns-clause-start
returns-clause-start c = λ bytes image priority w settling rates is_taken is_open owed_most most n events accepted devices pays answers settled inputs tended
    owe fit have start rest keeps enough number few here before window later is long.
    let a = tended number few here in
    holds-where image n before window (Rests image priority) (IsDealtWith image number a.0)
    (λ front after place rests. c.settled_threads_deal.ensures bytes image priority settling number (before ++ front) accepted
    (all-front (KeepsDevices image) events (before ++ front) (after ++ later) devices (split-at events before window front after later is place)) few settled
    rests a.0 a.1)
    (c.levels_come_to_rest.ensures bytes image priority n events before window later accepted devices
    (over-window image priority n events before window later
    (c.settled_levels_rest_within.ensures.start bytes image priority w settling rates is_taken is_open owed_most most n events accepted devices pays answers
    settled inputs tended owe fit have start rest keeps enough) is) is long)

pub returns-clause-later : goal.returns-clause-later
returns-clause-later c = λ bytes image priority w settling rates is_taken is_open owed_most most n events accepted devices pays answers settled inputs tended
    owe fit have rest keeps enough number few here first more window later other is long.
    let a = tended number few here in
    let before = (first ++ Step ∷ []) ++ more in
    holds-where image n before window (Rests image priority) (IsDealtWith image number a.0)
    (λ front after place rests. c.settled_threads_deal.ensures bytes image priority settling number (before ++ front) accepted
    (all-front (KeepsDevices image) events (before ++ front) (after ++ later) devices (split-at events before window front after later is place)) few settled
    rests a.0 a.1)
    (c.levels_come_to_rest.ensures bytes image priority n events before window later accepted devices
    (over-later image priority n events first more window later
    (c.settled_levels_rest_within.ensures.later bytes image priority w settling rates is_taken is_open owed_most most n events accepted devices pays answers
    settled inputs tended owe fit have rest keeps enough) other is) is long)
