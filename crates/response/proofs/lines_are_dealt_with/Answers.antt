-- Where the level rests, its lines are dealt with.
use Rattle.std.proofs.Common.{◌++◌, [], ◌∷◌}
use Rattle.model.specs.declared.events.Event.TheVariants.{Step}
use Rattle.headline.proofs.Laws.{all-front}
use Rattle.model.specs.Acceptance.Devices.{KeepsDevices}
use Rattle.response.specs.DealtWith.{IsDealtWith, Rests}
use Rattle.response.proofs.ComesToRest.{holds-where, over-later, over-window, split-at}
use Rattle.response.proofs.lines_are_dealt_with.Goals as goal

pub returns-clause-start : goal.returns-clause-start
returns-clause-start c = λ bytes image priority w rates is_taken is_open most n events accepted devices pays alone taken acknowledged fit have start rest
    keeps stands number few here before window later is enough.
    let a = acknowledged number few here in
    holds-where image n before window (Rests image priority) (IsDealtWith image number a.tended)
    (λ front after place rests. c.acknowledged_lines_rest.ensures bytes image priority number (before ++ front) accepted
    (all-front (KeepsDevices image) events (before ++ front) (after ++ later) devices (split-at events before window front after later is place)) few a
    (rests a.tended.thread a.tended.listed a.level))
    (c.levels_come_to_rest.ensures bytes image priority n events before window later accepted devices
    (over-window image priority n events before window later
    (c.notification_levels_rest_within.ensures.start bytes image priority w rates is_taken is_open most n events accepted devices pays alone taken acknowledged
    fit have start rest keeps stands) is) is enough)

pub returns-clause-later : goal.returns-clause-later
returns-clause-later c = λ bytes image priority w rates is_taken is_open most n events accepted devices pays alone taken acknowledged fit have rest keeps
    stands number few here first more window later other is enough.
    let a = acknowledged number few here in
    let before = (first ++ Step ∷ []) ++ more in
    holds-where image n before window (Rests image priority) (IsDealtWith image number a.tended)
    (λ front after place rests. c.acknowledged_lines_rest.ensures bytes image priority number (before ++ front) accepted
    (all-front (KeepsDevices image) events (before ++ front) (after ++ later) devices (split-at events before window front after later is place)) few a
    (rests a.tended.thread a.tended.listed a.level))
    (c.levels_come_to_rest.ensures bytes image priority n events before window later accepted devices
    (over-later image priority n events first more window later
    (c.notification_levels_rest_within.ensures.later bytes image priority w rates is_taken is_open most n events accepted devices pays alone taken acknowledged
    fit have rest keeps stands) other is) is enough)
