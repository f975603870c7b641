-- One of its threads runs while one of them may.
use Rattle.std.proofs.Common.{◌++◌}
use Rattle.headline.proofs.Laws.{all-front}
use Rattle.model.specs.Acceptance.Devices.{KeepsDevices}
use Rattle.response.proofs.ComesToRest.{comes-to-rest, split-at}
use Rattle.response.proofs.levels_come_to_rest.Goals as goal

pub returns : goal.returns
returns c = λ bytes image priority n events before window later accepted devices over is enough.
    comes-to-rest image priority n before window over
    (λ front rest place t listed level may.
    c.levels_run.ensures bytes image (before ++ front) priority t accepted
    (all-front (KeepsDevices image) events (before ++ front) (rest ++ later) devices
    (split-at events before window front rest later is place)) listed level may)
    (λ s of. c.levels_are_seen.ensures image s priority of) enough
