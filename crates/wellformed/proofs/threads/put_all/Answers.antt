-- By one number more.
use Rattle.wellformed.proofs.Named.{put-next}
use Rattle.wellformed.proofs.threads.put_all.Goals as goal

pub loop-place-preserved : goal.loop-place-preserved
loop-place-preserved c =
    put-next c.args.numbers.now c.loop-place.place c.at.result c.loop-place.into c.insert.new.self c.args.into.now c.at.ensures c.in_ok-insert.ensures.put
    c.loop-place.invariant
