-- Steps are filled in, and the event is inserted.
use Rattle.std.proofs.Common.{◌≡◌, arith, length}
use Rattle.std.specs.Prelude.{max}
use Rattle.debugging.proofs.Timelines.{put-next}
use Rattle.debugging.proofs.runs.put_at.Goals as goal

pub returns-in-Ok-clause-put : goal.returns-in-Ok-clause-put
returns-in-Ok-clause-put c =
    let most : c.max.result ≡ max (length c.args.events.now.items) c.args.place = omega (arith, c.max.ensures, c.len-known.ensures) in
    put-next c.args.events.now.items c.fill_to.new.events.items c.insert.new.self.items c.args.place c.max.result c.args.event most
    c.in_ok-fill_to.ensures.filled c.in-Ok.ensures.items
