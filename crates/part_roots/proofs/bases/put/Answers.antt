use Rattle.part_roots.proofs.HeldPuts.{put_held}
use Rattle.part_roots.proofs.bases.put.Goals as goal

pub returns : goal.returns
returns c small entries root = put_held entries root c.args.puts.now c.put.new.self c.args.key c.args.value small c.in_ok-put.ensures
