-- By one line more.
use Rattle.std.proofs.Common.{ap, length}
use Rattle.responses.proofs.LinesSoFar.{keepers-next, keepers-none}
use Rattle.responses.proofs.keepers.keepers_of.Goals as goal

pub loop-line-init : goal.loop-line-init
loop-line-init c = record {
  long = ap length c.new-keepers.ensures.items;
  kept = keepers-none c.args.programs.now c.args.bells.now _ c.new-keepers.ensures.items;
}

pub loop-line-preserved : goal.loop-line-preserved
loop-line-preserved c =
    let both =
    keepers-next c.args.programs.now c.args.bells.now c.loop-line.line c.loop-line.keepers.items _ c.in_ok-keeper_of.field-0 c.loop-line.invariant.long
    c.loop-line.invariant.kept c.in_ok-keeper_of.ensures c.in_ok-push.ensures.items in
    record { long = both.0; kept = both.1 }
