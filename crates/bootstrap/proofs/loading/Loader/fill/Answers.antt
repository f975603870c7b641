use Rattle.std.proofs.Common.{ap}
use Rattle.kernel_machine.specs.Setups.{state_in}
use Rattle.bootstrap.specs.Loading.{placed}
use Rattle.bootstrap.proofs.FillLemmas.{fill-nowhere}
use Rattle.bootstrap.proofs.loading.Loader.fill.Goals as goal

pub returns-then-is_outside-clause-outcome : goal.returns-then-is_outside-clause-outcome
returns-then-is_outside-clause-outcome c =
    ap (placed c.args.number c.args.self.now.calls)
    (fill-nowhere (state_in c.args.self.now.machine) c.args.place c.args.bytes.now (c.is_outside.ensures.outside c.if-is_outside.true))
