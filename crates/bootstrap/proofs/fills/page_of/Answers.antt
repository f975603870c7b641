-- By the lengths of what is taken and left out.
use Rattle.std.proofs.Common.{◌*◌, ◌-◌, length, take, drop, arith, length-take, length-drop}
use Rattle.bootstrap.proofs.FillLemmas.{take-enough}
use Rattle.bootstrap.proofs.fills.page_of.Goals as goal

pub returns-then-rest : goal.returns-then-rest
returns-then-rest c =
    let xs = c.args.program.now in
    let at = c.args.page * 4096 in
    take-enough (length xs - at) 4096 (drop at xs) (omega (arith, length-drop at xs))
    (omega (arith, length-drop at xs, length-take (length xs - at) (drop at xs)))

pub slice_bounds-result-end-2 : goal.slice_bounds-result-end-2
slice_bounds-result-end-2 c =
    let xs = c.args.program.now in
    let at = c.args.page * 4096 in
    let rest = take (length xs - at) (drop at xs) in
    omega (arith, length-take 4096 rest, length-take (length xs - at) (drop at xs), length-drop at xs)
