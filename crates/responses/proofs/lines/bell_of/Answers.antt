-- By one interrupt more.
use Rattle.std.proofs.Common.{ℕ, ◌∙◌, Option, Some, option_map, ap, sym, arith}
use Rattle.format_laws.specs.Fitting.{IsFitting}
use Rattle.responses.proofs.LinesSoFar.{line-here, line-later}
use Rattle.responses.proofs.lines.bell_of.Goals as goal
use Rattle.responses.specs.Lines.{bell_for}
use Rattle.responses.specs.declared.lines.Bell.{Bell}

pub bounds-placed-entry : goal.bounds-placed-entry
bounds-placed-entry c =
    let entry = c.interrupt-entry.result in
    let less = (IsFitting.interrupt c.header_of-number-end.ensures.fitting c.loop-number.number entry c.interrupt-entry.ensures).notification in
    let many = c.args.placed.now.placed.size in
    omega (arith, less, many)

abbrev bell_by : ℕ → ℕ → Option Bell
bell_by notification badge = let bell : Bell = record { notification = notification; badge = badge } in Some bell

pub returns-then-entry-line : goal.returns-then-entry-line
returns-then-entry-line c =
    let image = c.args.placed.now.image.now in
    let entry = c.interrupt-entry.result in
    let less = (IsFitting.interrupt c.header_of-number-end.ensures.fitting c.loop-number.number entry c.interrupt-entry.ensures).notification in
    ap (λ (n : ℕ). bell_by n entry.badge) (c.args.placed.now.placed.place entry.notification less)
    ∙ ap (option_map (bell_for image))
    (sym (line-here image c.args.line c.loop-number.number entry c.interrupt-entry.ensures c.if-entry-line.true) ∙ c.loop-number.invariant)

pub loop-number-preserved : goal.loop-number-preserved
loop-number-preserved c =
    line-later c.args.placed.now.image.now c.args.line c.loop-number.number c.interrupt-entry.result c.interrupt-entry.ensures c.if-entry-line.false
    ∙ c.loop-number.invariant
