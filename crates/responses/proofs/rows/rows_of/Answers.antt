-- By one row more.
use Rattle.std.proofs.Common.{◌++◌, [], ◌∷◌, map}
use Rattle.std.proofs.lemmas.List.Elements.{All-append, All-cons, All-nil, All-same}
use Rattle.responses.proofs.rows.rows_of.Goals as goal
use Rattle.responses.specs.Bounds.{IsResponseOf}
use Rattle.responses.specs.Found.{rate_of}
use Rattle.responses.specs.declared.rows.Row.{Row}

pub loop-priority-init : goal.loop-priority-init
loop-priority-init c =
    let Holds : Row → Type 0 = λ row. IsResponseOf c.args.levels.now row.priority (map rate_of c.args.rates.now) row.response in
    All-same Holds _ [] c.new-rows.ensures.items (All-nil Holds)

pub loop-priority-preserved : goal.loop-priority-preserved
loop-priority-preserved c =
    let Holds : Row → Type 0 = λ row. IsResponseOf c.args.levels.now row.priority (map rate_of c.args.rates.now) row.response in
    All-same Holds _ (c.loop-priority.rows.items ++ c.in_ok-row.field-0 ∷ []) c.in_ok-push.ensures.items
    (All-append Holds c.loop-priority.rows.items (c.in_ok-row.field-0 ∷ []) c.loop-priority.invariant
    (All-cons Holds c.in_ok-row.field-0 [] c.in_ok-row.ensures.row (All-nil Holds)))
