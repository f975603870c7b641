-- By the calls that are left.
use Rattle.std.proofs.Common.{◌+◌, [], ◌∷◌, ap, arith}
use Rattle.std.proofs.lemmas.Result.{err_from_is_err_and}
use Rattle.model.specs.Images.BootCalls.{table_call}
use Rattle.bootstrap.specs.Loading.{progress_of}
use Rattle.bootstrap.proofs.Calls.{done, fails, more}
use Rattle.bootstrap.proofs.Rests.{tables_from, tables-next, tables-none}
use Rattle.bootstrap.proofs.loading.Loader.map_tables.Goals as goal

pub returns-in_err-map_table-clause-outcome : goal.returns-in_err-map_table-clause-outcome
returns-in_err-map_table-clause-outcome c =
    let image = c.args.image.now.read.now in
    let n = c.loop-number.number in
    let x = c.table-entry.result in
    let p = err_from_is_err_and c.from_residual.result c.from_residual.ensures.1 in
    rw (p.1, p.2) (fails (tables_from image n) (tables_from image (n + 1)) (table_call image x ∷ []) _ (progress_of c.loop-number.self) _
    (tables-next image n x c.table-entry.ensures) c.loop-number.invariant.same c.in_err-map_table.ensures.outcome)

pub loop-number-preserved : goal.loop-number-preserved
loop-number-preserved c =
    let image = c.args.image.now.read.now in
    let n = c.loop-number.number in
    let x = c.table-entry.result in
    record {
      same = more (tables_from image n) (tables_from image (n + 1)) (table_call image x ∷ []) _ (progress_of c.loop-number.self)
          (progress_of c.map_table.new.self)
          (tables-next image n x c.table-entry.ensures) c.loop-number.invariant.same c.in_ok-map_table.ensures.outcome;
      room = omega (arith, c.map_table.ensures.counted);
    }

pub returns-clause-outcome : goal.returns-clause-outcome
returns-clause-outcome c =
    let image = c.args.image.now.read.now in
    done (tables_from image c.loop-number.number) _ (progress_of c.loop-number.self)
    (tables-none image c.loop-number.number (omega (arith, ap (λ h. h.tables) c.header-number-end.ensures.value, c.args.image.now.limits.tables.count)))
    c.loop-number.invariant.same

pub map_table-requires-clause-fits : goal.map_table-requires-clause-fits
map_table-requires-clause-fits c = c.args.image.now.limits.tables.entries c.loop-number.number c.table-entry.result c.table-entry.ensures
