use Rattle.asm.proofs.Steps.{either-goes, refused-means}
use Rattle.asm.proofs.WordsSaid.{one-term-sorted, term-refused}
use Rattle.asm.proofs.open_threads.terms_in.Goals as goal

pub returns-in_err-insert : goal.returns-in_err-insert
returns-in_err-insert c =
    refused-means c.from_residual.result c.in_err-insert.field-0.0 _ _ c.from_residual.ensures
    (either-goes (term-refused c.terms.read.items c.terms.rest c.args.words c.in-Some.term c.in-Some.words _ c.terms.invariant c.in-Some.ensures.exact)
    c.in_err-insert.ensures)

pub terms-preserved : goal.terms-preserved
terms-preserved c =
    one-term-sorted c.terms.read.items c.insert.new.entries.items c.terms.rest c.args.words c.in-Some.term c.in-Some.words c.terms.invariant
    c.in-Some.ensures.exact c.in_ok-insert.ensures
