-- There is an entry for each 16 bytes.
use Rattle.std.proofs.Common.{◌∙◌, ◌*◌, ◌^◌, ap, arith}
use Rattle.objects.proofs.Holding.{thread-count}
use Rattle.objects.specs.Tables.{Tables}
use Rattle.objects.specs.contracts.tables.Objects.{the_view}
use Rattle.objects.proofs.tables.Objects.count_places.Goals as goal

pub count_threads-requires : goal.count_threads-requires
count_threads-requires c = (thread-count (the_view c.self.inside) c.self.invariant).0

pub returns-clause-value : goal.returns-clause-value
returns-clause-value c =
    ap (λ n. 512 * n) c.count_threads.ensures ∙ (thread-count (the_view c.self.inside) c.self.invariant).1 ∙ ap (λ (o : Tables). 2 ^ o.bits) c.self.view_is

pub returns-clause-most : goal.returns-clause-most
returns-clause-most c = let most = (thread-count (the_view c.self.inside) c.self.invariant).2 in omega (arith, c.count_threads.ensures, most)
