-- Only a number that none is noted for is noted.
use Rattle.std.proofs.Common.{ℕ, ◌∙◌, Bor, Option, sym, ap}
use Rattle.std.specs.Option.{option_copied}
use Rattle.typestate.proofs.SwappedNames.{held-kept, held-same}
use Rattle.typestate.proofs.names.hold.Goals as goal

pub returns-in_ok-insert-in-None-clause-same : goal.returns-in_ok-insert-in-None-clause-same
returns-in_ok-insert-in-None-clause-same c = λ n.
    let none = sym c.get.ensures.value ∙ ap (λ (o : Option (Bor ℕ)). option_copied o) c.in-None.is in
    held-same c.args.map.now.entries c.insert.new.self.entries c.args.number n none (c.in_ok-insert-in-None.ensures.updates.0 n)

pub returns-in_ok-insert-in-None-clause-kept : goal.returns-in_ok-insert-in-None-clause-kept
returns-in_ok-insert-in-None-clause-kept c = λ n. held-kept c.args.map.now.entries c.insert.new.self.entries c.args.number c.args.number n
    (c.in_ok-insert-in-None.ensures.updates.0 n)
