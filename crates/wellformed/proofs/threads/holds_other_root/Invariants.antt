-- Those that are left decide.
use Rattle.std.proofs.Common.{◌≡◌, ◌==◌, ◌&&◌, not, drop}
use Rattle.std.specs.List.{list_any}
use Rattle.model.specs.Acceptance.WellFormed.{is_root_type, source_type}
use Rattle.wellformed.proofs.threads.holds_other_root.Given as goal

abbrev pub invariant-loop-item : goal.invariant-loop-item
invariant-loop-item l =
    list_any (λ c. c.cnode == l.cnode && (is_root_type (source_type l.fn.image c.source) && not (c.source == l.root))) (drop l.item l.fn.image.capabilities)
    ≡ list_any (λ c. c.cnode == l.cnode && (is_root_type (source_type l.fn.image c.source) && not (c.source == l.root))) l.fn.image.capabilities
