-- None of the CNodes so far holds another root table.
use Rattle.std.proofs.Common.{◌≡◌, ◌==◌, ◌&&◌, not, false, take}
use Rattle.std.specs.List.{list_any}
use Rattle.model.specs.Acceptance.ThreadRules.{is_member}
use Rattle.model.specs.Acceptance.WellFormed.{is_root_type, source_type}
use Rattle.wellformed.proofs.threads.hold_other_root.Given as goal

abbrev pub invariant-loop-place : goal.invariant-loop-place
invariant-loop-place l =
    list_any (λ c. is_member c.cnode (take l.place l.cnodes) && is_root_type (source_type l.fn.image c.source) && not (c.source == l.root))
    l.fn.image.capabilities ≡ false
