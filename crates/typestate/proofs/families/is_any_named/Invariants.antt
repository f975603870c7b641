-- What is left of the changes decides.
use Rattle.std.proofs.Common.{ℕ, ◌≡◌, ◌==◌, ◌*◌, ◌/◌}
use Rattle.std.specs.List.{filter, list_any}
use Rattle.typestate.specs.PackedChanges.{begin_in, has_name}
use Rattle.typestate.specs.declared.packed_change.PackedChange.{PackedChange}
use Rattle.typestate.proofs.families.is_any_named.Given as goal

abbrev pub invariant-loop-number : goal.invariant-loop-number
invariant-loop-number l =
    list_any (λ (e : ℕ × PackedChange). has_name l.name e.1.parent) (begin_in l.block l.number-iterator)
    ≡ list_any (λ (e : ℕ × PackedChange). has_name l.name e.1.parent)
    (filter (λ (e : ℕ × PackedChange). e.0 / 16 * 16 == l.block) l.changes.entries)
