-- What is left of the block brings a child that stays, if any does.
use Rattle.std.proofs.Common.{◌≡◌, false}
use Rattle.std.specs.List.{filter, list_any}
use Rattle.std.specs.Option.{option_map_or}
use Rattle.typestate.specs.ChangeLists.{kept_child}
use Rattle.typestate.specs.Differences.{left_by, slots_of}
use Rattle.typestate.specs.Families.{children_in, has_parent}
use Rattle.typestate.proofs.removal.Removal.child_in_stays.Given as goal

abbrev pub invariant-loop-change : goal.invariant-loop-change
invariant-loop-change l =
    list_any (λ c. option_map_or (kept_child (slots_of l.fn.self.slots) l.fn.self.which l.key) (left_by c) false)
    (filter (λ c. has_parent l.key (left_by c)) l.change-iterator)
    ≡ list_any (λ c. option_map_or (kept_child (slots_of l.fn.self.slots) l.fn.self.which l.key) (left_by c) false)
    (children_in l.fn.self.slots.changes.now l.key l.block)
