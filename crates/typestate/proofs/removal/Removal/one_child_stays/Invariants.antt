-- What is left of the links brings a child that stays, if any does.
use Rattle.std.proofs.Common.{ℕ, ◌≡◌, false}
use Rattle.std.specs.List.{flat_map, list_any}
use Rattle.std.specs.Option.{option_map_or}
use Rattle.typestate.specs.ChangeLists.{kept_child}
use Rattle.typestate.specs.Differences.{left_by, slots_of}
use Rattle.typestate.specs.Families.{children_in, children_of}
use Rattle.typestate.proofs.removal.Removal.one_child_stays.Given as goal

abbrev pub invariant-loop-link : goal.invariant-loop-link
invariant-loop-link l =
    list_any (λ c. option_map_or (kept_child (slots_of l.fn.self.slots) l.fn.self.which l.key) (left_by c) false)
    (flat_map (λ (q : ℕ × ℕ). children_in l.fn.self.slots.changes.now l.key q.1) l.link-iterator)
    ≡ list_any (λ c. option_map_or (kept_child (slots_of l.fn.self.slots) l.fn.self.which l.key) (left_by c) false)
    (children_of l.fn.self.slots.changes.now l.key)
