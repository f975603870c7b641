-- Changes by what their slots were derived from.
use Rattle.std.specs.Prelude.{ℕ, ◌≡◌, ◌==◌, ◌*◌, ◌/◌, Bool, true, false, Option, List}
use Rattle.std.specs.List.{filter, find, list_any}
use Rattle.std.specs.Option.{option_map_or}
use Rattle.std.specs.Ordering.{nat_cmp, ordering_then, is_eq}
use Rattle.std.specs.declared.cmp.Ordering.{Ordering}
use Rattle.model.specs.Acceptance.NotedStates.{NotedSlot, SlotKey, number_of}
use Rattle.typestate.specs.Left.{left_by}

-- the slot of a number
abbrev pub found : List NotedSlot → ℕ → Option NotedSlot
found slots number = find (λ s. number_of s.key == number) slots

-- whether what a slot holds was derived from the slot of a number
abbrev pub is_child_of : ℕ → Option NotedSlot → Bool
is_child_of parent held = option_map_or (λ s. option_map_or (λ p. number_of p == parent) s.parent false) held false

abbrev pub has_parent : SlotKey → Option NotedSlot → Bool
has_parent key held = is_child_of (number_of key) held

-- the changes whose slots were derived from the slot of a key
abbrev pub children_of : List NotedSlot → SlotKey → List NotedSlot
children_of changes parent = filter (λ c. has_parent parent (left_by c)) changes

-- the changes to slots of a block of sixteen, by the number of the first one
abbrev pub in_block : List NotedSlot → ℕ → List NotedSlot
in_block changes block = filter (λ c. number_of c.key / 16 * 16 == block) changes

-- those of a block whose slots were derived from the slot of a key
abbrev pub children_in : List NotedSlot → SlotKey → ℕ → List NotedSlot
children_in changes parent block = filter (λ c. has_parent parent (left_by c)) (in_block changes block)

-- links in the order of the parents, and then of the children
abbrev pub link_cmp : ℕ × ℕ → ℕ × ℕ → Ordering
link_cmp a b = ordering_then (nat_cmp a.0 b.0) (nat_cmp a.1 b.1)

abbrev pub has_link : List (ℕ × ℕ) → ℕ → ℕ → Bool
has_link links parent child = list_any (λ (q : ℕ × ℕ). is_eq (link_cmp (parent, child) q)) links

-- each change that passes a test with a number has its link from there
abbrev pub AreNamed : (ℕ → NotedSlot → Bool) → List NotedSlot → List (ℕ × ℕ) → Type 0
AreNamed test changes links =
    (from slot : ℕ) → option_map_or (test from) (found changes slot) false ≡ true → has_link links from slot ≡ true

abbrev pub KeepsLinks : List (ℕ × ℕ) → List (ℕ × ℕ) → Type 0
KeepsLinks old new = (parent child : ℕ) → has_link old parent child ≡ true → has_link new parent child ≡ true

-- the link that was added last is there, if any was
abbrev pub LastIsLinked : List (ℕ × ℕ) → Option (ℕ × ℕ) → Type 0
LastIsLinked links last = option_map_or (λ (q : ℕ × ℕ). has_link links q.0 q.1) last true ≡ true
