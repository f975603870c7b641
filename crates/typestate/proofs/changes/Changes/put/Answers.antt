-- Each change stands at its number, also the one that is put.
use Rattle.std.proofs.Common.{ℕ, ◌∙◌, if◌then◌else◌, Some, List, map, option_map, sym, ap, subst}
use Rattle.std.specs.List.Sorted.{IsStrictlyIncreasing}
use Rattle.std.specs.Map.{keys_of}
use Rattle.std.proofs.lemmas.Map.Keys.{IsStrictlyIncreasing-from_sorted}
use Rattle.model.specs.Acceptance.NotedStates.{NotedSlot, is_same_key, number_of, slot_at}
use Rattle.typestate.specs.Families.{found}
use Rattle.typestate.specs.PackedChanges.{unpacked_change, unpacked_entry}
use Rattle.typestate.proofs.NumberedChanges.{all-narrow, numbers-are, put-found, put-linked, unpacked-found}
use Rattle.typestate.proofs.changes.Changes.put.Goals as goal

pub invariant_of-self-in-Some : goal.invariant_of-self-in-Some
invariant_of-self-in-Some c = (
  c.self.invariant.0,
  c.replace.ensures.linked
      (put-linked c.self.inside.packed.entries c.insert.new.self.entries c.number-number.result c.of-packed.result c.self.inside.families.links.keys
      c.add.new.self.links.keys c.in_ok-before.ensures.updates.0 c.self.invariant.1 c.add.ensures.kept (c.in_ok-add.ensures.added c.self.invariant.2)),
  c.replace.ensures.there (c.add.ensures.there c.self.invariant.2),
)

pub invariant_of-self-in-None : goal.invariant_of-self-in-None
invariant_of-self-in-None c = (
  c.self.invariant.0,
  put-linked c.self.inside.packed.entries c.insert.new.self.entries c.number-number.result c.of-packed.result c.self.inside.families.links.keys
      c.add.new.self.links.keys c.in_ok-before.ensures.updates.0 c.self.invariant.1 c.add.ensures.kept (c.in_ok-add.ensures.added c.self.invariant.2),
  c.add.ensures.there c.self.invariant.2,
)

pub returns-in-Some-clause-before : goal.returns-in-Some-clause-before
returns-in-Some-clause-before c =
    let slots = c.self.inside.names.slots.entries in
    let es = c.self.inside.packed.entries in
    let n = c.number-number.result in
    let n-is = c.number-number.ensures ∙ ap (λ (s : NotedSlot). number_of s.key) c.change.view_is in
    ap (λ (s : NotedSlot). Some s) c.packed_at.ensures
    ∙ ap (option_map (unpacked_change slots n)) (sym c.in-Some.is ∙ c.in_ok-before.ensures.old) ∙ sym (unpacked-found slots es n)
    ∙ ap (found (map (unpacked_entry slots) es)) n-is ∙ ap (λ (l : List NotedSlot). slot_at l c.args.change.key) c.self.view_is

pub returns-in-Some-clause-rising : goal.returns-in-Some-clause-rising
returns-in-Some-clause-rising c =
    let new = c.insert.new.self.entries in
    subst (λ (ns : List ℕ). IsStrictlyIncreasing ns) (sym (numbers-are c.self.inside.names.slots.entries new))
    (IsStrictlyIncreasing-from_sorted (keys_of new) c.in_ok-before.ensures.ordered)

pub returns-in-Some-clause-same : goal.returns-in-Some-clause-same
returns-in-Some-clause-same c = λ key.
    let n-is = c.number-number.ensures ∙ ap (λ (s : NotedSlot). number_of s.key) c.change.view_is in
    put-found c.self.inside.names.slots.entries c.self.inside.packed.entries c.insert.new.self.entries c.number-number.result (number_of key) c.of-packed.result
    c.args.change n-is c.of-packed.ensures
    (c.in_ok-before.ensures.updates.0 (number_of key))
    ∙ ap (λ (l : List NotedSlot). if is_same_key c.args.change.key key then Some c.args.change else slot_at l key) c.self.view_is

pub returns-in-Some-clause-narrow : goal.returns-in-Some-clause-narrow
returns-in-Some-clause-narrow c = all-narrow c.self.inside.names.slots.entries c.insert.new.self.entries

pub returns-in-None-clause-before : goal.returns-in-None-clause-before
returns-in-None-clause-before c =
    let slots = c.self.inside.names.slots.entries in
    let es = c.self.inside.packed.entries in
    let n = c.number-number.result in
    let n-is = c.number-number.ensures ∙ ap (λ (s : NotedSlot). number_of s.key) c.change.view_is in
    ap (option_map (unpacked_change slots n)) (sym c.in-None.is ∙ c.in_ok-before.ensures.old) ∙ sym (unpacked-found slots es n)
    ∙ ap (found (map (unpacked_entry slots) es)) n-is ∙ ap (λ (l : List NotedSlot). slot_at l c.args.change.key) c.self.view_is

pub returns-in-None-clause-rising : goal.returns-in-None-clause-rising
returns-in-None-clause-rising c =
    let new = c.insert.new.self.entries in
    subst (λ (ns : List ℕ). IsStrictlyIncreasing ns) (sym (numbers-are c.self.inside.names.slots.entries new))
    (IsStrictlyIncreasing-from_sorted (keys_of new) c.in_ok-before.ensures.ordered)

pub returns-in-None-clause-same : goal.returns-in-None-clause-same
returns-in-None-clause-same c = λ key.
    let n-is = c.number-number.ensures ∙ ap (λ (s : NotedSlot). number_of s.key) c.change.view_is in
    put-found c.self.inside.names.slots.entries c.self.inside.packed.entries c.insert.new.self.entries c.number-number.result (number_of key) c.of-packed.result
    c.args.change n-is c.of-packed.ensures
    (c.in_ok-before.ensures.updates.0 (number_of key))
    ∙ ap (λ (l : List NotedSlot). if is_same_key c.args.change.key key then Some c.args.change else slot_at l key) c.self.view_is

pub returns-in-None-clause-narrow : goal.returns-in-None-clause-narrow
returns-in-None-clause-narrow c = all-narrow c.self.inside.names.slots.entries c.insert.new.self.entries
